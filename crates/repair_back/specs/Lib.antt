pub mod Flags
pub mod Walking
pub mod Results
pub mod Rejected
