pub mod Different
pub mod Faults
pub mod Going
pub mod Keys
pub mod Marked
