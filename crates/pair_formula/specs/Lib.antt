pub mod Full
pub mod Proving
pub mod Reasons
