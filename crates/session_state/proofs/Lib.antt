pub mod Altering
mod Copying
pub mod Doing
mod Dumping
pub mod Spending
mod TableLines
pub mod Valid
