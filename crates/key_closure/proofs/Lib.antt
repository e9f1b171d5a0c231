pub mod Members
pub mod Growing
pub mod Sameness
