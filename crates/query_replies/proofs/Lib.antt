mod LineSteps
pub mod Naming
pub mod Found
pub mod Written
mod Sharing
