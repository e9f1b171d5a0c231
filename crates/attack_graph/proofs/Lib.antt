pub mod SpreadSteps
pub mod Sameness
mod Rows
