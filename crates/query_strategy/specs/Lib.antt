pub mod Strategies
pub mod Apart
