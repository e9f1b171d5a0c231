mod WalkSteps
pub mod Rounds
