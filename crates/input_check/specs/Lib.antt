-- What the checker says of an input.
pub mod Inputs
pub mod Verdicts
