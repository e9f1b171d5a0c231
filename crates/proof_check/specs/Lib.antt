-- What is said of a formula with a log.
pub mod Verdicts
