-- Sizes, Names and Weights: the numbers of a line. Saying: what a line says by itself. Groups: the machine over lines.
pub mod Sizes
pub mod Names
pub mod Saying
pub mod Weights
pub mod Groups
pub mod Sayings
pub mod Replies
pub mod Fitting
pub mod Machines
