pub mod Pairs
pub mod Attacking
