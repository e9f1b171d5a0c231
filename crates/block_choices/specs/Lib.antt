-- Choices: what a choice is, and which lists it holds. Pools: lists as stretches of one pool.
pub mod Choices
pub mod Pools
