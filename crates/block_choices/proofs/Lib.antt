-- Stretches: a pool that grows.
pub mod Stretches
