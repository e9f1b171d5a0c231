pub mod Lengths
mod Ranges
