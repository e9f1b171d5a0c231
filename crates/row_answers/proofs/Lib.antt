mod Putting
pub mod Sieving
mod Leaving
