pub mod Joins
pub mod Worths
pub mod Firsts
pub mod Parts
pub mod Bounds
pub mod Peaks
pub mod Extremes
