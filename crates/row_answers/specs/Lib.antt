pub mod Sides
pub mod Sifting
