pub mod Shapes
pub mod Variables
pub mod Steps
