pub mod Keys
mod Blocks
