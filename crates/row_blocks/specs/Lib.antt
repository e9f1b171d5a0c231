pub mod Blocks
pub mod Conflicts
