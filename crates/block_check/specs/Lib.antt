pub mod Blocks
pub mod Firsts
pub mod Walking
