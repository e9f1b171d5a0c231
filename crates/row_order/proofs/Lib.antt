pub mod Taken
pub mod BlockOrder
pub mod Reordering
pub mod Ties
