pub mod BlockEnds
pub mod Parting
pub mod BlockLists
