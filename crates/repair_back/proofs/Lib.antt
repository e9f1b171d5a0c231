pub mod Choosing
pub mod Keeping
pub mod BlockEnds
mod Settling
pub mod Naming
mod Answering
mod Beside
mod Marking
pub mod Starting
mod Stored
