pub mod Blocks
pub mod Ends
pub mod Texts
pub mod Dumps
