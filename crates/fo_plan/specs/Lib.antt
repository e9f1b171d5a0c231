pub mod Enough
pub mod Holding
pub mod Giving
pub mod FirstBlock
pub mod Chaining
pub mod Noted
