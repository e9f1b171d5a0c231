pub mod Spans
pub mod JoinGroups
pub mod Members
pub mod Shares
pub mod Asked
pub mod Touched
