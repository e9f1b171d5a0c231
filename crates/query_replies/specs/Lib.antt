pub mod AttackLines
pub mod Names
pub mod Kept
pub mod Classes
pub mod Sql
pub mod Parts
