pub mod Members
pub mod Lookups
pub mod Schemas
pub mod Scopes
pub mod Queries
pub mod AnswerColumns
mod JoinGoals
pub mod Ranges
pub mod Alike
