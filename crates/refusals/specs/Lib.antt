pub mod Kinds
pub mod Refusal
