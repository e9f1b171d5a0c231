pub mod Reasons
pub mod Explain
pub mod ExplainUnion
pub mod Against
pub mod Prove
