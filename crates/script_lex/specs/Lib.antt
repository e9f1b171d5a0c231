pub mod Bytes
pub mod ScriptParts
pub mod Progress
pub mod Scripts
pub mod TokenParts
pub mod Tokens
