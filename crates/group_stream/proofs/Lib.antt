-- Cutting: lines and what is held of them. Between: what stands between two lines. Going: what is handed on, or broken off.
pub mod Cutting
pub mod Between
pub mod Going
pub mod Onward
