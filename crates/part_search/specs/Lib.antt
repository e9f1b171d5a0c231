pub mod Once
pub mod Parts
pub mod Spoken
pub mod Lookups
pub mod Encodings
pub mod Judging
pub mod Laws
