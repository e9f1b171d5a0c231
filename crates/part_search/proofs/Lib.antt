mod Alike
pub mod Forced
pub mod Parts
pub mod Framing
pub mod Taking
mod PartByPart
mod Scoping
pub mod Over
pub mod Verdicts
pub mod Sifted
pub mod Mapped
