pub mod Colons
pub mod Fit
pub mod Parts
pub mod Replying
pub mod Telling
