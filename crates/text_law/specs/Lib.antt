pub mod Again
pub mod Proved
