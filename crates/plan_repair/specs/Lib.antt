pub mod Apart
pub mod Mending
pub mod Along
