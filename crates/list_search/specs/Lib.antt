pub mod Classing
pub mod Finding
pub mod Quotients
pub mod Scopes
pub mod Looking
pub mod Avoiding
pub mod Judging
