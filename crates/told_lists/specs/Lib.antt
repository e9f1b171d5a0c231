-- Telling: rows and lists told by numbers. Laws: what is decided of them so.
pub mod Telling
pub mod Laws
