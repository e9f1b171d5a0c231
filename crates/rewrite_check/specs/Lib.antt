pub mod Queries
pub mod Spelling
pub mod Laws
pub mod Reading
