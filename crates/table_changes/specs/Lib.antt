pub mod Taken
pub mod Changes
pub mod Preferred
pub mod Laws
