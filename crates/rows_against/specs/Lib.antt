pub mod Against
pub mod Hits
pub mod Parts
pub mod Chosen
pub mod Numbers
pub mod Fewest
pub mod Laws
