pub mod Integers
pub mod Prefixes
pub mod RowOrder
pub mod Words
pub mod Written
