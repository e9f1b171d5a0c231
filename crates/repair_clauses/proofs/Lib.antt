pub mod Rows
pub mod Exact
pub mod Models
pub mod Order
mod Written
pub mod Spans
pub mod Naming
pub mod Bridge
pub mod Candidates
pub mod FreeRows
