pub mod Lists
pub mod Spans
pub mod Ordered
pub mod NoBlock
