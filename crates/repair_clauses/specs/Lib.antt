pub mod Clauses
pub mod Models
pub mod Spans
pub mod Frames
pub mod Avoiding
pub mod Laws
pub mod Encodings
pub mod Candidates
