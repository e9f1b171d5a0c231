pub mod Linked
pub mod Sieving
pub mod FullRuns
pub mod FullSpans
pub mod Pairing
pub mod Carrying
pub mod Rejecting
