-- Lemmas of the checker, and of how logs are read and written.
mod Deleted
pub mod Exact
mod Followed
mod Loaded
mod Reaching
mod MarkLemmas
mod Shown
mod Stored
pub mod Takes
mod StepLines
mod LogLines
pub mod RoundTrip
