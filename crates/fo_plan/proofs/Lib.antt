mod Looks
mod Chained
mod LinkLists
mod Spanned
mod Regrouped
mod Passing
mod Walked
mod Reached
pub mod First
mod Gathered
mod Adding
mod Barren
pub mod Certainty
