-- Lemmas of the solver, by the part that they are of.
pub mod SettledLemmas
pub mod TrailLemmas
pub mod States
pub mod Jump
pub mod Ends
pub mod Watches
pub mod Values
pub mod Bridge
pub mod WatchState
pub mod LookState
pub mod Visiting
pub mod Stretches
pub mod Learning
pub mod Attaching
pub mod Thinning
pub mod Conflicts
