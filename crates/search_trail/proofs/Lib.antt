-- Lemmas of the trail, of marks, and of the hints that pass.
pub mod Works
pub mod Places
pub mod Marking
pub mod Shortening
pub mod Reasons
pub mod Walking
