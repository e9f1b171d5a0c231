-- Choices to Judging: what a group is, its formula, and what is found out of it. Laws: what holds of these. Pools to Picks: how it is found.
pub mod Groups
pub mod Formulas
pub mod Picks
pub mod Laws
pub mod Judging
pub mod Walks
pub mod Numbers
