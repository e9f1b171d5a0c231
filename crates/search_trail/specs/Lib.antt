-- The literals that are true, and where each variable stands among them.
pub mod Trail
-- Marks of variables, and what an analysis of a conflict makes of them.
pub mod Marks
pub mod Analysis
-- How an analysis goes back over the implications of a trail.
pub mod Walks
-- What the order of decisions hands out.
pub mod Open
