-- What a caller sees: the answers of `solve`.
pub mod Outcomes
-- What the solver keeps: what the trail settles, the levels, and what clauses watch.
pub mod Settled
pub mod State
pub mod Watching
-- What propagation does: a look at one clause, the look through the clauses of a literal, and what a search comes to.
pub mod Looks
pub mod Looking
pub mod Visits
-- The lines of the log.
pub mod Lines
