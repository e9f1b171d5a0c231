-- Stretches: a pool that grows. Looking: looks at clauses. Turning: turns over clauses.
pub mod Stretches
pub mod Looking
pub mod Turning
