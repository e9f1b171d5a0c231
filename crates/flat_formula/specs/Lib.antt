-- Flat: clauses as stretches of a pool. Looks: what truth values make of clauses. Findings: what is found out of a formula.
pub mod Flat
pub mod Looks
pub mod Findings
