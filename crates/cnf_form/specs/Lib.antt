-- Literals to Spent: what formulas and logs mean. Lines to Writing: how formulas are written and read.
pub mod Literals
pub mod Logs
pub mod Propagation
pub mod Spent
pub mod Lines
pub mod Numbers
pub mod Scans
pub mod Formulas
pub mod Reading
pub mod Writing
