-- Pairs, Choices: weights and lists, choices as lists and as functions. Worths, Cutting, Leasts: a block keeps a row. Apart: parts that share no block.
-- Aside: rows put aside and put back.
pub mod Pairs
pub mod Choices
pub mod Worths
pub mod Cutting
pub mod Leasts
pub mod Apart
pub mod Aside
