-- What is looked at before and after a search.
pub mod Answers
pub mod Clauses
