pub mod Refuting
pub mod Edges
pub mod Formulas
pub mod Graph
