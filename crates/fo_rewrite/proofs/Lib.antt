pub mod Sameness
pub mod PlanSteps
mod OneAtom
mod Columns
