pub mod Consecutive
pub mod Outcomes
pub mod Rising
pub mod Walks
