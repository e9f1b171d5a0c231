pub mod Inserted
pub mod Joined
pub mod Marks
pub mod Retained
