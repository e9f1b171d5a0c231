-- Failing and Checked: what the checker answers. Marks to Reached: what it keeps. LogTexts to Writing: how logs are written and read.
pub mod Failing
pub mod Checked
pub mod Marks
pub mod Places
pub mod Store
pub mod Following
pub mod Steps
pub mod Reached
pub mod LogTexts
pub mod LogParts
pub mod Writing
