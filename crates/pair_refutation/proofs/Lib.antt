pub mod Logging
pub mod Chaining
pub mod Losing
pub mod Assembling
pub mod Collecting
pub mod Edging
pub mod Ending
pub mod Rowing
