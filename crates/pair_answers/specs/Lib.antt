pub mod Shared
pub mod Fitting
pub mod Plain
pub mod Numbers
pub mod Lists
pub mod Kept
