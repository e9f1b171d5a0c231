pub mod Again
mod Fields
pub mod Fitting
pub mod OneWay
mod Quoting
mod Records
mod Parting
