pub mod Apart
mod Asking
mod Contesting
mod Joining
mod Ranging
mod Uniting
