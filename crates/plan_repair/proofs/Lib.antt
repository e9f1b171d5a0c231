mod Apart
mod Stepping
mod Mended
mod Looking
mod Outcomes
mod Rejecting
