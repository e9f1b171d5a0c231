mod BinarySearch
mod Looking
pub mod Apart
mod Unions
mod Framing
mod Rejecting
mod Deciding
mod Searching
mod Sets
mod Loose
mod Knowing
mod QueryDeciding
mod Modelled
mod OnePart
