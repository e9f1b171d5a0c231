mod Mutual
pub mod ByIndex
mod Places
