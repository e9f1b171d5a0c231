mod Explaining
mod Opposing
mod Proving
mod Spending
mod Uniting
