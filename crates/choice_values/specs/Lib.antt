-- Values and Laws: what a search is asked, and what holds of it. Pairs: how lists are kept. Choosing: what a search keeps. Under, Parts, Keeping, Negation: its steps.
pub mod Values
pub mod Laws
pub mod Pairs
pub mod Choosing
pub mod Under
pub mod Parts
pub mod Keeping
pub mod Negation
