-- Lemmas of formulas and logs, by the definitions that they are of.
pub mod Numerals
pub mod Cuts
pub mod RoundTrip
pub mod Digits
pub mod Scanned
pub mod Headers
pub mod ReadLines
pub mod ReadTokens
pub mod Lits
pub mod Sound
pub mod Law
