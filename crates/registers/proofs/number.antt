pub mod Numerals
pub mod Laws
pub mod Scaling
pub mod Verdict
