pub mod Laws
pub mod Meaning
pub mod Possible
pub mod Conditions
