pub mod Laws
pub mod Possible
