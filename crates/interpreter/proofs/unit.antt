pub mod Bytes
pub mod Trims
pub mod HeaderAllowed
pub mod Found
pub mod Laws
pub mod Chain
pub mod Allowed
