pub mod Laws
pub mod Weighing
pub mod Blocks
