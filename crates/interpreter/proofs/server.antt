pub mod Laws
pub mod Chunks
pub mod Bytes
pub mod Headway
pub mod Heard
pub mod Unique
