pub mod Laws
pub mod Tens
pub mod Sides
pub mod Exact
pub mod Meaning
pub mod Held
