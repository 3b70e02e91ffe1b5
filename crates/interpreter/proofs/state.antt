pub mod Records
pub mod Events
pub mod Unique
pub mod Takes
