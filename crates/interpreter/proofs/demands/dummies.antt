pub mod Model
pub mod Rejecting
pub mod Programs
