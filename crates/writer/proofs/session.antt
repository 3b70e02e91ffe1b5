pub mod Bytes
pub mod Recorded
pub mod Serving
pub mod Feeding
pub mod Verdicts
pub mod Calls
