pub mod Reading
pub mod Units
pub mod Histories
pub mod OfCalls
