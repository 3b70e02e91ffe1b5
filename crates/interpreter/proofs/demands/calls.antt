pub mod AsHistory
pub mod OfCalls
