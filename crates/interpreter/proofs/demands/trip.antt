pub mod Tenths
pub mod ReadBack
pub mod SentUnit
pub mod AnswerWaits
pub mod RoundTrip
pub mod ShownText
