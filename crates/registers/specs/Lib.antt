-- The definitions that the contracts cite, in the words of document 01. A file whose name ends in `Parts` holds only what private
-- functions say; `Examples` has the worked values.
pub mod Text
pub mod Check
pub mod Words
pub mod Answer
pub mod AnswerParts
pub mod Error
pub mod Queue
pub mod Suffix
pub mod Number
pub mod NumberParts
pub mod Rounding
pub mod RoundingParts
pub mod Label
pub mod Settings
pub mod Setup
pub mod Group
pub mod Status
pub mod Examples
