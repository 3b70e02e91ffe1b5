pub mod Drafts
pub mod Laws
pub mod Words
pub mod Values
pub mod Whole
