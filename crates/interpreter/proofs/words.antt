pub mod Forms
pub mod Letters
pub mod Spelling
pub mod Taken
