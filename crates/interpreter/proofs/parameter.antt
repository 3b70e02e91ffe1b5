pub mod Cuts
pub mod Counting
pub mod ByKind
pub mod Limits
pub mod Words
pub mod Decisions
pub mod Exam
