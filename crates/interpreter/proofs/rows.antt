pub mod Greedy
pub mod Rows
pub mod Numbers
pub mod Walks
pub mod Start
pub mod Search
pub mod Suffixes
pub mod OneSuffix
