pub mod Codes
pub mod Keys
pub mod Lengths
pub mod Cells
