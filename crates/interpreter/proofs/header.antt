pub mod Laws
pub mod Scan
pub mod Tail
pub mod Entering
pub mod Path
pub mod Grammar
pub mod Bytes
