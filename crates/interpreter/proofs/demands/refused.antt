pub mod Agreement
pub mod Watching
pub mod Cutting
pub mod Keeping
pub mod CutIsStart
pub mod LineBegins
