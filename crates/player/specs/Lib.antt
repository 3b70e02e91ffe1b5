pub mod ReportParts
pub mod ScriptParts
