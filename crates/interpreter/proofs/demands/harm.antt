pub mod FunctionRefusals
pub mod UnitRefusals
pub mod LineRefusals
