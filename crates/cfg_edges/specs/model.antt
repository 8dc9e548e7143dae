pub mod Split
pub mod SplitPart
