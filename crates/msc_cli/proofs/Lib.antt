pub mod AssembleTexts
pub mod Calls
