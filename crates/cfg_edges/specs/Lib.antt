pub mod Critical
pub mod Added
pub mod SplitFunctions
pub mod model
