pub mod Same
pub mod Behind
pub mod Named
pub mod NearArguments
pub mod SelectedWidths
