pub mod Layout
pub mod Globals
pub mod Start
