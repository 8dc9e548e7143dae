pub mod Pieces
pub mod ForLoops
