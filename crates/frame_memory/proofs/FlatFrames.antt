pub mod Frames
pub mod Shapes
