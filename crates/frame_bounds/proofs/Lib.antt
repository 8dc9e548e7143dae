pub mod Rooms
pub mod Near
pub mod Fronts
pub mod FrameLabels
pub mod FrameRanges
