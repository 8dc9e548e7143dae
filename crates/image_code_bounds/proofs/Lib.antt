pub mod FrameWords
pub mod ProgramWords
pub mod UnitWords
pub mod FrameRooms
pub mod ProgramRooms
