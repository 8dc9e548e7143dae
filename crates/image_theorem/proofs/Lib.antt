pub mod RoutinePlaces
pub mod FlatStarts
pub mod ImageRuns
pub mod ProgramImages
pub mod SameRuns
