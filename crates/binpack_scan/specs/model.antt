pub mod Edges
pub mod Made
pub mod Replays
