pub mod Ending
pub mod Services
pub mod Snapshot
pub mod Inside
pub mod Run
pub mod model
