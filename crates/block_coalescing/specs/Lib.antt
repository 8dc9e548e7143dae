pub mod Forms
pub mod Walks
pub mod Kept
pub mod model
