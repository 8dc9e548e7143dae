pub mod Tests
pub mod model
