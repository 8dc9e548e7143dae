pub mod Asked
pub mod Storage
pub mod Tests
