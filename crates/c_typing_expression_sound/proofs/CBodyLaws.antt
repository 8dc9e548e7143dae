pub mod Notes
pub mod Types
pub mod Bodies
