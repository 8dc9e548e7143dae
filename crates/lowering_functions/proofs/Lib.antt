pub mod Emits
pub mod Forms
pub mod Bodies
pub mod Objects
