pub mod Segments
pub mod Totals
pub mod Resume
pub mod Reading
pub mod Opening
