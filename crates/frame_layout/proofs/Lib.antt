pub mod Instructions
pub mod Tests
pub mod Widths
pub mod Objects
pub mod Keys
pub mod Sound
pub mod Texts
pub mod Soundness
