pub mod Spellings
pub mod Declarations
