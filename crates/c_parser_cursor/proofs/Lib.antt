pub mod Loops
pub mod Words
pub mod Lexemes
pub mod Indexes
pub mod CParserTypes
