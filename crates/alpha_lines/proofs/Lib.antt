pub mod Parts
pub mod Numbers
pub mod Options
pub mod Spellings
pub mod Operands
pub mod Items
pub mod DataLines
pub mod Answers
