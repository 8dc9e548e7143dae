pub mod Parts
pub mod Numbers
pub mod Readers
pub mod Data
pub mod Mnemonics
