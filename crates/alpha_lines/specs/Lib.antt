pub mod Mnemonics
pub mod Lines
pub mod model
