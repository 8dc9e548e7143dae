pub mod Registers
pub mod Rewritten
pub mod KeptCode
pub mod Stages
pub mod Images
pub mod Parts
