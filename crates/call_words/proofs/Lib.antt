pub mod Asked
pub mod Gives
pub mod LargeNumbers
pub mod Parses
