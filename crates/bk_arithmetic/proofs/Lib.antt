pub mod LowBits
pub mod Bits
pub mod Results
pub mod Comparisons
pub mod Sums
pub mod Conversions
pub mod Fits
pub mod Values
