pub mod Numbers
pub mod Moves
pub mod Above
pub mod Differences
pub mod Comparisons
pub mod Distances
