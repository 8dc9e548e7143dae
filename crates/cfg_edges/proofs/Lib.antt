pub mod Landing
pub mod Counts
pub mod Splits
pub mod Redirects
pub mod Spreads
pub mod Added
pub mod SplitWalks
pub mod SplitEdges
