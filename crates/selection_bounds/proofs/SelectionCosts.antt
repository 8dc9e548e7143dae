pub mod Lengths
pub mod Calls
pub mod Edges
pub mod Costs
