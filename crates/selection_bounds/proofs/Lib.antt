pub mod SelectionShapes
pub mod SelectionCosts
