pub mod selection_shapes
pub mod selection_costs
