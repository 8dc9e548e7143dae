pub mod Places
pub mod Runs
pub mod States
pub mod Laws
pub mod model
pub mod lowering_values
pub mod lowering_expression_places
pub mod lowering_object_laws
