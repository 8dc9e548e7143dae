pub mod Blocks
pub mod Steps
pub mod States
pub mod LoweringValues
pub mod LoweringExpressionPlaces
pub mod LoweringObjectLaws
