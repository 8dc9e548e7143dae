pub mod Holding
pub mod Fits
pub mod Tops
pub use Rattle.frame_simulation.proofs.FunctionShapes.Fits as FunctionShapesFits
pub use Rattle.frame_simulation.proofs.FunctionShapes.Points
pub use Rattle.frame_steps.proofs.FunctionItems.Standing
