pub mod Loops
pub mod Bounds
pub mod Follow
pub use Rattle.frame_bounds.proofs.FrameRanges.Items
pub use Rattle.frame_bounds.proofs.FrameRanges.Numbers
pub use Rattle.frame_layout.proofs.Soundness
