pub mod Standing
pub use Rattle.frame_steps.proofs.InstructionItems.Runs
