pub mod Stays
pub use Rattle.frame_steps.proofs.InstructionItems.Runs
pub use Rattle.frame_steps.proofs.InstructionItems.Instructions
