pub mod Entering
pub use Rattle.frame_simulation.specs.call_stacks.Stacks
pub use Rattle.frame_simulation.specs.call_stacks.Items
pub use Rattle.frame_simulation.specs.call_stacks.InstructionItemsLaws as Laws
