pub mod Laws
pub mod Stacks
pub use Rattle.frame_steps.specs.instruction_items.Items
pub use Rattle.frame_steps.specs.instruction_items.Laws as InstructionItemsLaws
