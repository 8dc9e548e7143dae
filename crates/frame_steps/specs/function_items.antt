pub mod Items
pub mod Laws
pub use Rattle.frame_steps.specs.instruction_items.Items as InstructionItems
pub use Rattle.frame_steps.specs.instruction_items.Laws as InstructionItemsLaws
