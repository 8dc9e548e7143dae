use Rattle.frame_steps.proofs.InstructionItems.Instructions.{instructions_are_done}
use Rattle.frame_steps.proofs.instruction_items.laws.instructions_are_done.Goals as goal

pub returns : goal.returns
returns c = instructions_are_done
