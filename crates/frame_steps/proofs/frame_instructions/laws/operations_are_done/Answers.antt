use Rattle.frame_steps.proofs.FrameInstructions.Operations.{operations_are_done, extensions_are_done}
use Rattle.frame_steps.proofs.frame_instructions.laws.operations_are_done.Goals as goal

pub returns : goal.returns
returns c = record {
  operations = λ p there rest end call m known store s is knows. operations_are_done p there rest end call m known store s knows;
  extensions = λ p there rest end call m known store s is knows. extensions_are_done p there rest end call m known store s knows;
}
