use Rattle.frame_steps.proofs.FrameInstructions.Runs.{loads_are_done, stores_are_done, moves_are_done, sets_are_done}
use Rattle.frame_steps.proofs.frame_instructions.laws.accesses_are_done.Goals as goal

pub returns : goal.returns
returns c = record {
  loads = λ p there rest end call m known store s is knows. loads_are_done p there rest end call m known store s knows;
  stores = λ p there rest end call m known store s is knows. stores_are_done p there rest end call m known store s knows;
  moves = λ p there rest end call m known store s is knows. moves_are_done p there rest end call m known store s knows;
  sets = λ p there rest end call m known store s is knows. sets_are_done p there rest end call m known store s knows;
}
