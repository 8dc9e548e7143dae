use Rattle.frame_steps.proofs.FrameInstructions.Runs.{branches_are_done}
use Rattle.frame_steps.proofs.frame_instructions.laws.branches_are_done.Goals as goal

pub returns : goal.returns
returns c = λ p there rest end call m known store s is knows. branches_are_done p there rest end call m known store s knows
