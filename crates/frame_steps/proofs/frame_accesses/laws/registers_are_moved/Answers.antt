use Rattle.frame_steps.proofs.FrameAccesses.Runs.{register_moves}
use Rattle.frame_steps.proofs.frame_accesses.laws.registers_are_moved.Goals as goal

pub returns : goal.returns
returns c = register_moves
