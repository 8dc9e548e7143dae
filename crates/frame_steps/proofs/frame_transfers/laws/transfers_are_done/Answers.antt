use Rattle.frame_steps.proofs.FrameTransfers.Runs.{transfers_are_done}
use Rattle.frame_steps.proofs.frame_transfers.laws.transfers_are_done.Goals as goal

pub returns : goal.returns
returns c = transfers_are_done
