use Rattle.frame_steps.proofs.FrameAccesses.Runs.{frame_loads, frame_stores, frame_addresses}
use Rattle.frame_steps.proofs.frame_accesses.laws.frames_are_reached.Goals as goal

pub returns : goal.returns
returns c = record { loads = frame_loads; stores = frame_stores; addresses = frame_addresses }
