use Rattle.frame_memory.proofs.FlatFrames.Shapes.{pieces_of, frames_are_small}
use Rattle.frame_memory.proofs.flat_frames.laws.pieces_lie_apart.Goals as goal

pub returns : goal.returns
returns c = record { pieces = pieces_of; small = frames_are_small }
