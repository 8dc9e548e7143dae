use Rattle.frame_memory.proofs.FlatFrames.Frames.{frames_stay, slots_are_put, arguments_are_put, words_are_kept, registers_are_put}
use Rattle.frame_memory.proofs.flat_frames.laws.frames_are_written.Goals as goal

pub returns : goal.returns
returns c = record {
  stay = λ xs owner m k sp depth own s store f. frames_stay xs owner m sp depth own s store f k;
  slots = slots_are_put;
  arguments = arguments_are_put;
  words = words_are_kept;
  registers = registers_are_put;
}
