use Rattle.frame_steps.proofs.FrameInstructions.Frames.{arguments_are_written, arguments_are_read, locals_have_addresses, globals_have_addresses}
use Rattle.frame_steps.proofs.frame_instructions.laws.frames_are_used.Goals as goal

pub returns : goal.returns
returns c = record {
  written = arguments_are_written;
  read = arguments_are_read;
  locals = locals_have_addresses;
  globals = globals_have_addresses;
}
