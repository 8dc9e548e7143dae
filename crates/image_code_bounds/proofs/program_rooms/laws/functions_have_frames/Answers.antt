use Rattle.image_code_bounds.proofs.ProgramRooms.Functions.{functions_have_frames}
use Rattle.image_code_bounds.proofs.program_rooms.laws.functions_have_frames.Goals as goal

pub returns : goal.returns
returns c = functions_have_frames
