use Rattle.image_code_bounds.proofs.ProgramRooms.Functions.{frames_fit_their_rooms}
use Rattle.image_code_bounds.proofs.program_rooms.laws.frames_fit_their_rooms.Goals as goal

pub returns : goal.returns
returns c = frames_fit_their_rooms
