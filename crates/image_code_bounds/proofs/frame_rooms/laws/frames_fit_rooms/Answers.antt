use Rattle.image_code_bounds.proofs.FrameRooms.Frames.{frames_fit_rooms}
use Rattle.image_code_bounds.proofs.frame_rooms.laws.frames_fit_rooms.Goals as goal

pub returns : goal.returns
returns g = frames_fit_rooms
