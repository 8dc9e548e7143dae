use Rattle.frame_bounds.proofs.Rooms.{fits_room, is_few, is_whole, is_aligned}
use Rattle.frame_bounds.proofs.laws.frames_fit_rooms.Goals as goal

pub returns : goal.returns
returns c = record {
  rooms = fits_room;
  few = is_few;
  whole = is_whole;
  aligned = is_aligned;
}
