use Rattle.frame_simulation.proofs.StackRooms.Rooms.{frames_fill_stack, scratch_is_there, room_is_there}
use Rattle.frame_simulation.proofs.stack_rooms.laws.stacks_have_room.Goals as goal

pub returns : goal.returns
returns c = record { frames = frames_fill_stack; scratch = scratch_is_there; room = room_is_there }
