use Rattle.frame_memory.proofs.GlobalData.Holds.{data_holds_objects}
use Rattle.frame_memory.proofs.global_data.laws.data_holds_objects.Goals as goal

pub returns : goal.returns
returns c = data_holds_objects
