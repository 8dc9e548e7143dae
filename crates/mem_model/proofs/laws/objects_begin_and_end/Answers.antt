use Rattle.mem_model.proofs.Objects.{no_object_past, begin_changes, end_changes, begins_change, ends_change}
use Rattle.mem_model.proofs.laws.objects_begin_and_end.Goals as goal

pub returns : goal.returns
returns c = record { past = no_object_past; begins = begin_changes; ends = end_changes; begin_some = begins_change; end_some = ends_change }
