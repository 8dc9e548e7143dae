use Rattle.mem_model.proofs.Changes.{changes_keep_faults}
use Rattle.mem_model.proofs.Pointers.{changes_keep_pointers}
use Rattle.mem_model.proofs.laws.changes_keep_faults.Goals as goal

pub returns : goal.returns
returns c = record { faults = changes_keep_faults; pointers = changes_keep_pointers }
