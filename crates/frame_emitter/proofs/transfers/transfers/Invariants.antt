use Rattle.std.proofs.Common.{◌≡◌, drop}
use Rattle.frame_steps.specs.frame_transfers.Items.{items_of_transfers}
use Rattle.frame_emitter.specs.Layouts.{shape_in}
use Rattle.frame_emitter.proofs.transfers.transfers.Given as goal

abbrev pub invariant-loop-k : goal.invariant-loop-k
invariant-loop-k l = l.items ≡ items_of_transfers (shape_in l.layout) (drop l.k l.transfers) l.initial.items
