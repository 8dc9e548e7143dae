-- None of those so far names the register.
use Rattle.std.proofs.Common.{◌≡◌, false, take}
use Rattle.std.specs.List.{list_any}
use Rattle.frame_emitter.specs.Shapes.{names_in}
use Rattle.frame_layout.proofs.names.is_in_all_transfers.Given as goal

abbrev pub invariant-loop-list : goal.invariant-loop-list
invariant-loop-list l = list_any (λ xs. names_in xs l.register) (take l.list-index l.lists) ≡ false
