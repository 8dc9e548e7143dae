-- None of those so far names the register.
use Rattle.std.proofs.Common.{◌≡◌, false, take}
use Rattle.std.specs.List.{list_any}
use Rattle.temp_ir.specs.Fixed.{has_number}
use Rattle.frame_layout.proofs.names.is_in_all_registers.Given as goal

abbrev pub invariant-loop-list : goal.invariant-loop-list
invariant-loop-list l = list_any (λ rs. has_number rs l.register) (take l.list-index l.lists) ≡ false
