-- None of those so far names the register.
use Rattle.std.proofs.Common.{◌≡◌, false, take}
use Rattle.std.specs.List.{list_any}
use Rattle.temp_ir.specs.Fixed.{has_number}
use Rattle.alloc_model.specs.Faithful.{named_registers}
use Rattle.frame_layout.proofs.names.is_in_transfers.Given as goal

abbrev pub invariant-loop-transfer : goal.invariant-loop-transfer
invariant-loop-transfer l = list_any (λ x. has_number (named_registers x) l.register) (take l.transfer-index l.transfers) ≡ false
