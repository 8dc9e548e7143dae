-- None of those so far names the register.
use Rattle.std.proofs.Common.{◌≡◌, ◌==◌, false, take}
use Rattle.std.specs.List.{list_any}
use Rattle.frame_layout.proofs.names.is_in_registers.Given as goal

abbrev pub invariant-loop-named : goal.invariant-loop-named
invariant-loop-named l = list_any (λ q. q == l.register) (take l.named-index l.registers) ≡ false
