use Rattle.std.proofs.Common.{◌≡◌, drop}
use Rattle.temp_ir.specs.Fixed.{has_number}
use Rattle.binpack_blocks.proofs.registers.has.Given as goal

abbrev pub invariant-loop-other : goal.invariant-loop-other
invariant-loop-other l = has_number (drop l.other-index l.registers) l.register ≡ has_number l.registers l.register
