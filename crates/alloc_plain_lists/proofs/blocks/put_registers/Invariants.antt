-- What was put, with the registers of what is left behind it, is the whole.
use Rattle.std.proofs.Common.{◌≡◌, ◌++◌, map}
use Rattle.bk_ilist.specs.Listing.{items}
use Rattle.alloc_plain_lists.specs.Plain.{plain_registers}
use Rattle.alloc_plain_lists.proofs.blocks.put_registers.Given as goal

abbrev pub invariant-loop-line : goal.invariant-loop-line
invariant-loop-line l = l.out ++ map plain_registers (items l.line-iterator) ≡ l.initial.out ++ map plain_registers l.block
