use Rattle.std.proofs.Common.{◌≡◌, ◌++◌, map}
use Rattle.bk_ilist.specs.Listing.{items}
use Rattle.suifvm_machine.proofs.indexing.block_table.Given as goal

abbrev pub invariant-loop-line : goal.invariant-loop-line
invariant-loop-line l = map (λ insn. insn.now) l.insns.items ++ items l.line-iterator ≡ l.block
