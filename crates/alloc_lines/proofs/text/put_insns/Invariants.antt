-- What was put, with the text of what is left behind it, is the whole.
use Rattle.std.proofs.Common.{◌≡◌, ◌+◌, ◌++◌, length}
use Rattle.bk_ilist.specs.Listing.{items}
use Rattle.alloc_lines.specs.Text.{insns_lines}
use Rattle.alloc_lines.proofs.text.put_insns.Given as goal

abbrev pub invariant-loop-line : goal.invariant-loop-line
invariant-loop-line l =
    (l.out.items ++ insns_lines l.first l.at l.transfers l.registers (items l.line-iterator)
    ≡ l.initial.out.items ++ insns_lines l.first l.initial.at l.transfers l.registers (items l.insns.pairs))
    × (l.at + length (items l.line-iterator) ≡ l.initial.at + length (items l.insns.pairs))
