use Rattle.std.proofs.Common.{◌≡◌, ◌+◌, ◌++◌, length}
use Rattle.bk_ilist.specs.Listing.{items}
use Rattle.suifvm_ir.specs.Lines.{insns_text}
use Rattle.suifvm_ir.proofs.lines.put_insns.Given as goal

abbrev pub invariant-loop-line : goal.invariant-loop-line
invariant-loop-line g l =
    (l.out.items ++ insns_text (g.T.InsnText.text l.insns) l.number (items l.line-iterator) ≡ l.initial.out.items ++ insns_text (g.T.InsnText.text l.insns) l.initial.number (items l.list.pairs))
    × (l.number + length (items l.line-iterator) ≡ l.initial.number + length (items l.list.pairs))
