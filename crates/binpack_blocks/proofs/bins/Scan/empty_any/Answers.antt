use Rattle.std.proofs.Common.{sym, ap, ◌∙◌, subst}
use Rattle.alloc_rules.specs.Visits.{takes_away}
use Rattle.binpack_blocks.specs.model.Bins.{held_in, Leaves}
use Rattle.binpack_blocks.specs.model.Steps.Empties.{Next}
use Rattle.binpack_blocks.proofs.bins.Scan.empty_any.Goals as goal

pub returns-then-takes_away-clause-empties : goal.returns-then-takes_away-clause-empties
returns-then-takes_away-clause-empties c s u insn behind before =
    Next before c.args.r (ap (λ x. takes_away x c.args.r) insn ∙ sym c.if-takes_away.ensures)
    (subst (λ f. Leaves f (held_in c.args.self.now.bins.items c.args.r) c.args.self.now.relied c.empty.new.self.relied) (sym behind) c.empty.ensures.leaves)
    c.empty.ensures.bins
