use Rattle.std.proofs.Common.{sym, ap, ◌∙◌, subst, refl, ◌≡◌, ◌≢◌, ⊎_elim, arith, true}
use Rattle.alloc_rules.specs.Visits.{takes_away}
use Rattle.binpack_blocks.specs.model.Bins.{held_in}
use Rattle.binpack_blocks.specs.model.Scanning.{state_of}
use Rattle.binpack_blocks.specs.model.Steps.Empties.{Begin}
use Rattle.binpack_blocks.proofs.Holders.{same_or_not, clear_all}
use Rattle.binpack_blocks.proofs.bins.Scan.empty_all.Goals as goal

pub loop-r-init : goal.loop-r-init
loop-r-init c = record {
  empties = λ s insn behind. Begin;
  clear = λ q w. absurd (omega (arith, w));
  others = λ q w. refl;
  made = refl;
  temps = refl;
}

pub loop-r-preserved : goal.loop-r-preserved
loop-r-preserved c = record {
  empties = λ s insn behind. c.empty_any.ensures.empties s (state_of c.args.self.now) insn behind (c.loop-r.invariant.empties s insn behind);
  clear = λ q w takes. ⊎_elim
      (λ (e : q ≡ c.loop-r.r). ap (held_in c.empty_any.new.self.bins.items) e ∙ c.empty_any.ensures.clear (subst (λ r. takes_away c.args.insn.now r ≡ true) e takes))
      (λ (ne : q ≢ c.loop-r.r). c.empty_any.ensures.others q ne ∙ c.loop-r.invariant.clear q (omega (arith, w, ne)) takes)
      (same_or_not q c.loop-r.r);
  others = λ q w. c.empty_any.ensures.others q (λ e. omega (arith, w, e)) ∙ c.loop-r.invariant.others q (omega (arith, w));
  made = c.empty_any.ensures.made ∙ c.loop-r.invariant.made;
  temps = c.empty_any.ensures.temps ∙ c.loop-r.invariant.temps;
}

pub returns-clause-ends : goal.returns-clause-ends
returns-clause-ends c s insn behind = record {
  empties = c.loop-r.invariant.empties s insn behind;
  clear = λ r takes. clear_all c.loop-r.self.bins.items r c.loop-r.self.many (λ w. c.loop-r.invariant.clear r (omega (arith, w, c.loop-r-test.false)) (ap (λ x. takes_away x r) (sym insn) ∙ takes));
}
