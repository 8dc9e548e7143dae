use Rattle.std.proofs.Common.{◌≡◌, ◌≢◌, nat_lt, find, sym, ap, ◌∙◌, ⊎_elim, arith}
use Rattle.std.proofs.lemmas.Bool.{cases_eq}
use Rattle.binpack_blocks.specs.model.NextUses.{next_use, uses_of}
use Rattle.binpack_blocks.proofs.fixed_uses.FixedUses.pass.Goals as goal

pub loop-r-preserved : goal.loop-r-preserved
loop-r-preserved c = record {
  next = λ q w. ⊎_elim
      (λ (e : q ≡ c.loop-r.r). ap (next_use c.pass_one.new.self) e ∙ c.pass_one.ensures.next
      ∙ ap (find (λ p. nat_lt c.args.point p)) (c.loop-r.invariant.uses c.loop-r.r ∙ ap (uses_of c.args.self.now) (sym e)))
      (λ (ne : q ≢ c.loop-r.r). c.pass_one.ensures.others q ne ∙ c.loop-r.invariant.next q (omega (arith, w, ne)))
      (cases_eq q c.loop-r.r);
  uses = λ q. c.pass_one.ensures.uses q ∙ c.loop-r.invariant.uses q;
}

pub returns-clause-next : goal.returns-clause-next
returns-clause-next c q w = c.loop-r.invariant.next q (omega (arith, w, c.loop-r-test.false))
