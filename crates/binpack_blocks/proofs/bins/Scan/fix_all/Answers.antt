use Rattle.std.proofs.Common.{sym, ap, ◌∙◌, ◌+◌, ◌*◌, ◌≡◌, ◌≢◌, subst, ⊎_elim, arith, true, false}
use Rattle.alloc_rules.specs.Visits.{takes_away}
use Rattle.binpack_blocks.specs.model.Bins.{held_in, lives, must_store}
use Rattle.binpack_blocks.specs.model.Rows.{is_wanted}
use Rattle.binpack_blocks.specs.model.Steps.{Steps}
use Rattle.binpack_blocks.specs.model.Scanning.{state_of, local_site}
use Rattle.binpack_blocks.proofs.Counts.{count_next}
use Rattle.binpack_blocks.proofs.Holders.{same_or_not}
use Rattle.binpack_blocks.proofs.bins.Scan.fix_all.Goals as goal

pub loop-r-preserved : goal.loop-r-preserved
loop-r-preserved c = record {
  steps = λ u p. subst (λ n. Steps (local_site n c.args.lives.now c.args.number c.args.insn.now c.args.standing.now) u (state_of c.fix_any.new.self)) c.loop-r.invariant.temps
      (c.in_ok-fix_any.ensures.steps u (subst (λ n. Steps (local_site n c.args.lives.now c.args.number c.args.insn.now c.args.standing.now) u (state_of c.loop-r.self)) (sym c.loop-r.invariant.temps) (c.loop-r.invariant.steps u p)));
  saved = λ r w takes. ⊎_elim
      (λ (e : r ≡ c.loop-r.r). subst (λ q. must_store (lives (is_wanted c.args.lives.now (2 * c.args.number + 1)) (held_in c.fix_any.new.self.bins.items q)) (held_in c.fix_any.new.self.bins.items q) ≡ false) (sym e) (c.in_ok-fix_any.ensures.saved (subst (λ q. takes_away c.args.insn.now q ≡ true) e takes)))
      (λ (ne : r ≢ c.loop-r.r). ap (λ o. must_store (lives (is_wanted c.args.lives.now (2 * c.args.number + 1)) o) o) (c.in_ok-fix_any.ensures.fixed r takes ne) ∙ c.loop-r.invariant.saved r (omega (arith, w, ne)) takes)
      (same_or_not r c.loop-r.r);
  count = count_next c.args.insn.now c.loop-r.r _ _ _ c.loop-r.invariant.count c.in_ok-fix_any.ensures.count;
  temps = c.in_ok-fix_any.ensures.temps ∙ c.loop-r.invariant.temps;
}
