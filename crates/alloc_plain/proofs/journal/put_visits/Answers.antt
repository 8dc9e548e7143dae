use Rattle.std.proofs.Common.{rules, ◌≡◌, ◌+◌, ◌++◌, None, refl, sym, ap, subst, length, All}
use Rattle.bk_ilist.specs.Listing.{items}
use Rattle.pass_core.specs.Functions.{UsesRegisters}
use Rattle.temp_ir.specs.Insns.{reads_of, writes_of}
use Rattle.bitvector_flow.proofs.Registers.{first_left, others_left}
use Rattle.alloc_lifetime_ends.proofs.Raising.{left_next}
use Rattle.alloc_plain.specs.model.Held.{held_behind_all}
use Rattle.alloc_plain.specs.model.Visits.{visits_in_slots}
use Rattle.alloc_plain.proofs.Loops.{visits_next, behind_next, behind_below}
use Rattle.alloc_plain.proofs.journal.put_visits.Goals as goal

pub loop-line-init : goal.loop-line-init
loop-line-init c =
    let whole : items c.into_iter-line-iterator.result ≡ c.args.block.now = search rules in
    record {
      next = ap (λ xs. c.args.passed.next + length xs) whole;
      inside = subst (All (UsesRegisters reads_of writes_of (length c.args.ends.now))) (sym whole) c.requires.inside;
      holds = c.requires.held;
      events = ap (λ xs. c.args.out.now ++ visits_in_slots c.args.ends.now c.args.passed.next None xs c.args.passed.held) whole;
      behind = ap (λ xs. held_behind_all xs c.args.passed.held) whole;
    }

pub put_visit-requires-clause-inside : goal.put_visit-requires-clause-inside
put_visit-requires-clause-inside c =
    first_left (UsesRegisters reads_of writes_of (length c.args.ends.now)) c.in-Some.line.1.now _ _ c.in-Some.line.0 c.in-Some.ensures.steps c.loop-line.invariant.inside

pub loop-line-preserved : goal.loop-line-preserved
loop-line-preserved c =
    let used = first_left (UsesRegisters reads_of writes_of (length c.args.ends.now)) c.in-Some.line.1.now _ _ c.in-Some.line.0 c.in-Some.ensures.steps c.loop-line.invariant.inside in
    record {
      next = left_next c.loop-line.next (c.args.passed.next + length c.args.block.now) c.in-Some.line.0 _ c.in-Some.line.1.now _ _ c.in-Some.ensures.steps c.loop-line.invariant.next refl;
      inside = others_left (UsesRegisters reads_of writes_of (length c.args.ends.now)) c.in-Some.line.1.now _ _ c.in-Some.line.0 c.in-Some.ensures.steps c.loop-line.invariant.inside;
      holds = behind_below (length c.args.ends.now) c.in-Some.line.1.now c.loop-line.held c.in_ok-held.held used c.in_ok-held.ensures.behind c.loop-line.invariant.holds;
      events = visits_next c.args.ends.now c.loop-line.next _ c.in-Some.line.0 c.loop-line.previous c.in-Some.line.1.now c.loop-line.held c.in_ok-held.held _ _
          c.loop-line.out c.put_visit.new.out _ c.in-Some.ensures.steps c.in_ok-held.ensures.events c.in_ok-held.ensures.behind refl c.loop-line.invariant.events;
      behind = behind_next c.in-Some.line.0 c.in-Some.line.1.now c.loop-line.held c.in_ok-held.held _ _ _ c.in-Some.ensures.steps c.in_ok-held.ensures.behind c.loop-line.invariant.behind;
    }
