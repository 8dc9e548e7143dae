use Rattle.std.proofs.Common.{rules, ◌≡◌, ◌+◌, ◌++◌, refl, sym, ap, subst, length, All}
use Rattle.bk_ilist.specs.Listing.{items}
use Rattle.pass_core.specs.Functions.{UsesRegisters}
use Rattle.temp_ir.specs.Insns.{reads_of, writes_of}
use Rattle.alloc_model.specs.Faithful.{IsGivenRegister, IsTransfer}
use Rattle.alloc_journal.specs.model.Visits.{visits_by, behind_all}
use Rattle.alloc_journal.proofs.Loops.{row_all, first_left, others_left, left_next, visits_next, behind_next, behind_below}
use Rattle.alloc_journal.proofs.walk.put_visits.Goals as goal

pub loop-line-init : goal.loop-line-init
loop-line-init c =
    let whole : items c.into_iter-line-iterator.result ≡ c.args.block.now = search rules in
    record {
      next = ap (λ xs. c.args.number + length xs) whole;
      inside = subst (All (UsesRegisters reads_of writes_of c.args.temps)) (sym whole) c.requires.inside;
      many = c.requires.many;
      below = c.requires.below;
      events = ap (λ xs. c.args.out.now ++ visits_by c.args.temps c.args.lives.now c.args.at.now c.args.regs.now c.args.number xs c.args.holders.now) whole;
      behind = ap (λ xs. behind_all c.args.at.now c.args.regs.now c.args.number xs c.args.holders.now) whole;
    }

pub put_visit-requires-clause-inside : goal.put_visit-requires-clause-inside
put_visit-requires-clause-inside c =
    first_left (UsesRegisters reads_of writes_of c.args.temps) c.in-Some.line.1.now _ _ c.in-Some.line.0 c.in-Some.ensures.steps c.loop-line.invariant.inside

pub put_visit-requires-clause-transfers : goal.put_visit-requires-clause-transfers
put_visit-requires-clause-transfers c = row_all (IsTransfer c.args.temps IsGivenRegister) c.args.at.now c.loop-line.next c.transfers_with-transfers.result.now c.requires.transfers c.transfers_with-transfers.ensures

pub put_visit-requires-clause-registers : goal.put_visit-requires-clause-registers
put_visit-requires-clause-registers c = row_all IsGivenRegister c.args.regs.now c.loop-line.next c.registers_with-registers.result.now c.requires.registers c.registers_with-registers.ensures

pub loop-line-preserved : goal.loop-line-preserved
loop-line-preserved c =
    let used = first_left (UsesRegisters reads_of writes_of c.args.temps) c.in-Some.line.1.now _ _ c.in-Some.line.0 c.in-Some.ensures.steps c.loop-line.invariant.inside in
    let moves = row_all (IsTransfer c.args.temps IsGivenRegister) c.args.at.now c.loop-line.next c.transfers_with-transfers.result.now c.requires.transfers c.transfers_with-transfers.ensures in
    record {
      next = left_next c.loop-line.next (c.args.number + length c.args.block.now) c.in-Some.line.0 _ c.in-Some.line.1.now _ _ c.in-Some.ensures.steps c.loop-line.invariant.next refl;
      inside = others_left (UsesRegisters reads_of writes_of c.args.temps) c.in-Some.line.1.now _ _ c.in-Some.line.0 c.in-Some.ensures.steps c.loop-line.invariant.inside;
      many = search rules;
      below = behind_below c.args.temps c.in-Some.line.1.now c.transfers_with-transfers.result.now c.registers_with-registers.result.now c.loop-line.holders c.put_visit.new.holders used moves c.in_ok-put_visit.ensures.behind c.loop-line.invariant.below;
      events = visits_next c.args.temps c.args.lives.now c.args.at.now c.args.regs.now c.loop-line.next _ c.in-Some.line.0 c.in-Some.line.1.now c.transfers_with-transfers.result.now c.registers_with-registers.result.now
          c.loop-line.holders c.put_visit.new.holders _ _ c.loop-line.out c.put_visit.new.out _ c.in-Some.ensures.steps c.transfers_with-transfers.ensures c.registers_with-registers.ensures
          c.in_ok-put_visit.ensures.events c.in_ok-put_visit.ensures.behind refl c.loop-line.invariant.events;
      behind = behind_next c.args.temps c.args.lives.now c.args.at.now c.args.regs.now c.loop-line.next _ c.in-Some.line.0 c.in-Some.line.1.now c.transfers_with-transfers.result.now c.registers_with-registers.result.now
          c.loop-line.holders c.put_visit.new.holders _ _ _ c.in-Some.ensures.steps c.transfers_with-transfers.ensures c.registers_with-registers.ensures
          c.in_ok-put_visit.ensures.behind refl c.loop-line.invariant.behind;
    }
