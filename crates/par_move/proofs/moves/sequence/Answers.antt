use Rattle.std.proofs.Common.{sym, ap, subst, arith, ◌≡◌, ℕ, ◌+◌, List, Option}
use Rattle.par_move.specs.model.Rest.{rest, Opened, AtChains, AtCycles}
use Rattle.par_move.specs.declared.moves.Move.{Move}
use Rattle.par_move.proofs.Loops.{move_at, opened_start, opened_free, opened_step, chains_start, chains_step, at_once, has_length, take_all, that_waits, that_waits_not, not_idle}
use Rattle.par_move.proofs.Cycles.{cycles_start, cycles_pass, cycles_broken}
use Rattle.par_move.proofs.moves.sequence.Goals as goal
use Rattle.par_move.proofs.moves.sequence.Goals.{then-is_some+in_ok-break_cycle, else-is_some}

pub loop-m-init : goal.loop-m-init
loop-m-init c = record { opened = opened_start c.args.moves.now; made = c.new-made.ensures.items }

pub note-requires-clause-free : goal.note-requires-clause-free
note-requires-clause-free c = opened_free c.args.moves.now c.loop-m.m-index _ c.loop-m.sources c.loop-m.reads c.requires.targets (move_at c.args.moves.now c.loop-m.m-index _ c.loop-m-test.true) c.loop-m.invariant.opened

pub loop-m-preserved : goal.loop-m-preserved
loop-m-preserved c = record {
  opened = opened_step c.args.moves.now c.loop-m.m-index _ c.loop-m.sources c.note.new.sources c.loop-m.reads c.note.new.reads c.requires.targets c.note.ensures.named.0 c.note.ensures.named.1 (move_at c.args.moves.now c.loop-m.m-index _ c.loop-m-test.true) c.loop-m.invariant.opened c.note.ensures.notes;
  made = c.loop-m.invariant.made;
}

pub loop-r-preserved : goal.loop-r-preserved
loop-r-preserved c = chains_step c.args.moves.now c.args.scratch c.loop-r.r _ _ c.loop-r.invariant c.in_ok-release.ensures

pub loop-r-init : goal.loop-r-init
loop-r-init c = chains_start c.args.moves.now c.args.scratch c.loop-m.sources c.loop-m.reads c.new-made.result.items c.new-made.ensures.items c.requires.scratch (subst (λ z. Opened z c.loop-m.sources c.loop-m.reads) (take_all c.args.moves.now c.loop-m.m-index c.loop-m-test.false) c.loop-m.invariant.opened)

pub loop-c-init : goal.loop-c-init
loop-c-init c = cycles_start c.args.moves.now c.args.scratch c.loop-r.sources c.loop-r.reads c.loop-r.made.items (subst (λ z. AtChains c.args.moves.now c.args.scratch z c.loop-r.sources c.loop-r.reads c.loop-r.made.items) (let a = c.loop-r-test.false in let b = c.loop-r.auto.r-end in omega (arith, a, b)) c.loop-r.invariant)

pub break_cycle-requires-clause-apart : goal.break_cycle-requires-clause-apart
break_cycle-requires-clause-apart c = not_idle c.loop-c.sources c.loop-c.c c.args.scratch c.is_some.result c.loop-c.invariant.stands.idle c.is_some.ensures c.if-is_some.true

same_cycles : (moves : List Move) (scratch r : ℕ) (S T : List (Option ℕ)) (R Q : List ℕ) (M N : List Move) → T ≡ S → Q ≡ R → N ≡ M → AtCycles moves scratch r S R M → AtCycles moves scratch r T Q N
same_cycles moves scratch r S T R Q M N e f g k = subst (λ z. AtCycles moves scratch r z Q N) (sym e) (subst (λ z. AtCycles moves scratch r S z N) (sym f) (subst (λ z. AtCycles moves scratch r S R z) (sym g) k))

pub loop-c-preserved : goal.loop-c-preserved
loop-c-preserved c = elim c.if-is_some.branch [
  | then-is_some+in_ok-break_cycle w ↦
      same_cycles c.args.moves.now c.args.scratch (c.loop-c.c + 1) w.break_cycle.new.sources c.if-is_some.sources w.break_cycle.new.reads c.if-is_some.reads w.break_cycle.new.made.items c.if-is_some.made.items w.sources-is w.reads-is (ap (λ v. v.items) w.made-is)
      (let e = that_waits c.loop-c.sources c.loop-c.c c.is_some.result c.is_some.ensures w.if-is_some.true in
      cycles_broken c.args.moves.now c.args.scratch c.loop-c.c e.0 (rest c.loop-c.sources c.loop-c.reads c.loop-c.made.items) (rest w.break_cycle.new.sources w.break_cycle.new.reads w.break_cycle.new.made.items) c.loop-c.invariant c.loop-c-test.true c.ranges.scratch.fits e.1 w.in_ok-break_cycle.ensures)
  | else-is_some w ↦
      same_cycles c.args.moves.now c.args.scratch (c.loop-c.c + 1) c.loop-c.sources c.if-is_some.sources c.loop-c.reads c.if-is_some.reads c.loop-c.made.items c.if-is_some.made.items w.sources-is w.reads-is (ap (λ v. v.items) w.made-is)
      (cycles_pass c.args.moves.now c.args.scratch c.loop-c.c c.loop-c.sources c.loop-c.reads c.loop-c.made.items c.loop-c.invariant (that_waits_not c.loop-c.sources c.loop-c.c c.is_some.result c.is_some.ensures w.if-is_some.false))
]

pub returns-clause-moves : goal.returns-clause-moves
returns-clause-moves c = at_once c.args.moves.now c.args.scratch c.loop-c.sources c.loop-c.reads c.loop-c.made.items c.requires.targets c.requires.scratch (subst (λ z. AtCycles c.args.moves.now c.args.scratch z c.loop-c.sources c.loop-c.reads c.loop-c.made.items) (let a = c.loop-c-test.false in let b = c.loop-c.auto.c-end in omega (arith, a, b)) c.loop-c.invariant)

pub returns-clause-length : goal.returns-clause-length
returns-clause-length c = has_length c.args.moves.now c.args.scratch c.loop-c.sources c.loop-c.reads c.loop-c.made.items (subst (λ z. AtCycles c.args.moves.now c.args.scratch z c.loop-c.sources c.loop-c.reads c.loop-c.made.items) (let a = c.loop-c-test.false in let b = c.loop-c.auto.c-end in omega (arith, a, b)) c.loop-c.invariant)
