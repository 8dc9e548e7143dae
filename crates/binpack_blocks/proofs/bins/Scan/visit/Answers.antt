use Rattle.std.proofs.Common.{ap, ◌+◌, ◌*◌, sym, ◌∙◌, refl, subst}
use Rattle.temp_ir.specs.Insns.{reads_of}
use Rattle.binpack_blocks.specs.model.Bins.{lives, must_store}
use Rattle.binpack_blocks.specs.model.Rows.{unmade, is_wanted}
use Rattle.binpack_blocks.specs.model.Scanning.{state_of, local_site, Acts}
use Rattle.binpack_blocks.specs.model.Steps.{State, Steps}
use Rattle.binpack_blocks.specs.model.Steps.Steps.{Start}
use Rattle.binpack_blocks.proofs.Counts.{visit_few, taken_fixes}
use Rattle.binpack_blocks.proofs.Bringing.{held_along, state_with}
use Rattle.binpack_blocks.proofs.bins.Scan.visit.Goals as goal

pub act-requires-clause-saved : goal.act-requires-clause-saved
act-requires-clause-saved c r w takes =
    ap (λ o. must_store (lives (is_wanted c.args.lives.now (2 * c.args.number + 1)) o) o) (c.in_ok-registers.ensures.fixed r (taken_fixes c.args.insn.now r takes))
    ∙ c.in_ok-fix_all.ensures.saved r w takes

pub returns-clause-visits : goal.returns-clause-visits
returns-clause-visits c =
    let u : State = unmade (state_of c.args.self.now) in
    let fixed : Steps (local_site c.args.self.now.temps c.args.lives.now c.args.number c.args.insn.now c.args.standing.now) u (state_of c.fix_all.new.self) =
    c.in_ok-fix_all.ensures.steps u (subst (λ m. Steps (local_site c.args.self.now.temps c.args.lives.now c.args.number c.args.insn.now c.args.standing.now) u (state_with c.args.self.now.bins.items m c.args.self.now.relied)) (sym c.clear.ensures.items) Start) in
    let brought : Steps (local_site c.args.self.now.temps c.args.lives.now c.args.number c.args.insn.now c.args.standing.now) u (state_of c.bring_all.new.self) =
    subst (λ n. Steps (local_site n c.args.lives.now c.args.number c.args.insn.now c.args.standing.now) u (state_of c.bring_all.new.self)) c.in_ok-fix_all.ensures.temps
    (c.in_ok-registers.ensures.steps u (subst (λ n. Steps (local_site n c.args.lives.now c.args.number c.args.insn.now c.args.standing.now) u (state_of c.fix_all.new.self)) (sym c.in_ok-fix_all.ensures.temps) fixed)) in
    let acts : Acts (local_site c.args.self.now.temps c.args.lives.now c.args.number c.args.insn.now c.args.standing.now) (state_of c.bring_all.new.self) (state_of c.act.new.self) c.in_ok-registers.registers.items c.act.new.registers.items =
    subst (λ n. Acts (local_site n c.args.lives.now c.args.number c.args.insn.now c.args.standing.now) (state_of c.bring_all.new.self) (state_of c.act.new.self) c.in_ok-registers.registers.items c.act.new.registers.items)
    (c.in_ok-registers.ensures.temps ∙ c.in_ok-fix_all.ensures.temps) c.in_ok-act.ensures.acts in
    record {
      ready = acts.ready;
      left = acts.left;
      read = c.in_ok-registers.registers.items;
      written = acts.written;
      none_made = refl;
      steps = acts.steps u brought;
      is_made = c.from_vec.ensures ∙ c.in_ok-transfers.ensures.items ∙ c.as_slice.ensures.value ∙ acts.is_made;
      few = visit_few c.args.insn.now _ _ _ _ _ (c.from_vec.ensures ∙ c.in_ok-transfers.ensures.items ∙ c.as_slice.ensures.value) c.clear.ensures.items c.in_ok-fix_all.ensures.count c.in_ok-registers.ensures.count c.in_ok-act.ensures.count;
      registers_are = c.from_vec-2.ensures ∙ acts.are;
      held = held_along (reads_of c.args.insn.now) c.in_ok-registers.registers.items c.bring_all.new.self.bins.items acts.ready.bins acts.same c.in_ok-registers.ensures.held;
      ends = acts.ends;
      writes = acts.writes;
    }
