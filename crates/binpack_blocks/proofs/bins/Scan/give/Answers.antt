use Rattle.std.proofs.Common.{sym, ap, ◌∙◌, refl, subst, ◌≡◌, ◌+◌, ◌*◌, false, Some}
use Rattle.std.specs.Prelude.{slice_set}
use Rattle.binpack_blocks.specs.declared.held.SlotCopy.TheVariants.{Own}
use Rattle.binpack_blocks.specs.model.Bins.{held_in, held, lives, must_store, relied_behind}
use Rattle.binpack_blocks.specs.model.Rows.{is_wanted}
use Rattle.binpack_blocks.specs.model.Scanning.{state_of, local_site}
use Rattle.binpack_blocks.specs.model.Steps.Writes.{Keeps, Gets}
use Rattle.binpack_blocks.proofs.Holders.{lives_same}
use Rattle.binpack_blocks.proofs.Bringing.{open_may, spared_store}
use Rattle.binpack_blocks.proofs.bins.Scan.give.Goals as goal

pub returns-in-Some-clause-gives : goal.returns-in-Some-clause-gives
returns-in-Some-clause-gives c = record {
  ready = state_of c.args.self.now;
  steps = λ u p. p;
  same = λ q m. refl;
  is_made = ap (λ v. v.items) c.put.ensures.made;
  writes = Keeps c.args.temp c.in-Some.r c.in-Some.ensures.there c.put.ensures.bins c.put.ensures.relied;
}

pub returns-in_ok-save-in-None-clause-gives : goal.returns-in_ok-save-in-None-clause-gives
returns-in_ok-save-in-None-clause-gives c =
    let s = local_site c.args.self.now.temps c.args.lives.now c.args.number c.args.insn.now c.args.standing.now in
    let f = is_wanted c.args.lives.now (2 * c.args.number + 1) in
    let live : c.lives_in-live.result ≡ lives f (held_in c.save.new.self.bins.items c.choose-r.result) =
    c.lives_in-live.ensures ∙ lives_same f (held_in c.args.self.now.bins.items c.choose-r.result) (held_in c.save.new.self.bins.items c.choose-r.result) (λ t. sym (c.in_ok-save-in-None.ensures.same c.choose-r.result t)) in
    record {
      ready = state_of c.save.new.self;
      steps = λ u p. c.in_ok-save-in-None.ensures.steps s u
          (λ h e lv. spared_store c.args.self.now.temps c.args.lives.now c.args.number c.args.insn.now c.args.standing.now c.args.self.now.bins.items c.choose-r.result h c.choose-r.ensures.spares e
          (ap (lives f) (sym e) ∙ sym c.lives_in-live.ensures ∙ lv)) p;
      same = c.in_ok-save-in-None.ensures.same;
      is_made = ap (λ v. v.items) (c.put-in-None.ensures.made ∙ c.rely.ensures.made);
      writes = Gets c.args.temp c.choose-r.result (λ q. c.in_ok-save-in-None.ensures.same q c.args.temp ∙ c.in-None.ensures.none q) c.requires.low
          (open_may c.args.self.now.temps c.args.lives.now c.args.number c.args.insn.now c.args.standing.now c.choose-r.result c.choose-r.ensures.given c.choose-r.ensures.open)
          (record {
            saved = subst (λ l. must_store l (held_in c.save.new.self.bins.items c.choose-r.result) ≡ false) live c.in_ok-save-in-None.ensures.saved;
            relied = c.put-in-None.ensures.relied ∙ c.rely.ensures.relied ∙ ap (λ l. relied_behind l (held_in c.save.new.self.bins.items c.choose-r.result) c.save.new.self.relied) live;
          })
          (c.put-in-None.ensures.bins ∙ ap (λ v. slice_set v.items c.choose-r.result (Some (held c.args.temp Own))) c.rely.ensures.bins);
    }
