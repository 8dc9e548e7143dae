use Rattle.std.proofs.Common.{sym, ap, ◌∙◌, inl, ◌*◌}
use Rattle.binpack_blocks.specs.declared.held.SlotCopy.TheVariants.{Twice}
use Rattle.binpack_blocks.specs.model.Bins.{held_in, has_temp, held, lives}
use Rattle.binpack_blocks.specs.model.Rows.{is_wanted}
use Rattle.binpack_blocks.specs.model.Scanning.{local_site}
use Rattle.binpack_blocks.proofs.Holders.{set_other, lives_same}
use Rattle.binpack_blocks.proofs.Bringing.{open_may, open_unfixed, kept_by}
use Rattle.binpack_blocks.proofs.bins.Scan.bring.Goals as goal

pub returns-in_ok-load-in-None-clause-steps : goal.returns-in_ok-load-in-None-clause-steps
returns-in_ok-load-in-None-clause-steps c u before =
    let s = local_site c.args.self.now.temps c.args.lives.now c.args.number c.args.insn.now c.args.standing.now in
    c.in_ok-load-in-None.ensures.steps s u (open_may c.args.self.now.temps c.args.lives.now c.args.number c.args.insn.now c.args.standing.now c.choose-r.result c.choose-r.ensures.given c.choose-r.ensures.open)
    (sym c.in_ok-save-in-None.ensures.temps) c.requires.wanted
    (c.lives_in-live.ensures ∙ lives_same (is_wanted c.args.lives.now (2 * c.args.number)) (held_in c.args.self.now.bins.items c.choose-r.result) (held_in c.save.new.self.bins.items c.choose-r.result) (λ t. sym (c.in_ok-save-in-None.ensures.same c.choose-r.result t)))
    (c.in_ok-save-in-None.ensures.steps s u (λ h e lv. inl (ap (lives (is_wanted c.args.lives.now (2 * c.args.number))) (sym e) ∙ sym c.lives_in-live.ensures ∙ lv)) before)

pub returns-in_ok-load-in-None-clause-kept : goal.returns-in_ok-load-in-None-clause-kept
returns-in_ok-load-in-None-clause-kept c q m named lv is =
    ap (λ z. has_temp (held_in z q) m) c.in_ok-load-in-None.ensures.bins
    ∙ kept_by c.args.insn.now (is_wanted c.args.lives.now (2 * c.args.number)) c.args.self.now.bins.items c.save.new.self.bins.items c.choose-r.result (held c.args.temp Twice) q m c.choose-r.ensures.spares c.in_ok-save-in-None.ensures.same named lv is

pub returns-in_ok-load-in-None-clause-fixed : goal.returns-in_ok-load-in-None-clause-fixed
returns-in_ok-load-in-None-clause-fixed c q is =
    let apart = open_unfixed c.args.insn.now c.args.standing.now c.choose-r.result q c.choose-r.ensures.open is in
    ap (λ z. held_in z q) c.in_ok-load-in-None.ensures.bins ∙ set_other c.save.new.self.bins.items c.choose-r.result q _ apart ∙ c.in_ok-save-in-None.ensures.others q apart
