use Rattle.std.proofs.Common.{sym, ap, ◌∙◌, inr, ◌+◌, ◌*◌}
use Rattle.binpack_blocks.specs.model.Bins.{held_in, lives, must_store}
use Rattle.binpack_blocks.specs.model.Rows.{is_wanted}
use Rattle.binpack_blocks.specs.model.Scanning.{local_site}
use Rattle.binpack_blocks.proofs.Holders.{lives_same}
use Rattle.binpack_blocks.proofs.Bringing.{taken_unwritten}
use Rattle.binpack_blocks.proofs.bins.Scan.secure.Goals as goal

pub returns-clause-steps : goal.returns-clause-steps
returns-clause-steps c standing u before =
    c.in_ok-save.ensures.steps (local_site c.args.self.now.temps c.args.lives.now c.args.number c.args.insn.now standing) u
    (λ h e lv. inr (ap (lives (is_wanted c.args.lives.now (2 * c.args.number + 1))) (sym e) ∙ sym c.lives_in-behind.ensures ∙ lv, taken_unwritten c.args.insn.now c.args.r h.temp c.requires.takes)) before

pub returns-clause-saved : goal.returns-clause-saved
returns-clause-saved c =
    ap (λ l. must_store l (held_in c.save.new.self.bins.items c.args.r))
    (lives_same (is_wanted c.args.lives.now (2 * c.args.number + 1)) (held_in c.save.new.self.bins.items c.args.r) (held_in c.args.self.now.bins.items c.args.r) (λ t. c.in_ok-save.ensures.same c.args.r t) ∙ sym c.lives_in-behind.ensures)
    ∙ c.in_ok-save.ensures.saved
