use Rattle.std.proofs.Common.{[], ◌∙◌, ap, sym}
use Rattle.pass_core.specs.Functions.{last_of}
use Rattle.cfg.proofs.Lists.{last_has_id, last_item}
use Rattle.cfg.proofs.Blocks.{id_stays, last_changed}
use Rattle.cfg_edges.specs.model.Split.{target_after, to_one}
use Rattle.cfg_edges.proofs.Redirects.{no_target_after, no_change, none_stays}
use Rattle.cfg_edges.proofs.pieces.redirect.Goals as goal

pub set-insn-requires : goal.set-insn-requires
set-insn-requires g c = last_has_id c.block.inside.insns.pairs c.in-Some.id (sym c.in-Some.is ∙ c.last.ensures)

pub set-jump-requires : goal.set-jump-requires
set-jump-requires g c =
    id_stays g.I.Insn.targets g.I.Insn.with_target g.I.Insn.flows_on [] c.block.inside.insns.pairs _ c.in-Some.id _ (sym c.in-Some.is ∙ c.last.ensures) c.set-insn.ensures.pairs

pub returns-in-None-clause-target : goal.returns-in-None-clause-target
returns-in-None-clause-target g c =
    no_target_after g.I.Insn.targets g.I.Insn.with_target c.args.block.now c.block.inside.insns.pairs c.block.view_is (sym c.in-None.is ∙ c.last.ensures)

pub returns-in-None-clause-block : goal.returns-in-None-clause-block
returns-in-None-clause-block g c =
    no_change g.I.Insn.targets g.I.Insn.with_target (to_one g.I.Insn.targets g.I.Insn.with_target c.args.to) c.args.block.now c.block.inside.insns.pairs c.block.view_is (sym c.in-None.is ∙ c.last.ensures)

pub returns-in-Some-clause-target : goal.returns-in-Some-clause-target
returns-in-Some-clause-target g c =
    c.set_only_target-old.ensures.target
    ∙ sym (ap (λ xs. target_after g.I.Insn.targets (last_of xs)) (sym c.block.view_is)
    ∙ ap (target_after g.I.Insn.targets) (last_item c.block.inside.insns.pairs c.in-Some.id c.set-insn.result (sym c.in-Some.is ∙ c.last.ensures) c.set-insn.ensures.value))

pub returns-in-Some-clause-block : goal.returns-in-Some-clause-block
returns-in-Some-clause-block g c =
    last_changed g.I.Insn.targets g.I.Insn.flows_on (to_one g.I.Insn.targets g.I.Insn.with_target c.args.to)
    (none_stays g.I.Insn.targets g.I.Insn.with_target c.args.to)
    c.args.block.now c.block.inside.insns.pairs _ _ c.in-Some.id _ c.set-insn.result _ c.block.view_is (sym c.in-Some.is ∙ c.last.ensures) c.set-insn.ensures.value c.set-insn.ensures.pairs c.set-jump.ensures.pairs
    c.set_only_target-old.ensures.insn c.requires
