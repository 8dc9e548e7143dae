use Rattle.std.proofs.Common.{◌∙◌, sym}
use Rattle.std.proofs.lemmas.Option.{slice_get_within}
use Rattle.cfg.proofs.Bare.{no_target, only_target}
use Rattle.cfg_edges.proofs.Redirects.{none_before, one_before, none_after, one_after}
use Rattle.cfg_edges.proofs.pieces.set_only_target.Goals as goal

pub set_target-requires : goal.set_target-requires
set_target-requires g c = slice_get_within (g.I.Insn.targets _) 0 c.in-Some.old (sym c.target_at.ensures ∙ c.in-Some.is)

pub returns-in-None-clause-target : goal.returns-in-None-clause-target
returns-in-None-clause-target g c =
    none_before g.I.Insn.targets g.I.Insn.with_target c.args.insn.now (no_target g.I.Insn.reads g.I.Insn.writes g.I.Insn.targets g.I.Insn.with_target g.I.Insn.jump_to g.I.Insn.flows_on g.I.Insn.traps g.met.I.Insn.lawful c.args.insn.now (sym c.in-None.is ∙ c.target_at.ensures))

pub returns-in-None-clause-insn : goal.returns-in-None-clause-insn
returns-in-None-clause-insn g c =
    none_after g.I.Insn.targets g.I.Insn.with_target c.args.to c.args.insn.now (no_target g.I.Insn.reads g.I.Insn.writes g.I.Insn.targets g.I.Insn.with_target g.I.Insn.jump_to g.I.Insn.flows_on g.I.Insn.traps g.met.I.Insn.lawful c.args.insn.now (sym c.in-None.is ∙ c.target_at.ensures))

pub returns-in-Some-clause-target : goal.returns-in-Some-clause-target
returns-in-Some-clause-target g c =
    one_before g.I.Insn.targets g.I.Insn.with_target c.args.insn.now c.in-Some.old (only_target g.I.Insn.reads g.I.Insn.writes g.I.Insn.targets g.I.Insn.with_target g.I.Insn.jump_to g.I.Insn.flows_on g.I.Insn.traps g.met.I.Insn.lawful c.args.insn.now c.in-Some.old (sym c.in-Some.is ∙ c.target_at.ensures))

pub returns-in-Some-clause-insn : goal.returns-in-Some-clause-insn
returns-in-Some-clause-insn g c =
    one_after g.I.Insn.targets g.I.Insn.with_target c.args.to c.args.insn.now _ c.in-Some.old (only_target g.I.Insn.reads g.I.Insn.writes g.I.Insn.targets g.I.Insn.with_target g.I.Insn.jump_to g.I.Insn.flows_on g.I.Insn.traps g.met.I.Insn.lawful c.args.insn.now c.in-Some.old (sym c.in-Some.is ∙ c.target_at.ensures)) c.set_target.ensures
