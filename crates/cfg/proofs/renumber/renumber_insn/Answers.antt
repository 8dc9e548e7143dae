use Rattle.std.proofs.Common.{sym, refl, ◌∙◌}
use Rattle.std.proofs.lemmas.Option.{slice_get_within}
use Rattle.cfg.proofs.Bare.{none_renumbered, one_renumbered, target_within}
use Rattle.cfg.proofs.renumber.renumber_insn.Goals as goal

pub returns-in-None : goal.returns-in-None
returns-in-None g c =
    none_renumbered g.I.Insn.reads g.I.Insn.writes g.I.Insn.targets g.I.Insn.with_target g.I.Insn.jump_to g.I.Insn.flows_on g.I.Insn.traps g.met.I.Insn.lawful c.args.numbers.now c.args.insn.now (sym c.in-None.is ∙ c.target_at.ensures)

pub bounds-numbers-block : goal.bounds-numbers-block
bounds-numbers-block g c =
    target_within g.I.Insn.reads g.I.Insn.writes g.I.Insn.targets g.I.Insn.with_target g.I.Insn.jump_to g.I.Insn.flows_on g.I.Insn.traps g.met.I.Insn.lawful c.args.numbers.now c.args.insn.now c.in-Some.block (sym c.in-Some.is ∙ c.target_at.ensures) c.requires

pub set_target-requires : goal.set_target-requires
set_target-requires g c = slice_get_within (g.I.Insn.targets _) 0 c.in-Some.block (sym c.target_at.ensures ∙ c.in-Some.is)

pub returns-in-Some : goal.returns-in-Some
returns-in-Some g c =
    one_renumbered g.I.Insn.reads g.I.Insn.writes g.I.Insn.targets g.I.Insn.with_target g.I.Insn.jump_to g.I.Insn.flows_on g.I.Insn.traps g.met.I.Insn.lawful c.args.numbers.now c.args.insn.now _ c.in-Some.block _ (sym c.in-Some.is ∙ c.target_at.ensures) refl c.set_target.ensures
