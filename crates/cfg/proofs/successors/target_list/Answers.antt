use Rattle.std.proofs.Common.{sym, ap, ◌∙◌, ◌++◌, ◌∷◌, []}
use Rattle.cfg.proofs.Bare.{no_target, only_target}
use Rattle.cfg.proofs.successors.target_list.Goals as goal

pub returns-in-None : goal.returns-in-None
returns-in-None g c = c.new-found.ensures ∙ no_target g.I.Insn.reads g.I.Insn.writes g.I.Insn.targets g.I.Insn.with_target g.I.Insn.jump_to g.I.Insn.flows_on g.I.Insn.traps g.met.I.Insn.lawful c.args.insn.now (sym c.in-None.is ∙ c.target_at.ensures)

pub returns-in_ok-push-in-Some : goal.returns-in_ok-push-in-Some
returns-in_ok-push-in-Some g c =
    c.in_ok-push-in-Some.ensures.ok
    ∙ ap (λ xs. xs ++ c.in-Some.block ∷ []) c.new-found.ensures
    ∙ only_target g.I.Insn.reads g.I.Insn.writes g.I.Insn.targets g.I.Insn.with_target g.I.Insn.jump_to g.I.Insn.flows_on g.I.Insn.traps g.met.I.Insn.lawful c.args.insn.now c.in-Some.block (sym c.in-Some.is ∙ c.target_at.ensures)
