use Rattle.std.proofs.Common.{◌+◌, [], ◌∷◌, ◌++◌, ap, sym, ◌∙◌}
use Rattle.cfg.proofs.Lists.{last_has_id, no_insn, some_insn}
use Rattle.cfg.proofs.successors.block_successors.Goals as goal

pub get-requires : goal.get-requires
get-requires g c = last_has_id c.block.inside.insns.pairs c.in-Some.id (sym c.in-Some.is ∙ c.last.ensures)

pub returns-in_ok-push-in-None : goal.returns-in_ok-push-in-None
returns-in_ok-push-in-None g c =
    c.in_ok-push-in-None.ensures.ok
    ∙ ap (λ xs. xs ++ (c.args.number + 1) ∷ []) c.new-followers.ensures
    ∙ no_insn _ _ c.args.number _ c.block.inside.insns.pairs c.block.view_is (sym c.in-None.is ∙ c.last.ensures)

pub returns-in-Some : goal.returns-in-Some
returns-in-Some g c =
    rw (← some_insn g.I.Insn.targets g.I.Insn.flows_on c.args.number c.args.block.now c.block.inside.insns.pairs c.in-Some.id c.get.result.now c.block.view_is (sym c.in-Some.is ∙ c.last.ensures) c.get.ensures)
    c.insn_successors.ensures
