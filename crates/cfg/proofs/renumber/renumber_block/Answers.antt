use Rattle.std.proofs.Common.{◌<◌, ◌∙◌, sym, length}
use Rattle.std.specs.Prelude.{All}
use Rattle.cfg.proofs.Lists.{last_has_id}
use Rattle.cfg.proofs.Blocks.{last_replaced, last_holds, id_stays, none_to_replace}
use Rattle.cfg.proofs.renumber.renumber_block.Goals as goal

pub set-insn-requires : goal.set-insn-requires
set-insn-requires g c = last_has_id c.block.inside.insns.pairs c.in-Some.id (sym c.in-Some.is ∙ c.last.ensures)

pub renumber_insn-requires : goal.renumber_insn-requires
renumber_insn-requires g c =
    last_holds g.I.Insn.targets g.I.Insn.with_target g.I.Insn.flows_on c.args.numbers.now (λ i. All (λ target. target < length c.args.numbers.now) (g.I.Insn.targets i)) c.args.block.now c.block.inside.insns.pairs c.in-Some.id c.set-insn.result c.block.view_is (sym c.in-Some.is ∙ c.last.ensures) c.set-insn.ensures.value c.requires.within

pub set-jump-requires : goal.set-jump-requires
set-jump-requires g c =
    id_stays g.I.Insn.targets g.I.Insn.with_target g.I.Insn.flows_on c.args.numbers.now c.block.inside.insns.pairs _ c.in-Some.id _ (sym c.in-Some.is ∙ c.last.ensures) c.set-insn.ensures.pairs

pub returns-in-None : goal.returns-in-None
returns-in-None g c =
    none_to_replace g.I.Insn.targets g.I.Insn.with_target g.I.Insn.flows_on c.args.numbers.now c.args.block.now c.block.inside.insns.pairs c.block.view_is (sym c.in-None.is ∙ c.last.ensures)

pub returns-in-Some : goal.returns-in-Some
returns-in-Some g c =
    last_replaced g.I.Insn.targets g.I.Insn.with_target g.I.Insn.flows_on c.args.numbers.now c.args.block.now c.block.inside.insns.pairs _ _ c.in-Some.id _ c.set-insn.result _ c.block.view_is (sym c.in-Some.is ∙ c.last.ensures) c.set-insn.ensures.value c.set-insn.ensures.pairs c.set-jump.ensures.pairs c.renumber_insn.ensures c.requires.straight
