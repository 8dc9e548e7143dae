use Rattle.std.proofs.Common.{arith, ap, sym, ◌∙◌, length}
use Rattle.cfg_edges.specs.model.Split.{numbers_from}
use Rattle.cfg_edges.proofs.Splits.{numbers_length, numbers_small}
use Rattle.cfg_edges.proofs.SplitEdges.{made_blocks, marks_length}
use Rattle.cfg_edges.proofs.split.split_part.Goals as goal

pub numbers_of-requires : goal.numbers_of-requires
numbers_of-requires g c =
    omega (arith, c.requires.few, marks_length g.I.Insn.targets g.I.Insn.flows_on c.args.blocks c.args.graph.now.succ c.args.graph.now.pred c.in_ok-splits.splits.items c.as_slice.result.now c.requires.succ c.in_ok-splits.ensures c.as_slice.ensures.value)

pub put_all-requires-clause-count : goal.put_all-requires-clause-count
put_all-requires-clause-count g c =
    marks_length g.I.Insn.targets g.I.Insn.flows_on c.args.blocks c.args.graph.now.succ c.args.graph.now.pred c.in_ok-splits.splits.items c.as_slice-2.result.now c.requires.succ c.in_ok-splits.ensures c.as_slice-2.ensures.value

pub put_all-requires-clause-there : goal.put_all-requires-clause-there
put_all-requires-clause-there g c =
    omega (
      arith,
      marks_length g.I.Insn.targets g.I.Insn.flows_on c.args.blocks c.args.graph.now.succ c.args.graph.now.pred c.in_ok-splits.splits.items c.as_slice.result.now c.requires.succ c.in_ok-splits.ensures c.as_slice.ensures.value,
      numbers_length 0 c.as_slice.result.now,
      ap length (c.as_slice-3.ensures.value ∙ c.in_ok-numbers.ensures),
    )

pub put_all-requires-clause-within : goal.put_all-requires-clause-within
put_all-requires-clause-within g c k d below k2 d2 inside k3 d3 within =
    omega (
      arith,
      (c.requires.targets k d below k2 d2 inside k3 d3 within).1,
      marks_length g.I.Insn.targets g.I.Insn.flows_on c.args.blocks c.args.graph.now.succ c.args.graph.now.pred c.in_ok-splits.splits.items c.as_slice.result.now c.requires.succ c.in_ok-splits.ensures c.as_slice.ensures.value,
      numbers_length 0 c.as_slice.result.now,
      ap length (c.as_slice-3.ensures.value ∙ c.in_ok-numbers.ensures),
    )

pub put_all-requires-clause-small : goal.put_all-requires-clause-small
put_all-requires-clause-small g c =
    numbers_small c.as_slice.result.now c.in_ok-numbers.numbers.items c.as_slice-3.result.now c.in_ok-numbers.ensures c.as_slice-3.ensures.value
    (omega (arith, c.requires.few, marks_length g.I.Insn.targets g.I.Insn.flows_on c.args.blocks c.args.graph.now.succ c.args.graph.now.pred c.in_ok-splits.splits.items c.as_slice.result.now c.requires.succ c.in_ok-splits.ensures c.as_slice.ensures.value))

pub returns : goal.returns
returns g c =
    made_blocks g.I.Insn.reads g.I.Insn.writes g.I.Insn.targets g.I.Insn.with_target g.I.Insn.jump_to g.I.Insn.flows_on g.I.Insn.traps g.met.I.Insn.lawful c.args.blocks c.requires.targets c.requires.straight c.requires.stops
    c.args.graph.now.succ c.args.graph.now.pred c.in_ok-splits.splits.items c.as_slice-2.result.now c.in_ok-numbers.numbers.items c.as_slice-3.result.now c.in_ok-part.part
    c.requires.succ c.requires.pred c.in_ok-splits.ensures c.as_slice-2.ensures.value
    (c.in_ok-numbers.ensures ∙ ap (numbers_from 0) (c.as_slice.ensures.value ∙ sym c.as_slice-2.ensures.value)) c.as_slice-3.ensures.value c.in_ok-part.ensures
