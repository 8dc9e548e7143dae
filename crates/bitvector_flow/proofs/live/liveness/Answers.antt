use Rattle.std.proofs.Common.{sym, ap, ◌∙◌, subst, length}
use Rattle.pass_core.specs.Functions.{AllInsns, UsesRegisters}
use Rattle.bitvector_flow.proofs.Lives.{successors_count, live_found}
use Rattle.bitvector_flow.proofs.live.liveness.Goals as goal

pub block_sets-requires-clause-inside : goal.block_sets-requires-clause-inside
block_sets-requires-clause-inside g c =
    subst (AllInsns (UsesRegisters g.I.Insn.reads g.I.Insn.writes c.args.f.now.temps)) (sym c.as_slice.ensures) c.args.f.now.registers

pub solve_sets-requires-clause-as_many_makes : goal.solve_sets-requires-clause-as_many_makes
solve_sets-requires-clause-as_many_makes g c =
    c.in_ok-reads.ensures.firsts_bounded.as_many ∙ ap length c.as_slice.ensures
    ∙ sym (ap length (c.as_slice-2.ensures ∙ c.requires.graph) ∙ successors_count g.I.Insn.targets g.I.Insn.flows_on 0 c.args.f.now.blocks)

pub solve_sets-requires-clause-as_many_stops : goal.solve_sets-requires-clause-as_many_stops
solve_sets-requires-clause-as_many_stops g c =
    ap length c.as_slice-3.ensures.value ∙ c.in_ok-reads.ensures.lasts_bounded.as_many ∙ ap length c.as_slice.ensures
    ∙ sym (ap length (c.as_slice-2.ensures ∙ c.requires.graph) ∙ successors_count g.I.Insn.targets g.I.Insn.flows_on 0 c.args.f.now.blocks)

pub returns : goal.returns
returns g c =
    live_found g.I.Insn.reads g.I.Insn.writes g.I.Insn.targets g.I.Insn.flows_on c.args.f.now.blocks c.as_slice.result.now c.as_slice-2.result.now c.args.f.now.temps
    c.in_ok-reads.field-0.reads.items c.in_ok-reads.field-0.writes.items c.as_slice-3.result.now c.in_ok-outs.field-0.outs.items c.in_ok-outs.field-0.ins.items
    c.from_vec.result c.from_vec-2.result c.as_slice.ensures (c.as_slice-2.ensures ∙ c.requires.graph) c.as_slice-3.ensures.value c.from_vec.ensures c.from_vec-2.ensures
    c.in_ok-reads.ensures c.in_ok-outs.ensures
