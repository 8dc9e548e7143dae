-- How large blocks are behind passes.
use Rattle.std.specs.Prelude.{◌≡◌, ℕ, zero, suc, ◌+◌, ◌*◌, ◌≤◌, List, length}
use Rattle.pass_core.specs.Functions.{count_of, edge_count}
use Rattle.suifvm_ir.specs.Insns as vm
use Rattle.suifvm_ir.specs.Programs.{VmFunction}
use Rattle.suifvm_ir.specs.Cost.{cost}
use Rattle.temp_ir.specs.Insns.{targets_of, with_block, jump_of, flows_on_of}
use Rattle.temp_ir.specs.declared.insn.TempInsn.{TempInsn}
use Rattle.temp_ir.specs.Cost.{call_count}
use Rattle.cfg.specs.Edges as graph
use Rattle.cfg.specs.Measures.{NoMeasureGrows}
use Rattle.cfg_edges.specs.Added.{AddsJumps}

-- how many edges there may be where all of so many were split, again and again: a block of one jump on an edge is one
-- more edge
abbrev pub most_edges : (splits edges : ℕ) → ℕ
most_edges zero edges = edges
most_edges (suc splits) edges = most_edges splits (2 * edges)

-- blocks are no more and no larger than others all of whose edges were split so many times, each of them by a block of
-- one jump, and make no more calls
pub record GrowBySplits (splits : ℕ) (before after : List (List TempInsn)) : Type 0 where
  pub blocks : length after + edge_count targets_of flows_on_of before
      ≤ length before + most_edges splits (edge_count targets_of flows_on_of before)
  pub insns : count_of after + edge_count targets_of flows_on_of before
      ≤ count_of before + most_edges splits (edge_count targets_of flows_on_of before)
  pub edges : edge_count targets_of flows_on_of after ≤ most_edges splits (edge_count targets_of flows_on_of before)
  pub calls : call_count after ≤ call_count before

-- Blocks that are others with blocks of one jump each between them, and no more of these than the others have edges, as
-- `split_edges` of `cfg_edges` gives them, are no larger than where all edges are split once
abbrev pub SplitsGrowOnce : Type 0
SplitsGrowOnce =
    (before after : List (List TempInsn)) → AddsJumps targets_of with_block jump_of before after →
    length after ≤ length before + graph.edge_count (graph.successors_from targets_of flows_on_of 0 before) →
    GrowBySplits 1 before after

-- Blocks with no more of any measure, no more edges and no more blocks than others, as `remove_unreachable` of `cfg`
-- gives them, do not grow
abbrev pub RemovalsDoNotGrow : Type 0
RemovalsDoNotGrow =
    (before after : List (List TempInsn)) → NoMeasureGrows targets_of with_block before after →
    graph.edge_count (graph.successors_from targets_of flows_on_of 0 after)
    ≤ graph.edge_count (graph.successors_from targets_of flows_on_of 0 before) →
    length after ≤ length before → GrowBySplits 0 before after

-- such a function over virtual registers with as many parameters has at most the cost
abbrev pub RemovalKeepsCost : Type 0
RemovalKeepsCost =
    (f g : VmFunction) → g.params ≡ f.params → NoMeasureGrows vm.targets_of vm.with_block f.blocks g.blocks →
    graph.edge_count (graph.successors_from vm.targets_of vm.flows_on_of 0 g.blocks)
    ≤ graph.edge_count (graph.successors_from vm.targets_of vm.flows_on_of 0 f.blocks) →
    cost g ≤ cost f
