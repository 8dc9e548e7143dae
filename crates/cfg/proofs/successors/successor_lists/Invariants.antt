use Rattle.std.proofs.Common.{◌≡◌, take}
use Rattle.cfg.specs.Edges.{successors_from}
use Rattle.cfg.proofs.successors.successor_lists.Given as goal

abbrev pub invariant-loop-number : goal.invariant-loop-number
invariant-loop-number g l = l.lists ≡ successors_from g.I.Insn.targets g.I.Insn.flows_on 0 (take l.number l.blocks)
