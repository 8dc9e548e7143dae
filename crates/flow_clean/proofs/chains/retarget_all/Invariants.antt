-- The blocks so far have their new targets.
use Rattle.std.proofs.Common.{◌≡◌, ◌++◌, map, take, drop}
use Rattle.flow_clean.specs.Chains.{retargeted}
use Rattle.flow_clean.proofs.chains.retarget_all.Given as goal

abbrev pub invariant-loop-at : goal.invariant-loop-at
invariant-loop-at l =
    l.blocks ≡ map (map (retargeted l.ends)) (take l.at l.initial.blocks) ++ drop l.at l.initial.blocks
