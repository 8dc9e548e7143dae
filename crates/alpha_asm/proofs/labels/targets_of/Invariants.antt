use Rattle.std.proofs.Common.{◌≡◌, map, take}
use Rattle.alpha_asm.specs.model.Sweeps.{target_of}
use Rattle.alpha_asm.proofs.labels.targets_of.Given as goal

abbrev pub invariant-loop-item : goal.invariant-loop-item
invariant-loop-item l = l.of_items.items ≡ map (target_of l.items) (take l.item-index l.items)
