use Rattle.std.proofs.Common.{◌≡◌, ◌++◌, drop}
use Rattle.std.specs.Prelude.{flat_map}
use Rattle.binpack_blocks.proofs.block.all_insns.Given as goal

abbrev pub invariant-loop-place : goal.invariant-loop-place
invariant-loop-place l = l.insns.items ++ flat_map (λ insns. insns) (drop l.place l.blocks) ≡ flat_map (λ insns. insns) l.blocks
