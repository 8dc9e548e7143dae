use Rattle.std.proofs.Common.{◌≡◌, ◌+◌, ◌<◌, ◌^◌, drop}
use Rattle.pass_core.specs.Functions.{count_of}
use Rattle.pass_checks.proofs.blocks.count_insns.Given as goal

abbrev pub invariant-loop-block : goal.invariant-loop-block
invariant-loop-block g l = (l.count + count_of (drop l.block-index l.blocks) ≡ count_of l.fn.blocks) × (l.count < 2 ^ 30)
