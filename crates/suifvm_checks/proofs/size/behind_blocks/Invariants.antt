use Rattle.std.proofs.Common.{◌≡◌, ◌+◌, take, sum_by}
use Rattle.pass_core.specs.Functions.{count_of}
use Rattle.suifvm_ir.specs.Programs.{weight_of}
use Rattle.suifvm_checks.proofs.size.behind_blocks.Given as goal

abbrev pub invariant-loop-block : goal.invariant-loop-block
invariant-loop-block l =
    l.rest + count_of (take l.block-index l.blocks) + sum_by (λ b. sum_by weight_of b) (take l.block-index l.blocks) ≡ l.left
