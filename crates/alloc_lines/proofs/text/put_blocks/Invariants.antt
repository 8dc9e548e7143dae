-- What was put, with the text of what is left behind it, is the whole.
use Rattle.std.proofs.Common.{◌≡◌, ◌+◌, ◌++◌, drop}
use Rattle.pass_core.specs.Functions.{count_of}
use Rattle.alloc_lines.specs.Text.{blocks_lines}
use Rattle.alloc_lines.proofs.text.put_blocks.Given as goal

abbrev pub invariant-loop-block : goal.invariant-loop-block
invariant-loop-block l =
    (l.out.items ++ blocks_lines l.first l.at l.block l.a (drop l.block l.blocks)
    ≡ l.initial.out.items ++ blocks_lines l.first 0 0 l.a l.blocks)
    × (l.at + count_of (drop l.block l.blocks) ≡ count_of l.blocks)
