-- What was put, with the text of what is left behind it, is the whole.
use Rattle.std.proofs.Common.{◌≡◌, ◌++◌, drop}
use Rattle.alloc_live_lines.specs.Text.{live_blocks_text}
use Rattle.alloc_live_lines.proofs.text.put_blocks.Given as goal

abbrev pub invariant-loop-block : goal.invariant-loop-block
invariant-loop-block l =
    l.out.items ++ live_blocks_text l.block l.bottoms (drop l.block l.tops) ≡ l.initial.out.items ++ live_blocks_text 0 l.bottoms l.tops
