use Rattle.std.proofs.Common.{◌≡◌, ◌+◌, ◌++◌, drop}
use Rattle.pass_core.specs.Functions.{count_of}
use Rattle.suifvm_ir.specs.Lines.{blocks_text}
use Rattle.suifvm_ir.proofs.lines.put_blocks.Given as goal

abbrev pub invariant-loop-at : goal.invariant-loop-at
invariant-loop-at g l =
    (l.out.items ++ blocks_text (g.T.InsnText.text l.insns) l.at l.number (drop l.at l.blocks) ≡ l.initial.out.items ++ blocks_text (g.T.InsnText.text l.insns) 0 l.initial.number l.blocks)
    × (l.number + count_of (drop l.at l.blocks) ≡ l.initial.number + count_of l.blocks)
