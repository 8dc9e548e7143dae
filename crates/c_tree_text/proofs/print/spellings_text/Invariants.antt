use Rattle.std.proofs.Common.{◌≡◌, take}
use Rattle.c_tree.specs.Words.{spellings_text}
use Rattle.c_tree_text.proofs.print.spellings_text.Given as goal

abbrev pub invariant-loop-spelling : goal.invariant-loop-spelling
invariant-loop-spelling l = l.v.items ≡ spellings_text (take l.spelling-index l.spellings)
