use Rattle.std.proofs.Common.{◌≡◌, ◌++◌, drop}
use Rattle.c_typing_judgements.specs.Texts.{join_spellings}
use Rattle.c_typing_judgements.proofs.texts.bytes_of.Given as goal

abbrev pub invariant-loop-spelling : goal.invariant-loop-spelling
invariant-loop-spelling l = join_spellings l.spellings ≡ l.bytes.items ++ join_spellings (drop l.spelling-index l.spellings)
