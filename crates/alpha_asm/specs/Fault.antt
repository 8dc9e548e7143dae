-- Why an assembly has no image.
use Rattle.std.specs.Prelude.{◌≡◌, ℕ, ◌<◌, ◌≤◌, List, Bool}
use Rattle.bk_memory.specs.Shortage.{MemoryIsShort}
use Rattle.alpha_isa.specs.Program.{most_words}
use Rattle.alpha_items.specs.Assembly.{Assembly}
use Rattle.alpha_items.specs.Layout.{text_words, IsLeastFar}
use Rattle.alpha_asm.specs.declared.assemble.AsmFault.{AsmFault}
use Rattle.alpha_asm.specs.declared.assemble.AsmFault.TheVariants.{CodeTooLong, NoMemory}

-- the text has so many words
pub record HasWords (a : Assembly) (n : ℕ) : Type 0 where
  pub far : List Bool
  pub least : IsLeastFar a.items far
  pub words : n ≡ text_words a.items far

-- no more words than an image may have
pub record HasFewWords (a : Assembly) : Type 0 where
  pub most : (n : ℕ) → HasWords a n → n ≤ most_words

-- the text has this number of words, which is more than an image may have, or memory is short
abbrev pub IsAsmFault : Assembly → AsmFault → Type 0
IsAsmFault a (CodeTooLong n) = HasWords a n × (most_words < n)
IsAsmFault a NoMemory = MemoryIsShort
