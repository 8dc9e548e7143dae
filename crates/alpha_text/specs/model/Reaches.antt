-- How far the lines of a text have been judged.
use Rattle.std.specs.Prelude.{ℕ, ◌+◌, List}
use Rattle.bk_memory.specs.Shortage.{MemoryIsShort}
use Rattle.alpha_text.specs.declared.fault.TextFault.{TextFault}
use Rattle.alpha_text.specs.declared.fault.TextFault.TheVariants as fault
use Rattle.alpha_text.specs.Wrong.{lines_of, is_ended, TextSoFar, WrongFrom, WellFrom}

-- what holds of the lines that are left holds of those that were left before
pub record Reaches (lines : List (List ℕ)) (from : TextSoFar) (start : List ℕ × ℕ) (to : TextSoFar)
    (now : List ℕ × ℕ) : Type 0 where
  pub wrong : (n : ℕ) → WrongFrom lines to (now.1 + 1) (lines_of now.0) (is_ended now.0) n
      → WrongFrom lines from (start.1 + 1) (lines_of start.0) (is_ended start.0) n
  pub well : (final : TextSoFar) → WellFrom lines to (lines_of now.0) (is_ended now.0) final
      → WellFrom lines from (lines_of start.0) (is_ended start.0) final

-- the fault is that of the first wrong line that is left, or want of memory
abbrev pub IsFaultFrom : List (List ℕ) → TextSoFar → List ℕ × ℕ → TextFault → Type 0
IsFaultFrom lines standing start (fault.Line n) =
    WrongFrom lines standing (start.1 + 1) (lines_of start.0) (is_ended start.0) n
IsFaultFrom lines standing start (fault.Data n) = ⊥
IsFaultFrom lines standing start fault.NoMemory = MemoryIsShort
