-- The fault of a line that was judged.
use Rattle.std.specs.Prelude.{◌≡◌, ℕ, Option, None, Result, Ok, IsErr}
use Rattle.bk_memory.specs.Shortage.{MemoryIsShort}
use Rattle.alpha_text.specs.declared.fault.TextFault.{TextFault}
use Rattle.alpha_text.specs.declared.fault.TextFault.TheVariants as fault

-- it says nothing that may stand there, or memory was short
abbrev pub IsFaultOf : {T E : Type 0} → Result (Option T) E → ℕ → TextFault → Type 0
IsFaultOf found line (fault.Line n) = (found ≡ Ok None) × (n ≡ line)
IsFaultOf found line (fault.Data n) = ⊥
IsFaultOf found line fault.NoMemory = IsErr found × MemoryIsShort
