-- The temporaries that stand for virtual registers, and what code for one instruction has to come to.
use Rattle.std.specs.Prelude.{◌≡◌, ℕ, ◌^◌, ◌≤◌, ◌<◌, ◌==◌, false, List, [], ◌∷◌, Option, Some, None}
use Rattle.mem_model.specs.declared.value.Value.{Value}
use Rattle.mem_model.specs.declared.value.Value.TheVariants.{Word, Address, Unset}
use Rattle.mem_model.specs.declared.value.Cell.{Cell}
use Rattle.mem_model.specs.declared.value.Cell.TheVariants.{Empty, Byte, Part}
use Rattle.mem_model.specs.Memory.{Memory, object_at}
use Rattle.mem_model.specs.World.{Outer, outer_with_memory}
use Rattle.machine_model.specs.Code.{Traps}
use Rattle.suifvm_meaning.specs.declared.answer.Answer.{Answer}
use Rattle.suifvm_meaning.specs.declared.answer.Answer.TheVariants as vm
use Rattle.alloc_model.specs.Contents.{Plain}
use Rattle.alloc_model.specs.Effect.{Temp}
use Rattle.alloc_model.specs.Temporaries.{Temps}
use Rattle.selection_forms.specs.alpha_forms.Straight.{Ran, After, Halted}

-- the first temporaries are used within the code of one instruction; behind them stand those of registers
abbrev pub scratch_count : ℕ
scratch_count = 4

abbrev pub IsOfRegister : ℕ → Type 0
IsOfRegister t = scratch_count ≤ t

-- a register holds words of 64 bits
abbrev pub IsHeldWord : Value → Type 0
IsHeldWord (Word n) = n < 2 ^ 64
IsHeldWord (Address p) = Unit {0}
IsHeldWord Unset = Unit {0}

-- the code goes on with a value in a temporary, and what stands for the other registers holds what it held
pub record PutsValue (s : Temps) (o : Outer) (d : ℕ) (v : Value) (ran : Ran) : Type 0 where
  pub after : Temps
  pub goes_on : ran ≡ After after o
  pub holds : after (Temp d) ≡ Plain v
  pub kept : (t : ℕ) → IsOfRegister t → (t == d) ≡ false → after (Temp t) ≡ s (Temp t)

-- it goes on with another memory
pub record PutsMemory (s : Temps) (o : Outer) (m : Memory) (ran : Ran) : Type 0 where
  pub after : Temps
  pub goes_on : ran ≡ After after (outer_with_memory o m)
  pub kept : (t : ℕ) → IsOfRegister t → after (Temp t) ≡ s (Temp t)

-- what the answer of an instruction over registers asks of its code: the value in the temporary, or the same trap; and
-- nothing where it has no meaning
abbrev pub CodeAnswers : (s : Temps) (o : Outer) (d : ℕ) → Answer → Ran → Type 0
CodeAnswers s o d (vm.Gives v) ran = PutsValue s o d v ran
CodeAnswers s o d (vm.TrapsWith code) ran = ran ≡ Halted (Traps code) o
CodeAnswers s o d vm.Fails ran = Unit {0}

-- the same of a changed memory
abbrev pub ComesToMemory : (s : Temps) (o : Outer) → Option Memory → Ran → Type 0
ComesToMemory s o (Some m) ran = PutsMemory s o m ran
ComesToMemory s o None ran = Unit {0}

-- ---- bytes are below 256, which every run keeps

abbrev pub IsCell : Cell → Type 0
IsCell Empty = Unit {0}
IsCell (Byte b) = b < 256
IsCell (Part p k) = Unit {0}

abbrev pub AreCells : List Cell → Type 0
AreCells [] = Unit {0}
AreCells (c ∷ cs) = IsCell c × AreCells cs

abbrev pub MemoryHasBytes : Memory → Type 0
MemoryHasBytes m = (k : ℕ) → AreCells (object_at m k).cells
