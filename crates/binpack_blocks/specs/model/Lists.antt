-- The lists that a scan puts its visits into.
use Rattle.std.specs.Prelude.{◌≡◌, ℕ, ◌+◌, ◌*◌, ◌++◌, true, List, slice_get, Some}
use Rattle.temp_ir.specs.declared.insn.TempInsn.{TempInsn}
use Rattle.temp_ir.specs.Insns.{reads_of}
use Rattle.temp_ir.specs.Fixed.{has_number}
use Rattle.alloc_model.specs.declared.allocation.Transfer.{Transfer}
use Rattle.alloc_rules.specs.declared.scan.Lifetimes.{Lifetimes}
use Rattle.binpack_blocks.specs.declared.block.Lists.{Lists}
use Rattle.binpack_blocks.specs.model.Steps.{State}
use Rattle.binpack_blocks.specs.model.Rows.{Rows, is_wanted}

-- what an instruction of a block reads is wanted there
abbrev pub ReadsWanted : Lifetimes → (number : ℕ) → List TempInsn → Type 0
ReadsWanted lives number insns =
    (k : ℕ) (x : TempInsn) → slice_get insns k ≡ Some x → (t : ℕ) → has_number (reads_of x) t ≡ true →
    is_wanted lives (2 * (number + k)) t ≡ true

-- so many visits of a block are put behind what was there
pub record AddsRows (temps : ℕ) (lives : Lifetimes) (number : ℕ) (insns : List TempInsn) (u : State) (at : ℕ)
    (old new : Lists) (w : State) : Type 0 where
  pub transfers : List (List Transfer)
  pub registers : List (List ℕ)
  pub transfers_are : new.transfers ≡ old.transfers ++ transfers
  pub registers_are : new.registers ≡ old.registers ++ registers
  pub rows : Rows temps lives number insns u at transfers registers w
