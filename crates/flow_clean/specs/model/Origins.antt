-- Of which register another one is a copy, by when each was written last.
use Rattle.std.specs.Prelude.{◌≡◌, ℕ, ◌+◌, ◌<◌, ◌&&◌, nat_lt, nat_le, Bool, false, List, [], ◌∷◌, ◌++◌, All, length, slice_get, slice_set, Option, Some, None, if◌then◌else◌}
use Rattle.suifvm_ir.specs.declared.insn.VmInsn.{VmInsn}
use Rattle.suifvm_ir.specs.Insns.{writes_of}
use Rattle.flow_clean.specs.Copies.{move_source, with_reads, no_copies, without_copies}
use Rattle.flow_clean.specs.declared.origins.LastWrite.{LastWrite}

abbrev pub last_before : Option LastWrite → (time : ℕ) → Bool
last_before None time = false
last_before (Some last) time = nat_lt last.when time

-- a register was written last before a time
abbrev pub is_before : List LastWrite → (register time : ℕ) → Bool
is_before writes register time = last_before (slice_get writes register) time

-- the register of which another one is a copy by its last write, if that is not before a start, and was not written since
abbrev pub origin_by : List LastWrite → (start register : ℕ) → Option LastWrite → ℕ
origin_by writes start register None = register
origin_by writes start register (Some last) =
    if nat_le start last.when && is_before writes last.source last.when then last.source else register

abbrev pub origin : List LastWrite → (start register : ℕ) → ℕ
origin writes start register = origin_by writes start register (slice_get writes register)

-- the last writes behind an instruction at a time
abbrev pub noted_all : List LastWrite → (time : ℕ) → VmInsn → (registers : List ℕ) → List LastWrite
noted_all writes time i [] = writes
noted_all writes time i (register ∷ registers) =
    noted_all (slice_set writes register (record { when = time; source = move_source i register })) time i registers

abbrev pub noted : List LastWrite → (time : ℕ) → VmInsn → List LastWrite
noted writes time i = noted_all writes time i (writes_of i)

abbrev pub AreBefore : (time : ℕ) → List LastWrite → Type 0
AreBefore time writes = All (λ last. last.when < time) writes

-- an instruction was put behind others at a time, in a block that began at a start
pub record IsLineCopied (start time : ℕ) (i : VmInsn) (made made_new : List VmInsn)
    (writes writes_new : List LastWrite) : Type 0 where
  pub made_is : made_new ≡ made ++ with_reads (origin writes start) i ∷ []
  pub writes_are : writes_new ≡ noted writes time (with_reads (origin writes start) i)

-- the last writes at a time are of so many registers
pub record AreLast (registers time : ℕ) (writes : List LastWrite) : Type 0 where
  pub as_many : length writes ≡ registers
  pub before : AreBefore time writes
  pub inside : All (λ last. last.source < registers) writes

-- a block that began at a start was put behind others
pub record IsBlockCopied (start next : ℕ) (insns : List VmInsn) (made made_new : List VmInsn)
    (writes writes_new : List LastWrite) : Type 0 where
  pub next_is : next ≡ start + length insns
  pub made_is : made_new ≡ made ++ without_copies no_copies insns
  pub last : AreLast (length writes) next writes_new

pub record IsBlockPushed (start next : ℕ) (insns : List VmInsn) (made made_new : List (List VmInsn))
    (writes writes_new : List LastWrite) : Type 0 where
  pub next_is : next ≡ start + length insns
  pub made_is : made_new ≡ made ++ without_copies no_copies insns ∷ []
  pub last : AreLast (length writes) next writes_new
