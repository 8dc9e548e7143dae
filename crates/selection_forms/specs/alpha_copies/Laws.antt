-- The law of copies.
use Rattle.std.specs.Prelude.{◌≡◌, ℕ, ◌*◌, ◌%◌, ◌≤◌, length}
use Rattle.mem_model.specs.declared.value.Value.{Value}
use Rattle.mem_model.specs.World.{Outer}
use Rattle.suifvm_ir.specs.declared.types.Alignment.{Alignment}
use Rattle.suifvm_ir.specs.Programs.{alignment_bytes}
use Rattle.suifvm_meaning.specs.Operations.{copied_memory}
use Rattle.alloc_model.specs.Contents.{Plain}
use Rattle.alloc_model.specs.Effect.{Temp}
use Rattle.alloc_model.specs.Temporaries.{Temps}
use Rattle.selection_forms.specs.alpha_forms.Straight.{runs}
use Rattle.selection_forms.specs.alpha_forms.Registers.{IsOfRegister, MemoryHasBytes, ComesToMemory}
use Rattle.selection_forms.specs.alpha_copies.Copies.{copy_items}

-- the code of a copy leaves the memory that the copy leaves, wherever that has a meaning; v and w are what the
-- registers of the pointers hold
abbrev pub CopiesAreDone : Type 0
CopiesAreDone =
    (widest own to from size : ℕ) (align : Alignment) (s : Temps) (o : Outer) (v w : Value) → IsOfRegister to
    → IsOfRegister from → MemoryHasBytes o.memory → size % alignment_bytes align ≡ 0 → s (Temp to) ≡ Plain v
    → s (Temp from) ≡ Plain w →
    ComesToMemory s o (copied_memory o.memory v w size (alignment_bytes align))
    (runs widest (copy_items align to from size) own s o)

-- it has at most four instructions for each byte
abbrev pub CopiesAreShort : Type 0
CopiesAreShort = (to from size : ℕ) (align : Alignment) → length (copy_items align to from size) ≤ 4 * size
