-- That code stands behind other code.
use Rattle.std.specs.Prelude.{ℕ, List}
use Rattle.suifvm_ir.specs.declared.insn.VmInsn.{VmInsn}
use Rattle.lowering_code.specs.declared.item.CodeItem.{CodeItem}
use Rattle.lowering_states.specs.Places.{CodePlace, At}

module _ (blocks : List (List VmInsn)) (last : ℕ) (end : List VmInsn) where
  -- the items stand at some place
  pub record Somewhere (heads : List ℕ) (is : List CodeItem) : Type 0 where
    pub place : CodePlace
    pub at : At blocks last end heads place is

  -- behind a piece of code stands what comes behind it
  abbrev pub IsLeft : (piece : List CodeItem → List CodeItem) → Type 0
  IsLeft piece = (heads : List ℕ) (rest : List CodeItem) → Somewhere heads (piece rest) → Somewhere heads rest
