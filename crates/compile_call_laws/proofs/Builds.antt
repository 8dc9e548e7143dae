-- What `build` writes for a text that has a unit.
use Rattle.std.proofs.Common.{◌≡◌, ℕ, List, inl, inr, Some, refl, sym, subst}
use Rattle.c_typed_tree.specs.declared.units.TypedUnit.{TypedUnit}
use Rattle.compile_calls.specs.Built.{IsBuilt, HasBuilt}
use Rattle.compile_calls.proofs.Units.{OneTree, one_unit, right_for}
use Rattle.call_words.specs.declared.compile_options.Allocator.{Allocator}
use Rattle.compile_call_laws.specs.Laws.{HasUnit, WritesUnit, TextsWithAUnitAreNotRefused, BuildWritesWhatTheTextMeans}

-- what was made of a text that is told was made of this text
pub of_text : (text : List ℕ) (allocator : Allocator) (b : _) → HasBuilt (Some text) allocator b → IsBuilt text allocator b
of_text text allocator b has = subst (λ t. IsBuilt t allocator b) (sym has.is_told) has.is_built

-- and its unit is the text's
pub same_unit : OneTree → (text : List ℕ) (unit : TypedUnit) (allocator : Allocator) (b : _) → HasUnit text unit → IsBuilt text allocator b → b.typed.unit ≡ unit
same_unit one_tree text unit allocator b has is = one_unit one_tree text b.unit has.tree b.typed.unit unit is.made.front.is_unit has.is_unit.is_unit

pub writes : OneTree → TextsWithAUnitAreNotRefused → BuildWritesWhatTheTextMeans
writes one_tree not_refused text unit answer old new has builds = elim builds [
  | inl c ↦ elim (not_refused text unit answer has c.0) [
    | inl file ↦ WritesUnit.file_fault file c.1
    | inr memory ↦ WritesUnit.no_memory memory.0 c.1 memory.1
  ]
  | inr m ↦ elim m.2 [
    | inl none ↦ WritesUnit.no_memory none.0 none.1 (inl none.2)
    | inr puts ↦ WritesUnit.image m.0 puts.0 (right_for one_tree (Some text) m.0 text has.tree unit refl has.is_unit.is_unit m.1) puts.1
  ]
]
