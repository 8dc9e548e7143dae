-- Which of the free registers is best for a temporary.
use Rattle.std.specs.Prelude.{ℕ, Bool, List, [], ◌∷◌, filter, Option, Some, None, if◌then◌else◌}
use Rattle.alloc_rules.specs.Visits.{is_better, best_among}
use Rattle.binpack_blocks.specs.declared.spans.FreeRegister.{FreeRegister}

-- the best of those that are free, for a part with a last point
unfoldable pub best_register : (last : ℕ) → (span : (register : ℕ) → Option ℕ) → (free : (register : ℕ) → Bool) → List ℕ → Option ℕ
best_register last span free registers = best_among last span (filter free registers)

-- ---- one register after the other

abbrev pub free_register : (span : (register : ℕ) → Option ℕ) → (r : ℕ) → FreeRegister
free_register span r = record { register = r; end = span r }

abbrev pub better : (last : ℕ) → Option FreeRegister → FreeRegister → FreeRegister
better last None f = f
better last (Some b) f = if is_better last f.end b.end then f else b

abbrev pub weighed : (last : ℕ) → (span : (register : ℕ) → Option ℕ) → (free : (register : ℕ) → Bool) → Option FreeRegister → (r : ℕ) → Option FreeRegister
weighed last span free best r = if free r then Some (better last best (free_register span r)) else best

unfoldable pub best_from : (last : ℕ) → (span : (register : ℕ) → Option ℕ) → (free : (register : ℕ) → Bool) → Option FreeRegister → List ℕ → Option FreeRegister
best_from last span free best [] = best
best_from last span free best (r ∷ rs) = best_from last span free (weighed last span free best r) rs
