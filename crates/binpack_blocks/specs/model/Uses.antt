-- The points at which instructions name a register as fixed or end it, in linear order, of which some are passed.
use Rattle.std.specs.Prelude.{◌≡◌, ℕ, zero, suc, ◌*◌, ◌<◌, ◌≤◌, List, [], ◌∷◌, ◌++◌, slice_get, Some, if◌then◌else◌}
use Rattle.temp_ir.specs.declared.insn.TempInsn.{TempInsn}
use Rattle.alloc_rules.specs.Visits.{insn_fixes}

-- none of so many points is behind another one
abbrev pub ArePassed : List ℕ → (count point : ℕ) → Type 0
ArePassed points count point = (k p : ℕ) → k < count → slice_get points k ≡ Some p → p ≤ point

-- the uses of a register among so many instructions, each at the point at which its instruction reads
abbrev pub uses_among : (register : ℕ) → List TempInsn → (count : ℕ) → List ℕ
uses_among r insns zero = []
uses_among r insns (suc n) =
    if insn_fixes r (slice_get insns n) then uses_among r insns n ++ 2 * n ∷ [] else uses_among r insns n
