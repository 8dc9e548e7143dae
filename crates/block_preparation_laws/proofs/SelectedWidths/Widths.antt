-- The widths of instructions over temporaries, and the argument places that bare ones write.
use Rattle.std.proofs.Common.{◌≡◌, ℕ, ◌≤◌, List, [], ◌∷◌, ◌++◌, true, refl, arith}
use Rattle.std.specs.Prelude.{All, max}
use Rattle.std.proofs.lemmas.Bool.{false≢true}
use Rattle.std.proofs.lemmas.List.Elements.{All-head, All-tail}
use Rattle.temp_ir.specs.declared.insn.TempInsn.{TempInsn}
use Rattle.temp_ir.specs.declared.insn.TempInsn.TheVariants as i
use Rattle.alloc_model.specs.Effect.{width_of, widest_in, widest_call}
use Rattle.block_pass_laws.specs.temp_walk_laws.SameRuns.{WritesWithin}
use Rattle.selection_bounds.proofs.SelectionShapes.Plain.{is_bare}

pub widest_append : (xs ys : List TempInsn) → widest_in (xs ++ ys) ≡ max (widest_in xs) (widest_in ys)
widest_append [] ys = omega arith
widest_append (z ∷ xs) ys = omega (arith, widest_append xs ys)

-- an instruction of which each call gives so many arguments at most
abbrev pub IsNarrow : ℕ → TempInsn → Type 0
IsNarrow most z = width_of z ≤ most

widest_below : (most : ℕ) (xs : List TempInsn) → All (IsNarrow most) xs → widest_in xs ≤ most
widest_below most [] h = omega arith
widest_below most (z ∷ xs) h =
    omega (arith, All-head (IsNarrow most) z xs h, widest_below most xs (All-tail (IsNarrow most) z xs h))

pub calls_below : (most : ℕ) (blocks : List (List TempInsn)) → All (All (IsNarrow most)) blocks → widest_call blocks ≤ most
calls_below most [] h = omega arith
calls_below most (block ∷ blocks) h =
    omega (
      arith,
      widest_below most block (All-head (All (IsNarrow most)) block blocks h),
      calls_below most blocks (All-tail (All (IsNarrow most)) block blocks h),
    )

-- ---- bare instructions

pub bare_width : (z : TempInsn) → is_bare z ≡ true → width_of z ≡ 0
bare_width (i.Call function arguments) e = absurd (false≢true e)
bare_width z e = refl

pub bare_within : (w : ℕ) (z : TempInsn) → is_bare z ≡ true → WritesWithin w z
bare_within w (i.WriteArgument number source) e = absurd (false≢true e)
bare_within w z e = tt
