-- A turn of the loop over the parts of a copy.
use Rattle.std.proofs.Common.{◌≡◌, ℕ, suc, ◌+◌, ◌-◌, ◌<◌, List, ◌++◌, ap, ◌∙◌, arith}
use Rattle.suifvm_ir.specs.declared.types.Alignment.{Alignment}
use Rattle.temp_ir.specs.declared.insn.TempInsn.{TempInsn}
use Rattle.selection_forms.specs.alpha_copies.Copies.{parts_items}

-- what was put, with the rest behind it, stays the whole
pub next_turn : (al : Alignment) (n k to from at to2 from2 at2 : ℕ) (xs ys : List TempInsn) → k < n →
    ((count : ℕ) → ys ++ parts_items al count to2 from2 at2 ≡ xs ++ parts_items al (suc count) to from at) →
    ys ++ parts_items al (n - (k + 1)) to2 from2 at2 ≡ xs ++ parts_items al (n - k) to from at
next_turn al n k to from at to2 from2 at2 xs ys lt put =
    let e : suc (n - (k + 1)) ≡ n - k = omega (arith, lt) in
    put (n - (k + 1)) ∙ ap (λ c. xs ++ parts_items al c to from at) e
