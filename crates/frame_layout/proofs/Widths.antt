-- One more instruction, and one more block.
use Rattle.std.proofs.Common.{◌≡◌, ℕ, zero, suc, ◌+◌, ◌<◌, max, List, [], ◌∷◌, length, get_or, drop, ap, sym, arith}
use Rattle.temp_ir.specs.declared.insn.TempInsn.{TempInsn}
use Rattle.alloc_model.specs.Effect.{width_of, widest_in, widest_call}

widest-at : (xs : List TempInsn) (k : ℕ) (x : TempInsn) → k < length xs → x ≡ get_or xs k x → widest_in (drop k xs) ≡ max (width_of x) (widest_in (drop (suc k) xs))
widest-at [] k x lt is = absurd (omega (arith, lt))
widest-at (y ∷ xs) zero x lt is = ap (λ z. max (width_of z) (widest_in xs)) (sym is)
widest-at (y ∷ xs) (suc k) x lt is = widest-at xs k x (omega (arith, lt)) is

pub widest_next : (acc : ℕ) (xs : List TempInsn) (k next : ℕ) (x : TempInsn) → next ≡ k + 1 → k < length xs → x ≡ get_or xs k x
    → max (max acc (width_of x)) (widest_in (drop next xs)) ≡ max acc (widest_in (drop k xs))
widest_next acc xs k next x n lt is =
    let e : next ≡ suc k = omega (arith, n) in
    let a = widest-at xs k x lt is in
    let b : widest_in (drop next xs) ≡ widest_in (drop (suc k) xs) = ap (λ j. widest_in (drop j xs)) e in
    omega (arith, a, b)

call-at : (xs : List (List TempInsn)) (k : ℕ) (x : List TempInsn) → k < length xs → x ≡ get_or xs k x → widest_call (drop k xs) ≡ max (widest_in x) (widest_call (drop (suc k) xs))
call-at [] k x lt is = absurd (omega (arith, lt))
call-at (y ∷ xs) zero x lt is = ap (λ z. max (widest_in z) (widest_call xs)) (sym is)
call-at (y ∷ xs) (suc k) x lt is = call-at xs k x (omega (arith, lt)) is

pub call_next : (acc : ℕ) (xs : List (List TempInsn)) (k next : ℕ) (x : List TempInsn) → next ≡ k + 1 → k < length xs → x ≡ get_or xs k x
    → max (max acc (widest_in x)) (widest_call (drop next xs)) ≡ max acc (widest_call (drop k xs))
call_next acc xs k next x n lt is =
    let e : next ≡ suc k = omega (arith, n) in
    let a = call-at xs k x lt is in
    let b : widest_call (drop next xs) ≡ widest_call (drop (suc k) xs) = ap (λ j. widest_call (drop j xs)) e in
    omega (arith, a, b)
