-- What stands in lists at a number.
use Rattle.std.proofs.Common.{◌≡◌, ℕ, zero, suc, ◌+◌, ◌<◌, ◌≤◌, List, [], ◌∷◌, Some, None, length, take, drop, map, refl, sym, ap, ◌∙◌, subst, arith}
use Rattle.std.specs.Prelude.{slice_get, max}
use Rattle.std.proofs.lemmas.List.Sums.{sum_by-cons}
use Rattle.pass_core.specs.Functions.{count_of, insn_in, insn_at}
use Rattle.temp_ir.specs.declared.insn.TempInsn.{TempInsn}
use Rattle.alloc_model.specs.Effect.{width_of, widest_in, widest_call}

pub drop-some : {X : Type 0} (xs : List X) (k : ℕ) (x : X) → slice_get xs k ≡ Some x → drop k xs ≡ x ∷ drop (suc k) xs
drop-some [] k x e = absurd (cc)
drop-some (y ∷ xs) zero x e = let is : y ≡ x = cc in ap (λ z. z ∷ xs) is
drop-some (y ∷ xs) (suc k) x e = drop-some xs k x e

pub drop-none : {X : Type 0} (xs : List X) (k : ℕ) → slice_get xs k ≡ None → drop k xs ≡ []
drop-none [] zero e = refl
drop-none [] (suc k) e = refl
drop-none (y ∷ xs) zero e = absurd (cc)
drop-none (y ∷ xs) (suc k) e = drop-none xs k e

pub get-below : {X : Type 0} (xs : List X) (k : ℕ) (x : X) → slice_get xs k ≡ Some x → k < length xs
get-below [] k x e = absurd (cc)
get-below (y ∷ xs) zero x e = omega arith
get-below (y ∷ xs) (suc k) x e = let h = get-below xs k x e in omega (arith, h)

-- what stands at a number that is in the list
pub record Stands {X : Type 0} (xs : List X) (k : ℕ) : Type 0 where
  pub one : X
  pub is : slice_get xs k ≡ Some one

pub stands-at : {X : Type 0} (xs : List X) (k : ℕ) → k < length xs → Stands xs k
stands-at [] k lt = absurd (omega (arith, lt))
stands-at (x ∷ xs) zero lt = record { one = x; is = refl }
stands-at (x ∷ xs) (suc k) lt = let h = stands-at xs k (omega (arith, lt)) in record { one = h.one; is = h.is }

pub none-stands : {X : Type 0} (k : ℕ) (x : X) → slice_get [] k ≡ Some x → ⊥
none-stands k x e = cc

pub one-stands : {X : Type 0} (y : X) (k : ℕ) (x : X) → slice_get (y ∷ []) k ≡ Some x → y ≡ x
one-stands y zero x e = cc
one-stands y (suc k) x e = absurd (none-stands k x e)

pub get-map : {X Y : Type 0} (f : X → Y) (xs : List X) (k : ℕ) (x : X) → slice_get xs k ≡ Some x → slice_get (map f xs) k ≡ Some (f x)
get-map f [] k x e = absurd (cc)
get-map f (y ∷ xs) zero x e = let is : y ≡ x = cc in ap (λ z. Some (f z)) is
get-map f (y ∷ xs) (suc k) x e = get-map f xs k x e

-- behind a block stand as many instructions more as it has
pub count-cons : (insns : List TempInsn) (blocks : List (List TempInsn)) → count_of (insns ∷ blocks) ≡ length insns + count_of blocks
count-cons insns blocks = sum_by-cons (λ (x : List TempInsn). length x) insns blocks

pub count-behind : (blocks : List (List TempInsn)) (k : ℕ) (insns : List TempInsn) → slice_get blocks k ≡ Some insns → count_of (take (suc k) blocks) ≡ count_of (take k blocks) + length insns
count-behind [] k insns e = absurd (cc)
count-behind (b ∷ blocks) zero insns e =
    let is : b ≡ insns = cc in
    count-cons b [] ∙ (let sum : length b + 0 ≡ 0 + length b = omega arith in sum) ∙ ap (λ (z : List TempInsn). 0 + length z) is
count-behind (b ∷ blocks) (suc k) insns e =
    let h = count-behind blocks k insns e in
    count-cons b (take (suc k) blocks) ∙ ap (λ n. length b + n) h
    ∙ (let sum : length b + (count_of (take k blocks) + length insns) ≡ length b + count_of (take k blocks) + length insns = omega arith in sum)
    ∙ ap (λ n. n + length insns) (sym (count-cons b (take k blocks)))

pub insn-is : (blocks : List (List TempInsn)) (block at : ℕ) (insns : List TempInsn) (x : TempInsn) → slice_get blocks block ≡ Some insns → slice_get insns at ≡ Some x → insn_at blocks block at ≡ Some x
insn-is blocks block at insns x there e = ap (λ o. insn_in o at) there ∙ e

-- no call is wider than the widest one
widest-here : (insns : List TempInsn) (at : ℕ) (x : TempInsn) → slice_get insns at ≡ Some x → width_of x ≤ widest_in insns
widest-here [] at x e = absurd (cc)
widest-here (y ∷ insns) zero x e =
    let is : y ≡ x = cc in
    subst (λ z. width_of z ≤ max (width_of y) (widest_in insns)) is (omega arith)
widest-here (y ∷ insns) (suc at) x e = let h = widest-here insns at x e in omega (arith, h)

pub width-fits : (blocks : List (List TempInsn)) (block at : ℕ) (insns : List TempInsn) (x : TempInsn) → slice_get blocks block ≡ Some insns → slice_get insns at ≡ Some x → width_of x ≤ widest_call blocks
width-fits [] block at insns x there e = absurd (cc)
width-fits (b ∷ blocks) zero at insns x there e =
    let is : b ≡ insns = cc in
    let h = widest-here insns at x e in
    subst (λ z. width_of x ≤ max (widest_in z) (widest_call blocks)) (sym is) (omega (arith, h))
width-fits (b ∷ blocks) (suc block) at insns x there e = let h = width-fits blocks block at insns x there e in omega (arith, h)
