-- Allocations of functions, one for each.
use Rattle.std.proofs.Common.{◌≡◌, ℕ, zero, suc, ◌+◌, ◌<◌, ◌≤◌, List, [], ◌∷◌, ◌++◌, length, take, get_or, subst, arith}
use Rattle.std.specs.Prelude.{All, IsTrue}
use Rattle.std.specs.List.{AllZip}
use Rattle.std.proofs.lemmas.List.{take_all}
use Rattle.temp_ir.specs.declared.program.TempProgram.{TempProgram}
use Rattle.temp_ir.specs.Fixed.{is_settled}
use Rattle.temp_ir.specs.Programs.{TempFn}
use Rattle.alloc_model.specs.declared.allocation.Allocation.{Allocation}
use Rattle.alloc_rules.specs.Allocations.{IsAllocationOf, AreAllocationsOf}

pub all_settled : (program : TempProgram) → All (λ (f : TempFn). IsTrue (is_settled f.params f.blocks)) program.functions
all_settled program = λ k d lt. (program.functions_lawful k d lt).settled

-- what an allocator gives are allocations
pub are_allocations : (gives : TempFn → Allocation → Type 0) → ((f : TempFn) (a : Allocation) → gives f a → IsAllocationOf f a) → (fs : List TempFn) (allocations : List Allocation) → AllZip gives fs allocations → AreAllocationsOf fs allocations
are_allocations gives lawful [] [] h = tt
are_allocations gives lawful [] (a ∷ allocations) h = absurd h
are_allocations gives lawful (f ∷ fs) [] h = absurd h
are_allocations gives lawful (f ∷ fs) (a ∷ allocations) h = (lawful f a h.0, are_allocations gives lawful fs allocations h.1)

-- ---- one more function with its allocation, and the last one

one-more : {A B : Type 0} (R : A → B → Type 0) (xs : List A) (ys : List B) (i : ℕ) (x : A) (y : B) → i < length xs → x ≡ get_or xs i x → AllZip R (take i xs) ys → R x y → AllZip R (take (suc i) xs) (ys ++ y ∷ [])
one-more R [] ys i x y lt is h new = absurd (omega (arith, lt))
one-more R (a ∷ xs) [] zero x y lt is h new = (subst (λ z. R z y) is new, tt)
one-more R (a ∷ xs) (b ∷ ys) zero x y lt is h new = absurd h
one-more R (a ∷ xs) [] (suc i) x y lt is h new = absurd h
one-more R (a ∷ xs) (b ∷ ys) (suc i) x y lt is h new = (h.0, one-more R xs ys i x y (omega (arith, lt)) is h.1 new)

pub functions_next : (gives : TempFn → Allocation → Type 0) (fs : List TempFn) (allocations : List Allocation) (i : ℕ) (f : TempFn) (a : Allocation) → i < length fs → f ≡ get_or fs i f → AllZip gives (take i fs) allocations → gives f a → AllZip gives (take (i + 1) fs) (allocations ++ a ∷ [])
functions_next gives fs allocations i f a lt is h new =
    let next : suc i ≡ i + 1 = omega arith in
    subst (λ n. AllZip gives (take n fs) (allocations ++ a ∷ [])) next (one-more gives fs allocations i f a lt is h new)

pub functions_end : (gives : TempFn → Allocation → Type 0) (fs : List TempFn) (allocations : List Allocation) (i : ℕ) → length fs ≤ i → AllZip gives (take i fs) allocations → AllZip gives fs allocations
functions_end gives fs allocations i past h = subst (λ gs. AllZip gives gs allocations) (take_all i fs past) h
