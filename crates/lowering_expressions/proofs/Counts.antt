-- How many of the locals before each are objects.
use Rattle.std.proofs.Common.{◌≡◌, ◌<◌, ℕ, zero, suc, ◌+◌, min, Bool, true, false, cond, List, [], ◌∷◌, ◌++◌, length, get_or, count_by, ap, sym, ◌∙◌, arith}
use Rattle.std.proofs.lemmas.List.{take_min}
use Rattle.std.proofs.lemmas.List.Sums.{count_by_more_yes, count_by_more_no}
use Rattle.c_typed_tree.specs.declared.units.Local.{Local}
use Rattle.lowering_code.specs.Registers.{object_index}

-- one more behind a list, as a function with what it is before, at and past the end
pub pushed : (f : ℕ → ℕ) (os : List ℕ) (c new : ℕ) → ((k : ℕ) → k < length os → get_or os k c ≡ f k) → c ≡ f (length os) → ((k : ℕ) → length os < k → new ≡ f k)
    → (k : ℕ) → get_or (os ++ c ∷ []) k new ≡ f k
pushed f [] c new before at past zero = at
pushed f [] c new before at past (suc k) = past (suc k) (omega arith)
pushed f (o ∷ os) c new before at past zero = before zero (omega arith)
pushed f (o ∷ os) c new before at past (suc k) =
    pushed (λ j. f (suc j)) os c new (λ j lt. before (suc j) (omega (arith, lt))) at (λ j lt. past (suc j) (omega (arith, lt))) k

-- with one more local
pub object_more : (ls : List Local) (i : ℕ) (l : Local) (b : Bool) → i < length ls → l ≡ get_or ls i l → l.in_memory ≡ b → object_index ls (i + 1) ≡ object_index ls i + cond b 1 0
object_more ls i l true lt is e = count_by_more_yes (λ x. x.in_memory) ls i l lt (ap (λ x. x.in_memory) (sym is) ∙ e)
object_more ls i l false lt is e = count_by_more_no (λ x. x.in_memory) ls i l lt (ap (λ x. x.in_memory) (sym is) ∙ e) ∙ omega arith

pub counted_objects : (ls : List Local) (os : List ℕ) (i c new : ℕ) → length os ≡ i → c ≡ object_index ls i → new ≡ object_index ls (i + 1)
    → ((k : ℕ) → get_or os k c ≡ object_index ls (min k i)) → (k : ℕ) → get_or (os ++ c ∷ []) k new ≡ object_index ls (min k (i + 1))
counted_objects ls os i c new size is next so_far =
    let before : (k : ℕ) → k < length os → min k i ≡ min k (i + 1) = λ k lt. omega (arith, lt, size) in
    let at : i ≡ min (length os) (i + 1) = omega (arith, size) in
    let past : (k : ℕ) → length os < k → i + 1 ≡ min k (i + 1) = λ k lt. omega (arith, lt, size) in
    pushed (λ k. object_index ls (min k (i + 1))) os c new
    (λ k lt. so_far k ∙ ap (λ n. object_index ls n) (before k lt))
    (is ∙ ap (λ n. object_index ls n) at)
    (λ k lt. next ∙ ap (λ n. object_index ls n) (past k lt))

pub counted_none : (ls : List Local) (k : ℕ) → get_or {A = ℕ} [] k 0 ≡ object_index ls (min k 0)
counted_none ls k =
    let e : 0 ≡ min k 0 = omega arith in
    ap (λ n. object_index ls n) e

pub counted_all : (ls : List Local) (f : ℕ → ℕ) (i : ℕ) → i ≡ length ls → ((k : ℕ) → f k ≡ object_index ls (min k i)) → (k : ℕ) → f k ≡ object_index ls k
counted_all ls f i all h k = h k ∙ ap (λ n. object_index ls (min k n)) all ∙ ap (λ xs. count_by (λ x. x.in_memory) xs) (take_min k ls)
