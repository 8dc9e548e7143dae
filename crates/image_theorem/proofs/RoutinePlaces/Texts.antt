-- Texts that are joined: their sizes, their places and their instructions.
use Rattle.std.proofs.Common.{◌≡◌, ℕ, zero, suc, ◌+◌, ◌≤◌, Bool, List, [], ◌∷◌, ◌++◌, length, take, refl, sym, ap, ◌∙◌, arith, append_assoc}
use Rattle.std.specs.List.{sum}
use Rattle.alpha_items.specs.declared.item.AsmItem.{AsmItem}
use Rattle.alpha_items.specs.Layout.{item_words, sizes, text_words, item_place}
use Rattle.alpha_items.specs.Words.{item_insns, text_insns}
use Rattle.alpha_items.proofs.Sums.{sum-cons}

pub sizes-append : (xs ys : List AsmItem) (fs gs : List Bool) → length fs ≡ length xs → sizes (xs ++ ys) (fs ++ gs) ≡ sizes xs fs ++ sizes ys gs
sizes-append [] ys [] gs e = refl
sizes-append [] ys (f ∷ fs) gs e = absurd (omega (arith, e))
sizes-append (x ∷ xs) ys [] gs e = absurd (omega (arith, e))
sizes-append (x ∷ xs) ys (f ∷ fs) gs e = ap (λ l. item_words f x ∷ l) (sizes-append xs ys fs gs (omega (arith, e)))

pub sizes-count : (xs : List AsmItem) (fs : List Bool) → length fs ≡ length xs → length (sizes xs fs) ≡ length xs
sizes-count [] [] e = refl
sizes-count [] (f ∷ fs) e = refl
sizes-count (x ∷ xs) [] e = absurd (omega (arith, e))
sizes-count (x ∷ xs) (f ∷ fs) e = ap suc (sizes-count xs fs (omega (arith, e)))

-- the sum of a front that goes past the first list
take-second : (xs ys : List ℕ) (k : ℕ) → sum (take (length xs + k) (xs ++ ys)) ≡ sum xs + sum (take k ys)
take-second [] ys k = let e : 0 + k ≡ k = omega arith in let z : sum (take k ys) ≡ 0 + sum (take k ys) = omega arith in ap (λ n. sum (take n ys)) e ∙ z
take-second (x ∷ xs) ys k =
    let e : suc (length xs) + k ≡ suc (length xs + k) = omega arith in
    let first = sum-cons x (take (length xs + k) (xs ++ ys)) in
    let rest = take-second xs ys k in
    let whole = sum-cons x xs in
    ap (λ n. sum (take n (x ∷ (xs ++ ys)))) e ∙ omega (arith, first, rest, whole)

take-first : (xs ys : List ℕ) (k : ℕ) → k ≤ length xs → sum (take k (xs ++ ys)) ≡ sum (take k xs)
take-first xs ys zero le = refl
take-first [] ys (suc k) le = absurd (omega (arith, le))
take-first (x ∷ xs) ys (suc k) le =
    let here = sum-cons x (take k (xs ++ ys)) in
    let there = sum-cons x (take k xs) in
    let rest = take-first xs ys k (omega (arith, le)) in
    omega (arith, here, there, rest)

-- places in a second text, and in a first one
pub place-second : (xs ys : List AsmItem) (fs gs : List Bool) (k : ℕ) → length fs ≡ length xs → item_place (xs ++ ys) (fs ++ gs) (length xs + k) ≡ text_words xs fs + item_place ys gs k
place-second xs ys fs gs k e =
    let count = sizes-count xs fs e in
    ap (λ l. sum (take (length xs + k) l)) (sizes-append xs ys fs gs e)
    ∙ ap (λ n. sum (take (n + k) (sizes xs fs ++ sizes ys gs))) (sym count)
    ∙ take-second (sizes xs fs) (sizes ys gs) k

pub place-first : (xs ys : List AsmItem) (fs gs : List Bool) (k : ℕ) → length fs ≡ length xs → k ≤ length xs → item_place (xs ++ ys) (fs ++ gs) k ≡ item_place xs fs k
place-first xs ys fs gs k e le =
    let count = sizes-count xs fs e in
    ap (λ l. sum (take k l)) (sizes-append xs ys fs gs e) ∙ take-first (sizes xs fs) (sizes ys gs) k (omega (arith, count, le))

pub text-append : (there : ℕ → ℕ) (start here : ℕ) (xs ys : List AsmItem) (fs gs : List Bool) → length fs ≡ length xs → text_insns there start here (xs ++ ys) (fs ++ gs) ≡ text_insns there start here xs fs ++ text_insns there start (here + text_words xs fs) ys gs
text-append there start here [] ys [] gs e = let none : here ≡ here + 0 = omega arith in ap (λ n. text_insns there start n ys gs) none
text-append there start here [] ys (f ∷ fs) gs e = absurd (omega (arith, e))
text-append there start here (x ∷ xs) ys [] gs e = absurd (omega (arith, e))
text-append there start here (x ∷ xs) ys (f ∷ fs) gs e =
    let s = sum-cons (item_words f x) (sizes xs fs) in
    let sum : here + item_words f x + text_words xs fs ≡ here + text_words (x ∷ xs) (f ∷ fs) = omega (arith, s) in
    ap (λ l. item_insns there start here f x ++ l) (text-append there start (here + item_words f x) xs ys fs gs (omega (arith, e)))
    ∙ sym (append_assoc (item_insns there start here f x) (text_insns there start (here + item_words f x) xs fs) (text_insns there start (here + item_words f x + text_words xs fs) ys gs))
    ∙ ap (λ n. (item_insns there start here f x ++ text_insns there start (here + item_words f x) xs fs) ++ text_insns there start n ys gs) sum
