-- What was read of texts holds bytes.
use Rattle.std.proofs.Common.{◌≡◌, ℕ, zero, suc, ◌+◌, ◌<◌, ◌≤◌, List, [], ◌∷◌, length, take, drop, get_or, All, arith, subst}
use Rattle.std.proofs.lemmas.List.{take_all}
use Rattle.std.proofs.lemmas.List.Elements.{All-more}
use Rattle.mem_model.specs.Bytes.{AreBytes}

-- what is left of a text, with one byte less
left_with : (text : List ℕ) (i b : ℕ) → i < length text → b ≡ get_or text i b → b < 256 → AreBytes (drop (suc i) text) → AreBytes (drop i text)
left_with [] i b within is small h = let no : ⊥ = omega arith in absurd no
left_with (x ∷ text) zero b within is small h = (subst (λ n. n < 256) is small, h)
left_with (x ∷ text) (suc i) b within is small h = left_with text i b (less i (length text) within) is small h
  where
    less : (i n : ℕ) → suc i < suc n → i < n
    less i n h = omega arith

pub one_less : (text : List ℕ) (i b : ℕ) → i < length text → b ≡ get_or text i b → b < 256 → (AreBytes (drop i text) → AreBytes text) → AreBytes (drop (i + 1) text) → AreBytes text
one_less text i b within is small whole h = whole (left_with text i b within is small (subst (λ n. AreBytes (drop n text)) (next i) h))
  where
    next : (i : ℕ) → i + 1 ≡ suc i
    next i = omega arith

-- nothing is left
pub none_left : (text : List ℕ) (i : ℕ) → length text ≤ i → AreBytes (drop i text)
none_left [] zero past = tt
none_left [] (suc i) past = tt
none_left (x ∷ text) zero past = let no : ⊥ = omega arith in absurd no
none_left (x ∷ text) (suc i) past = none_left text i (less (length text) i past)
  where
    less : (n i : ℕ) → suc n ≤ suc i → n ≤ i
    less n i h = omega arith

pub one_more : (texts : List (List ℕ)) (i : ℕ) (text : List ℕ) → i < length texts → text ≡ get_or texts i text → All AreBytes (take i texts) → AreBytes text → All AreBytes (take (i + 1) texts)
one_more texts i text within is all holds = All-more AreBytes texts i text within all (subst AreBytes is holds)

pub all_read : (texts : List (List ℕ)) (i : ℕ) → length texts ≤ i → All AreBytes (take i texts) → All AreBytes texts
all_read texts i past all = subst (All AreBytes) (take_all i texts past) all
