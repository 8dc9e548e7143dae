-- One set from others.
use Rattle.std.proofs.Common.{◌≡◌, ℕ, ◌+◌, ◌<◌, ◌≤◌, ◌||◌, Bool, true, false, List, [], ◌∷◌, ◌++◌, refl, sym, ap, ◌∙◌, length, get_or, take, drop, replicate, arith}
use Rattle.std.proofs.lemmas.List.{replicate_more, get_or_past, take_more, take-append-le, take_all}
use Rattle.std.proofs.lemmas.List.Folds.{list_any-append}
use Rattle.bk_bits.specs.Sets.{has}
use Rattle.bitvector_flow.specs.Flows.{has_at}
use Rattle.bitvector_flow.specs.model.Rounds.{any_has}

pub one_more : (sets : List (List Bool)) (count bound : ℕ) → sets ≡ replicate count (replicate bound false) →
    sets ++ replicate bound false ∷ [] ≡ replicate (count + 1) (replicate bound false)
one_more sets count bound e = ap (λ s. s ++ replicate bound false ∷ []) e ∙ replicate_more count (replicate bound false)

-- nothing is in a set that is not there
pub none_past : (sets : List (List Bool)) (block k : ℕ) → length sets ≤ block → has_at sets block k ≡ false
none_past sets block k past = ap (λ s. has s k) (get_or_past sets block [] past) ∙ get_or_past [] k false (omega arith)

pub or_false : (b : Bool) → b ≡ (b || false)
or_false true = refl
or_false false = refl

or_assoc : (a b c : Bool) → ((a || b) || c) ≡ (a || (b || c))
or_assoc true b c = refl
or_assoc false b c = refl

-- one number more
pub any_more : (sets : List (List Bool)) (numbers : List ℕ) (i k : ℕ) (b : Bool) → i < length numbers →
    ((b || any_has sets (take i numbers) k) || has_at sets (get_or numbers i 0) k) ≡ (b || any_has sets (take (i + 1) numbers) k)
any_more sets numbers i k b within =
    or_assoc b (any_has sets (take i numbers) k) (has_at sets (get_or numbers i 0) k)
    ∙ ap (λ c. b || c) (
    ap (λ c. any_has sets (take i numbers) k || c) (or_false (has_at sets (get_or numbers i 0) k))
    ∙ sym (list_any-append (λ block. has_at sets block k) (take i numbers) (get_or numbers i 0 ∷ []))
    ∙ ap (λ xs. any_has sets xs k) (sym (take_more numbers i 0 within)))

-- what was written through a slice of a whole vector
pub written_back : {A : Type 0} (new old : List A) (n : ℕ) → n ≡ length old → length new ≡ length old → take n (new ++ drop (length new) old) ≡ new
written_back new old n size same = take-append-le n new (drop (length new) old) (omega (arith, size, same)) ∙ take_all n new (omega (arith, size, same))
