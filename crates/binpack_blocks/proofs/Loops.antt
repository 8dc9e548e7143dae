-- What is said of what is left of a list.
use Rattle.std.proofs.Common.{◌≡◌, ◌≢◌, ℕ, ◌+◌, ◌<◌, ◌≤◌, ◌==◌, ◌||◌, true, false, List, sym, ap, ◌∙◌, length, drop, get_or}
use Rattle.std.proofs.lemmas.Bool.{ne_eqb, eq-eqb}
use Rattle.std.proofs.lemmas.List.{at_drop_more, at_drop_all}
use Rattle.temp_ir.specs.Fixed.{has_number}

pub has_next : (xs : List ℕ) (i x r : ℕ) → x ≡ get_or xs i x → i < length xs → x ≢ r → has_number (drop i xs) r ≡ has_number (drop (i + 1) xs) r
has_next xs i x r is within ne =
    at_drop_more (λ ys. has_number ys r) xs i x within
    ∙ ap (λ y. (y == r) || has_number (drop (i + 1) xs) r) (sym is)
    ∙ ap (λ b. b || has_number (drop (i + 1) xs) r) (ne_eqb x r ne)

pub has_found : (xs : List ℕ) (i x r : ℕ) → x ≡ get_or xs i x → i < length xs → x ≡ r → has_number (drop i xs) r ≡ true
has_found xs i x r is within e =
    at_drop_more (λ ys. has_number ys r) xs i x within
    ∙ ap (λ y. (y == r) || has_number (drop (i + 1) xs) r) (sym is)
    ∙ ap (λ b. b || has_number (drop (i + 1) xs) r) (eq-eqb x r e)

pub has_end : (xs : List ℕ) (i r : ℕ) → length xs ≤ i → has_number (drop i xs) r ≡ false
has_end xs i r past = at_drop_all (λ ys. has_number ys r) xs i past
