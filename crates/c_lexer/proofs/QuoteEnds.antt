-- The closing quote, from a place on.
use Rattle.std.proofs.Common.{◌≡◌, ℕ, zero, suc, ◌+◌, ◌-◌, ◌<◌, ◌≤◌, List, [], ◌∷◌, length, get_or, drop, Option, Some, None, eqb, refl, sym, subst, ap, ◌∙◌, arith, drop-cons, drop-drop, eq-eqb, ne_eqb}
use Rattle.std.specs.Prelude.{option_map}
use Rattle.std.proofs.lemmas.List.{drop_all}
use Rattle.c_lexer.specs.Quotes.{quote_end, quote_end_step}
use Rattle.c_lexer.proofs.Options.{shifts}

plain : (o : Option ℕ) → o ≡ option_map (λ n. n + 0) o
plain None = refl
plain (Some n) = let e : n ≡ n + 0 = omega arith in ap Some e

quote_end_skip : (f : List ℕ → Option ℕ) (k : ℕ) (s : List ℕ) → quote_end f k s ≡ option_map (λ n. n + k) (quote_end f 0 (drop k s))
unfolding quote_end
quote_end_skip f zero s = plain (quote_end f 0 s)
quote_end_skip f (suc k) [] = refl
quote_end_skip f (suc k) (b ∷ s) = ap (option_map suc) (quote_end_skip f k s) ∙ shift_suc k (quote_end f 0 (drop k s))
  where
    shift_suc : (k : ℕ) (o : Option ℕ) → option_map suc (option_map (λ n. n + k) o) ≡ option_map (λ n. n + suc k) o
    shift_suc k None = refl
    shift_suc k (Some n) = let e : suc (n + k) ≡ n + suc k = omega arith in ap Some e

quote_end_at : (f : List ℕ → Option ℕ) (s : List ℕ) (at : ℕ) → at < length s
    → quote_end f 0 (drop at s) ≡ quote_end_step (eqb (get_or s at 0) 34) (f (drop at s)) (λ skip. quote_end f skip (drop (suc at) s))
unfolding quote_end
quote_end_at f s at h =
    let P : List ℕ → Type 0 = λ r. quote_end f 0 r ≡ quote_end_step (eqb (get_or s at 0) 34) (f r) (λ skip. quote_end f skip (drop (suc at) s)) in
    subst P (sym (drop-cons s at 0 h)) refl

pub quote_end_more : (f : List ℕ → Option ℕ) (s : List ℕ) (at n : ℕ) (o : Option ℕ) → at < length s → (get_or s at 0 ≡ 34 → ⊥) → f (drop at s) ≡ Some n → 0 < n
    → o ≡ option_map (λ m. m + at) (quote_end f 0 (drop at s)) → o ≡ option_map (λ m. m + (at + n)) (quote_end f 0 (drop (at + n) s))
quote_end_more f s at n o h other item some q =
    let there : suc at + (n - 1) ≡ at + n = omega arith in
    let size : suc (n - 1) + at ≡ at + n = omega arith in
    let next : quote_end f (n - 1) (drop (suc at) s) ≡ option_map (λ m. m + (n - 1)) (quote_end f 0 (drop (at + n) s)) =
    quote_end_skip f (n - 1) (drop (suc at) s) ∙ ap (λ r. option_map (λ m. m + (n - 1)) (quote_end f 0 r)) (drop-drop (n - 1) (suc at) s ∙ ap (λ i. drop i s) there) in
    q ∙ ap (option_map (λ m. m + at)) (quote_end_at f s at h ∙ rw (ne_eqb (get_or s at 0) 34 other, item) (ap (option_map suc) next)) ∙ shifts (quote_end f 0 (drop (at + n) s)) at (n - 1) (at + n) size

pub quote_end_found : (f : List ℕ → Option ℕ) (s : List ℕ) (at : ℕ) (o : Option ℕ) → at < length s → get_or s at 0 ≡ 34
    → o ≡ option_map (λ m. m + at) (quote_end f 0 (drop at s)) → Some (at + 1) ≡ o
quote_end_found f s at o h is q =
    let e : at + 1 ≡ 1 + at = omega arith in
    let one : quote_end f 0 (drop at s) ≡ Some 1 = quote_end_at f s at h ∙ rw (eq-eqb (get_or s at 0) 34 is) refl in
    ap Some e ∙ sym (q ∙ ap (option_map (λ m. m + at)) one)

pub quote_end_broken : (f : List ℕ → Option ℕ) (s : List ℕ) (at : ℕ) (o : Option ℕ) → at < length s → (get_or s at 0 ≡ 34 → ⊥) → f (drop at s) ≡ None
    → o ≡ option_map (λ m. m + at) (quote_end f 0 (drop at s)) → None ≡ o
quote_end_broken f s at o h other item q =
    let none : quote_end f 0 (drop at s) ≡ None = quote_end_at f s at h ∙ rw (ne_eqb (get_or s at 0) 34 other, item) refl in
    sym (q ∙ ap (option_map (λ m. m + at)) none)

pub quote_end_over : (f : List ℕ → Option ℕ) (s : List ℕ) (at : ℕ) (o : Option ℕ) → length s ≤ at → o ≡ option_map (λ m. m + at) (quote_end f 0 (drop at s)) → None ≡ o
unfolding quote_end
quote_end_over f s at o h q = sym (q ∙ ap (λ r. option_map (λ m. m + at) (quote_end f 0 r)) (drop_all at s h))

pub quote_end_start : (f : List ℕ → Option ℕ) (s : List ℕ) → quote_end f 0 s ≡ option_map (λ m. m + 0) (quote_end f 0 s)
quote_end_start f s = plain (quote_end f 0 s)
