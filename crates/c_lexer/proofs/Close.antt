-- The first end of a comment, from a place on.
use Rattle.std.proofs.Common.{◌≡◌, ℕ, zero, suc, ◌+◌, ◌<◌, ◌≤◌, true, false, cond, List, [], ◌∷◌, length, get_or, drop, Option, Some, None, refl, sym, subst, ap, ◌∙◌, arith}
use Rattle.std.specs.Prelude.{option_map}
use Rattle.c_lexer.specs.Blanks.{close_at, ends}
use Rattle.c_lexer.proofs.Options.{option_map-suc}

close_step : (s : List ℕ) (i : ℕ) → suc i < length s
    → close_at (drop i s) ≡ cond (ends (get_or s i 0) (get_or s (suc i) 0)) (Some 2) (option_map suc (close_at (drop (suc i) s)))
unfolding close_at
close_step [] i h = absurd (omega arith)
close_step (a ∷ []) i h = absurd (omega arith)
close_step (a ∷ b ∷ s) zero h = refl
close_step (a ∷ b ∷ s) (suc i) h = close_step (b ∷ s) i (omega arith)

pub close_over : (s : List ℕ) (i : ℕ) → length s ≤ suc i → close_at (drop i s) ≡ None
unfolding close_at
close_over [] zero h = refl
close_over [] (suc i) h = refl
close_over (a ∷ []) zero h = refl
close_over (a ∷ []) (suc i) h = close_over [] i (omega arith)
close_over (a ∷ b ∷ s) zero h = absurd (omega arith)
close_over (a ∷ b ∷ s) (suc i) h = close_over (b ∷ s) i (omega arith)

pub close_more : (s : List ℕ) (i j : ℕ) (o : Option ℕ) → suc j ≡ i → i < length s → ends (get_or s j 0) (get_or s i 0) ≡ false
    → o ≡ option_map (λ n. n + j) (close_at (drop j s)) → o ≡ option_map (λ n. n + i) (close_at (drop i s))
close_more s i j o e h other q =
    let P : ℕ → Type 0 = λ i. i < length s → ends (get_or s j 0) (get_or s i 0) ≡ false → o ≡ option_map (λ n. n + i) (close_at (drop i s)) in
    let f : P (suc j) = λ lt no. q ∙ ap (option_map (λ n. n + j)) (close_step s j lt) ∙ rw no (option_map-suc j (close_at (drop (suc j) s))) in
    subst P e f h other

pub close_found : (s : List ℕ) (i j : ℕ) (o : Option ℕ) → suc j ≡ i → i < length s → ends (get_or s j 0) (get_or s i 0) ≡ true
    → o ≡ option_map (λ n. n + j) (close_at (drop j s)) → Some (i + 1) ≡ o
close_found s i j o e h is q =
    let P : ℕ → Type 0 = λ i. i < length s → ends (get_or s j 0) (get_or s i 0) ≡ true → Some (i + 1) ≡ o in
    let f : P (suc j) = λ lt yes. let two : suc j + 1 ≡ 2 + j = omega arith in ap Some two ∙ sym (q ∙ ap (option_map (λ n. n + j)) (close_step s j lt) ∙ rw yes refl) in
    subst P e f h is
