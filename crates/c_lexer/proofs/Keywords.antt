-- A keyword is found among those that begin as the word does.
use Rattle.std.proofs.Common.{◌≡◌, ◌<◌, ◌≤◌, ℕ, length, arith, Bool, true, false, ◌&&◌, ◌==◌, List, [], ◌∷◌, None, refl, sym, subst}
use Rattle.std.specs.Prelude.{⊤, find, slice_index_or}
use Rattle.std.specs.Str.{bytes_eq}
use Rattle.std.proofs.lemmas.Bool.{eqb-true}
use Rattle.c_lexer.specs.declared.token.Keyword.{Keyword}
use Rattle.c_lexer.specs.declared.token.Keyword.TheVariants as w
use Rattle.c_lexer.specs.Words.{spelling, keywords, keyword_of}
use Rattle.c_lexer.specs.model.Keywords.{keywords_with}
use Rattle.c_lexer.proofs.Options.{by_test}

-- these keywords give of the word what all give of it
FindAll : List ℕ → List Keyword → ℕ → Type 0
FindAll s ks a = find (λ k. bytes_eq (a ∷ s) (spelling k)) ks ≡ keyword_of (a ∷ s)

where_same : (a n : ℕ) (s : List ℕ) (ks : List Keyword) → FindAll s ks n → (a == n) ≡ true → FindAll s ks a
where_same a n s ks f e = subst (FindAll s ks) (sym (eqb-true a n e)) f

NonePass : (Keyword → Bool) → List Keyword → Type 0
NonePass test [] = ⊤
NonePass test (k ∷ ks) = (test k ≡ false) × NonePass test ks

none_found : (test : Keyword → Bool) (ks : List Keyword) → NonePass test ks → find test ks ≡ None
unfolding NonePass
none_found test [] all = refl
none_found test (k ∷ ks) all = let e = all.0 in let f = none_found test ks all.1 in cc

other : (b t : Bool) → b ≡ false → (b && t) ≡ false
other true t e = cc
other false t e = refl

-- a word that begins as no keyword does is none
with_none : (a : ℕ) (s : List ℕ)
    → (a == 97) ≡ false → (a == 98) ≡ false → (a == 99) ≡ false → (a == 100) ≡ false → (a == 101) ≡ false → (a == 102) ≡ false
    → (a == 103) ≡ false → (a == 105) ≡ false → (a == 108) ≡ false → (a == 114) ≡ false → (a == 115) ≡ false → (a == 116) ≡ false
    → (a == 117) ≡ false → (a == 118) ≡ false → (a == 119) ≡ false → (a == 95) ≡ false
    → FindAll s [] a
unfolding FindAll NonePass spelling keywords keyword_of
with_none a s n97 n98 n99 n100 n101 n102 n103 n105 n108 n114 n115 n116 n117 n118 n119 n95 =
    sym (none_found (λ k. bytes_eq (a ∷ s) (spelling k)) keywords (
      other _ _ n97,
      (
        other _ _ n98,
        (
          other _ _ n99,
          (
            other _ _ n99,
            (
              other _ _ n99,
              (
                other _ _ n99,
                (
                  other _ _ n100,
                  (
                    other _ _ n100,
                    (
                      other _ _ n100,
                      (
                        other _ _ n101,
                        (
                          other _ _ n101,
                          (
                            other _ _ n101,
                            (
                              other _ _ n102,
                              (
                                other _ _ n102,
                                (
                                  other _ _ n103,
                                  (
                                    other _ _ n105,
                                    (
                                      other _ _ n105,
                                      (
                                        other _ _ n105,
                                        (
                                          other _ _ n108,
                                          (
                                            other _ _ n114,
                                            (
                                              other _ _ n114,
                                              (
                                                other _ _ n114,
                                                (
                                                  other _ _ n115,
                                                  (
                                                    other _ _ n115,
                                                    (
                                                      other _ _ n115,
                                                      (
                                                        other _ _ n115,
                                                        (
                                                          other _ _ n115,
                                                          (
                                                            other _ _ n115,
                                                            (
                                                              other _ _ n116,
                                                              (
                                                                other _ _ n117,
                                                                (
                                                                  other _ _ n117,
                                                                  (
                                                                    other _ _ n118,
                                                                    (
                                                                      other _ _ n118,
                                                                      (
                                                                        other _ _ n119,
                                                                        (other _ _ n95, (other _ _ n95, (other _ _ n95, tt))),
                                                                      ),
                                                                    ),
                                                                  ),
                                                                ),
                                                              ),
                                                            ),
                                                          ),
                                                        ),
                                                      ),
                                                    ),
                                                  ),
                                                ),
                                              ),
                                            ),
                                          ),
                                        ),
                                      ),
                                    ),
                                  ),
                                ),
                              ),
                            ),
                          ),
                        ),
                      ),
                    ),
                  ),
                ),
              ),
            ),
          ),
        ),
      ),
    ))

-- the letters in the order of `keywords_with`
found : (a : ℕ) (s : List ℕ) → FindAll s (keywords_with a) a
unfolding FindAll keywords_with spelling keywords keyword_of
found a s =
    let P : List Keyword → Type 0 = λ ks. FindAll s ks a in
    by_test P (a == 97) _ _ (where_same a 97 s (w.Auto ∷ []) refl) (λ n97.
    by_test P (a == 98) _ _ (where_same a 98 s (w.Break ∷ []) refl) (λ n98.
    by_test P (a == 99) _ _ (where_same a 99 s (w.Case ∷ w.Char ∷ w.Const ∷ w.Continue ∷ []) refl) (λ n99.
    by_test P (a == 100) _ _ (where_same a 100 s (w.Default ∷ w.Do ∷ w.Double ∷ []) refl) (λ n100.
    by_test P (a == 101) _ _ (where_same a 101 s (w.Else ∷ w.Enum ∷ w.Extern ∷ []) refl) (λ n101.
    by_test P (a == 102) _ _ (where_same a 102 s (w.Float ∷ w.For ∷ []) refl) (λ n102.
    by_test P (a == 103) _ _ (where_same a 103 s (w.Goto ∷ []) refl) (λ n103.
    by_test P (a == 105) _ _ (where_same a 105 s (w.If ∷ w.Inline ∷ w.Int ∷ []) refl) (λ n105.
    by_test P (a == 108) _ _ (where_same a 108 s (w.Long ∷ []) refl) (λ n108.
    by_test P (a == 114) _ _ (where_same a 114 s (w.Register ∷ w.Restrict ∷ w.Return ∷ []) refl) (λ n114.
    by_test P (a == 115) _ _ (where_same a 115 s (w.Short ∷ w.Signed ∷ w.Sizeof ∷ w.Static ∷ w.Struct ∷ w.Switch ∷ []) refl) (λ n115.
    by_test P (a == 116) _ _ (where_same a 116 s (w.Typedef ∷ []) refl) (λ n116.
    by_test P (a == 117) _ _ (where_same a 117 s (w.Union ∷ w.Unsigned ∷ []) refl) (λ n117.
    by_test P (a == 118) _ _ (where_same a 118 s (w.Void ∷ w.Volatile ∷ []) refl) (λ n118.
    by_test P (a == 119) _ _ (where_same a 119 s (w.While ∷ []) refl) (λ n119.
    by_test P (a == 95) _ _ (where_same a 95 s (w.Bool ∷ w.Complex ∷ w.Imaginary ∷ []) refl) (λ n95.
    with_none a s n97 n98 n99 n100 n101 n102 n103 n105 n108 n114 n115 n116 n117 n118 n119 n95))))))))))))))))

pub found_by_first : (s : List ℕ) (d : ℕ) → 1 ≤ length s →
    find (λ k. bytes_eq s (spelling k)) (keywords_with (slice_index_or s 0 d)) ≡ keyword_of s
unfolding FindAll
found_by_first [] d h = absurd (omega (h, arith))
found_by_first (a ∷ s) d h = found a s

pub empty_is_none : (s : List ℕ) → length s < 1 → None ≡ keyword_of s
unfolding spelling keywords keyword_of
empty_is_none [] h = refl
empty_is_none (a ∷ s) h = absurd (omega (h, arith))
