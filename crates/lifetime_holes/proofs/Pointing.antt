-- The points so far, and one more.
use Rattle.std.proofs.Common.{◌≡◌, ℕ, zero, suc, ◌+◌, ◌*◌, ◌<◌, ◌≤◌, ◌⊎◌, Bool, true, false, List, [], ◌∷◌, ◌++◌, refl, sym, ap, ◌∙◌, subst, inl, inr, ⊎_elim, length, arith, Some}
use Rattle.std.specs.Prelude.{slice_get, Contains}
use Rattle.std.proofs.lemmas.Bool.{cases_lt}
use Rattle.std.proofs.lemmas.Option.{none-some, same_Some}
use Rattle.std.proofs.lemmas.List.Elements.{Contains-append_left, Contains-push}
use Rattle.lifetime_holes.specs.model.Spans.{Points, Puts, Marked}
use Rattle.lifetime_holes.specs.model.Spans.Puts.{IsPut, IsThere}
use Rattle.lifetime_holes.specs.model.Walks.{Names}

module _ {A : Type 0} where
  -- an element of a list with one more
  pub pushed : (xs : List A) (y : A) (k : ℕ) (x : A) → slice_get (xs ++ y ∷ []) k ≡ Some x → ((k < length xs) × (slice_get xs k ≡ Some x)) ⊎ ((k ≡ length xs) × (x ≡ y))
  pushed [] y zero x is = inr (refl, sym (same_Some y x is))
  pushed [] y (suc k) x is = absurd (none-some x is)
  pushed (z ∷ xs) y zero x is = inl (omega arith, is)
  pushed (z ∷ xs) y (suc k) x is = ⊎_elim (λ old. inl (let w = old.0 in omega (arith, w), old.1)) (λ last. inr (ap suc last.0, last.1)) (pushed xs y k x is)

  pub last_there : (xs : List A) (y : A) → slice_get (xs ++ y ∷ []) (length xs) ≡ Some y
  last_there [] y = refl
  last_there (z ∷ xs) y = last_there xs y

no_points : (test : ℕ → Bool) → Points test 0 []
no_points test = record {
  only = λ k q is. absurd (none-some q is);
  all = λ q w. absurd (omega (arith, w));
  rise = λ k a b is. absurd (none-some a is);
}

module _ (test : ℕ → Bool) where
  pub empty : (zs : List ℕ) → zs ≡ [] → Points test 0 zs
  empty zs e = subst (Points test 0) (sym e) (no_points test)

  passed : (end : ℕ) (zs : List ℕ) → Points test end zs → test end ≡ false → Points test (suc end) zs
  passed end zs k absent = record {
    only = λ i q is. let o = k.only i q is in let w = o.0 in (omega (arith, w), o.1);
    all = λ q w h. ⊎_elim (λ (u : q < end). k.all q u h)
        (λ (u : end ≤ q). let same : q ≡ end = omega (arith, u, w) in absurd (let e : true ≡ false = sym h ∙ ap test same ∙ absent in cc)) (cases_lt q end);
    rise = k.rise;
  }

  more : (end : ℕ) (zs : List ℕ) → Points test end zs → test end ≡ true → Points test (suc end) (zs ++ end ∷ [])
  more end zs k present = record {
    only = λ i q is. ⊎_elim
        (λ old. let o = k.only i q old.1 in let w = o.0 in (let v : q < suc end = omega (arith, w) in v, o.1))
        (λ last. (let e = last.1 in let v : q < suc end = omega (arith, e) in v, ap test last.1 ∙ present))
        (pushed zs end i q is);
    all = λ q w h. ⊎_elim (λ (u : q < end). Contains-append_left zs (end ∷ []) q (k.all q u h))
        (λ (u : end ≤ q). subst (Contains (zs ++ end ∷ [])) (let same : end ≡ q = omega (arith, u, w) in same) (Contains-push zs end)) (cases_lt q end);
    rise = λ i a b first second. ⊎_elim
        (λ old. ⊎_elim (λ here. k.rise i a b here.1 old.1)
        (λ last. absurd (let w = old.0 in let e = last.0 in omega (arith, w, e)))
        (pushed zs end i a first))
        (λ last. ⊎_elim (λ here. let o = k.only i a here.1 in let w = o.0 in let e = last.1 in omega (arith, w, e))
        (λ past. absurd (let e = last.0 in let d = past.0 in omega (arith, e, d)))
        (pushed zs end i a first))
        (pushed zs end (suc i) b second);
  }

  -- the last one is below the end
  not_there : (end : ℕ) (xs zs : List ℕ) → Points test end zs → zs ≡ xs ++ end ∷ [] → ⊥
  not_there end xs zs k e =
      let o = k.only (length xs) end (ap (λ l. slice_get l (length xs)) e ∙ last_there xs end) in let w = o.0 in omega (arith, w)

  put : (end : ℕ) (zs new : List ℕ) → Points test end zs → test end ≡ true → Puts end zs new → Points test (suc end) new
  put end zs new k present (IsPut never e) = subst (Points test (suc end)) (sym e) (more end zs k present)
  put end zs new k present (IsThere xs is e) = absurd (not_there end xs zs k is)

  -- at a point that is named or not
  at : (named : Bool) (end : ℕ) (zs new : List ℕ) → Points test end zs → test end ≡ named → Marked named (Puts end) zs new → Points test (suc end) new
  at true end zs new k h m = put end zs new k h m
  at false end zs new k h m = subst (Points test (suc end)) (sym m) (passed end zs k h)

  pub named : (n : ℕ) (reads writes : Bool) (old new : List ℕ) → test (2 * n) ≡ reads → test (2 * n + 1) ≡ writes → Points test (2 * n) old → Names n reads writes old new → Points test (2 * suc n) new
  named n reads writes old new a b k v =
      let next : suc (2 * n) ≡ 2 * n + 1 = omega arith in
      let one : Points test (2 * n + 1) v.mid = subst (λ q. Points test q v.mid) next (at reads (2 * n) old v.mid k a v.read) in
      let end : suc (2 * n + 1) ≡ 2 * suc n = omega arith in
      subst (λ q. Points test q new) end (at writes (2 * n + 1) v.mid new one b v.write)
