-- The greatest ranges of points that pass a test are the elements of the list, and they rise.
use Rattle.std.proofs.Common.{◌≡◌, ℕ, suc, ◌-◌, ◌<◌, ◌≤◌, Bool, true, false, List, [], ◌∷◌, ◌++◌, sym, ap, ◌∙◌, subst, ⊎_elim, length, arith, Some}
use Rattle.std.specs.Prelude.{slice_get, Contains}
use Rattle.std.proofs.lemmas.Bool.{cases_lt}
use Rattle.std.proofs.lemmas.Option.{none-some}
use Rattle.std.proofs.lemmas.List.Elements.{Contains-append_left, Contains-push, Contains-push_cases}
use Rattle.alloc_rules.specs.declared.scan.LifetimePart.{LifetimePart}
use Rattle.lifetime_holes.specs.model.Spans.{span, Spans}
use Rattle.lifetime_holes.specs.model.Spans.Spans.{NoSpan, SpanBehind}
use Rattle.lifetime_holes.proofs.Pointing.{pushed}

module _ (test : ℕ → Bool) where
  pub record IsRange (first last : ℕ) : Type 0 where
    pub ordered : first ≤ last
    pub present : (q : ℕ) → first ≤ q → q ≤ last → test q ≡ true
    pub begins : (q : ℕ) → suc q ≡ first → test q ≡ false
    pub ends : test (suc last) ≡ false

  -- no range goes on past an end
  abbrev pub Shut : ℕ → Type 0
  Shut end = (q : ℕ) → suc q ≡ end → test q ≡ true → test end ≡ false

  clash : (q : ℕ) → test q ≡ true → test q ≡ false → ⊥
  clash q a b = let e : true ≡ false = sym a ∙ b in cc

  shut_before : (first : ℕ) → ((q : ℕ) → suc q ≡ first → test q ≡ false) → Shut first
  shut_before first begins q e h = absurd (clash q h (begins q e))

  last_range : (end : ℕ) (x : LifetimePart) → x.first ≤ x.last → x.last < end → ((q : ℕ) → suc q ≡ x.first → test q ≡ false) →
      ((q : ℕ) → x.first ≤ q → q ≤ x.last → test q ≡ true) → ((q : ℕ) → x.last < q → q < end → test q ≡ false) → Shut end → IsRange x.first x.last
  last_range end x low inside begins present none shut = record {
    ordered = low;
    present = present;
    begins = begins;
    ends = ⊎_elim (λ (w : suc x.last < end). none (suc x.last) (omega arith) w)
        (λ (w : end ≤ suc x.last). let e : suc x.last ≡ end = omega (arith, w, inside) in ap test e ∙ shut x.last e (present x.last low (omega arith)))
        (cases_lt (suc x.last) end);
  }

  pub sound : (end behind : ℕ) (zs : List LifetimePart) → Spans test end behind zs → Shut end → (y : LifetimePart) → Contains zs y → IsRange y.first y.last
  sound end _ zs (NoSpan e none) shut y (k, within, is) = absurd (let size = ap length e in omega (arith, within, size))
  sound end _ zs (SpanBehind xs x b e before low inside begins present none) shut y has =
      ⊎_elim (sound x.first b xs before (shut_before x.first begins) y)
      (λ (same : x ≡ y). subst (λ (z : LifetimePart). IsRange z.first z.last) same (last_range end x low inside begins present none shut))
      (Contains-push_cases xs x y (subst (λ l. Contains l y) e has))

  same_span : (x : LifetimePart) (first last : ℕ) → first ≡ x.first → last ≡ x.last → x ≡ span first last
  same_span x first last a b = ap (λ n. span n x.last) (sym a) ∙ ap (λ n. span first n) (sym b)

  pub complete : (end behind : ℕ) (zs : List LifetimePart) → Spans test end behind zs → Shut end → (first last : ℕ) → IsRange first last → first < end → Contains zs (span first last)
  complete end _ zs (NoSpan e none) shut first last r below = let o = r.ordered in absurd (clash first (r.present first (omega arith) o) (none first below))
  complete end _ zs (SpanBehind xs x b e before low inside begins present none) shut first last r below =
      subst (λ l. Contains l (span first last)) (sym e)
      (⊎_elim
      (λ (early : first < x.first). Contains-append_left xs (x ∷ []) (span first last) (complete x.first b xs before (shut_before x.first begins) first last r early))
      (λ (late : x.first ≤ first).
      ⊎_elim (λ (past : x.last < first). absurd (let o = r.ordered in clash first (r.present first (omega arith) o) (none first past below)))
      (λ (within : first ≤ x.last).
      subst (Contains (xs ++ x ∷ [])) (same_span x first last (first_is late within) (last_is within late)) (Contains-push xs x))
      (cases_lt x.last first))
      (cases_lt first x.first))
    where
      first_is : x.first ≤ first → first ≤ x.last → first ≡ x.first
      first_is late within = ⊎_elim
          (λ (more : x.first < first). let q = first - 1 in let e : suc (first - 1) ≡ first = omega (arith, more) in
          absurd (clash (first - 1) (present (first - 1) (omega (arith, more)) (omega (arith, within))) (r.begins (first - 1) e)))
          (λ (same : first ≤ x.first). omega (arith, late, same))
          (cases_lt x.first first)

      last_is : first ≤ x.last → x.first ≤ first → last ≡ x.last
      last_is within late =
          let o = r.ordered in
          ⊎_elim (λ (less : last < x.last). absurd (clash (suc last) (present (suc last) (omega (arith, late, o)) (omega (arith, less))) r.ends))
          (λ (w : x.last ≤ last). ⊎_elim
          (λ (more : x.last < last). let own = last_range end x low inside begins present none shut in
          absurd (clash (suc x.last) (r.present (suc x.last) (omega (arith, within)) (omega (arith, more))) own.ends))
          (λ (v : last ≤ x.last). omega (arith, v, w))
          (cases_lt x.last last))
          (cases_lt last x.last)

  below_end : (end behind : ℕ) (zs : List LifetimePart) → Spans test end behind zs → (k : ℕ) (a : LifetimePart) → slice_get zs k ≡ Some a → a.last < end
  below_end end _ zs (NoSpan e none) k a is = absurd (none-some a (sym (ap (λ l. slice_get l k) e) ∙ is))
  below_end end _ zs (SpanBehind xs x b e before low inside begins present none) k a is =
      ⊎_elim (λ old. let w = below_end x.first b xs before k a old.1 in omega (arith, w, low, inside))
      (λ last. subst (λ (z : LifetimePart). z.last < end) (sym last.1) inside)
      (pushed xs x k a (sym (ap (λ l. slice_get l k) e) ∙ is))

  pub rises : (end behind : ℕ) (zs : List LifetimePart) → Spans test end behind zs → (k : ℕ) (a c : LifetimePart) → slice_get zs k ≡ Some a → slice_get zs (suc k) ≡ Some c → a.last < c.first
  rises end _ zs (NoSpan e none) k a c one two = absurd (none-some a (sym (ap (λ l. slice_get l k) e) ∙ one))
  rises end _ zs (SpanBehind xs x b e before low inside begins present none) k a c one two =
      ⊎_elim
      (λ old. ⊎_elim (λ first. rises x.first b xs before k a c first.1 old.1)
      (λ same. absurd (let w = old.0 in let d = same.0 in omega (arith, w, d)))
      (pushed xs x k a (sym (ap (λ l. slice_get l k) e) ∙ one)))
      (λ last. ⊎_elim (λ first. subst (λ (z : LifetimePart). a.last < z.first) (sym last.1) (below_end x.first b xs before k a first.1))
      (λ same. absurd (let w = last.0 in let d = same.0 in omega (arith, w, d)))
      (pushed xs x k a (sym (ap (λ l. slice_get l k) e) ∙ one)))
      (pushed xs x (suc k) c (sym (ap (λ l. slice_get l (suc k)) e) ∙ two))
