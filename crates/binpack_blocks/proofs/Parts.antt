-- Which of the parts of a lifetime, in order, has a point.
use Rattle.std.proofs.Common.{◌≡◌, ◌≢◌, ◌⊎◌, ℕ, zero, suc, ◌<◌, ◌≤◌, ◌&&◌, ◌||◌, nat_le, nat_lt, ◌+◌, find, Bool, true, false, List, [], ◌∷◌, Some, None, refl, sym, ap, ◌∙◌, inl, inr, subst, ⊎_elim, length, get_or, arith}
use Rattle.std.specs.List.{list_any}
use Rattle.std.specs.List.Sorted.{IsNonDecreasingBy, IsPartitionPoint, IsPartitionedBy}
use Rattle.std.proofs.lemmas.List.Sorted.{IsPartitionedBy-ltb, IsPartitionedBy-leb, IsNonDecreasingBy-from_all_adjacent}
use Rattle.std.proofs.lemmas.Option.{slice_get-get_or, get_or_from_slice_get, slice_get_read}
use Rattle.std.proofs.lemmas.Bool.{ltb-true, ltb-false, leb-true, leb-false, le-leb, lt-leb, lt-ltb, le-ltb}
use Rattle.alloc_rules.specs.declared.scan.LifetimePart.{LifetimePart}
use Rattle.binpack_blocks.specs.model.Rows.{is_covered_by}
use Rattle.binpack_blocks.specs.model.Spans.{last_or, first_in, last_from, first_behind}
use Rattle.binpack_blocks.specs.model.Wanted.{PartsRise, PointsRise}
use Rattle.binpack_blocks.proofs.Firsts.{parted_at, parted_past}
use Rattle.binpack_blocks.proofs.Holders.{same_or_not}

any_none : {A : Type 0} (p : A → Bool) (xs : List A) → ((k : ℕ) (d : A) → k < length xs → p (get_or xs k d) ≡ false) → list_any p xs ≡ false
any_none p [] none = refl
any_none p (x ∷ xs) none =
    ap (λ c. c || list_any p xs) (none 0 x (omega arith)) ∙ any_none p xs (λ k d w. none (suc k) d (omega (arith, w)))

any_one : {A : Type 0} (p : A → Bool) (xs : List A) (k : ℕ) (d : A) → k < length xs → p (get_or xs k d) ≡ true → list_any p xs ≡ true
any_one p [] k d within e = absurd (omega (arith, within))
any_one p (x ∷ xs) zero d within e = ap (λ c. c || list_any p xs) e
any_one p (x ∷ xs) (suc k) d within e = go (p x) (any_one p xs k d (omega (arith, within)) e)
  where
    go : (c : Bool) → list_any p xs ≡ true → (c || list_any p xs) ≡ true
    go true rest = refl
    go false rest = rest

module _ (parts : List LifetimePart) (rise : PartsRise parts) where
  rises : (k : ℕ) (d : LifetimePart) → suc k < length parts → (get_or parts k d).last < (get_or parts (suc k) d).first
  rises k d within = rise.rise k (get_or parts k d) (get_or parts (suc k) d) (slice_get-get_or parts k d (omega (arith, within))) (slice_get-get_or parts (suc k) d within)

  is_ordered : (k : ℕ) (d : LifetimePart) → k < length parts → (get_or parts k d).first ≤ (get_or parts k d).last
  is_ordered k d within = rise.ordered k (get_or parts k d) (slice_get-get_or parts k d within)

  pub lasts_rise : IsNonDecreasingBy (λ (p : LifetimePart). p.last) parts
  lasts_rise i zero d le within = ap_last (omega (arith, le))
    where
      ap_last : i ≡ 0 → (get_or parts i d).last ≤ (get_or parts 0 d).last
      ap_last e = subst (λ k. (get_or parts k d).last ≤ (get_or parts 0 d).last) (sym e) (omega arith)
  lasts_rise i (suc j) d le within = by (lasts_before i j) (same_or_not i (suc j))
    where
      lasts_before : (i j : ℕ) → (i ≤ j) → j < length parts → (get_or parts i d).last ≤ (get_or parts j d).last
      lasts_before i zero le within = subst (λ k. (get_or parts k d).last ≤ (get_or parts 0 d).last) (let e : 0 ≡ i = omega (arith, le) in e) (omega arith)
      lasts_before i (suc j) le within = ⊎_elim
          (λ (e : i ≡ suc j). subst (λ k. (get_or parts k d).last ≤ (get_or parts (suc j) d).last) (sym e) (omega arith))
          (λ (ne : i ≢ suc j).
          let before = lasts_before i j (omega (arith, le, ne)) (omega (arith, within)) in
          let next = rises j d within in
          let order = is_ordered (suc j) d within in
          omega (arith, before, next, order))
          (same_or_not i (suc j))

      by : ((i ≤ j) → j < length parts → (get_or parts i d).last ≤ (get_or parts j d).last) → (i ≡ suc j) ⊎ (i ≢ suc j) → (get_or parts i d).last ≤ (get_or parts (suc j) d).last
      by before (inl e) = subst (λ k. (get_or parts k d).last ≤ (get_or parts (suc j) d).last) (sym e) (omega arith)
      by before (inr ne) =
          let so = before (omega (arith, le, ne)) (omega (arith, within)) in
          let next = rises j d within in
          let order = is_ordered (suc j) d within in
          omega (arith, so, next, order)

  pub parted : (point : ℕ) → IsPartitionedBy (λ (p : LifetimePart). nat_lt p.last point) parts
  parted point = IsPartitionedBy-ltb (λ (p : LifetimePart). p.last) parts point lasts_rise

  passed : (first last point : ℕ) → last < point → (nat_le first point && nat_le point last) ≡ false
  passed first last point w = go (nat_le first point) (nat_le point last) refl
    where
      go : (c d : Bool) → nat_le point last ≡ d → (c && d) ≡ false
      go true true e = absurd (let le = leb-true point last e in omega (arith, le, w))
      go true false e = refl
      go false d e = refl

  not_yet : (first last point : ℕ) → point < first → (nat_le first point && nat_le point last) ≡ false
  not_yet first last point w = go (nat_le first point) refl
    where
      go : (c : Bool) → nat_le first point ≡ c → (c && nat_le point last) ≡ false
      go true e = absurd (let le = leb-true first point e in omega (arith, le, w))
      go false e = refl

  pub covered_past : (point i : ℕ) → IsPartitionPoint (λ (p : LifetimePart). nat_lt p.last point ≡ true) (λ (p : LifetimePart). nat_lt p.last point ≡ false) parts i → length parts ≤ i →
      false ≡ is_covered_by parts point
  covered_past point i p past = sym (any_none _ parts (λ k d w. passed (get_or parts k d).first (get_or parts k d).last point (ltb-true (get_or parts k d).last point (p.0 k d (omega arith) (omega (arith, w, past))))))

  pub covered_at : (point i : ℕ) (x : LifetimePart) → IsPartitionPoint (λ (p : LifetimePart). nat_lt p.last point ≡ true) (λ (p : LifetimePart). nat_lt p.last point ≡ false) parts i →
      i < length parts → x ≡ get_or parts i x → nat_le x.first point ≡ is_covered_by parts point
  covered_at point i x p within is = by (nat_le x.first point) refl
    where
      same : (d : LifetimePart) → get_or parts i d ≡ x
      same d = get_or_from_slice_get parts i x d (slice_get-get_or parts i x within ∙ ap Some (sym is))

      late : point ≤ x.last
      late = ltb-false x.last point (subst (λ (y : LifetimePart). nat_lt y.last point ≡ false) (same x) (p.1 i x (omega arith) within))

      by : (c : Bool) → nat_le x.first point ≡ c → c ≡ is_covered_by parts point
      by true e = sym (any_one _ parts i x within (ap (λ (y : LifetimePart). nat_le y.first point && nat_le point y.last) (same x) ∙ ap (λ c. c && nat_le point x.last) e ∙ le-leb point x.last late))
      by false e = sym (any_none _ parts (λ k d w. ⊎_elim
          (λ (lt : k < i). passed (get_or parts k d).first (get_or parts k d).last point (ltb-true (get_or parts k d).last point (p.0 k d (omega arith) lt)))
          (λ (ge : i ≤ k). ⊎_elim
          (λ (eq : k ≡ i). ap (λ j. nat_le (get_or parts j d).first point && nat_le point (get_or parts j d).last) eq ∙ ap (λ (y : LifetimePart). nat_le y.first point && nat_le point y.last) (same d) ∙ ap (λ c. c && nat_le point x.last) e)
          (λ (ne : k ≢ i). later k d w (omega (arith, ge, ne)))
          (same_or_not k i))
          (before_or k i)))
        where
          before_or : (k i : ℕ) → (k < i) ⊎ (i ≤ k)
          before_or k i = go (nat_lt k i) refl
            where
              go : (c : Bool) → nat_lt k i ≡ c → (k < i) ⊎ (i ≤ k)
              go true e = inl (ltb-true k i e)
              go false e = inr (ltb-false k i e)

          later : (k : ℕ) (d : LifetimePart) → k < length parts → i < k → (nat_le (get_or parts k d).first point && nat_le point (get_or parts k d).last) ≡ false
          later zero d w lt = absurd (omega (arith, lt))
          later (suc k) d w lt =
              let so = lasts_rise i k d (omega (arith, lt)) (omega (arith, w)) in
              let lx : point ≤ (get_or parts i d).last = subst (λ (y : LifetimePart). point ≤ y.last) (sym (same d)) late in
              let next = rises k d w in
              not_yet (get_or parts (suc k) d).first (get_or parts (suc k) d).last point (omega (arith, so, lx, next))

  -- ---- the first part that ends at a point or behind it

  ends_late : (point : ℕ) (x : LifetimePart) → nat_lt x.last point ≡ true → nat_le point x.last ≡ false
  ends_late point x e = lt-leb point x.last (ltb-true x.last point e)

  ends_soon : (point : ℕ) (x : LifetimePart) → nat_lt x.last point ≡ false → nat_le point x.last ≡ true
  ends_soon point x e = le-leb point x.last (ltb-false x.last point e)

  pub last_past : (point i : ℕ) → IsPartitionPoint (λ (p : LifetimePart). nat_lt p.last point ≡ true) (λ (p : LifetimePart). nat_lt p.last point ≡ false) parts i → length parts ≤ i →
      point ≡ last_from parts point
  last_past point i p past = ap (λ o. last_or o point) (sym (parted_past (λ (x : LifetimePart). nat_lt x.last point) (λ (x : LifetimePart). nat_le point x.last) (ends_late point) (ends_soon point) parts i p past))

  pub last_at : (point i : ℕ) (x : LifetimePart) → IsPartitionPoint (λ (p : LifetimePart). nat_lt p.last point ≡ true) (λ (p : LifetimePart). nat_lt p.last point ≡ false) parts i →
      i < length parts → x ≡ get_or parts i x → x.last ≡ last_from parts point
  last_at point i x p within is = ap (λ o. last_or o point) (sym (parted_at (λ (y : LifetimePart). nat_lt y.last point) (λ (y : LifetimePart). nat_le point y.last) (ends_late point) (ends_soon point) parts i p x (slice_get_read parts (length parts) i x refl within is)))

  -- ---- the first part that begins behind a point

  firsts_rise : IsNonDecreasingBy (λ (p : LifetimePart). p.first) parts
  firsts_rise = IsNonDecreasingBy-from_all_adjacent (λ (p : LifetimePart). p.first) parts (λ k d w.
      let one : suc k ≡ k + 1 = omega arith in
      let order = is_ordered k d (omega (arith, w)) in
      let next : (get_or parts k d).last < (get_or parts (k + 1) d).first = subst (λ j. (get_or parts k d).last < (get_or parts j d).first) one (rises k d (omega (arith, w))) in
      omega (arith, order, next))

  pub parted_firsts : (point : ℕ) → IsPartitionedBy (λ (p : LifetimePart). nat_le p.first point) parts
  parted_firsts point = IsPartitionedBy-leb (λ (p : LifetimePart). p.first) parts point firsts_rise

  begins_late : (point : ℕ) (x : LifetimePart) → nat_le x.first point ≡ true → nat_lt point x.first ≡ false
  begins_late point x e = le-ltb point x.first (leb-true x.first point e)

  begins_soon : (point : ℕ) (x : LifetimePart) → nat_le x.first point ≡ false → nat_lt point x.first ≡ true
  begins_soon point x e = lt-ltb point x.first (leb-false x.first point e)

  pub first_past : (point i : ℕ) → IsPartitionPoint (λ (p : LifetimePart). nat_le p.first point ≡ true) (λ (p : LifetimePart). nat_le p.first point ≡ false) parts i → length parts ≤ i →
      None ≡ first_behind parts point
  first_past point i p past = ap first_in (sym (parted_past (λ (x : LifetimePart). nat_le x.first point) (λ (x : LifetimePart). nat_lt point x.first) (begins_late point) (begins_soon point) parts i p past))

  pub first_at : (point i : ℕ) (x : LifetimePart) → IsPartitionPoint (λ (p : LifetimePart). nat_le p.first point ≡ true) (λ (p : LifetimePart). nat_le p.first point ≡ false) parts i →
      i < length parts → x ≡ get_or parts i x → Some x.first ≡ first_behind parts point
  first_at point i x p within is = ap first_in (sym (parted_at (λ (y : LifetimePart). nat_le y.first point) (λ (y : LifetimePart). nat_lt point y.first) (begins_late point) (begins_soon point) parts i p x (slice_get_read parts (length parts) i x refl within is)))

-- ---- points in order

module _ (points : List ℕ) (rise : PointsRise points) where
  points_rise : IsNonDecreasingBy (λ p. p) points
  points_rise = IsNonDecreasingBy-from_all_adjacent (λ p. p) points (λ k d w.
      let one : suc k ≡ k + 1 = omega arith in
      let next : get_or points k d < get_or points (k + 1) d =
      subst (λ j. get_or points k d < get_or points j d) one (rise.rise k (get_or points k d) (get_or points (suc k) d) (slice_get-get_or points k d (omega (arith, w))) (slice_get-get_or points (suc k) d (omega (arith, w)))) in
      omega (arith, next))

  pub parted_points : (point : ℕ) → IsPartitionedBy (λ p. nat_le p point) points
  parted_points point = IsPartitionedBy-leb (λ p. p) points point points_rise

  is_late : (point x : ℕ) → nat_le x point ≡ true → nat_lt point x ≡ false
  is_late point x e = le-ltb point x (leb-true x point e)

  is_soon : (point x : ℕ) → nat_le x point ≡ false → nat_lt point x ≡ true
  is_soon point x e = lt-ltb point x (leb-false x point e)

  pub point_past : (point i : ℕ) → IsPartitionPoint (λ p. nat_le p point ≡ true) (λ p. nat_le p point ≡ false) points i → length points ≤ i → None ≡ find (λ p. nat_lt point p) points
  point_past point i p past = sym (parted_past (λ x. nat_le x point) (λ x. nat_lt point x) (is_late point) (is_soon point) points i p past)

  pub point_found : (point i x : ℕ) → IsPartitionPoint (λ p. nat_le p point ≡ true) (λ p. nat_le p point ≡ false) points i → i < length points → x ≡ get_or points i x →
      Some x ≡ find (λ p. nat_lt point p) points
  point_found point i x p within is = sym (parted_at (λ y. nat_le y point) (λ y. nat_lt point y) (is_late point) (is_soon point) points i p x (slice_get_read points (length points) i x refl within is))
