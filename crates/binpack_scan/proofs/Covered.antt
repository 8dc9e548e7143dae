-- The first and last parts of lifetimes say which points these cover.
use Rattle.std.proofs.Common.{◌≡◌, ◌≢◌, ◌⊎◌, ℕ, zero, suc, ◌+◌, ◌-◌, ◌*◌, ◌<◌, ◌≤◌, ◌&&◌, ◌||◌, nat_le, nat_lt, List, [], ◌∷◌, Bool, true, false, Option, Some, None, refl, sym, ap, ◌∙◌, inl, inr, subst, ⊎_elim, length, arith}
use Rattle.std.specs.Prelude.{Contains, slice_get, slice_index_or, ◌↔◌}
use Rattle.std.specs.List.{list_any, range_with_len}
use Rattle.std.proofs.lemmas.Bool.{leb-true, le-leb}
use Rattle.std.proofs.lemmas.Option.{none-some, same_Some, slice_get_within, slice_get-get_or, get_or_from_slice_get}
use Rattle.pass_core.specs.Functions.{AllInsns, UsesRegisters, count_of}
use Rattle.temp_ir.specs.Insns.{reads_of, writes_of}
use Rattle.temp_ir.specs.Programs.{TempFn}
use Rattle.alloc_model.specs.Places.{Plan}
use Rattle.alloc_model.specs.Lifetimes.{IsPresent, IsPart}
use Rattle.alloc_rules.specs.declared.scan.LifetimePart.{LifetimePart}
use Rattle.alloc_rules.specs.declared.scan.Lifetimes.{Lifetimes}
use Rattle.alloc_rules.specs.Scan.{AreLifetimes, lifetime_parts}
use Rattle.alloc_rules.specs.Visits.{Wants, AreWants}
use Rattle.alloc_rules.specs.Frugal.{is_covered}
use Rattle.alloc_journal.specs.Covered.{lies_between, parts_cover, lifetime_covers, SayCovered}
use Rattle.binpack_blocks.specs.model.Wanted.{PartsRise}
use Rattle.binpack_blocks.proofs.Holders.{same_or_not, test_or_not, not_both}
use Rattle.binpack_scan.proofs.Wants.{has_part, present_low}
use Rattle.binpack_scan.proofs.Said.{lifetimes_rise}

-- ---- tests

same_bool : (x y : Bool) → (x ≡ true → y ≡ true) → (y ≡ true → x ≡ true) → x ≡ y
same_bool true y there back = sym (there refl)
same_bool false true there back = back refl
same_bool false false there back = refl

both_same : (a b c d : Bool) → a ≡ c → b ≡ d → (a && b) ≡ (c && d)
both_same a b c d e f = ap (λ x. x && b) e ∙ ap (λ y. c && y) f

or_true : (b c : Bool) → b ≡ true → (b || c) ≡ true
or_true true c e = refl
or_true false c e = absurd (cc)

or_also : (b c : Bool) → c ≡ true → (b || c) ≡ true
or_also true c e = refl
or_also false c e = e

any_there : (f : ℕ → Bool) (a n k : ℕ) → a ≤ k → k < a + n → f k ≡ true → list_any f (range_with_len a n) ≡ true
any_there f a zero k low high is = absurd (omega (arith, low, high))
any_there f a (suc n) k low high is = ⊎_elim
    (λ (e : k ≡ a). or_true (f a) (list_any f (range_with_len (a + 1) n)) (ap f (sym e) ∙ is))
    (λ (ne : k ≢ a). or_also (f a) (list_any f (range_with_len (a + 1) n)) (any_there f (a + 1) n k (omega (arith, low, ne)) (omega (arith, high)) is))
    (same_or_not k a)

any_where : (f : ℕ → Bool) (a n : ℕ) → list_any f (range_with_len a n) ≡ true → (k : ℕ) × (a ≤ k) × (k < a + n) × (f k ≡ true)
any_where f a zero is = absurd (cc)
any_where f a (suc n) is = ⊎_elim
    (λ (here : f a ≡ true). (a, omega arith, omega arith, here))
    (λ (other : f a ≡ false).
    let rest = any_where f (a + 1) n (sym (ap (λ c. c || list_any f (range_with_len (a + 1) n)) other) ∙ is) in
    let low = rest.1 in
    let high = rest.2 in
    (rest.0, omega (arith, low), omega (arith, high), rest.3))
    (test_or_not (f a))

-- ---- parts in order

at_place : {A : Type 0} (xs : List A) (x : A) → Contains xs x → (k : ℕ) × (slice_get xs k ≡ Some x)
at_place xs x (k, within, is) = (k, slice_get-get_or xs k x within ∙ ap Some is)

there_is : {A : Type 0} (xs : List A) (k : ℕ) → k < length xs → (x : A) × (slice_get xs k ≡ Some x)
there_is [] k within = absurd (omega (arith, within))
there_is (x ∷ xs) zero within = (x, refl)
there_is (x ∷ xs) (suc k) within = there_is xs k (omega (arith, within))

module _ (parts : List LifetimePart) (rise : PartsRise parts) where
  -- a part that stands further behind begins and ends no sooner
  further : (j k m : ℕ) (c e : LifetimePart) → m ≡ k + j → slice_get parts k ≡ Some c → slice_get parts m ≡ Some e → (c.first ≤ e.first) × (c.last ≤ e.last)
  further zero k m c e place at_k at_m =
      let same : c ≡ e = same_Some c e (sym at_k ∙ ap (slice_get parts) (let p : k ≡ m = omega (arith, place) in p) ∙ at_m) in
      let firsts : c.first ≡ e.first = ap (λ (p : LifetimePart). p.first) same in
      let lasts : c.last ≡ e.last = ap (λ (p : LifetimePart). p.last) same in
      (omega (arith, firsts), omega (arith, lasts))
  further (suc j) k m c e place at_k at_m =
      let within = slice_get_within parts m e at_m in
      let d = there_is parts (suc k) (omega (arith, within, place)) in
      let step = rise.rise k c d.0 at_k d.1 in
      let own = rise.ordered k c at_k in
      let its = rise.ordered (suc k) d.0 d.1 in
      let rest = further j (suc k) m d.0 e (omega (arith, place)) d.1 at_m in
      let firsts = rest.0 in
      let lasts = rest.1 in
      (omega (arith, own, step, firsts), omega (arith, step, its, lasts))

  pub begins : (s c : LifetimePart) (k : ℕ) → slice_get parts 0 ≡ Some s → slice_get parts k ≡ Some c → s.first ≤ c.first
  begins s c k at_0 at_k = (further k 0 k s c (omega arith) at_0 at_k).0

  pub ends : (c e : LifetimePart) (k : ℕ) → slice_get parts k ≡ Some c → slice_get parts (length parts - 1) ≡ Some e → c.last ≤ e.last
  ends c e k at_k at_end =
      let within = slice_get_within parts k c at_k in
      (further (length parts - 1 - k) k (length parts - 1) c e (omega (arith, within)) at_k at_end).1

-- ---- what they cover

module _ (f : TempFn) (l : Lifetimes) (a : Plan) (wants : Wants) (same : a.function.blocks ≡ f.blocks) (temps : a.temps ≡ f.temps) (are : AreLifetimes f l) (exact : AreWants a wants) where
  is_part : (t first last : ℕ) → t < f.temps → Contains (lifetime_parts l t) (record { first = first; last = last }) ↔ IsPart a.function.blocks t first last
  is_part t first last low = subst (λ bs. Contains (lifetime_parts l t) (record { first = first; last = last }) ↔ IsPart bs t first last) (sym same) (are.parts t first last low)

  module _ (t : ℕ) (low : t < f.temps) where
    part_at : (k : ℕ) (c : LifetimePart) → slice_get (lifetime_parts l t) k ≡ Some c → IsPart a.function.blocks t c.first c.last
    part_at k c at_k = (is_part t c.first c.last low).0 (k, slice_get_within (lifetime_parts l t) k c at_k, get_or_from_slice_get (lifetime_parts l t) k c c at_k)

    -- a point at which it is present lies in a part
    record InPart (q : ℕ) : Type 0 where
      place : ℕ
      part : LifetimePart
      there : slice_get (lifetime_parts l t) place ≡ Some part
      from : part.first ≤ q
      to : q ≤ part.last

    in_part : (q : ℕ) → wants.present t q ≡ true → InPart q
    in_part q is =
        let p = has_part a.function.blocks t (wants.present t) (exact.presents t) (2 * count_of a.function.blocks) (present_low a.function.blocks t) q ((exact.presents t q).0 is) in
        let k = at_place (lifetime_parts l t) (record { first = p.0; last = p.1 }) ((is_part t p.0 p.1 low).1 p.2) in
        record { place = k.0; part = record { first = p.0; last = p.1 }; there = k.1; from = p.3; to = p.4 }

    present_in : (k : ℕ) (c : LifetimePart) → slice_get (lifetime_parts l t) k ≡ Some c → (q : ℕ) → c.first ≤ q → q ≤ c.last → wants.present t q ≡ true
    present_in k c at_k q after before = (exact.presents t q).1 ((part_at k c at_k).present q after before)

    end_of : ℕ
    end_of = 2 * count_of a.function.blocks

    -- where there is a first and a last part
    by_parts : (p : ℕ) (s e : LifetimePart) → slice_get (lifetime_parts l t) 0 ≡ Some s → slice_get (lifetime_parts l t) (length (lifetime_parts l t) - 1) ≡ Some e →
        is_covered a wants t p ≡ (nat_le s.first p && nat_le p e.last)
    by_parts p s e at_0 at_end =
        both_same (list_any (wants.present t) (range_with_len 0 (suc p))) (list_any (wants.present t) (range_with_len p (2 * count_of a.function.blocks - p))) (nat_le s.first p) (nat_le p e.last)
        (same_bool (list_any (wants.present t) (range_with_len 0 (suc p))) (nat_le s.first p)
        (λ is.
        let k = any_where (wants.present t) 0 (suc p) is in
        let part = in_part k.0 k.3 in
        let least = begins (lifetime_parts l t) (rise_of) s part.part part.place at_0 part.there in
        let most = k.2 in
        let from = part.from in
        le-leb s.first p (omega (arith, least, most, from)))
        (λ is.
        let before = leb-true s.first p is in
        any_there (wants.present t) 0 (suc p) s.first (omega arith) (omega (arith, before))
        (present_in 0 s at_0 s.first (omega arith) (rise_of.ordered 0 s at_0))))
        (same_bool (list_any (wants.present t) (range_with_len p (2 * count_of a.function.blocks - p))) (nat_le p e.last)
        (λ is.
        let k = any_where (wants.present t) p (2 * count_of a.function.blocks - p) is in
        let part = in_part k.0 k.3 in
        let most = ends (lifetime_parts l t) (rise_of) part.part e part.place part.there at_end in
        let least = k.1 in
        let to = part.to in
        le-leb p e.last (omega (arith, least, most, to)))
        (λ is.
        let behind = leb-true p e.last is in
        let there = present_in (length (lifetime_parts l t) - 1) e at_end e.last (rise_of.ordered (length (lifetime_parts l t) - 1) e at_end) (omega arith) in
        let inside = present_low a.function.blocks t e.last ((exact.presents t e.last).0 there) in
        any_there (wants.present t) p (2 * count_of a.function.blocks - p) e.last behind (omega (arith, inside, behind)) there))
      where
        rise_of : PartsRise (lifetime_parts l t)
        rise_of = (lifetimes_rise f l are).each t

    -- where there is none
    by_none : (p : ℕ) → slice_get (lifetime_parts l t) 0 ≡ None → is_covered a wants t p ≡ false
    by_none p none = ⊎_elim
        (λ (is : list_any (wants.present t) (range_with_len 0 (suc p)) ≡ true).
        let k = any_where (wants.present t) 0 (suc p) is in
        let part = in_part k.0 k.3 in
        let within = slice_get_within (lifetime_parts l t) part.place part.part part.there in
        let first = there_is (lifetime_parts l t) 0 (omega (arith, within)) in
        absurd (none-some first.0 (sym none ∙ first.1)))
        (λ (no : list_any (wants.present t) (range_with_len 0 (suc p)) ≡ false).
        ap (λ b. b && list_any (wants.present t) (range_with_len p (2 * count_of a.function.blocks - p))) no)
        (test_or_not (list_any (wants.present t) (range_with_len 0 (suc p))))

    covered_at : (p : ℕ) → is_covered a wants t p ≡ lifetime_covers l t p
    covered_at p = by (slice_get (lifetime_parts l t) 0) refl (slice_get (lifetime_parts l t) (length (lifetime_parts l t) - 1)) refl
      where
        by : (s : Option LifetimePart) → slice_get (lifetime_parts l t) 0 ≡ s → (e : Option LifetimePart) → slice_get (lifetime_parts l t) (length (lifetime_parts l t) - 1) ≡ e → is_covered a wants t p ≡ lies_between s e p
        by None at_0 e at_end = by_none p at_0
        by (Some s) at_0 None at_end =
            let within = slice_get_within (lifetime_parts l t) 0 s at_0 in
            let last = there_is (lifetime_parts l t) (length (lifetime_parts l t) - 1) (omega (arith, within)) in
            absurd (none-some last.0 (sym at_end ∙ last.1))
        by (Some s) at_0 (Some e) at_end = by_parts p s e at_0 at_end

  pub say_covered : SayCovered l a wants
  say_covered = record { each = λ t p low. covered_at t (subst (λ n. t < n) temps low) p }
