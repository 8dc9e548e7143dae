-- Tests by lifetimes say where temporaries are live.
use Rattle.std.proofs.Common.{◌≡◌, ◌≢◌, ◌⊎◌, ℕ, zero, suc, ◌+◌, ◌-◌, ◌*◌, ◌<◌, ◌≤◌, ◌&&◌, ◌||◌, nat_le, nat_lt, List, [], ◌∷◌, Bool, true, false, Option, Some, None, refl, sym, ap, ◌∙◌, inl, inr, subst, ⊎_elim, length, take, arith}
use Rattle.std.specs.Prelude.{All, Contains, slice_get, slice_index_or, ◌↔◌}
use Rattle.std.specs.List.{list_any}
use Rattle.std.proofs.lemmas.Bool.{leb-true, leb-false, le-leb, ltb-true, ltb-false}
use Rattle.std.proofs.lemmas.List.Sums.{sum_by-cons}
use Rattle.std.proofs.lemmas.Option.{slice_get_within, get_or_from_slice_get}
use Rattle.pass_core.specs.Functions.{AllInsns, UsesRegisters, count_of, insn_at, insn_in}
use Rattle.pass_core.specs.Live.{Live}
use Rattle.pass_core.specs.Live.Live.{IsRead as ReadsIt, Passes, Follows}
use Rattle.temp_ir.specs.declared.insn.TempInsn.{TempInsn}
use Rattle.temp_ir.specs.Insns.{reads_of, writes_of, targets_of, flows_on_of}
use Rattle.alloc_model.specs.Places.{linear_number}
use Rattle.alloc_model.specs.Lifetimes.{Blocks, lives_at, IsPresent, IsPart}
use Rattle.alloc_model.specs.Lifetimes.IsPresent.{IsRead, IsLiveBefore, IsWritten, IsLiveAfter}
use Rattle.alloc_rules.specs.declared.scan.LifetimePart.{LifetimePart}
use Rattle.alloc_rules.specs.declared.scan.Lifetimes.{Lifetimes}
use Rattle.alloc_rules.specs.Scan.{lifetime_parts}
use Rattle.binpack_blocks.specs.model.Rows.{is_covered_by, is_wanted}
use Rattle.binpack_blocks.proofs.Holders.{same_or_not, test_or_not, not_both}
use Rattle.binpack_scan.proofs.Functions.{count_next, count_most}
use Rattle.binpack_blocks.proofs.Rests.{all_at}

-- ---- numbers of instructions

count_rises : (blocks : Blocks) (m n : ℕ) → m ≤ n → count_of (take m blocks) ≤ count_of (take n blocks)
count_rises blocks m zero le = let e : m ≡ 0 = omega (arith, le) in subst (λ k. count_of (take k blocks) ≤ count_of (take 0 blocks)) (sym e) (omega arith)
count_rises blocks m (suc n) le = by (count_rises blocks m n) (same_or_not m (suc n))
  where
    one_more : (blocks : Blocks) (n : ℕ) → count_of (take n blocks) ≤ count_of (take (suc n) blocks)
    one_more [] zero = omega arith
    one_more [] (suc n) = omega arith
    one_more (b ∷ bs) zero = omega arith
    one_more (b ∷ bs) (suc n) =
        let rest = one_more bs n in
        let one = sum_by-cons (λ (block : List TempInsn). length block) b (take n bs) in
        let two = sum_by-cons (λ (block : List TempInsn). length block) b (take (suc n) bs) in
        omega (arith, rest, one, two)

    by : (m ≤ n → count_of (take m blocks) ≤ count_of (take n blocks)) → (m ≡ suc n) ⊎ (m ≢ suc n) → count_of (take m blocks) ≤ count_of (take (suc n) blocks)
    by rest (inl e) = subst (λ k. count_of (take k blocks) ≤ count_of (take (suc n) blocks)) (sym e) (omega arith)
    by rest (inr ne) = let so = rest (omega (arith, le, ne)) in let next = one_more blocks n in omega (arith, so, next)

-- the block of an instruction that is there
block_of : (blocks : Blocks) (b at : ℕ) (x : TempInsn) → insn_at blocks b at ≡ Some x → (insns : List TempInsn) × (slice_get blocks b ≡ Some insns) × (slice_get insns at ≡ Some x)
block_of blocks b at x is = go (slice_get blocks b) refl
  where
    go : (o : Option (List TempInsn)) → slice_get blocks b ≡ o → (insns : List TempInsn) × (slice_get blocks b ≡ Some insns) × (slice_get insns at ≡ Some x)
    go None e = absurd (let clash : None ≡ Some x = sym (ap (λ o. insn_in o at) e) ∙ is in cc)
    go (Some insns) e = (insns, e, sym (ap (λ o. insn_in o at) e) ∙ is)

block_within : (blocks : Blocks) (b at : ℕ) (x : TempInsn) → insn_at blocks b at ≡ Some x → linear_number blocks b at < count_of (take (suc b) blocks)
block_within blocks b at x is =
    let found = block_of blocks b at x is in
    let next = count_next blocks b found.0 found.1 in
    let low = slice_get_within found.0 at x found.2 in
    omega (arith, next, low)

-- two instructions with one number are one
same_block : (blocks : Blocks) (b at c to : ℕ) (x y : TempInsn) → insn_at blocks b at ≡ Some x → insn_at blocks c to ≡ Some y → linear_number blocks b at ≡ linear_number blocks c to → b ≡ c
same_block blocks b at c to x y is so same = ⊎_elim (λ e. e) (λ (ne : b ≢ c). absurd (⊎_elim
    (λ (lt : b < c). let r = count_rises blocks (suc b) c (omega (arith, lt)) in let w = block_within blocks b at x is in omega (arith, r, w, same))
    (λ (ge : c ≤ b). let r = count_rises blocks (suc c) b (omega (arith, ge, ne)) in let w = block_within blocks c to y so in omega (arith, r, w, same))
    (before_or b c))) (same_or_not b c)
  where
    before_or : (k i : ℕ) → (k < i) ⊎ (i ≤ k)
    before_or k i = go (nat_lt k i) refl
      where
        go : (t : Bool) → nat_lt k i ≡ t → (k < i) ⊎ (i ≤ k)
        go true e = inl (ltb-true k i e)
        go false e = inr (ltb-false k i e)

same_place : (blocks : Blocks) (b at c to : ℕ) (x y : TempInsn) → insn_at blocks b at ≡ Some x → insn_at blocks c to ≡ Some y → linear_number blocks b at ≡ linear_number blocks c to → (b ≡ c) × (at ≡ to)
same_place blocks b at c to x y is so same =
    let e = same_block blocks b at c to x y is so same in
    let f : count_of (take b blocks) ≡ count_of (take c blocks) = ap (λ k. count_of (take k blocks)) e in
    (e, omega (arith, same, f))

-- ---- where a temporary is present

halves : (m n : ℕ) → 2 * m ≡ 2 * n → m ≡ n
halves m n e = omega (arith, e)

pub present_live : (blocks : Blocks) (t b at : ℕ) (x : TempInsn) → insn_at blocks b at ≡ Some x → IsPresent blocks t (2 * linear_number blocks b at) → lives_at blocks t b at
present_live blocks t b at x is (IsRead c to y so e reads) =
    let same = same_place blocks b at c to x y is so (halves (linear_number blocks b at) (linear_number blocks c to) e) in
    subst (λ k. lives_at blocks t k at) (sym same.0) (subst (λ k. lives_at blocks t c k) (sym same.1) (ReadsIt y so reads))
present_live blocks t b at x is (IsLiveBefore c to y so e lv) =
    let same = same_place blocks b at c to x y is so (halves (linear_number blocks b at) (linear_number blocks c to) e) in
    subst (λ k. lives_at blocks t k at) (sym same.0) (subst (λ k. lives_at blocks t c k) (sym same.1) lv)
present_live blocks t b at x is (IsWritten c to y so e writes) = absurd (omega (arith, e))
present_live blocks t b at x is (IsLiveAfter c to y so e lv) = absurd (omega (arith, e))

pub present_behind : (blocks : Blocks) (t b at : ℕ) (x : TempInsn) → insn_at blocks b at ≡ Some x → ¬ Contains (writes_of x) t → IsPresent blocks t (2 * linear_number blocks b at + 1) → lives_at blocks t b (suc at)
present_behind blocks t b at x is none (IsRead c to y so e reads) = absurd (omega (arith, e))
present_behind blocks t b at x is none (IsLiveBefore c to y so e lv) = absurd (omega (arith, e))
present_behind blocks t b at x is none (IsWritten c to y so e writes) =
    let same = same_place blocks b at c to x y is so (omega (arith, e)) in
    absurd (none (subst (λ z. Contains (writes_of z) t) (one (sym so ∙ ap (λ k. insn_at blocks k to) (sym same.0) ∙ ap (insn_at blocks b) (sym same.1) ∙ is)) writes))
  where
    one : {y z : TempInsn} → Some y ≡ Some z → y ≡ z
    one e = cc
present_behind blocks t b at x is none (IsLiveAfter c to y so e lv) =
    let same = same_place blocks b at c to x y is so (omega (arith, e)) in
    subst (λ k. lives_at blocks t k (suc at)) (sym same.0) (subst (λ k. lives_at blocks t c (suc k)) (sym same.1) lv)

-- ---- a temporary that is present at a point has a part there

module _ (blocks : Blocks) (t : ℕ) (test : ℕ → Bool) (exact : (point : ℕ) → (test point ≡ true) ↔ IsPresent blocks t point) (end : ℕ) (bound : (point : ℕ) → IsPresent blocks t point → point < end) where
  -- the last point up to which it is present
  up : (fuel p : ℕ) → p + fuel ≡ end → test p ≡ true → (q : ℕ) × (p ≤ q) × ((k : ℕ) → p ≤ k → k ≤ q → test k ≡ true) × (test (suc q) ≡ false)
  up zero p e is = absurd (let low = bound p ((exact p).0 is) in omega (arith, e, low))
  up (suc fuel) p e is = go (test (suc p)) refl (up fuel (suc p) (omega (arith, e)))
    where
      only : (k : ℕ) → p ≤ k → k ≤ p → test k ≡ true
      only k low high = subst (λ j. test j ≡ true) (let g : p ≡ k = omega (arith, low, high) in g) is

      go : (c : Bool) → test (suc p) ≡ c → (test (suc p) ≡ true → (q : ℕ) × (suc p ≤ q) × ((k : ℕ) → suc p ≤ k → k ≤ q → test k ≡ true) × (test (suc q) ≡ false)) →
          (q : ℕ) × (p ≤ q) × ((k : ℕ) → p ≤ k → k ≤ q → test k ≡ true) × (test (suc q) ≡ false)
      go false f rest = (p, omega arith, only, f)
      go true f rest =
          let r = rest f in
          let low = r.1 in (
            r.0,
            omega (arith, low),
            (λ k a z. ⊎_elim
                (λ (same : k ≡ p). ap test same ∙ is)
                (λ (ne : k ≢ p). r.2 k (omega (arith, a, ne)) z) (same_or_not k p)),
            r.3,
          )

  -- the first point from which on it is
  down : (p : ℕ) → test p ≡ true → (q : ℕ) × (q ≤ p) × ((k : ℕ) → q ≤ k → k ≤ p → test k ≡ true) × ((k : ℕ) → suc k ≡ q → test k ≡ false)
  down zero is = (0, omega arith, (λ k low high. subst (λ j. test j ≡ true) (let g : 0 ≡ k = omega (arith, high) in g) is), (λ k e. absurd (omega (arith, e))))
  down (suc p) is = go (test p) refl (down p)
    where
      go : (c : Bool) → test p ≡ c → (test p ≡ true → (q : ℕ) × (q ≤ p) × ((k : ℕ) → q ≤ k → k ≤ p → test k ≡ true) × ((k : ℕ) → suc k ≡ q → test k ≡ false)) →
          (q : ℕ) × (q ≤ suc p) × ((k : ℕ) → q ≤ k → k ≤ suc p → test k ≡ true) × ((k : ℕ) → suc k ≡ q → test k ≡ false)
      go false f rest =
          (suc p, omega arith, (λ k low high. subst (λ j. test j ≡ true) (let g : suc p ≡ k = omega (arith, low, high) in g) is), (λ k e. ap test (let g : k ≡ p = omega (arith, e) in g) ∙ f))
      go true f rest =
          let r = rest f in
          let low = r.1 in (
            r.0,
            omega (arith, low),
            (λ k a z. ⊎_elim
                (λ (same : k ≡ suc p). ap test same ∙ is)
                (λ (ne : k ≢ suc p). r.2 k a (omega (arith, z, ne))) (same_or_not k (suc p))),
            r.3,
          )

  pub has_part : (p : ℕ) → IsPresent blocks t p → (first : ℕ) × (last : ℕ) × IsPart blocks t first last × (first ≤ p) × (p ≤ last)
  has_part p is =
      let yes = (exact p).1 is in
      let low = bound p is in
      let d = down p yes in
      let u = up (end - p) p (omega (arith, low)) yes in
      let dl = d.1 in
      let ul = u.1 in (
        d.0,
        u.0,
        record {
          ordered = omega (arith, dl, ul);
          present = λ k a z. (exact k).0 (⊎_elim
              (λ (le : k ≤ p). d.2 k a le)
              (λ (ge : p ≤ k). u.2 k ge z) (either k));
          begins = λ k e pres. not_both (test k) ((exact k).1 pres) (d.3 k e);
          ends = λ pres. not_both (test (suc u.0)) ((exact (suc u.0)).1 pres) u.3;
        },
        dl,
        ul,
      )
    where
      either : (k : ℕ) → (k ≤ p) ⊎ (p ≤ k)
      either k = go (nat_le k p) refl
        where
          go : (c : Bool) → nat_le k p ≡ c → (k ≤ p) ⊎ (p ≤ k)
          go true e = inl (leb-true k p e)
          go false e = inr (let lt = leb-false k p e in omega (arith, lt))

-- ---- the parts of a lifetime

any_found : {A : Type 0} (p : A → Bool) (xs : List A) → list_any p xs ≡ true → (k : ℕ) × (x : A) × (slice_get xs k ≡ Some x) × (p x ≡ true)
any_found p [] e = absurd (cc)
any_found p (x ∷ xs) e = ⊎_elim
    (λ (here : p x ≡ true). (0, x, refl, here))
    (λ (there : p x ≡ false). let rest = any_found p xs (sym (ap (λ c. c || list_any p xs) there) ∙ e) in (suc rest.0, rest.1, rest.2, rest.3))
    (test_or_not (p x))

any_there : {A : Type 0} (p : A → Bool) (xs : List A) (x : A) → Contains xs x → p x ≡ true → list_any p xs ≡ true
any_there p [] x (k, within, is) e = absurd (omega (arith, within))
any_there p (y ∷ xs) x (zero, within, is) e = ap (λ c. c || list_any p xs) (ap p is ∙ e)
any_there p (y ∷ xs) x (suc k, within, is) e = or_also (p y) (any_there p xs x (k, omega (arith, within), is) e)
  where
    or_also : (b : Bool) → list_any p xs ≡ true → (b || list_any p xs) ≡ true
    or_also true rest = refl
    or_also false rest = rest

and_parts : (b c : Bool) → (b && c) ≡ true → (b ≡ true) × (c ≡ true)
and_parts true c e = (refl, e)
and_parts false c e = absurd (cc)

past_empty : {A : Type 0} (xs : List (List A)) (k : ℕ) → length xs ≤ k → slice_index_or xs k [] ≡ []
past_empty [] k past = refl
past_empty (x ∷ xs) zero past = absurd (omega (arith, past))
past_empty (x ∷ xs) (suc k) past = past_empty xs k (omega (arith, past))

pub present_low : (blocks : Blocks) (t point : ℕ) → IsPresent blocks t point → point < 2 * count_of blocks
present_low blocks t point (IsRead b at x is e reads) = let w = block_within blocks b at x is in let m = count_most blocks (suc b) in omega (arith, e, w, m)
present_low blocks t point (IsLiveBefore b at x is e lv) = let w = block_within blocks b at x is in let m = count_most blocks (suc b) in omega (arith, e, w, m)
present_low blocks t point (IsWritten b at x is e writes) = let w = block_within blocks b at x is in let m = count_most blocks (suc b) in omega (arith, e, w, m)
present_low blocks t point (IsLiveAfter b at x is e lv) = let w = block_within blocks b at x is in let m = count_most blocks (suc b) in omega (arith, e, w, m)

-- ---- temporaries that are named are below their number

all_contained : (n : ℕ) (xs : List ℕ) (t : ℕ) → All (λ u. u < n) xs → Contains xs t → t < n
all_contained n xs t all (k, within, is) = subst (λ u. u < n) is (all k t within)

module _ (blocks : Blocks) (temps : ℕ) (used : AllInsns (UsesRegisters reads_of writes_of temps) blocks) where
  used_at : (b at : ℕ) (x : TempInsn) → insn_at blocks b at ≡ Some x → UsesRegisters reads_of writes_of temps x
  used_at b at x is =
      let found = block_of blocks b at x is in
      all_at (UsesRegisters reads_of writes_of temps) found.0 at x (all_at (All (UsesRegisters reads_of writes_of temps)) blocks b found.0 used found.1) found.2

  live_low : (t : ℕ) {b at : ℕ} → Live reads_of writes_of targets_of flows_on_of blocks t b at → t < temps
  live_low t (ReadsIt {block} {at} i is reads) = all_contained temps (reads_of i) t (used_at block at i is).0 reads
  live_low t (Passes i is none rest) = live_low t rest
  live_low t (Follows insns next is e c rest) = live_low t rest

  present_inside : (t point : ℕ) → IsPresent blocks t point → t < temps
  present_inside t point (IsRead b at x is e reads) = all_contained temps (reads_of x) t (used_at b at x is).0 reads
  present_inside t point (IsLiveBefore b at x is e lv) = live_low t lv
  present_inside t point (IsWritten b at x is e writes) = all_contained temps (writes_of x) t (used_at b at x is).1 writes
  present_inside t point (IsLiveAfter b at x is e lv) = live_low t lv

  module _ (l : Lifetimes) (size : length l.parts ≡ temps)
      (parts : (t first last : ℕ) → t < temps → Contains (lifetime_parts l t) (record { first = first; last = last }) ↔ IsPart blocks t first last)
      (test : (t point : ℕ) → Bool) (exact : (t point : ℕ) → (test t point ≡ true) ↔ IsPresent blocks t point) where
    -- a test by the parts says where a temporary is present
    pub wanted_present : (t point : ℕ) → is_wanted l point t ≡ true → IsPresent blocks t point
    wanted_present t point e = ⊎_elim
        (λ (low : t < temps).
        let found = any_found (λ (p : LifetimePart). nat_le p.first point && nat_le point p.last) (lifetime_parts l t) e in
        let both = and_parts (nat_le found.1.first point) (nat_le point found.1.last) found.3 in
        let part = (parts t found.1.first found.1.last low).0 (found.0, slice_get_within (lifetime_parts l t) found.0 found.1 found.2, get_or_from_slice_get (lifetime_parts l t) found.0 found.1 found.1 found.2) in
        part.present point (leb-true found.1.first point both.0) (leb-true point found.1.last both.1))
        (λ (past : temps ≤ t). absurd (none (past_empty l.parts t (omega (arith, past, size)))))
        (either (nat_lt t temps) refl)
      where
        either : (c : Bool) → nat_lt t temps ≡ c → (t < temps) ⊎ (temps ≤ t)
        either true f = inl (ltb-true t temps f)
        either false f = inr (ltb-false t temps f)

        none : lifetime_parts l t ≡ [] → ⊥
        none f = not_both (is_covered_by (lifetime_parts l t) point) e (ap (λ ps. is_covered_by ps point) f)

    pub present_wanted : (t point : ℕ) → IsPresent blocks t point → is_wanted l point t ≡ true
    present_wanted t point is =
        let part = has_part blocks t (test t) (exact t) (2 * count_of blocks) (present_low blocks t) point is in
        any_there (λ (p : LifetimePart). nat_le p.first point && nat_le point p.last) (lifetime_parts l t) (record { first = part.0; last = part.1 })
        ((parts t part.0 part.1 (present_inside t point is)).1 part.2)
        (ap (λ c. c && nat_le point part.1) (le-leb part.0 point part.3) ∙ le-leb point part.1 part.4)
