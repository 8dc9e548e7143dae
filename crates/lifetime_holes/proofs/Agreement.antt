-- The tests over a whole function say at the points of each instruction what its reads, its writes and the sets of the
-- bottoms say.
use Rattle.std.proofs.Common.{◌≡◌, ◌≢◌, ℕ, zero, suc, ◌+◌, ◌*◌, ◌<◌, ◌≤◌, ◌⊎◌, ◌==◌, ◌&&◌, ◌||◌, not, Bool, true, false, List, [], ◌∷◌, refl, sym, ap, ◌∙◌, inl, inr, ⊎_elim, length, take, drop, arith, Option, Some, None}
use Rattle.std.specs.Prelude.{slice_get}
use Rattle.std.proofs.lemmas.Bool.{eq-eqb, eqb-true, le-leb}
use Rattle.std.proofs.lemmas.List.Sums.{sum_by-cons}
use Rattle.std.proofs.lemmas.Option.{slice_get_within, none-some, same_Some}
use Rattle.pass_core.specs.Functions.{insn_in, insn_at, count_of}
use Rattle.temp_ir.specs.declared.insn.TempInsn.{TempInsn}
use Rattle.temp_ir.specs.Insns.{reads_of, writes_of}
use Rattle.alloc_model.specs.Places.{linear_number}
use Rattle.alloc_model.specs.Lifetimes.{Blocks}
use Rattle.alloc_rules.specs.Scan.{IsReference}
use Rattle.alloc_rules.specs.Scan.IsReference.{IsRead, IsWrite}
use Rattle.bitvector_flow.specs.Flows.{has_at}
use Rattle.bitvector_flow.specs.Lives.{has_register, reads_first, some_writes}
use Rattle.bitvector_flow.proofs.Lives.{or_cases, names_of, of_names, drop_first}
use Rattle.alloc_lifetime_ends.specs.Wanted.{live_in, live_by, present_at, present_from, present_in}
use Rattle.alloc_lifetime_ends.proofs.Points.{and_one, and_two}
use Rattle.lifetime_holes.specs.model.Walks.{live_before, Agrees, AgreesOnNames, is_present, is_reference}

-- ---- truth values

or_false : (b : Bool) → (b || false) ≡ b
or_false true = refl
or_false false = refl

not_equal : (a b : ℕ) → a ≢ b → (a == b) ≡ false
not_equal a b apart = by_value (a == b) refl
  where
    by_value : (c : Bool) → (a == b) ≡ c → c ≡ false
    by_value true e = absurd (apart (eqb-true a b e))
    by_value false e = refl

twice_read : (r z : Bool) → (r || (r || z)) ≡ (r || z)
twice_read true z = refl
twice_read false z = refl

regrouped : (r w f s b : Bool) → ((r || (not w && f)) || (not (w || s) && b)) ≡ (r || (not w && (f || (not s && b))))
regrouped true w f s b = refl
regrouped false true f s b = refl
regrouped false false f s b = refl

-- ---- the instruction at a point

module _ (t p n : ℕ) where
  -- an instruction with another number says nothing
  elsewhere : (l : ℕ → Bool) (number at : ℕ) (x : TempInsn) → 2 * n ≤ p → p ≤ 2 * n + 1 → n ≢ number → present_at l t p number at x ≡ false
  elsewhere l number at x low high apart =
      ap (λ b. (b && (has_register (reads_of x) t || l at)) || ((p == 2 * number + 1) && (has_register (writes_of x) t || l (suc at))))
      (not_equal p (2 * number) (λ e. apart (let h : n ≡ number = omega (arith, low, high, e) in h)))
      ∙ ap (λ b. b && (has_register (writes_of x) t || l (suc at)))
      (not_equal p (2 * number + 1) (λ e. apart (let h : n ≡ number = omega (arith, low, high, e) in h)))

  outside_insns : (l : ℕ → Bool) (number at : ℕ) (xs : List TempInsn) → 2 * n ≤ p → p ≤ 2 * n + 1 → (n < number) ⊎ (number + length xs ≤ n) → present_from l t p number at xs ≡ false
  outside_insns l number at [] low high out = refl
  outside_insns l number at (x ∷ xs) low high out =
      ap (λ b. b || present_from l t p (suc number) (suc at) xs) (elsewhere l number at x low high (λ e. ⊎_elim (λ w. omega (arith, e, w)) (λ w. omega (arith, e, w)) out))
      ∙ outside_insns l (suc number) (suc at) xs low high (⊎_elim (λ w. inl (omega (arith, w))) (λ w. inr (omega (arith, w))) out)

  inside_insns : (l : ℕ → Bool) (number at : ℕ) (xs : List TempInsn) (k : ℕ) (x : TempInsn) (v : Bool) → 2 * n ≤ p → p ≤ 2 * n + 1 → slice_get xs k ≡ Some x → n ≡ number + k →
      present_at l t p n (at + k) x ≡ v → present_from l t p number at xs ≡ v
  inside_insns l number at [] k x v low high is e h = absurd (none-some x is)
  inside_insns l number at (y ∷ xs) zero x v low high is e h =
      ap (λ b. present_at l t p number at y || b) (outside_insns l (suc number) (suc at) xs low high (inl (omega (arith, e))))
      ∙ or_false (present_at l t p number at y)
      ∙ ap (present_at l t p number at) (same_Some y x is) ∙ ap (λ m. present_at l t p m at x) (let d : number ≡ n = omega (arith, e) in d)
      ∙ ap (λ a. present_at l t p n a x) (let d : at ≡ at + 0 = omega arith in d) ∙ h
  inside_insns l number at (y ∷ xs) (suc k) x v low high is e h =
      ap (λ b. b || present_from l t p (suc number) (suc at) xs) (elsewhere l number at y low high (λ d. omega (arith, d, e)))
      ∙ inside_insns l (suc number) (suc at) xs k x v low high is (omega (arith, e)) (ap (λ a. present_at l t p n a x) (let d : suc at + k ≡ at + suc k = omega arith in d) ∙ h)

  count_cons : (c : List TempInsn) (bs : Blocks) → count_of (c ∷ bs) ≡ length c + count_of bs
  count_cons c bs = sum_by-cons (λ block. length block) c bs

  module _ (live : (block at : ℕ) → Bool) where
    pub outside_blocks : (number block : ℕ) (bs : Blocks) → 2 * n ≤ p → p ≤ 2 * n + 1 → (n < number) ⊎ (number + count_of bs ≤ n) → present_in live t p number block bs ≡ false
    outside_blocks number block [] low high out = refl
    outside_blocks number block (b ∷ bs) low high out =
        let more = count_cons b bs in
        ap (λ c. c || present_in live t p (number + length b) (suc block) bs)
        (outside_insns (live block) number 0 b low high (⊎_elim (λ w. inl w) (λ w. inr (omega (arith, w, more))) out))
        ∙ outside_blocks (number + length b) (suc block) bs low high (⊎_elim (λ w. inl (omega (arith, w))) (λ w. inr (omega (arith, w, more))) out)

    inside_blocks : (number block : ℕ) (bs : Blocks) (k at : ℕ) (insns : List TempInsn) (x : TempInsn) (v : Bool) → 2 * n ≤ p → p ≤ 2 * n + 1 →
        slice_get bs k ≡ Some insns → slice_get insns at ≡ Some x → n ≡ number + count_of (take k bs) + at → present_at (live (block + k)) t p n at x ≡ v → present_in live t p number block bs ≡ v
    inside_blocks number block [] k at insns x v low high block_is is e h = absurd (none-some insns block_is)
    inside_blocks number block (b ∷ bs) zero at insns x v low high block_is is e h =
        let within = slice_get_within insns at x is in
        let same : b ≡ insns = same_Some b insns block_is in
        let size : length b ≡ length insns = ap length same in
        let none : n ≡ number + at = omega (arith, e) in
        ap (λ c. present_from (live block) t p number 0 b || c)
        (outside_blocks (number + length b) (suc block) bs low high (inl (omega (arith, none, within, size))))
        ∙ or_false (present_from (live block) t p number 0 b)
        ∙ inside_insns (live block) number 0 b at x v low high (ap (λ c. slice_get c at) same ∙ is) none
        (ap (λ a. present_at (live block) t p n a x) (let d : 0 + at ≡ at = omega arith in d) ∙ ap (λ a. present_at (live a) t p n at x) (let d : block ≡ block + 0 = omega arith in d) ∙ h)
    inside_blocks number block (b ∷ bs) (suc k) at insns x v low high block_is is e h =
        let more = count_cons b (take k bs) in
        ap (λ c. c || present_in live t p (number + length b) (suc block) bs)
        (outside_insns (live block) number 0 b low high (inr (omega (arith, e, more))))
        ∙ inside_blocks (number + length b) (suc block) bs k at insns x v low high block_is is (omega (arith, e, more))
        (ap (λ a. present_at (live a) t p n at x) (let d : suc block + k ≡ block + suc k = omega arith in d) ∙ h)

-- ---- in a function

module _ (live : (block at : ℕ) → Bool) (t : ℕ) (blocks : Blocks) (block at : ℕ) (insns : List TempInsn) (x : TempInsn) (block_is : slice_get blocks block ≡ Some insns) (is : slice_get insns at ≡ Some x) where
  early_at : (l : ℕ → Bool) (n : ℕ) → present_at l t (2 * n) n at x ≡ (has_register (reads_of x) t || l at)
  early_at l n =
      ap (λ b. (b && (has_register (reads_of x) t || l at)) || ((2 * n == 2 * n + 1) && (has_register (writes_of x) t || l (suc at)))) (eq-eqb (2 * n) (2 * n) refl)
      ∙ ap (λ b. (has_register (reads_of x) t || l at) || (b && (has_register (writes_of x) t || l (suc at)))) (not_equal (2 * n) (2 * n + 1) (λ e. omega (arith, e)))
      ∙ or_false (has_register (reads_of x) t || l at)

  late_at : (l : ℕ → Bool) (n : ℕ) → present_at l t (2 * n + 1) n at x ≡ (has_register (writes_of x) t || l (suc at))
  late_at l n =
      ap (λ b. (b && (has_register (reads_of x) t || l at)) || ((2 * n + 1 == 2 * n + 1) && (has_register (writes_of x) t || l (suc at)))) (not_equal (2 * n + 1) (2 * n) (λ e. omega (arith, e)))
      ∙ ap (λ b. b && (has_register (writes_of x) t || l (suc at))) (eq-eqb (2 * n + 1) (2 * n + 1) refl)

  pub early : (n : ℕ) → n ≡ count_of (take block blocks) + at → present_in live t (2 * n) 0 0 blocks ≡ (has_register (reads_of x) t || live block at)
  early n e = inside_blocks t (2 * n) n live 0 0 blocks block at insns x (has_register (reads_of x) t || live block at) (omega arith) (omega arith) block_is is (omega (arith, e))
      (ap (λ a. present_at (live a) t (2 * n) n at x) (let d : 0 + block ≡ block = omega arith in d) ∙ early_at (live block) n)

  pub late : (n : ℕ) → n ≡ count_of (take block blocks) + at → present_in live t (2 * n + 1) 0 0 blocks ≡ (has_register (writes_of x) t || live block (suc at))
  late n e = inside_blocks t (2 * n + 1) n live 0 0 blocks block at insns x (has_register (writes_of x) t || live block (suc at)) (omega arith) (omega arith) block_is is (omega (arith, e))
      (ap (λ a. present_at (live a) t (2 * n + 1) n at x) (let d : 0 + block ≡ block = omega arith in d) ∙ late_at (live block) n)

-- ---- what is left of a block

live_is : (t : ℕ) (bottom : Bool) (xs : List TempInsn) → (reads_first reads_of writes_of xs t || (not (some_writes writes_of xs t) && bottom)) ≡ live_before t bottom xs
live_is t bottom [] = refl
live_is t bottom (x ∷ xs) =
    regrouped (has_register (reads_of x) t) (has_register (writes_of x) t) (reads_first reads_of writes_of xs t) (some_writes writes_of xs t) bottom
    ∙ ap (λ b. has_register (reads_of x) t || (not (has_register (writes_of x) t) && b)) (live_is t bottom xs)

module _ (blocks : Blocks) (bottoms : List (List Bool)) (t block : ℕ) (insns : List TempInsn) (block_is : slice_get blocks block ≡ Some insns) where
  live_there : (at : ℕ) (xs : List TempInsn) → drop at insns ≡ xs → at ≤ length insns → live_by blocks bottoms t block at ≡ live_before t (has_at bottoms block t) xs
  live_there at xs e few =
      ap (λ o. live_in o (has_at bottoms block t) t at) block_is
      ∙ ap (λ b. b && (reads_first reads_of writes_of (drop at insns) t || (not (some_writes writes_of (drop at insns) t) && has_at bottoms block t))) (le-leb at (length insns) few)
      ∙ ap (λ ys. reads_first reads_of writes_of ys t || (not (some_writes writes_of ys t) && has_at bottoms block t)) e
      ∙ live_is t (has_at bottoms block t) xs

  agrees_from : (at number : ℕ) (xs : List TempInsn) → drop at insns ≡ xs → number ≡ count_of (take block blocks) + at → Agrees (is_present blocks bottoms t) t (has_at bottoms block t) number xs
  agrees_from at number [] e is = tt
  agrees_from at number (x ∷ xs) e is =
      let d = drop_first insns at x xs e in
      let inside = d.2 in (
        early (live_by blocks bottoms t) t blocks block at insns x block_is d.0 number is
            ∙ ap (λ b. has_register (reads_of x) t || b) (live_there at (x ∷ xs) e (omega (arith, inside)))
            ∙ twice_read (has_register (reads_of x) t) (not (has_register (writes_of x) t) && live_before t (has_at bottoms block t) xs),
        late (live_by blocks bottoms t) t blocks block at insns x block_is d.0 number is
            ∙ ap (λ b. has_register (writes_of x) t || b) (live_there (suc at) xs d.1 (omega (arith, inside))),
        agrees_from (suc at) (suc number) xs d.1 (omega (arith, is)),
      )

  names_from : (at number : ℕ) (xs : List TempInsn) → drop at insns ≡ xs → number ≡ count_of (take block blocks) + at → AgreesOnNames (is_reference blocks t) t number xs
  names_from at number [] e is = tt
  names_from at number (x ∷ xs) e is =
      let d = drop_first insns at x xs e in (
        early (λ b a. false) t blocks block at insns x block_is d.0 number is ∙ or_false (has_register (reads_of x) t),
        late (λ b a. false) t blocks block at insns x block_is d.0 number is ∙ or_false (has_register (writes_of x) t),
        names_from (suc at) (suc number) xs d.1 (omega (arith, is)),
      )

  pub block_agrees : (number : ℕ) → number ≡ count_of (take block blocks) → Agrees (is_present blocks bottoms t) t (has_at bottoms block t) number insns
  block_agrees number is = agrees_from 0 number insns refl (omega (arith, is))

  pub block_named : (number : ℕ) → number ≡ count_of (take block blocks) → AgreesOnNames (is_reference blocks t) t number insns
  block_named number is = names_from 0 number insns refl (omega (arith, is))

-- ---- references

module _ (blocks : Blocks) (t : ℕ) where
  block_of : (o : Option (List TempInsn)) (at : ℕ) (x : TempInsn) → insn_in o at ≡ Some x → (insns : List TempInsn) × (o ≡ Some insns) × (slice_get insns at ≡ Some x)
  block_of None at x is = absurd (none-some x is)
  block_of (Some insns) at x is = (insns, refl, is)

  pub reference_tested : (p : ℕ) → IsReference blocks t p → is_reference blocks t p ≡ true
  reference_tested p (IsRead block at x there place has) =
      let b = block_of (slice_get blocks block) at x there in
      ap (is_reference blocks t) place ∙ early (λ b a. false) t blocks block at b.0 x b.1 b.2 (linear_number blocks block at) refl
      ∙ or_false (has_register (reads_of x) t) ∙ names_of (reads_of x) t has
  reference_tested p (IsWrite block at x there place has) =
      let b = block_of (slice_get blocks block) at x there in
      ap (is_reference blocks t) place ∙ late (λ b a. false) t blocks block at b.0 x b.1 b.2 (linear_number blocks block at) refl
      ∙ or_false (has_register (writes_of x) t) ∙ names_of (writes_of x) t has

  at_reference : (block at p number : ℕ) (x : TempInsn) → insn_at blocks block at ≡ Some x → number ≡ linear_number blocks block at → present_at (λ a. false) t p number at x ≡ true → IsReference blocks t p
  at_reference block at p number x there is h =
      ⊎_elim
      (λ early. IsRead block at x there (eqb-true p (2 * number) (and_one (p == 2 * number) (has_register (reads_of x) t || false) early) ∙ ap (λ n. 2 * n) is)
      (of_names (reads_of x) t (sym (or_false (has_register (reads_of x) t)) ∙ and_two (p == 2 * number) (has_register (reads_of x) t || false) early)))
      (λ late. IsWrite block at x there (eqb-true p (2 * number + 1) (and_one (p == 2 * number + 1) (has_register (writes_of x) t || false) late) ∙ ap (λ n. 2 * n + 1) is)
      (of_names (writes_of x) t (sym (or_false (has_register (writes_of x) t)) ∙ and_two (p == 2 * number + 1) (has_register (writes_of x) t || false) late)))
      (or_cases ((p == 2 * number) && (has_register (reads_of x) t || false)) ((p == 2 * number + 1) && (has_register (writes_of x) t || false)) h)

  from_reference : (block p : ℕ) (insns : List TempInsn) → slice_get blocks block ≡ Some insns → (xs : List TempInsn) (number at : ℕ) → drop at insns ≡ xs → number ≡ linear_number blocks block at →
      present_from (λ a. false) t p number at xs ≡ true → IsReference blocks t p
  from_reference block p insns block_is [] number at e is h = let never : ⊥ = cc in absurd never
  from_reference block p insns block_is (x ∷ xs) number at e is h =
      let d = drop_first insns at x xs e in
      ⊎_elim (at_reference block at p number x (ap (λ b. insn_in b at) block_is ∙ d.0) is)
      (from_reference block p insns block_is xs (suc number) (suc at) d.1 (omega (arith, is)))
      (or_cases (present_at (λ a. false) t p number at x) (present_from (λ a. false) t p (suc number) (suc at) xs) h)

  count_step : (bs : Blocks) (block : ℕ) (b : List TempInsn) → slice_get bs block ≡ Some b → count_of (take (suc block) bs) ≡ count_of (take block bs) + length b
  count_step [] block b is = absurd (none-some b is)
  count_step (c ∷ bs) zero b is =
      let one = sum_by-cons (λ (insns : List TempInsn). length insns) c [] in
      let same : length c ≡ length b = ap length (same_Some c b is) in
      omega (arith, one, same)
  count_step (c ∷ bs) (suc block) b is =
      let rest = count_step bs block b is in
      let one = sum_by-cons (λ (insns : List TempInsn). length insns) c (take (suc block) bs) in
      let two = sum_by-cons (λ (insns : List TempInsn). length insns) c (take block bs) in
      omega (arith, rest, one, two)

  in_reference : (p : ℕ) (bs : Blocks) (number block : ℕ) → drop block blocks ≡ bs → number ≡ count_of (take block blocks) → present_in (λ b a. false) t p number block bs ≡ true → IsReference blocks t p
  in_reference p [] number block e is h = let never : ⊥ = cc in absurd never
  in_reference p (b ∷ bs) number block e is h =
      let d = drop_first blocks block b bs e in
      let next = count_step blocks block b d.0 in
      ⊎_elim (from_reference block p b d.0 b number 0 refl (omega (arith, is)))
      (in_reference p bs (number + length b) (suc block) d.1 (omega (arith, is, next)))
      (or_cases (present_from (λ a. false) t p number 0 b) (present_in (λ b a. false) t p (number + length b) (suc block) bs) h)

  pub tested_reference : (p : ℕ) → is_reference blocks t p ≡ true → IsReference blocks t p
  tested_reference p h = in_reference p blocks 0 0 refl (omega arith) h
