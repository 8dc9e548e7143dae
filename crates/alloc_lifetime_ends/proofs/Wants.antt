-- The tests by what is live at the bottoms of blocks say where temporaries are live and present.
use Rattle.std.proofs.Common.{◌≡◌, ℕ, zero, suc, ◌+◌, ◌*◌, ◌≤◌, ◌⊎◌, ◌==◌, ◌&&◌, ◌||◌, not, Bool, true, false, List, [], ◌∷◌, refl, sym, ap, ◌∙◌, subst, inl, inr, ⊎_elim, length, take, drop, arith, Option, Some, None}
use Rattle.std.specs.Prelude.{slice_get, Contains, nat_le}
use Rattle.std.proofs.lemmas.Bool.{eq-eqb, eqb-true, le-leb, leb-true}
use Rattle.std.proofs.lemmas.List.Sums.{sum_by-cons}
use Rattle.std.proofs.lemmas.Option.{slice_get_within, none-some, same_Some}
use Rattle.pass_core.specs.Functions.{insn_in, insn_at, count_of, successors_of}
use Rattle.pass_core.specs.Live.Live.{IsRead, Passes, Follows}
use Rattle.temp_ir.specs.declared.insn.TempInsn.{TempInsn}
use Rattle.temp_ir.specs.Insns.{reads_of, writes_of, targets_of, flows_on_of}
use Rattle.alloc_model.specs.Places.{linear_number}
use Rattle.alloc_model.specs.Lifetimes.{Blocks, lives_at, IsPresent}
use Rattle.alloc_model.specs.Lifetimes.IsPresent.{IsRead as PresentRead, IsLiveBefore, IsWritten, IsLiveAfter}
use Rattle.bitvector_flow.specs.Flows.{has_at}
use Rattle.bitvector_flow.specs.Lives.{has_register, reads_first, some_writes, AreLive}
use Rattle.bitvector_flow.proofs.Lives.{either, or_cases, neither_made, and_left, and_right, and_made, names_of, of_names, names_none, drop_first, drop_there, drop_end, live_by_read, live_from_bottom, live_block}
use Rattle.alloc_lifetime_ends.specs.Wanted.{live_in, live_by, present_at, present_from, present_in, WantsAreExact}
use Rattle.alloc_lifetime_ends.proofs.Points.{and_of, and_one, and_two}

module _ (blocks : Blocks) (t : ℕ) where
  abbrev Live : ℕ → ℕ → Type 0
  Live block at = lives_at blocks t block at

  in_block : (block at : ℕ) (insns : List TempInsn) (x : TempInsn) → slice_get blocks block ≡ Some insns → insn_at blocks block at ≡ Some x → slice_get insns at ≡ Some x
  in_block block at insns x block_is is = sym (ap (λ b. insn_in b at) block_is) ∙ is

  -- what is live at a place is read first in what is left of the block, or passes it
  split : (block at : ℕ) → Live block at → (insns xs : List TempInsn) → slice_get blocks block ≡ Some insns → drop at insns ≡ xs →
      (reads_first reads_of writes_of xs t ≡ true) ⊎ ((some_writes writes_of xs t ≡ false) × Live block (length insns))
  split block at (IsRead i is has) insns xs block_is e =
      let list : drop at insns ≡ i ∷ drop (suc at) insns = drop_there insns at i (in_block block at insns i block_is is) in
      inl (ap (λ ys. reads_first reads_of writes_of ys t) (sym e ∙ list)
      ∙ either (has_register (reads_of i) t) (not (has_register (writes_of i) t) && reads_first reads_of writes_of (drop (suc at) insns) t) (inl (names_of (reads_of i) t has)))
  split block at (Passes i is none live) insns xs block_is e =
      let list : drop at insns ≡ i ∷ drop (suc at) insns = drop_there insns at i (in_block block at insns i block_is is) in
      let unwritten = names_none (writes_of i) t none in
      ⊎_elim
      (λ later. inl (ap (λ ys. reads_first reads_of writes_of ys t) (sym e ∙ list)
      ∙ either (has_register (reads_of i) t) (not (has_register (writes_of i) t) && reads_first reads_of writes_of (drop (suc at) insns) t)
      (inr (and_made (has_register (writes_of i) t) (reads_first reads_of writes_of (drop (suc at) insns) t) unwritten later))))
      (λ through. inr ((ap (λ ys. some_writes writes_of ys t) (sym e ∙ list) ∙ neither_made (has_register (writes_of i) t) (some_writes writes_of (drop (suc at) insns) t) unwritten through.0), through.1))
      (split block (suc at) live insns (drop (suc at) insns) block_is refl)
  split block at (Follows last next block_is end leads live) insns xs insns_is e =
      let same : last ≡ insns = same_Some last insns (sym block_is ∙ insns_is) in
      let none : xs ≡ [] = sym e ∙ ap (λ n. drop n insns) (end ∙ ap length same) ∙ drop_end insns in
      inr (ap (λ ys. some_writes writes_of ys t) none, Follows insns next insns_is refl (subst (λ b. Contains (successors_of targets_of flows_on_of block b) next) same leads) live)

  live_within : (block at : ℕ) → Live block at → (insns : List TempInsn) → slice_get blocks block ≡ Some insns → at ≤ length insns
  live_within block at (IsRead i is has) insns block_is = let inside = slice_get_within insns at i (in_block block at insns i block_is is) in omega (arith, inside)
  live_within block at (Passes i is none live) insns block_is = let inside = slice_get_within insns at i (in_block block at insns i block_is is) in omega (arith, inside)
  live_within block at (Follows last next last_is end leads live) insns block_is =
      let same : length last ≡ length insns = ap length (same_Some last insns (sym last_is ∙ block_is)) in omega (arith, end, same)

module _ (blocks : Blocks) (temps : ℕ) (tops bottoms : List (List Bool)) (are : AreLive reads_of writes_of targets_of flows_on_of blocks temps tops bottoms) (t : ℕ) where
  by_test : (block at : ℕ) (o : Option (List TempInsn)) → slice_get blocks block ≡ o → live_in o (has_at bottoms block t) t at ≡ true → lives_at blocks t block at
  by_test block at None is h = let no : ⊥ = cc in absurd no
  by_test block at (Some insns) is h =
      ⊎_elim
      (λ first. live_by_read reads_of writes_of targets_of flows_on_of blocks t block at insns (drop at insns) is refl first)
      (λ rest. live_from_bottom reads_of writes_of targets_of flows_on_of blocks t block at insns (drop at insns) is refl
      (leb-true at (length insns) (and_one (nat_le at (length insns)) (reads_first reads_of writes_of (drop at insns) t || (not (some_writes writes_of (drop at insns) t) && has_at bottoms block t)) h))
      (and_left (some_writes writes_of (drop at insns) t) (has_at bottoms block t) rest)
      ((are.live_at_bottom t block insns is).0 (and_right (some_writes writes_of (drop at insns) t) (has_at bottoms block t) rest)))
      (or_cases (reads_first reads_of writes_of (drop at insns) t) (not (some_writes writes_of (drop at insns) t) && has_at bottoms block t)
      (and_two (nat_le at (length insns)) (reads_first reads_of writes_of (drop at insns) t || (not (some_writes writes_of (drop at insns) t) && has_at bottoms block t)) h))

  pub live_tested : (block at : ℕ) → live_by blocks bottoms t block at ≡ true → lives_at blocks t block at
  live_tested block at h = by_test block at (slice_get blocks block) refl h

  pub tested_live : (block at : ℕ) → lives_at blocks t block at → live_by blocks bottoms t block at ≡ true
  tested_live block at live = tests (live_block reads_of writes_of targets_of flows_on_of blocks t block at live)
    where
      tests : (insns : List TempInsn) × (slice_get blocks block ≡ Some insns) → live_by blocks bottoms t block at ≡ true
      tests (insns, is) =
          ap (λ o. live_in o (has_at bottoms block t) t at) is
          ∙ and_of (nat_le at (length insns)) (reads_first reads_of writes_of (drop at insns) t || (not (some_writes writes_of (drop at insns) t) && has_at bottoms block t))
          (le-leb at (length insns) (live_within blocks t block at live insns is))
          (either (reads_first reads_of writes_of (drop at insns) t) (not (some_writes writes_of (drop at insns) t) && has_at bottoms block t)
          (⊎_elim (λ first. inl first)
          (λ through. inr (and_made (some_writes writes_of (drop at insns) t) (has_at bottoms block t) through.0 ((are.live_at_bottom t block insns is).1 through.1)))
          (split blocks t block at live insns (drop at insns) is refl)))

  -- ---- present

  abbrev Test : ℕ → ℕ → Bool
  Test block at = live_by blocks bottoms t block at

  at_present : (block at p number : ℕ) (x : TempInsn) → insn_at blocks block at ≡ Some x → number ≡ linear_number blocks block at → present_at (Test block) t p number at x ≡ true → IsPresent blocks t p
  at_present block at p number x there is h =
      ⊎_elim
      (λ early. let place : p ≡ 2 * linear_number blocks block at = eqb-true p (2 * number) (and_one (p == 2 * number) (has_register (reads_of x) t || Test block at) early) ∙ ap (λ n. 2 * n) is in
      ⊎_elim (λ named. PresentRead block at x there place (of_names (reads_of x) t named)) (λ live. IsLiveBefore block at x there place (live_tested block at live))
      (or_cases (has_register (reads_of x) t) (Test block at) (and_two (p == 2 * number) (has_register (reads_of x) t || Test block at) early)))
      (λ late. let place : p ≡ 2 * linear_number blocks block at + 1 = eqb-true p (2 * number + 1) (and_one (p == 2 * number + 1) (has_register (writes_of x) t || Test block (suc at)) late) ∙ ap (λ n. 2 * n + 1) is in
      ⊎_elim (λ named. IsWritten block at x there place (of_names (writes_of x) t named)) (λ live. IsLiveAfter block at x there place (live_tested block (suc at) live))
      (or_cases (has_register (writes_of x) t) (Test block (suc at)) (and_two (p == 2 * number + 1) (has_register (writes_of x) t || Test block (suc at)) late)))
      (or_cases ((p == 2 * number) && (has_register (reads_of x) t || Test block at)) ((p == 2 * number + 1) && (has_register (writes_of x) t || Test block (suc at))) h)

  from_present : (block p : ℕ) (insns : List TempInsn) → slice_get blocks block ≡ Some insns → (xs : List TempInsn) (number at : ℕ) → drop at insns ≡ xs → number ≡ linear_number blocks block at → present_from (Test block) t p number at xs ≡ true → IsPresent blocks t p
  from_present block p insns block_is [] number at e is h = let no : ⊥ = cc in absurd no
  from_present block p insns block_is (x ∷ xs) number at e is h =
      let d = drop_first insns at x xs e in
      ⊎_elim (at_present block at p number x (ap (λ b. insn_in b at) block_is ∙ d.0) is)
      (from_present block p insns block_is xs (suc number) (suc at) d.1 (omega (arith, is)))
      (or_cases (present_at (Test block) t p number at x) (present_from (Test block) t p (suc number) (suc at) xs) h)

  count_step : (bs : Blocks) (block : ℕ) (b : List TempInsn) → slice_get bs block ≡ Some b → count_of (take (suc block) bs) ≡ count_of (take block bs) + length b
  count_step [] block b is = absurd (none-some b is)
  count_step (c ∷ bs) zero b is =
      let one = sum_by-cons (λ (insns : List TempInsn). length insns) c [] in
      let same : length c ≡ length b = ap length (same_Some c b is) in
      omega (arith, one, same)
  count_step (c ∷ bs) (suc block) b is =
      let rest = count_step bs block b is in
      let one = sum_by-cons (λ (insns : List TempInsn). length insns) c (take (suc block) bs) in
      let two = sum_by-cons (λ (insns : List TempInsn). length insns) c (take block bs) in
      omega (arith, rest, one, two)

  in_present : (p : ℕ) (bs : Blocks) (number block : ℕ) → drop block blocks ≡ bs → number ≡ count_of (take block blocks) → present_in Test t p number block bs ≡ true → IsPresent blocks t p
  in_present p [] number block e is h = let no : ⊥ = cc in absurd no
  in_present p (b ∷ bs) number block e is h =
      let d = drop_first blocks block b bs e in
      let next = count_step blocks block b d.0 in
      ⊎_elim (from_present block p b d.0 b number 0 refl (omega (arith, is)))
      (in_present p bs (number + length b) (suc block) d.1 (omega (arith, is, next)))
      (or_cases (present_from (Test block) t p number 0 b) (present_in Test t p (number + length b) (suc block) bs) h)

  pub present_tested : (p : ℕ) → present_in Test t p 0 0 blocks ≡ true → IsPresent blocks t p
  present_tested p h = in_present p blocks 0 0 refl (omega arith) h

  from_there : (live : ℕ → Bool) (p : ℕ) (x : TempInsn) (xs : List TempInsn) (number at j : ℕ) → slice_get xs j ≡ Some x → present_at live t p (number + j) (at + j) x ≡ true → present_from live t p number at xs ≡ true
  from_there live p x [] number at j is h = absurd (none-some x is)
  from_there live p x (y ∷ xs) number at zero is h =
      either (present_at live t p number at y) (present_from live t p (suc number) (suc at) xs) (inl
      (ap (present_at live t p number at) (same_Some y x is) ∙ ap (λ n. present_at live t p n at x) (let e : number ≡ number + 0 = omega arith in e)
      ∙ ap (λ a. present_at live t p (number + 0) a x) (let e : at ≡ at + 0 = omega arith in e) ∙ h))
  from_there live p x (y ∷ xs) number at (suc j) is h =
      either (present_at live t p number at y) (present_from live t p (suc number) (suc at) xs) (inr
      (from_there live p x xs (suc number) (suc at) j is
      (ap (λ n. present_at live t p n (suc at + j) x) (let e : suc number + j ≡ number + suc j = omega arith in e)
      ∙ ap (λ a. present_at live t p (number + suc j) a x) (let e : suc at + j ≡ at + suc j = omega arith in e) ∙ h)))

  in_there : (p : ℕ) (x : TempInsn) (insns : List TempInsn) (bs : Blocks) (number block k at : ℕ) → slice_get bs k ≡ Some insns → slice_get insns at ≡ Some x →
      present_at (Test (block + k)) t p (number + (count_of (take k bs) + at)) at x ≡ true → present_in Test t p number block bs ≡ true
  in_there p x insns [] number block k at block_is is h = absurd (none-some insns block_is)
  in_there p x insns (b ∷ bs) number block zero at block_is is h =
      either (present_from (Test block) t p number 0 b) (present_in Test t p (number + length b) (suc block) bs) (inl
      (from_there (Test block) p x b number 0 at (ap (λ c. slice_get c at) (same_Some b insns block_is) ∙ is)
      (ap (λ n. present_at (Test block) t p n (0 + at) x) (let e : number + at ≡ number + (count_of {I = TempInsn} [] + at) = omega arith in e)
      ∙ ap (λ a. present_at (Test block) t p (number + (count_of {I = TempInsn} [] + at)) a x) (let e : 0 + at ≡ at = omega arith in e)
      ∙ ap (λ k. present_at (Test k) t p (number + (count_of {I = TempInsn} [] + at)) at x) (let e : block ≡ block + 0 = omega arith in e) ∙ h)))
  in_there p x insns (b ∷ bs) number block (suc k) at block_is is h =
      let one = sum_by-cons (λ (c : List TempInsn). length c) b (take k bs) in
      either (present_from (Test block) t p number 0 b) (present_in Test t p (number + length b) (suc block) bs) (inr
      (in_there p x insns bs (number + length b) (suc block) k at block_is is
      (ap (λ n. present_at (Test (suc block + k)) t p n at x) (let e : number + length b + (count_of (take k bs) + at) ≡ number + (count_of (b ∷ take k bs) + at) = omega (arith, one) in e)
      ∙ ap (λ j. present_at (Test j) t p (number + (count_of (b ∷ take k bs) + at)) at x) (let e : suc block + k ≡ block + suc k = omega arith in e) ∙ h)))

  block_of : (o : Option (List TempInsn)) (at : ℕ) (x : TempInsn) → insn_in o at ≡ Some x → (insns : List TempInsn) × (o ≡ Some insns) × (slice_get insns at ≡ Some x)
  block_of None at x is = absurd (none-some x is)
  block_of (Some insns) at x is = (insns, refl, is)

  at_tested : (block at p : ℕ) (x : TempInsn) → insn_at blocks block at ≡ Some x → present_at (Test block) t p (linear_number blocks block at) at x ≡ true → present_in Test t p 0 0 blocks ≡ true
  at_tested block at p x there h =
      let b = block_of (slice_get blocks block) at x there in
      in_there p x b.0 blocks 0 0 block at b.1 b.2
      (ap (λ n. present_at (Test (0 + block)) t p n at x) (let e : 0 + (count_of (take block blocks) + at) ≡ linear_number blocks block at = omega arith in e)
      ∙ ap (λ j. present_at (Test j) t p (linear_number blocks block at) at x) (let e : 0 + block ≡ block = omega arith in e) ∙ h)

  early_test : (block at p : ℕ) (x : TempInsn) → insn_at blocks block at ≡ Some x → p ≡ 2 * linear_number blocks block at → (has_register (reads_of x) t || Test block at) ≡ true → present_in Test t p 0 0 blocks ≡ true
  early_test block at p x there place h = at_tested block at p x there
      (either ((p == 2 * linear_number blocks block at) && (has_register (reads_of x) t || Test block at)) ((p == 2 * linear_number blocks block at + 1) && (has_register (writes_of x) t || Test block (suc at)))
      (inl (and_of (p == 2 * linear_number blocks block at) (has_register (reads_of x) t || Test block at) (eq-eqb p (2 * linear_number blocks block at) place) h)))

  late_test : (block at p : ℕ) (x : TempInsn) → insn_at blocks block at ≡ Some x → p ≡ 2 * linear_number blocks block at + 1 → (has_register (writes_of x) t || Test block (suc at)) ≡ true → present_in Test t p 0 0 blocks ≡ true
  late_test block at p x there place h = at_tested block at p x there
      (either ((p == 2 * linear_number blocks block at) && (has_register (reads_of x) t || Test block at)) ((p == 2 * linear_number blocks block at + 1) && (has_register (writes_of x) t || Test block (suc at)))
      (inr (and_of (p == 2 * linear_number blocks block at + 1) (has_register (writes_of x) t || Test block (suc at)) (eq-eqb p (2 * linear_number blocks block at + 1) place) h)))

  pub tested_present : (p : ℕ) → IsPresent blocks t p → present_in Test t p 0 0 blocks ≡ true
  tested_present p (PresentRead block at x there place has) = early_test block at p x there place (either (has_register (reads_of x) t) (Test block at) (inl (names_of (reads_of x) t has)))
  tested_present p (IsLiveBefore block at x there place live) = early_test block at p x there place (either (has_register (reads_of x) t) (Test block at) (inr (tested_live block at live)))
  tested_present p (IsWritten block at x there place has) = late_test block at p x there place (either (has_register (writes_of x) t) (Test block (suc at)) (inl (names_of (writes_of x) t has)))
  tested_present p (IsLiveAfter block at x there place live) = late_test block at p x there place (either (has_register (writes_of x) t) (Test block (suc at)) (inr (tested_live block (suc at) live)))

pub wants_exact : WantsAreExact
wants_exact a temps tops bottoms are = record {
  lives = λ t block at. (live_tested a.function.blocks temps tops bottoms are t block at, tested_live a.function.blocks temps tops bottoms are t block at);
  presents = λ t p. (present_tested a.function.blocks temps tops bottoms are t p, tested_present a.function.blocks temps tops bottoms are t p);
}
