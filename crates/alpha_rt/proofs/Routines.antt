-- A whole routine: what comes before the common part, the common part, and what comes behind it.
use Rattle.std.proofs.Common.{◌≡◌, ℕ, zero, suc, ◌+◌, ◌-◌, ◌*◌, ◌/◌, ◌%◌, ◌^◌, ◌<◌, ◌≤◌, pos, List, [], ◌∷◌, ◌++◌, length, take, drop, false, cond, ltb, Option, Some, None, refl, sym, ap, ◌∙◌, subst, arith, length-append, length-take, length-drop}
use Rattle.std.proofs.lemmas.Bool.{le-ltb}
use Rattle.std.specs.Prelude.{slice_get, option_and_then}
use Rattle.alpha_isa.specs.declared.insn.Fields.{Fields}
use Rattle.alpha_isa.specs.declared.insn.Fields.TheVariants.{Branch, Jump}
use Rattle.alpha_isa.specs.declared.insn.BranchOp.TheVariants.{Br, Bsr}
use Rattle.alpha_isa.specs.declared.insn.JumpOp.TheVariants.{Ret}
use Rattle.alpha_isa.specs.Arithmetic.{word_at}
use Rattle.alpha_isa.specs.Words.{insn_of}
use Rattle.alpha_isa.specs.Program.{Program, IsLawful, word_address, data_start, stack_start}
use Rattle.alpha_isa.specs.State.{State}
use Rattle.alpha_isa.specs.Step.{Goes}
use Rattle.alpha_rt.specs.Routine.{Routine, Divq, Remq, Divqu, Remqu, Divl, Reml, Divlu, Remlu}
use Rattle.alpha_rt.specs.Code.{prologue, epilogue, common_part, test_of, operands_of, answer_of, entry, opening_code, call_place, exit_place, routine_code, all_code}
use Rattle.alpha_rt.specs.Calls.{RoutinesStandAt, IsCall, Returns, TrapsWith}
use Rattle.alpha_rt.proofs.Runs.{Reaches, then_reaches, at_most, one_reaches, CodeStandsAt, placed_from, front, behind, at, after, straight_reaches}
use Rattle.alpha_rt.proofs.Registers.{RegisterFile, listed_registers}
use Rattle.alpha_rt.proofs.Common.{CommonPartDivides, common_divides, Ends, then_ends, common_traps}
use Rattle.alpha_rt.proofs.Stack.{spelled_word, frame, IsFrame, over, saved_in_frame, restored_from_frame}

-- ---- where the parts stand

part : (p : Program) (a : ℕ) (before here later : List Fields) → CodeStandsAt p a (before ++ (here ++ later)) → CodeStandsAt p (a + 4 * length before) here
part p a before here later h = front p (a + 4 * length before) here later (behind p a before (here ++ later) h)

routine_placed : (r : Routine) (p : Program) (a : ℕ) → CodeStandsAt p a all_code → CodeStandsAt p (a + 4 * entry r) (routine_code r)
routine_placed Divq p a h = part p a [] (routine_code Divq) (drop 20 all_code) h
routine_placed Remq p a h = part p a (take 20 all_code) (routine_code Remq) (drop 38 all_code) h
routine_placed Divqu p a h = part p a (take 38 all_code) (routine_code Divqu) (drop 46 all_code) h
routine_placed Remqu p a h = part p a (take 46 all_code) (routine_code Remqu) (drop 55 all_code) h
routine_placed Divl p a h = part p a (take 55 all_code) (routine_code Divl) (drop 75 all_code) h
routine_placed Reml p a h = part p a (take 75 all_code) (routine_code Reml) (drop 93 all_code) h
routine_placed Divlu p a h = part p a (take 93 all_code) (routine_code Divlu) (drop 102 all_code) h
routine_placed Remlu p a h = part p a (take 102 all_code) (routine_code Remlu) (drop 111 all_code) h

common_placed : (p : Program) (a : ℕ) → CodeStandsAt p a all_code → CodeStandsAt p (a + 444) common_part
common_placed p a h = part p a (take 111 all_code) common_part epilogue h

epilogue_placed : (p : Program) (a : ℕ) → CodeStandsAt p a all_code → CodeStandsAt p (a + 604) epilogue
epilogue_placed p a h = behind p a (take 151 all_code) epilogue h

calls_early : (r : Routine) → call_place r + 1 ≤ 111
calls_early Divq = omega arith
calls_early Remq = omega arith
calls_early Divqu = omega arith
calls_early Remqu = omega arith
calls_early Divl = omega arith
calls_early Reml = omega arith
calls_early Divlu = omega arith
calls_early Remlu = omega arith

exits_early : (r : Routine) → exit_place r + 1 ≤ 151
exits_early Divq = omega arith
exits_early Remq = omega arith
exits_early Divqu = omega arith
exits_early Remqu = omega arith
exits_early Divl = omega arith
exits_early Reml = omega arith
exits_early Divlu = omega arith
exits_early Remlu = omega arith

short_parts : (r : Routine) → (length (operands_of r) ≤ 6) × (length (answer_of r) ≤ 5)
short_parts Divq = (omega arith, omega arith)
short_parts Remq = (omega arith, omega arith)
short_parts Divqu = (omega arith, omega arith)
short_parts Remqu = (omega arith, omega arith)
short_parts Divl = (omega arith, omega arith)
short_parts Reml = (omega arith, omega arith)
short_parts Divlu = (omega arith, omega arith)
short_parts Remlu = (omega arith, omega arith)

-- a text has at most 2 to 28 words, so no address of the code wraps
got_below : (ws : List ℕ) (i : ℕ) (f : Fields) → option_and_then insn_of (slice_get ws i) ≡ Some f → i < length ws
got_below [] i f e = let clash : ⊥ = cc in absurd clash
got_below (w ∷ ws) zero f e = omega arith
got_below (w ∷ ws) (suc i) f e = omega (arith, got_below ws i f e)

code_fits : (p : Program) (word : ℕ) → IsLawful p → RoutinesStandAt p word → word + 156 ≤ 2 ^ 28
code_fits p word lawful h =
    let pc : ℕ = word_address (word + 155) in
    let found : Option Fields = option_and_then insn_of (slice_get p.words ((pc - 65536) / 4)) in
    let inside : ltb pc 65536 ≡ false = le-ltb pc 65536 (omega arith) in
    let index : word + 155 ≡ (pc - 65536) / 4 = omega arith in
    let last : option_and_then insn_of (slice_get p.words (word + 155)) ≡ Some (Jump Ret 31 23) =
    ap (λ i. option_and_then insn_of (slice_get p.words i)) index ∙ sym (ap (λ b. cond b None found) inside) ∙ h 155 (omega arith) in
    omega (arith, got_below p.words (word + 155) (Jump Ret 31 23) last, lawful.words)

-- where a routine at an address has the common part and the part that leaves
record Site (p : Program) (r : Routine) (a common_at epilogue_at : ℕ) : Type 0 where
  routine : CodeStandsAt p a (routine_code r)
  common_code : CodeStandsAt p common_at common_part
  epilogue_code : CodeStandsAt p epilogue_at epilogue
  calls : a + 4 * length (opening_code r) + 4 + 4 * (111 - (call_place r + 1)) ≡ common_at
  exits : a + 4 * length (opening_code r) + 4 + 4 * length (answer_of r) + 4 + 4 * (151 - (exit_place r + 1)) ≡ epilogue_at
  whole : a % 4 ≡ 0
  low : a < 2 ^ 40
  common_low : common_at < 2 ^ 40
  epilogue_low : epilogue_at < 2 ^ 40

site_of : (r : Routine) (p : Program) (word a : ℕ) → IsLawful p → RoutinesStandAt p word → a ≡ word_address (word + entry r) → Site p r a (word_address word + 444) (word_address word + 604)
site_of r p word a lawful h e =
    let h1 : CodeStandsAt p (word_address word) all_code = placed_from p all_code word h in
    let here : word_address word + 4 * entry r ≡ a = omega arith in
    let fits : word + 156 ≤ 2 ^ 28 = code_fits p word lawful h in
    record {
      routine = subst (λ n. CodeStandsAt p n (routine_code r)) here (routine_placed r p (word_address word) h1);
      common_code = common_placed p (word_address word) h1;
      epilogue_code = epilogue_placed p (word_address word) h1;
      calls = omega (arith, calls_early r);
      exits = omega (arith, exits_early r);
      whole = omega arith;
      low = omega (arith, calls_early r);
      common_low = omega arith;
      epilogue_low = omega arith;
    }

-- the test that a routine begins with, at an address from which no later one wraps
pub test_at : (r : Routine) (p : Program) (word a : ℕ) → IsLawful p → RoutinesStandAt p word → a ≡ word_address (word + entry r) → CodeStandsAt p a (test_of r) × (a < 2 ^ 40)
test_at r p word a lawful h e =
    let site : Site p r a (word_address word + 444) (word_address word + 604) = site_of r p word a lawful h e in
    let behind_opening : List Fields = Branch Bsr 4 (pos (111 - (call_place r + 1))) ∷ (answer_of r ++ Branch Br 31 (pos (151 - (exit_place r + 1))) ∷ []) in
    (front p a (test_of r) (prologue ++ operands_of r) (front p a (opening_code r) behind_opening site.routine), site.low)

-- ---- what a routine's own parts do

-- The routine has the common part divide n by d, and makes its answer of what that leaves.
pub record Parts (r : Routine) (p : Program) (s : State) (a : ℕ) (x : RegisterFile) (n d answer : ℕ) : Type 0 where
  pub dividend_word : n < 2 ^ 64
  pub divisor_word : d < 2 ^ 64
  pub tested : ℕ
  pub tests : Reaches p 3 (at s a (listed_registers x)) (at s (a + 4 * length (test_of r)) (listed_registers (record x { r28 = tested })))
  pub operands : (j : ℕ) → (k : ℕ) × (after (operands_of r) (listed_registers (record x { r28 = j })) ≡ Some (listed_registers (record x { r2 = d; r27 = n; r28 = k })))
  pub answers : 0 < d → (link j : ℕ) → (k : ℕ) × (m : ℕ) × (after (answer_of r) (listed_registers (record x { r1 = n % d; r2 = d; r3 = 0; r4 = link; r27 = n / d; r28 = j })) ≡ Some (listed_registers (record x { r1 = k; r2 = d; r3 = 0; r4 = link; r27 = answer; r28 = m })))

-- ---- the run

-- the machine comes to the common part with the operands
record EntersCommonPart (p : Program) (s t : State) (a to n d link : ℕ) (x : RegisterFile) : Type 0 where
  scratch : ℕ
  reaches : Reaches p 14 (at s a (listed_registers x)) (at t to (listed_registers (record x { r2 = d; r4 = link; r27 = n; r28 = scratch })))

saved_stack : State → RegisterFile → List ℕ → List ℕ → State
saved_stack s x f b = over s (frame f (spelled_word x.r4) (spelled_word x.r3) (spelled_word x.r2) (spelled_word x.r1) b)

entered : (r : Routine) (p : Program) (s : State) (a common_at epilogue_at : ℕ) (x : RegisterFile) (n d answer : ℕ) (f m4 m3 m2 m1 b : List ℕ) → Site p r a common_at epilogue_at → Parts r p s a x n d answer → IsFrame p s x.r30 f m4 m3 m2 m1 b →
    EntersCommonPart p s (saved_stack s x f b) a common_at n d (a + 4 * length (opening_code r) + 4) x
unfolding saved_stack
entered r p s a common_at epilogue_at x n d answer f m4 m3 m2 m1 b site parts stack =
    let t : List Fields = test_of r in
    let o : List Fields = operands_of r in
    let s1 : State = over s (frame f (spelled_word x.r4) (spelled_word x.r3) (spelled_word x.r2) (spelled_word x.r1) b) in
    let x0 : RegisterFile = record x { r28 = parts.tested } in
    let loaded = parts.operands parts.tested in
    let x1 : RegisterFile = record x { r2 = d; r27 = n; r28 = loaded.0 } in
    let call : ℕ = a + 4 * length (opening_code r) in
    let x2 : RegisterFile = record x { r2 = d; r4 = call + 4; r27 = n; r28 = loaded.0 } in
    let behind_opening : List Fields = Branch Bsr 4 (pos (111 - (call_place r + 1))) ∷ (answer_of r ++ Branch Br 31 (pos (151 - (exit_place r + 1))) ∷ []) in
    let h1 : CodeStandsAt p a (opening_code r) = front p a (opening_code r) behind_opening site.routine in
    let h2 : CodeStandsAt p (a + 4 * length t) (prologue ++ o) = behind p a t (prologue ++ o) h1 in
    let h3 : CodeStandsAt p (a + 4 * length t + 16) o = behind p (a + 4 * length t) prologue o h2 in
    let h4 : CodeStandsAt p call behind_opening = behind p a (opening_code r) behind_opening site.routine in
    let saves : Reaches p 4 (at s (a + 4 * length t) (listed_registers x0)) (at s1 (a + 4 * length t + 16) (listed_registers x0)) =
    saved_in_frame p s (a + 4 * length t) x0 f m4 m3 m2 m1 b (front p (a + 4 * length t) prologue o h2) stack in
    let loads : Reaches p (length o) (at s1 (a + 4 * length t + 16) (listed_registers x0)) (at s1 (a + 4 * length t + 16 + 4 * length o) (listed_registers x1)) =
    straight_reaches p o (a + 4 * length t + 16) (listed_registers x0) (listed_registers x1) s1 h3 loaded.1 in
    let there : a + 4 * length t + 16 + 4 * length o ≡ call = omega (arith, length-append t (prologue ++ o), length-append prologue o) in
    let target : word_at (call + 4 + (111 - (call_place r + 1)) * 4) ≡ common_at = omega (arith, site.calls, site.common_low) in
    let calls : Reaches p 1 (at s1 call (listed_registers x1)) (at s1 common_at (listed_registers x2)) =
    one_reaches p (Branch Bsr 4 (pos (111 - (call_place r + 1)))) (at s1 call (listed_registers x1)) (at s1 common_at (listed_registers x2)) h4.0 (ap (λ n. Goes (at s1 n (listed_registers x2))) target) in
    let come : Reaches p (3 + 4 + length o) (at s a (listed_registers x)) (at s1 call (listed_registers x1)) =
    subst (λ n. Reaches p (3 + 4 + length o) (at s a (listed_registers x)) (at s1 n (listed_registers x1))) there
    (then_reaches p (3 + 4) (length o) _ _ _ (then_reaches p 3 4 _ _ _ parts.tests saves) loads) in
    record {
      scratch = loaded.0;
      reaches = at_most p (3 + 4 + length o + 1) 14 _ _ (omega (arith, (short_parts r).0)) (then_reaches p (3 + 4 + length o) 1 _ _ _ come calls);
    }

record LeavesRoutine (p : Program) (s t : State) (a answer : ℕ) (x : RegisterFile) : Type 0 where
  scratch : ℕ
  reaches : Reaches p 599 (at s a (listed_registers x)) (at t (x.r23 / 4 * 4) (listed_registers (record x { r27 = answer; r28 = scratch })))

record FourWords (x : RegisterFile) : Type 0 where
  first : x.r1 < 2 ^ 64
  second : x.r2 < 2 ^ 64
  third : x.r3 < 2 ^ 64
  fourth : x.r4 < 2 ^ 64

left : (r : Routine) (p : Program) (s : State) (a common_at epilogue_at : ℕ) (x : RegisterFile) (n d answer : ℕ) (f m4 m3 m2 m1 b : List ℕ) → Site p r a common_at epilogue_at → Parts r p s a x n d answer → IsFrame p s x.r30 f m4 m3 m2 m1 b → FourWords x → 0 < d →
    LeavesRoutine p s (saved_stack s x f b) a answer x
unfolding saved_stack
left r p s a common_at epilogue_at x n d answer f m4 m3 m2 m1 b site parts stack words some =
    let w : List Fields = answer_of r in
    let s1 : State = over s (frame f (spelled_word x.r4) (spelled_word x.r3) (spelled_word x.r2) (spelled_word x.r1) b) in
    let call : ℕ = a + 4 * length (opening_code r) in
    let link : ℕ = call + 4 in
    let leave : List Fields = Branch Br 31 (pos (151 - (exit_place r + 1))) ∷ [] in
    let behind_opening : List Fields = Branch Bsr 4 (pos (111 - (call_place r + 1))) ∷ (w ++ leave) in
    let go : EntersCommonPart p s s1 a common_at n d link x = entered r p s a common_at epilogue_at x n d answer f m4 m3 m2 m1 b site parts stack in
    let x2 : RegisterFile = record x { r2 = d; r4 = link; r27 = n; r28 = go.scratch } in
    let divided : CommonPartDivides p s1 common_at x2 = common_divides p s1 common_at x2 site.common_code (omega (arith, site.common_low)) parts.dividend_word parts.divisor_word some in
    let x3 : RegisterFile = record x { r1 = n % d; r2 = d; r3 = 0; r4 = link; r27 = n / d; r28 = divided.scratch } in
    let back : link / 4 * 4 ≡ link = omega (arith, site.whole) in
    let divides : Reaches p 548 (at s1 common_at (listed_registers x2)) (at s1 link (listed_registers x3)) =
    subst (λ n. Reaches p 548 (at s1 common_at (listed_registers x2)) (at s1 n (listed_registers x3))) back divided.reaches in
    let answered = parts.answers some link divided.scratch in
    let x4 : RegisterFile = record x { r1 = answered.0; r2 = d; r3 = 0; r4 = link; r27 = answer; r28 = answered.1 } in
    let h4 : CodeStandsAt p call behind_opening = behind p a (opening_code r) behind_opening site.routine in
    let answers : Reaches p (length w) (at s1 link (listed_registers x3)) (at s1 (link + 4 * length w) (listed_registers x4)) =
    straight_reaches p w link (listed_registers x3) (listed_registers x4) s1 (front p link w leave h4.1) answered.2 in
    let h5 : CodeStandsAt p (link + 4 * length w) leave = behind p link w leave h4.1 in
    let target : word_at (link + 4 * length w + 4 + (151 - (exit_place r + 1)) * 4) ≡ epilogue_at = omega (arith, site.exits, site.epilogue_low) in
    let exits : Reaches p 1 (at s1 (link + 4 * length w) (listed_registers x4)) (at s1 epilogue_at (listed_registers x4)) =
    one_reaches p (Branch Br 31 (pos (151 - (exit_place r + 1)))) (at s1 (link + 4 * length w) (listed_registers x4)) (at s1 epilogue_at (listed_registers x4)) h5.0 (ap (λ n. Goes (at s1 n (listed_registers x4))) target) in
    let framed : IsFrame p s1 x.r30 f (spelled_word x.r4) (spelled_word x.r3) (spelled_word x.r2) (spelled_word x.r1) b = record { aligned = stack.aligned; word = stack.word; data_below = stack.data_below; top_is = stack.top_is; eight4 = refl; eight3 = refl; eight2 = refl; eight1 = refl; stack = refl } in
    let leaves : Reaches p 5 (at s1 epilogue_at (listed_registers x4)) (at s1 (x.r23 / 4 * 4) (listed_registers (record x { r27 = answer; r28 = answered.1 }))) =
    restored_from_frame p s1 epilogue_at x4 x.r1 x.r2 x.r3 x.r4 f b site.epilogue_code framed words.first words.second words.third words.fourth in
    record {
      scratch = answered.1;
      reaches = at_most p (14 + 548 + length w + 1 + 5) 599 _ _ (omega (arith, (short_parts r).1))
          (then_reaches p (14 + 548 + length w + 1) 5 _ _ _
          (then_reaches p (14 + 548 + length w) 1 _ _ _
          (then_reaches p (14 + 548) (length w) _ _ _
          (then_reaches p 14 548 _ _ _ go.reaches divides) answers) exits) leaves);
    }

-- ---- the stack of a call

parted : (n : ℕ) (l : List ℕ) → l ≡ take n l ++ drop n l
parted zero l = refl
parted (suc n) [] = refl
parted (suc n) (y ∷ l) = ap (λ k. y ∷ k) (parted n l)

drop_none : (n : ℕ) → drop {A = ℕ} n [] ≡ []
drop_none zero = refl
drop_none (suc n) = refl

drop_more : (i k : ℕ) (l : List ℕ) → drop k (drop i l) ≡ drop (i + k) l
drop_more zero k l = let none : k ≡ 0 + k = omega arith in ap (λ n. drop n l) none
drop_more (suc i) k [] = drop_none k ∙ sym (drop_none (suc i + k))
drop_more (suc i) k (y ∷ l) = let next : suc (i + k) ≡ suc i + k = omega arith in drop_more i k l ∙ ap (λ n. drop n (y ∷ l)) next

cut : (i k j : ℕ) (l : List ℕ) → i + k ≡ j → drop i l ≡ take k (drop i l) ++ drop j l
cut i k j l e = parted k (drop i l) ∙ ap (λ r. take k (drop i l) ++ r) (drop_more i k l ∙ ap (λ n. drop n l) e)

eight : (i : ℕ) (l : List ℕ) → i + 8 ≤ length l → length (take 8 (drop i l)) ≡ 8
eight i l h = omega (arith, length-take 8 (drop i l), length-drop i l)

frame_of : (p : Program) (s : State) (top i : ℕ) → top % 16 ≡ 0 → top < 2 ^ 64 → data_start p + length s.data_bytes ≤ stack_start p → top ≡ stack_start p + i + 32 → top ≤ stack_start p + length s.stack_bytes →
    IsFrame p s top (take i s.stack_bytes) (take 8 (drop i s.stack_bytes)) (take 8 (drop (i + 8) s.stack_bytes)) (take 8 (drop (i + 16) s.stack_bytes)) (take 8 (drop (i + 24) s.stack_bytes)) (drop (i + 32) s.stack_bytes)
frame_of p s top i aligned word data_below is within =
    let l : List ℕ = s.stack_bytes in
    record {
      aligned = aligned;
      word = word;
      data_below = data_below;
      top_is = omega (arith, length-take i l);
      eight4 = eight i l (omega arith);
      eight3 = eight (i + 8) l (omega arith);
      eight2 = eight (i + 16) l (omega arith);
      eight1 = eight (i + 24) l (omega arith);
      stack = parted i l
          ∙ ap (λ r. take i l ++ r) (cut i 8 (i + 8) l refl)
          ∙ ap (λ r. take i l ++ (take 8 (drop i l) ++ r)) (cut (i + 8) 8 (i + 16) l (omega arith))
          ∙ ap (λ r. take i l ++ (take 8 (drop i l) ++ (take 8 (drop (i + 8) l) ++ r))) (cut (i + 16) 8 (i + 24) l (omega arith))
          ∙ ap (λ r. take i l ++ (take 8 (drop i l) ++ (take 8 (drop (i + 8) l) ++ (take 8 (drop (i + 16) l) ++ r)))) (cut (i + 24) 8 (i + 32) l (omega arith));
    }

-- ---- a call

pub routine_returns : (r : Routine) (p : Program) (word : ℕ) (s : State) (a : ℕ) (x : RegisterFile) (n d answer : ℕ) → IsCall p word r (at s a (listed_registers x)) → Parts r p s a x n d answer → 0 < d → Returns p (at s a (listed_registers x)) answer
unfolding saved_stack
routine_returns r p word s a x n d answer call parts some =
    let i : ℕ = x.r30 - 32 - stack_start p in
    let l : List ℕ = s.stack_bytes in
    let site : Site p r a (word_address word + 444) (word_address word + 604) = site_of r p word a call.lawful call.code_stands call.at_entry in
    let stack = frame_of p s x.r30 i call.aligned (call.words 30) call.data_below (omega (arith, call.room)) call.within in
    let v : LeavesRoutine p s (saved_stack s x (take i l) (drop (i + 32) l)) a answer x =
    left r p s a (word_address word + 444) (word_address word + 604) x n d answer (take i l) (take 8 (drop i l)) (take 8 (drop (i + 8) l)) (take 8 (drop (i + 16) l)) (take 8 (drop (i + 24) l)) (drop (i + 32) l) site parts stack
    (record { first = call.words 1; second = call.words 2; third = call.words 3; fourth = call.words 4 }) some in
    record {
      steps = v.reaches.steps;
      soon = v.reaches.soon;
      rest = v.scratch;
      scratch = spelled_word x.r4 ++ (spelled_word x.r3 ++ (spelled_word x.r2 ++ spelled_word x.r1));
      scratch_length = refl;
      run = v.reaches.run;
    }

pub routine_traps : (r : Routine) (p : Program) (word : ℕ) (s : State) (a : ℕ) (x : RegisterFile) (n d answer : ℕ) → IsCall p word r (at s a (listed_registers x)) → Parts r p s a x n d answer → d ≡ 0 → TrapsWith p (at s a (listed_registers x)) 1
unfolding saved_stack
routine_traps r p word s a x n d answer call parts none =
    let i : ℕ = x.r30 - 32 - stack_start p in
    let l : List ℕ = s.stack_bytes in
    let s1 : State = saved_stack s x (take i l) (drop (i + 32) l) in
    let site : Site p r a (word_address word + 444) (word_address word + 604) = site_of r p word a call.lawful call.code_stands call.at_entry in
    let stack = frame_of p s x.r30 i call.aligned (call.words 30) call.data_below (omega (arith, call.room)) call.within in
    let go : EntersCommonPart p s s1 a (word_address word + 444) n d (a + 4 * length (opening_code r) + 4) x =
    entered r p s a (word_address word + 444) (word_address word + 604) x n d answer (take i l) (take 8 (drop i l)) (take 8 (drop (i + 8) l)) (take 8 (drop (i + 16) l)) (take 8 (drop (i + 24) l)) (drop (i + 32) l) site parts stack in
    let x2 : RegisterFile = record x { r2 = d; r4 = a + 4 * length (opening_code r) + 4; r27 = n; r28 = go.scratch } in
    let ends : Ends p 3 1 (at s1 (word_address word + 444) (listed_registers x2)) = common_traps p s1 (word_address word + 444) x2 site.common_code none in
    let v : Ends p 17 1 (at s a (listed_registers x)) = then_ends p 14 3 1 _ _ go.reaches ends refl refl in
    record {
      steps = v.steps;
      soon = omega arith;
      last = v.last;
      run = v.run;
      input = v.input;
      output = v.output;
    }
