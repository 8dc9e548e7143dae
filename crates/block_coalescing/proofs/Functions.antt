-- What the blocks of a function keep that are walked along their second versions.
use Rattle.std.proofs.Common.{◌≡◌, ℕ, zero, suc, ◌≤◌, max, List, [], ◌∷◌, ◌++◌, Some, None, Bool, true, false, if◌then◌else◌, refl, sym, ap, ◌∙◌, length, All, get_or, arith}
use Rattle.std.specs.Prelude.{slice_get, count_by, nat_lt, ◌||◌, IsTrue}
use Rattle.std.specs.List.{AllZip, list_all}
use Rattle.std.proofs.lemmas.Bool.{and_from, and_parts}
use Rattle.std.proofs.lemmas.List.Sums.{sum_by-cons}
use Rattle.std.proofs.lemmas.List.Elements.{All-nil, All-cons, All-head, All-tail}
use Rattle.pass_core.specs.Functions.{AllInsns, EndsLate, UsesRegisters, count_of, edge_count, successors_after, successors_of, insn_stops, block_stops, stops}
use Rattle.temp_ir.specs.declared.insn.TempInsn.{TempInsn}
use Rattle.temp_ir.specs.Insns.{reads_of, writes_of, targets_of, flows_on_of}
use Rattle.temp_ir.specs.Fixed.{argument_registers, is_settled_block, is_settled}
use Rattle.temp_ir.specs.Programs.{begins_with_mark, goes_back_to_marks}
use Rattle.temp_ir.specs.Cost.{makes_call, call_count}
use Rattle.alloc_model.specs.Effect.{widest_in, widest_call}
use Rattle.cfg.specs.Edges.{successors_from}
use Rattle.block_coalescing.specs.Forms.{form_of}
use Rattle.block_coalescing.specs.Walks.{Names, Walked, OptionWalked}
use Rattle.block_coalescing.proofs.Forms.{same_form}
use Rattle.block_coalescing.proofs.Blocks.{Straight, last_more, each_is_one, fewer, calls, widest, mark, settled, uses, late, last_kept}

-- ---- the followers of a last instruction

straight_after : (n : ℕ) (x : TempInsn) → Straight x → successors_after targets_of flows_on_of n (Some x) ≡ successors_after targets_of flows_on_of n None
straight_after n x s =
    ap (λ b. targets_of x ++ (if b then suc n ∷ [] else [])) s.1 ∙ ap (λ ts. ts ++ suc n ∷ []) (no_length (targets_of x) s.0)
  where
    no_length : (ts : List ℕ) → length ts ≡ 0 → ts ≡ []
    no_length [] e = refl
    no_length (t ∷ ts) e = absurd (omega (arith, e))

same_after : (n : ℕ) (x y : TempInsn) → form_of x ≡ form_of y → successors_after targets_of flows_on_of n (Some x) ≡ successors_after targets_of flows_on_of n (Some y)
same_after n x y e =
    let form = same_form x y e in
    ap (λ ts. ts ++ (if flows_on_of x then suc n ∷ [] else [])) form.targets ∙ ap (λ b. targets_of y ++ (if b then suc n ∷ [] else [])) form.flows

straight_goes_on : (x : TempInsn) → Straight x → insn_stops flows_on_of (Some x) ≡ insn_stops flows_on_of None
straight_goes_on x s = ap (λ b. if b then false else true) s.1

same_stops : (x y : TempInsn) → form_of x ≡ form_of y → insn_stops flows_on_of (Some x) ≡ insn_stops flows_on_of (Some y)
same_stops x y e = ap (λ b. if b then false else true) (same_form x y e).flows

-- ---- blocks

-- a block is walked along its second version, by some names
pub record IsWalked (temps : ℕ) (xs ys : List TempInsn) : Type 0 where
  pub bottom : ℕ → Bool
  pub names : Names
  pub walk : Walked temps bottom names xs ys

pub zip_walked : (temps : ℕ) (tops bottoms : (block r : ℕ) → Bool) (before after : List (List TempInsn)) → ((block : ℕ) → OptionWalked temps (tops block) (bottoms block) (slice_get before block) (slice_get after block)) → AllZip (IsWalked temps) before after
zip_walked temps tops bottoms [] [] each = tt
zip_walked temps tops bottoms [] (ys ∷ after) each = each 0
zip_walked temps tops bottoms (xs ∷ before) [] each = each 0
zip_walked temps tops bottoms (xs ∷ before) (ys ∷ after) each = (
  record { bottom = bottoms 0; names = (each 0).names; walk = (each 0).walked },
  zip_walked temps (λ block. tops (suc block)) (λ block. bottoms (suc block)) before after (λ block. each (suc block)),
)

module _ (temps : ℕ) where
  pub widest_same : (before after : List (List TempInsn)) → AllZip (IsWalked temps) before after → widest_call after ≡ widest_call before
  widest_same [] [] all = refl
  widest_same [] (ys ∷ after) all = absurd all
  widest_same (xs ∷ before) [] all = absurd all
  widest_same (xs ∷ before) (ys ∷ after) all =
      ap (λ k. max k (widest_call after)) (widest temps all.0.bottom all.0.names xs ys all.0.walk)
      ∙ ap (λ k. max (widest_in xs) k) (widest_same before after all.1)

  pub length_same : (before after : List (List TempInsn)) → AllZip (IsWalked temps) before after → length after ≡ length before
  length_same [] [] all = refl
  length_same [] (ys ∷ after) all = absurd all
  length_same (xs ∷ before) [] all = absurd all
  length_same (xs ∷ before) (ys ∷ after) all = ap suc (length_same before after all.1)

  -- ---- what holds of each instruction whatever its temporaries are

  pub insns_kept : (P : TempInsn → Type 0) → ((x y : TempInsn) → form_of x ≡ form_of y → P x → P y) → (before after : List (List TempInsn)) → AllZip (IsWalked temps) before after → AllInsns P before → AllInsns P after
  insns_kept P same [] [] all h = All-nil (All P)
  insns_kept P same [] (ys ∷ after) all h = absurd all
  insns_kept P same (xs ∷ before) [] all h = absurd all
  insns_kept P same (xs ∷ before) (ys ∷ after) all h =
      All-cons (All P) ys after
      (each_is_one temps all.0.bottom P same all.0.names xs ys all.0.walk (All-head (All P) xs before h))
      (insns_kept P same before after all.1 (All-tail (All P) xs before h))

  pub uses_kept : (before after : List (List TempInsn)) → AllZip (IsWalked temps) before after → AllInsns (UsesRegisters reads_of writes_of temps) after
  uses_kept [] [] all = All-nil (All (UsesRegisters reads_of writes_of temps))
  uses_kept [] (ys ∷ after) all = absurd all
  uses_kept (xs ∷ before) [] all = absurd all
  uses_kept (xs ∷ before) (ys ∷ after) all =
      All-cons (All (UsesRegisters reads_of writes_of temps)) ys after (uses temps all.0.bottom all.0.names xs ys all.0.walk) (uses_kept before after all.1)

  -- ---- where blocks end

  pub late_kept : (before after : List (List TempInsn)) → AllZip (IsWalked temps) before after → All (EndsLate targets_of flows_on_of) before → All (EndsLate targets_of flows_on_of) after
  late_kept [] [] all h = All-nil (EndsLate targets_of flows_on_of)
  late_kept [] (ys ∷ after) all h = absurd all
  late_kept (xs ∷ before) [] all h = absurd all
  late_kept (xs ∷ before) (ys ∷ after) all h =
      All-cons (EndsLate targets_of flows_on_of) ys after
      (late temps all.0.bottom all.0.names xs ys all.0.walk (All-head (EndsLate targets_of flows_on_of) xs before h))
      (late_kept before after all.1 (All-tail (EndsLate targets_of flows_on_of) xs before h))

  pub block_successors : (n : ℕ) (xs ys : List TempInsn) → IsWalked temps xs ys → EndsLate targets_of flows_on_of xs → successors_of targets_of flows_on_of n ys ≡ successors_of targets_of flows_on_of n xs
  block_successors n xs ys is ends = last_kept temps is.bottom (successors_after targets_of flows_on_of n) (straight_after n) (same_after n) is.names xs ys is.walk ends

  pub edges_kept : (n : ℕ) (before after : List (List TempInsn)) → AllZip (IsWalked temps) before after → All (EndsLate targets_of flows_on_of) before → successors_from targets_of flows_on_of n after ≡ successors_from targets_of flows_on_of n before
  edges_kept n [] [] all h = refl
  edges_kept n [] (ys ∷ after) all h = absurd all
  edges_kept n (xs ∷ before) [] all h = absurd all
  edges_kept n (xs ∷ before) (ys ∷ after) all h =
      ap (λ l. l ∷ successors_from targets_of flows_on_of (suc n) after) (block_successors n xs ys all.0 (All-head (EndsLate targets_of flows_on_of) xs before h))
      ∙ ap (λ l. successors_of targets_of flows_on_of n xs ∷ l) (edges_kept (suc n) before after all.1 (All-tail (EndsLate targets_of flows_on_of) xs before h))

  pub edge_count_kept : (before after : List (List TempInsn)) → AllZip (IsWalked temps) before after → All (EndsLate targets_of flows_on_of) before → edge_count targets_of flows_on_of after ≡ edge_count targets_of flows_on_of before
  edge_count_kept [] [] all h = refl
  edge_count_kept [] (ys ∷ after) all h = absurd all
  edge_count_kept (xs ∷ before) [] all h = absurd all
  edge_count_kept (xs ∷ before) (ys ∷ after) all h =
      let here : length (successors_of targets_of flows_on_of 0 ys) ≡ length (successors_of targets_of flows_on_of 0 xs) = ap length (block_successors 0 xs ys all.0 (All-head (EndsLate targets_of flows_on_of) xs before h)) in
      let rest = edge_count_kept before after all.1 (All-tail (EndsLate targets_of flows_on_of) xs before h) in
      omega (arith, here, rest, sum_by-cons (λ (b : List TempInsn). length (successors_of targets_of flows_on_of 0 b)) ys after, sum_by-cons (λ (b : List TempInsn). length (successors_of targets_of flows_on_of 0 b)) xs before)

  -- nothing runs off the end
  pub stops_kept : (before after : List (List TempInsn)) → AllZip (IsWalked temps) before after → All (EndsLate targets_of flows_on_of) before → stops flows_on_of before ≡ true → stops flows_on_of after ≡ true
  stops_kept [] [] all h e = e
  stops_kept [] (ys ∷ after) all h e = absurd all
  stops_kept (xs ∷ before) [] all h e = absurd all
  stops_kept (xs ∷ []) (ys ∷ []) all h e =
      last_kept temps all.0.bottom (insn_stops flows_on_of) straight_goes_on same_stops all.0.names xs ys all.0.walk (All-head (EndsLate targets_of flows_on_of) xs [] h) ∙ e
  stops_kept (xs ∷ []) (ys ∷ zs ∷ after) all h e = absurd all.1
  stops_kept (xs ∷ ws ∷ before) (ys ∷ []) all h e = absurd all.1
  stops_kept (xs ∷ ws ∷ before) (ys ∷ zs ∷ after) all h e =
      ap (block_stops flows_on_of) (last_more ys zs after)
      ∙ stops_kept (ws ∷ before) (zs ∷ after) all.1 (All-tail (EndsLate targets_of flows_on_of) xs (ws ∷ before) h) (ap (block_stops flows_on_of) (sym (last_more xs ws before)) ∙ e)

  -- ---- counts

  pub count_kept : (before after : List (List TempInsn)) → AllZip (IsWalked temps) before after → count_of after ≤ count_of before
  count_kept [] [] all = omega arith
  count_kept [] (ys ∷ after) all = absurd all
  count_kept (xs ∷ before) [] all = absurd all
  count_kept (xs ∷ before) (ys ∷ after) all =
      let here = fewer temps all.0.bottom all.0.names xs ys all.0.walk in
      let rest = count_kept before after all.1 in
      omega (arith, here, rest, sum_by-cons (λ (b : List TempInsn). length b) ys after, sum_by-cons (λ (b : List TempInsn). length b) xs before)

  pub calls_kept : (before after : List (List TempInsn)) → AllZip (IsWalked temps) before after → call_count after ≡ call_count before
  calls_kept [] [] all = refl
  calls_kept [] (ys ∷ after) all = absurd all
  calls_kept (xs ∷ before) [] all = absurd all
  calls_kept (xs ∷ before) (ys ∷ after) all =
      let here = calls temps all.0.bottom all.0.names xs ys all.0.walk in
      let rest = calls_kept before after all.1 in
      omega (arith, here, rest, sum_by-cons (λ (b : List TempInsn). count_by makes_call b) ys after, sum_by-cons (λ (b : List TempInsn). count_by makes_call b) xs before)

  -- ---- fixed registers

  others_settled : (before after : List (List TempInsn)) → AllZip (IsWalked temps) before after → list_all (is_settled_block []) before ≡ true → list_all (is_settled_block []) after ≡ true
  others_settled [] [] all e = e
  others_settled [] (ys ∷ after) all e = absurd all
  others_settled (xs ∷ before) [] all e = absurd all
  others_settled (xs ∷ before) (ys ∷ after) all e =
      let parts = and_parts (is_settled_block [] xs) (list_all (is_settled_block []) before) e in
      and_from (is_settled_block [] ys) (list_all (is_settled_block []) after)
      (settled temps all.0.bottom all.0.names xs ys all.0.walk [] parts.0) (others_settled before after all.1 parts.1)

  pub settled_kept : (params : ℕ) (before after : List (List TempInsn)) → AllZip (IsWalked temps) before after → is_settled params before ≡ true → is_settled params after ≡ true
  settled_kept params [] [] all e = e
  settled_kept params [] (ys ∷ after) all e = absurd all
  settled_kept params (xs ∷ before) [] all e = absurd all
  settled_kept params (xs ∷ before) (ys ∷ after) all e =
      let parts = and_parts (is_settled_block (argument_registers params) xs) (list_all (is_settled_block []) before) e in
      and_from (is_settled_block (argument_registers params) ys) (list_all (is_settled_block []) after)
      (settled temps all.0.bottom all.0.names xs ys all.0.walk (argument_registers params) parts.0) (others_settled before after all.1 parts.1)

  -- ---- marks

  mark_kept : (before after : List (List TempInsn)) → AllZip (IsWalked temps) before after → (k : ℕ) → begins_with_mark (slice_get before k) ≡ true → begins_with_mark (slice_get after k) ≡ true
  mark_kept [] [] all k e = e
  mark_kept [] (ys ∷ after) all k e = absurd all
  mark_kept (xs ∷ before) [] all k e = absurd all
  mark_kept (xs ∷ before) (ys ∷ after) all zero e = mark temps all.0.bottom all.0.names xs ys all.0.walk e
  mark_kept (xs ∷ before) (ys ∷ after) all (suc k) e = mark_kept before after all.1 k e

  module _ (before after : List (List TempInsn)) (all : AllZip (IsWalked temps) before after) (block : ℕ) where
    target_kept : (target : ℕ) → (nat_lt block target || begins_with_mark (slice_get before target)) ≡ true → (nat_lt block target || begins_with_mark (slice_get after target)) ≡ true
    target_kept target e = go (nat_lt block target) e
      where
        go : (b : Bool) → (b || begins_with_mark (slice_get before target)) ≡ true → (b || begins_with_mark (slice_get after target)) ≡ true
        go true f = refl
        go false f = mark_kept before after all target f

    targets_kept : (ts : List ℕ) → list_all (λ target. nat_lt block target || begins_with_mark (slice_get before target)) ts ≡ true → list_all (λ target. nat_lt block target || begins_with_mark (slice_get after target)) ts ≡ true
    targets_kept [] e = refl
    targets_kept (t ∷ ts) e =
        let parts = and_parts (nat_lt block t || begins_with_mark (slice_get before t)) (list_all (λ target. nat_lt block target || begins_with_mark (slice_get before target)) ts) e in
        and_from (nat_lt block t || begins_with_mark (slice_get after t)) (list_all (λ target. nat_lt block target || begins_with_mark (slice_get after target)) ts)
        (target_kept t parts.0) (targets_kept ts parts.1)

    pub marks_kept : (xs ys : List TempInsn) → IsWalked temps xs ys → All (λ i. IsTrue (goes_back_to_marks before block i)) xs → All (λ i. IsTrue (goes_back_to_marks after block i)) ys
    marks_kept xs ys is h =
        let same : All (λ i. IsTrue (goes_back_to_marks before block i)) ys =
        each_is_one temps is.bottom (λ i. IsTrue (goes_back_to_marks before block i)) (λ x y e f. ap (λ ts. list_all (λ target. nat_lt block target || begins_with_mark (slice_get before target)) ts) (sym (same_form x y e).targets) ∙ f) is.names xs ys is.walk h in
        λ k d lt. targets_kept (targets_of (get_or ys k d)) (same k d lt)
