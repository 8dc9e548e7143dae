-- The plain allocation of each function is faithful.
use Rattle.std.proofs.Common.{◌≡◌, ◌≢◌, ℕ, zero, suc, ◌+◌, ◌-◌, ◌<◌, ◌≤◌, ◌==◌, List, [], ◌∷◌, ◌++◌, Bool, true, Option, Some, None, if◌then◌else◌, refl, sym, ap, ◌∙◌, inl, inr, subst, ⊎_elim, length, map, take, arith}
use Rattle.std.specs.Prelude.{All, Contains, IsTrue, slice_get, slice_index_or, find}
use Rattle.std.specs.List.{list_all}
use Rattle.std.proofs.lemmas.List.{length-map}
use Rattle.std.proofs.lemmas.List.Elements.{All-nil, All-map, Contains-append_left, Contains-append_right}
use Rattle.std.proofs.lemmas.Option.{none-some, same_Some, slice_get_within, get_or_from_slice_get}
use Rattle.pass_core.specs.Functions.{AllInsns, GoesToBlocks, UsesRegisters, EndsLate, IsStraight, insn_at, insn_in, last_of, successors_of, successors_after}
use Rattle.pass_core.specs.Live.Live.{Follows}
use Rattle.temp_ir.specs.declared.insn.TempInsn.{TempInsn}
use Rattle.temp_ir.specs.Insns.{reads_of, writes_of, targets_of, flows_on_of}
use Rattle.temp_ir.specs.Fixed.{argument_registers, fixed_reads_of, written_behind, is_settled, is_settled_block}
use Rattle.alloc_model.specs.declared.allocation.TempPlace.{TempPlace}
use Rattle.alloc_model.specs.declared.allocation.Transfer.{Transfer}
use Rattle.temp_ir.specs.Programs.{TempFn}
use Rattle.alloc_model.specs.declared.allocation.Allocation.{Allocation}
use Rattle.alloc_model.specs.Effect.{Holder, Temp, Fixed, Incoming, Outgoing}
use Rattle.alloc_model.specs.Temporaries.{TemporaryCode, code_of, goes_on}
use Rattle.alloc_model.specs.Places.{Place, Slot, Plan, plan_of, transfers_at, registers_at, edge_transfers}
use Rattle.alloc_model.specs.Lifetimes.{Blocks, lives_at}
use Rattle.alloc_model.specs.Needs.{named_place, place_at_top, IsNeeded}
use Rattle.alloc_model.specs.Needs.IsNeeded.{Relied, Handed}
use Rattle.alloc_model.specs.Faithful.{HolderPlaces, Includes, move_all, MovesAsk, ReadsAsk, FixedAsk, behind_insn, at_top, at_entry, at_start, at_bottom, held_before, KeepsEdge, IsGivenRegister, IsGivenOrScratch, IsStanding, HasLists, Faithful}
use Rattle.alloc_plain_lists.specs.Plain.{loads, plain_registers, writes_in, first_in, stores_behind, transfers_from, plain_plan}
use Rattle.alloc_plain_lists.proofs.Sets.{same_or_not, slot_no_register, stores_ask, stores_done, stores_keep_slots}
use Rattle.alloc_plain_lists.proofs.Registers.{and_first, and_second, has_contains, arguments_high}
use Rattle.alloc_plain_lists.proofs.Lists.{there, read_in_block, length_of_blocks, block_there, previous, settled_at, previous_next, settled_next, settled_reads, previous_last, transfers_length, transfers_get, registers_get, range_length}
use Rattle.alloc_plain_lists.proofs.EdgeCodes.{edge_found, edges_all}
use Rattle.alloc_plain_lists.proofs.Given.{or_scratch, all_transfers_given, all_edges_given, all_registers_given}
use Rattle.alloc_plain_lists.proofs.Walk.{Stands, asks, reads, fixed_reads, behind}

-- ---- lists

all_get : {A : Type 0} (P : A → Type 0) (xs : List A) (k : ℕ) (x : A) → All P xs → slice_get xs k ≡ Some x → P x
all_get P xs k x all is = subst P (get_or_from_slice_get xs k x x is) (all k x (slice_get_within xs k x is))

contains_get : {A : Type 0} (xs : List A) (k : ℕ) (x : A) → slice_get xs k ≡ Some x → Contains xs x
contains_get xs k x is = (k, slice_get_within xs k x is, get_or_from_slice_get xs k x x is)

test_get : {A : Type 0} (p : A → Bool) (xs : List A) (k : ℕ) (x : A) → list_all p xs ≡ true → slice_get xs k ≡ Some x → p x ≡ true
test_get p [] k x all is = absurd (none-some x is)
test_get p (y ∷ xs) zero x all is = subst (λ z. p z ≡ true) (same_Some y x is) (and_first (p y) (list_all p xs) all)
test_get p (y ∷ xs) (suc k) x all is = test_get p xs k x (and_second (p y) (list_all p xs) all) is

front_length : {A : Type 0} (n : ℕ) (xs : List A) → n ≤ length xs → length (take n xs) ≡ n
front_length zero xs few = refl
front_length (suc n) [] few = absurd (omega (arith, few))
front_length (suc n) (x ∷ xs) few = ap suc (front_length n xs (omega (arith, few)))

front_get : {A : Type 0} (n : ℕ) (xs : List A) (k : ℕ) (d : A) → k < n → slice_index_or (take n xs) k d ≡ slice_index_or xs k d
front_get zero xs k d within = absurd (omega (arith, within))
front_get (suc n) [] k d within = refl
front_get (suc n) (x ∷ xs) zero d within = refl
front_get (suc n) (x ∷ xs) (suc k) d within = front_get n xs k d (omega (arith, within))

none_named : (blocks : Blocks) (k : ℕ) → slice_index_or (map {B = List TempPlace} (λ block. []) blocks) k [] ≡ []
none_named [] k = refl
none_named (b ∷ bs) zero = refl
none_named (b ∷ bs) (suc k) = none_named bs k

-- an instruction that may go elsewhere stands last
ends_block : (insns : List TempInsn) (at : ℕ) (x : TempInsn) → EndsLate targets_of flows_on_of insns → slice_get insns at ≡ Some x → 0 < length (targets_of x) → suc at ≡ length insns
ends_block insns at x late is goes = ⊎_elim (λ e. e) (λ ne. absurd (inside ne)) (same_or_not (suc at) (length insns))
  where
    inside : suc at ≢ length insns → ⊥
    inside ne =
        let within = slice_get_within insns at x is in
        let below : at < length insns - 1 = omega (arith, within, ne) in
        let size = front_length (length insns - 1) insns (omega arith) in
        let straight = late at x (omega (arith, below, size)) in
        let same = front_get (length insns - 1) insns at x below ∙ get_or_from_slice_get insns at x x is in
        let none = (subst (IsStraight targets_of flows_on_of) same straight).0 in
        omega (arith, none, goes)

-- where a block ends
follows_last : (block : ℕ) (last : Option TempInsn) → goes_on last ≡ true → Contains (successors_after targets_of flows_on_of block last) (suc block)
follows_last block None out = (0, omega arith, refl)
follows_last block (Some i) out =
    Contains-append_right (targets_of i) (if flows_on_of i then suc block ∷ [] else []) (suc block)
    (subst (λ b. Contains (if b then suc block ∷ [] else []) (suc block)) (sym out) (0, omega arith, refl))

-- what a function keeps
pub record IsOrdinary (f : TemporaryCode) (params temps : ℕ) : Type 0 where
  pub targets : AllInsns (GoesToBlocks targets_of (length f.blocks)) f.blocks
  pub straight : All (EndsLate targets_of flows_on_of) f.blocks
  pub registers : AllInsns (UsesRegisters reads_of writes_of temps) f.blocks
  pub settled : IsTrue (is_settled params f.blocks)

abbrev settled_start : (params block : ℕ) → List ℕ
settled_start params zero = argument_registers params
settled_start params (suc block) = []

settled_block : (params : ℕ) (blocks : Blocks) (block : ℕ) (insns : List TempInsn) → is_settled params blocks ≡ true → slice_get blocks block ≡ Some insns → is_settled_block (settled_start params block) insns ≡ true
settled_block params [] block insns all is = absurd (none-some insns is)
settled_block params (b ∷ bs) zero insns all is =
    subst (λ xs. is_settled_block (argument_registers params) xs ≡ true) (same_Some b insns is)
    (and_first (is_settled_block (argument_registers params) b) (list_all (is_settled_block []) bs) all)
settled_block params (b ∷ bs) (suc block) insns all is =
    test_get (is_settled_block []) bs block insns (and_second (is_settled_block (argument_registers params) b) (list_all (is_settled_block []) bs) all) is

same_stands : (blocks : Blocks) (block at : ℕ) (p p' : Option TempInsn) (ws ws' : List ℕ) (xs xs' : List Transfer) (rs rs' : List ℕ) (o o' : Option TempInsn) (h : HolderPlaces) → p ≡ p' → ws ≡ ws' → xs ≡ xs' → rs ≡ rs' → o ≡ o' → Stands blocks block at p ws (behind_insn xs rs o h) → Stands blocks block at p' ws' (behind_insn xs' rs' o' h)
same_stands blocks block at p p' ws ws' xs xs' rs rs' o o' h ep ew ex er eo s =
    subst (λ p. Stands blocks block at p ws' (behind_insn xs' rs' o' h)) ep
    (subst (λ ws. Stands blocks block at p ws (behind_insn xs' rs' o' h)) ew
    (subst (λ xs. Stands blocks block at p ws (behind_insn xs rs' o' h)) ex
    (subst (λ rs. Stands blocks block at p ws (behind_insn xs rs o' h)) er
    (subst (λ o. Stands blocks block at p ws (behind_insn xs rs o h)) eo s))))

module _ (f : TemporaryCode) (params temps : ℕ) where
  abbrev plan : Plan
  plan = plain_plan f params temps

  top_is : (block t : ℕ) → place_at_top (plain_plan f params temps) block t ≡ Slot t
  top_is block t = ap (λ named. named_place t (find (λ s. s.temp == t) named)) (none_named f.blocks block)

  never_needed : (t block : ℕ) → IsNeeded (plain_plan f params temps) t block → ⊥
  never_needed t block (Relied r) = slot_no_register t r.register (sym (top_is block t) ∙ r.stands)
  never_needed t block (Handed insns next is has written stored needed) = never_needed t next needed

  transfers_are : (block at : ℕ) (insns : List TempInsn) (x : TempInsn) → slice_get f.blocks block ≡ Some insns → slice_get insns at ≡ Some x → transfers_at plan block at ≡ stores_behind (previous None insns at) ++ loads (reads_of x) 1
  transfers_are block at insns x is at_is =
      read_in_block (transfers_from None) (transfers_length None) f.blocks block at insns [] is (slice_get_within insns at x at_is)
      ∙ transfers_get None insns at x at_is

  registers_are : (block at : ℕ) (insns : List TempInsn) (x : TempInsn) → slice_get f.blocks block ≡ Some insns → slice_get insns at ≡ Some x → registers_at plan block at ≡ plain_registers x
  registers_are block at insns x is at_is =
      read_in_block (map plain_registers) (λ insns. length-map insns plain_registers) f.blocks block at insns [] is (slice_get_within insns at x at_is)
      ∙ registers_get insns at x at_is

  insn_is : (block at : ℕ) (insns : List TempInsn) (x : TempInsn) → slice_get f.blocks block ≡ Some insns → slice_get insns at ≡ Some x → insn_at f.blocks block at ≡ Some x
  insn_is block at insns x is at_is = ap (λ o. insn_in o at) is ∙ at_is

  start : (block : ℕ) → Stands f.blocks block 0 None (settled_start params block) (at_start plan block)
  start zero = record {
    slots = λ t live. inr refl;
    fresh = tt;
    fixed = λ r is. (has_contains (argument_registers params) r is, refl);
    high = arguments_high params;
  }
  start (suc block) = record {
    slots = λ t live. inr (inl (live, sym (top_is (suc block) t)));
    fresh = tt;
    fixed = λ r is. absurd (cc);
    high = λ r is. absurd (cc);
  }

  walk : (block : ℕ) (insns : List TempInsn) → slice_get f.blocks block ≡ Some insns → (at : ℕ) → at ≤ length insns → Stands f.blocks block at (previous None insns at) (settled_at (settled_start params block) insns at) (held_before plan block at)
  walk block insns is zero within = start block
  walk block insns is (suc at) within =
      let (x, at_is) = there insns at (omega (arith, within)) in
      let ws = settled_at (settled_start params block) insns at in
      let p = previous None insns at in
      let here = insn_is block at insns x is at_is in
      let so_far = walk block insns is at (omega (arith, within)) in
      same_stands f.blocks block (suc at) (Some x) (previous None insns (suc at)) (written_behind ws x) (settled_at (settled_start params block) insns (suc at))
      (stores_behind p ++ loads (reads_of x) 1) (transfers_at plan block at) (plain_registers x) (registers_at plan block at)
      (Some x) (insn_at f.blocks block at) (held_before plan block at)
      (sym (previous_next None insns at x at_is)) (sym (settled_next (settled_start params block) insns at x at_is))
      (sym (transfers_are block at insns x is at_is)) (sym (registers_are block at insns x is at_is)) (sym here)
      (behind f.blocks block at p ws (held_before plan block at) x here so_far)

  edge : (block : ℕ) (insns : List TempInsn) → slice_get f.blocks block ≡ Some insns → (j : ℕ) → Contains (successors_of targets_of flows_on_of block insns) (suc j) → KeepsEdge plan block (suc j) (held_before plan block (length insns))
  edge block insns is j has = record {
    moves = subst (λ xs. MovesAsk xs h) (sym code) (stores_ask (writes_in last) (first_in last) h s.fresh);
    leads = subst (λ xs. Includes (move_all xs h) (at_start plan (suc j))) (sym code) (record { each = each });
  }
    where
      last : Option TempInsn
      last = last_of insns

      h : HolderPlaces
      h = held_before plan block (length insns)

      code : edge_transfers plan block (suc j) ≡ stores_behind last
      code = edge_found 0 f.blocks block block insns (suc j) (omega arith) is has

      s : Stands f.blocks block (length insns) last (settled_at (settled_start params block) insns (length insns)) h
      s = subst (λ p. Stands f.blocks block (length insns) p (settled_at (settled_start params block) insns (length insns)) h) (previous_last insns)
          (walk block insns is (length insns) (omega arith))

      slot : (t : ℕ) → lives_at f.blocks t (suc j) 0 → move_all (stores_behind last) h (Temp t) (Slot t)
      slot t live =
          ⊎_elim (λ new. stores_done (writes_in last) (first_in last) h t new) (λ k. stores_keep_slots (writes_in last) (first_in last) h t k)
          (s.slots t (Follows insns (suc j) is refl has live))

      each : (n : Holder) (q : Place) → at_start plan (suc j) n q → move_all (stores_behind last) h n q
      each (Temp t) q (inl (live, place)) =
          subst (λ q. move_all (stores_behind last) h (Temp t) q) (sym (place ∙ top_is (suc j) t)) (slot t live)
      each (Temp t) q (inr (needed, place)) = absurd (never_needed t (suc j) needed)
      each (Fixed r) q k = absurd k
      each (Incoming r) q k = absurd k
      each (Outgoing r) q k = absurd k

  module _ (ok : IsOrdinary f params temps) where
    lists : HasLists plan
    lists = record {
      tops = length-map f.blocks (λ block. []);
      bottoms = length-map f.blocks (λ block. []);
      ats = length_of_blocks (transfers_from None) (transfers_length None) f.blocks;
      regs = length_of_blocks (map plain_registers) (λ insns. length-map insns plain_registers) f.blocks;
      stated = λ block at x is. let (insns, block_is, at_is) = block_there (slice_get f.blocks block) at x is in
          ap length (registers_are block at insns x block_is at_is) ∙ range_length 1 (length (reads_of x) + length (writes_of x));
      edges = edges_all 0 f.blocks;
      standing = (none, none);
      transfers = all_transfers_given temps IsGivenRegister (λ r is. is) f.blocks ok.registers;
      edge_transfers = all_edges_given temps IsGivenOrScratch or_scratch 0 f.blocks ok.registers;
      given = all_registers_given f.blocks;
    }
      where
        none : All (All (IsStanding temps)) (map {B = List TempPlace} (λ block. []) f.blocks)
        none = All-map (All (IsStanding temps)) (λ block. []) f.blocks (λ k d within. All-nil (IsStanding temps))

    entry : Includes (at_entry plan) (at_top plan 0)
    entry = record { each = each }
      where
        each : (n : Holder) (q : Place) → at_top plan 0 n q → at_entry plan n q
        each (Temp t) q (inl (live, place)) = place ∙ top_is 0 t
        each (Temp t) q (inr (needed, place)) = place
        each (Fixed r) q k = absurd k
        each (Incoming r) q k = absurd k
        each (Outgoing r) q k = absurd k

    moves : (block at : ℕ) (x : TempInsn) → insn_at f.blocks block at ≡ Some x → MovesAsk (transfers_at plan block at) (held_before plan block at)
    moves block at x is =
        let (insns, block_is, at_is) = block_there (slice_get f.blocks block) at x is in
        let within = slice_get_within insns at x at_is in
        subst (λ xs. MovesAsk xs (held_before plan block at)) (sym (transfers_are block at insns x block_is at_is))
        (asks f.blocks block at (previous None insns at) (settled_at (settled_start params block) insns at) (held_before plan block at) x is
        (walk block insns block_is at (omega (arith, within))))

    temps_read : (block at : ℕ) (x : TempInsn) → insn_at f.blocks block at ≡ Some x → ReadsAsk (reads_of x) (registers_at plan block at) (move_all (transfers_at plan block at) (held_before plan block at))
    temps_read block at x is =
        let (insns, block_is, at_is) = block_there (slice_get f.blocks block) at x is in
        let within = slice_get_within insns at x at_is in
        subst (λ xs. ReadsAsk (reads_of x) (registers_at plan block at) (move_all xs (held_before plan block at))) (sym (transfers_are block at insns x block_is at_is))
        (subst (λ rs. ReadsAsk (reads_of x) rs (move_all (stores_behind (previous None insns at) ++ loads (reads_of x) 1) (held_before plan block at))) (sym (registers_are block at insns x block_is at_is))
        (reads f.blocks block at (previous None insns at) (settled_at (settled_start params block) insns at) (held_before plan block at) x is
        (walk block insns block_is at (omega (arith, within)))))

    fixed_read : (block at : ℕ) (x : TempInsn) → insn_at f.blocks block at ≡ Some x → FixedAsk (fixed_reads_of x) (move_all (transfers_at plan block at) (held_before plan block at))
    fixed_read block at x is =
        let (insns, block_is, at_is) = block_there (slice_get f.blocks block) at x is in
        let within = slice_get_within insns at x at_is in
        subst (λ xs. FixedAsk (fixed_reads_of x) (move_all xs (held_before plan block at))) (sym (transfers_are block at insns x block_is at_is))
        (fixed_reads f.blocks block at (previous None insns at) (settled_at (settled_start params block) insns at) (held_before plan block at) x is
        (walk block insns block_is at (omega (arith, within)))
        (settled_reads (settled_start params block) insns at x (settled_block params f.blocks block insns ok.settled block_is) at_is))

    bottoms : (block : ℕ) (insns : List TempInsn) → slice_get f.blocks block ≡ Some insns → Includes (held_before plan block (length insns)) (at_bottom plan block insns)
    bottoms block insns is = record { each = each }
      where
        nothing : (s : TempPlace) → Contains (slice_index_or (map {B = List TempPlace} (λ block. []) f.blocks) block []) s → ⊥
        nothing s has =
            let (k, within, at) = subst (λ named. Contains named s) (none_named f.blocks block) has in
            omega (arith, within)

        each : (n : Holder) (q : Place) → at_bottom plan block insns n q → held_before plan block (length insns) n q
        each (Temp t) q (live, (s, has, same, place)) = absurd (nothing s has)
        each (Fixed r) q k = absurd k
        each (Incoming r) q k = absurd k
        each (Outgoing r) q k = absurd k

    jump_edge : (block : ℕ) (insns : List TempInsn) → slice_get f.blocks block ≡ Some insns → (to : ℕ) → 0 < to → Contains (successors_of targets_of flows_on_of block insns) to → KeepsEdge plan block to (held_before plan block (length insns))
    jump_edge block insns is zero low has = absurd (omega (arith, low))
    jump_edge block insns is (suc j) low has = edge block insns is j has

    jumps : (block at : ℕ) (x : TempInsn) → insn_at f.blocks block at ≡ Some x → (k to : ℕ) → slice_get (targets_of x) k ≡ Some to → KeepsEdge plan block to (held_before plan block (suc at))
    jumps block at x is k to goes =
        let (insns, block_is, at_is) = block_there (slice_get f.blocks block) at x is in
        let inside = slice_get_within (targets_of x) k to goes in
        let late = all_get (EndsLate targets_of flows_on_of) f.blocks block insns ok.straight block_is in
        let ends = ends_block insns at x late at_is (omega (arith, inside)) in
        let all = all_get (All (GoesToBlocks targets_of (length f.blocks))) f.blocks block insns ok.targets block_is in
        let own = all_get (GoesToBlocks targets_of (length f.blocks)) insns at x all at_is in
        let low = (all_get (λ target. (0 < target) × (target < length f.blocks)) (targets_of x) k to own goes).0 in
        let place : length insns - 1 ≡ at = omega (arith, ends) in
        let last : last_of insns ≡ Some x = ap (slice_get insns) place ∙ at_is in
        subst (λ n. KeepsEdge plan block to (held_before plan block n)) (sym ends)
        (jump_edge block insns block_is to low
        (subst (λ o. Contains (successors_after targets_of flows_on_of block o) to) (sym last)
        (Contains-append_left (targets_of x) (if flows_on_of x then suc block ∷ [] else []) to (contains_get (targets_of x) k to goes))))

    pub plain_is_faithful : Faithful (plain_plan f params temps)
    plain_is_faithful = record {
      lists = lists;
      entry = entry;
      moves = moves;
      temps_read = temps_read;
      fixed_read = fixed_read;
      bottoms = bottoms;
      jumps = jumps;
      follows = λ block insns is out. edge block insns is block (follows_last block (last_of insns) out);
    }

-- ---- of a function, and an allocation that has these lists

ordinary : (f : TempFn) → IsTrue (is_settled f.params f.blocks) → IsOrdinary (code_of f) f.params f.temps
ordinary f settled = record {
  targets = f.targets;
  straight = f.straight;
  registers = f.registers;
  settled = settled;
}

pub faithful_by_plan : (f : TempFn) → IsTrue (is_settled f.params f.blocks) → (a : Allocation) → plan_of a ≡ plain_plan (code_of f) f.params f.temps → Faithful (plan_of a)
faithful_by_plan f settled a same =
    subst Faithful (sym same) (plain_is_faithful (code_of f) f.params f.temps (ordinary f settled))

pub slots_by_plan : (f : TempFn) (a : Allocation) → plan_of a ≡ plain_plan (code_of f) f.params f.temps → All (λ named. named ≡ []) a.top
slots_by_plan f a same =
    subst (λ (p : Plan). All (λ named. named ≡ []) p.top) (sym same)
    (All-map (λ named. named ≡ []) (λ block. []) f.blocks (λ k d within. refl))
