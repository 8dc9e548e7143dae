-- When an allocation moves no more than a scan with second chances does, in the manner of Traub, Holloway and Smith
-- (PLDI 1998): seven rules on the finished function.
use Rattle.std.specs.Prelude.{◌≡◌, ◌≢◌, ℕ, zero, suc, ◌+◌, ◌*◌, ◌-◌, ◌<◌, ◌==◌, ◌⊎◌, ◌&&◌, Bool, true, false, List, [], ◌∷◌, ◌++◌, take, length, find, slice_get, slice_index_or, Contains, Option, Some, None, if◌then◌else◌}
use Rattle.std.specs.List.{list_any, range_with_len}
use Rattle.pass_core.specs.Functions.{count_of, insn_at, successors_of}
use Rattle.temp_ir.specs.declared.insn.TempInsn.{TempInsn}
use Rattle.temp_ir.specs.Insns.{writes_of, targets_of, flows_on_of}
use Rattle.temp_ir.specs.Fixed.{has_number}
use Rattle.alloc_model.specs.declared.allocation.TempPlace.{TempPlace}
use Rattle.alloc_model.specs.declared.allocation.Transfer.{Transfer}
use Rattle.alloc_model.specs.declared.allocation.Transfer.TheVariants.{Store, Load, Shift}
use Rattle.alloc_model.specs.Effect.{Temp}
use Rattle.alloc_model.specs.Places.{Place, Reg, Slot, transfer_target, moved_temp, Plan, transfers_at, registers_at, edge_transfers}
use Rattle.alloc_model.specs.Needs.{top_place, named_place, place_at_top}
use Rattle.alloc_model.specs.Faithful.{move_all, held_before}
use Rattle.alloc_rules.specs.Visits.{Wants, AreWants, homes_behind_moves, homes_before, homes_at_bottom, registers_written, moment_of_read, moment_of_write, fixes, free_registers, is_free_for, best_register, victim_register, made_below}

-- ---- transfers in their places

-- before an instruction a transfer is made behind some others
pub record IsMade (a : Plan) (block at : ℕ) (insn : TempInsn) (made : List Transfer) (x : Transfer) : Type 0 where
  pub there : insn_at a.function.blocks block at ≡ Some insn
  pub left : List Transfer
  pub is : transfers_at a block at ≡ made ++ x ∷ left

-- on the edge from a block to one that may follow it a transfer is made behind some others
pub record IsMadeOnEdge (a : Plan) (from to : ℕ) (made : List Transfer) (x : Transfer) : Type 0 where
  pub insns : List TempInsn
  pub there : slice_get a.function.blocks from ≡ Some insns
  pub follows : Contains (successors_of targets_of flows_on_of from insns) to
  pub left : List Transfer
  pub is : edge_transfers a from to ≡ made ++ x ∷ left

-- the place that a map at a block's bottom names, or the slot
abbrev pub place_at_bottom : Plan → (block t : ℕ) → Place
place_at_bottom a block t = named_place t (find (λ s. s.temp == t) (slice_index_or a.bottom block []))

-- ---- no repeated store

-- of the stores, loads and writes of a temporary in linear order, those on edges left out, the last one before a place
-- was a store or a load
abbrev pub is_copied_behind_moves : (t : ℕ) → List Transfer → Bool → Bool
is_copied_behind_moves t [] copied = copied
is_copied_behind_moves t (Store u r ∷ xs) copied = is_copied_behind_moves t xs (if u == t then true else copied)
is_copied_behind_moves t (Load u r ∷ xs) copied = is_copied_behind_moves t xs (if u == t then true else copied)
is_copied_behind_moves t (Shift u from to ∷ xs) copied = is_copied_behind_moves t xs copied

abbrev pub is_copied_behind_insn : (t : ℕ) → Option TempInsn → Bool → Bool
is_copied_behind_insn t None copied = copied
is_copied_behind_insn t (Some x) copied = if has_number (writes_of x) t then false else copied

abbrev pub is_copied_from : Plan → (t block at : ℕ) → Bool → Bool
is_copied_from a t block zero copied = copied
is_copied_from a t block (suc at) copied =
    is_copied_behind_insn t (insn_at a.function.blocks block at)
    (is_copied_behind_moves t (transfers_at a block at) (is_copied_from a t block at copied))

abbrev pub is_copied_at_top : Plan → (t block : ℕ) → Bool
is_copied_at_top a t zero = false
is_copied_at_top a t (suc block) =
    is_copied_from a t block (length (slice_index_or a.function.blocks block [])) (is_copied_at_top a t block)

-- No store is made of what the slot holds, by the set of the replay; and within blocks none where the last store, load
-- or write of the temporary in linear order was a store or a load
pub record NoRepeatedStore (a : Plan) : Type 0 where
  pub in_blocks : (block at : ℕ) (insn : TempInsn) (made : List Transfer) (t r : ℕ) →
      IsMade a block at insn made (Store t r) → ¬ move_all made (held_before a block at) (Temp t) (Slot t)
  pub on_edges : (from to : ℕ) (made : List Transfer) (t r : ℕ) (e : IsMadeOnEdge a from to made (Store t r)) →
      ¬ move_all made (held_before a from (length e.insns)) (Temp t) (Slot t)
  pub in_order : (block at : ℕ) (insn : TempInsn) (made : List Transfer) (t r : ℕ) →
      IsMade a block at insn made (Store t r) →
      is_copied_behind_moves t made (is_copied_from a t block at (is_copied_at_top a t block)) ≡ false

-- ---- leave only under pressure

abbrev pub is_load : Transfer → Bool
is_load (Load t r) = true
is_load x = false

-- The place of a live temporary leaves a register only where a load or a write needed one and none was free, or where a
-- fixed use or a call took it. Only what has its slot is loaded, and only what a fixed use or a call takes is shifted
pub record LeaveUnderPressure (a : Plan) (wants : Wants) : Type 0 where
  pub by_moves : (block at : ℕ) (insn : TempInsn) (made : List Transfer) (x : Transfer) (t r : ℕ) →
      IsMade a block at insn made x → wants.live t block at ≡ true →
      homes_behind_moves made (homes_before a wants block at) t ≡ Reg r → moved_temp x ≢ t → transfer_target x ≡ Reg r →
      (is_load x ≡ true) × (free_registers a wants (moment_of_read a wants block at insn made) ≡ [])
  pub by_writes : (block at : ℕ) (insn : TempInsn) (t r : ℕ) → insn_at a.function.blocks block at ≡ Some insn →
      wants.live t block (suc at) ≡ true → (moment_of_write a wants block at insn).homes t ≡ Reg r →
      ¬ Contains (writes_of insn) t → Contains (registers_written (registers_at a block at) insn) r →
      free_registers a wants (moment_of_write a wants block at insn) ≡ []
  pub loads : (block at : ℕ) (insn : TempInsn) (made : List Transfer) (t r : ℕ) →
      IsMade a block at insn made (Load t r) → homes_behind_moves made (homes_before a wants block at) t ≡ Slot t
  pub shifts : (block at : ℕ) (insn : TempInsn) (made : List Transfer) (t from to : ℕ) →
      IsMade a block at insn made (Shift t from to) →
      (homes_behind_moves made (homes_before a wants block at) t ≡ Reg from) × (fixes insn from ≡ true)

-- ---- the farthest leaves

-- a temporary that is written by an instruction, with the register that is stated for it
pub record IsWrittenIn (a : Plan) (block at : ℕ) (insn : TempInsn) (t r : ℕ) : Type 0 where
  pub there : insn_at a.function.blocks block at ≡ Some insn
  pub k : ℕ
  pub temp : slice_get (writes_of insn) k ≡ Some t
  pub register : slice_get (registers_written (registers_at a block at) insn) k ≡ Some r

-- Where no register is free, what is loaded or written takes that of the temporary whose next reference is farthest
pub record FarthestLeaves (a : Plan) (wants : Wants) : Type 0 where
  pub for_loads : (block at : ℕ) (insn : TempInsn) (made : List Transfer) (t r : ℕ) →
      IsMade a block at insn made (Load t r) →
      free_registers a wants (moment_of_read a wants block at insn made) ≡ [] →
      victim_register a (moment_of_read a wants block at insn made) ≡ Some r
  pub for_writes : (block at : ℕ) (insn : TempInsn) (t r : ℕ) → IsWrittenIn a block at insn t r →
      (moment_of_write a wants block at insn).homes t ≡ Slot t →
      free_registers a wants (moment_of_write a wants block at insn) ≡ [] →
      victim_register a (moment_of_write a wants block at insn) ≡ Some r

-- ---- store only the live

pub record StoreOnlyLive (a : Plan) (wants : Wants) : Type 0 where
  pub in_blocks : (block at : ℕ) (insn : TempInsn) (made : List Transfer) (t r : ℕ) →
      IsMade a block at insn made (Store t r) → wants.live t block at ≡ true
  pub on_edges : (from to : ℕ) (made : List Transfer) (t r : ℕ) → IsMadeOnEdge a from to made (Store t r) →
      wants.live t to 0 ≡ true

-- ---- linear hand-over

-- the lifetime of a temporary covers a point: it is present there or before, and there or behind
abbrev pub is_covered : Plan → Wants → (t point : ℕ) → Bool
is_covered a wants t point =
    list_any (wants.present t) (range_with_len 0 (suc point))
    && list_any (wants.present t) (range_with_len point (2 * count_of a.function.blocks - point))

-- it covers the last point of the block, which is that of the last instruction in the block or before it, if there is
-- one
abbrev pub is_covered_behind : Plan → Wants → (t insns : ℕ) → Bool
is_covered_behind a wants t zero = false
is_covered_behind a wants t (suc insns) = is_covered a wants t (2 * insns + 1)

abbrev pub is_covered_at_bottom : Plan → Wants → (t block : ℕ) → Bool
is_covered_at_bottom a wants t block =
    is_covered_behind a wants t (count_of (take (suc block) a.function.blocks))

-- on an edge a temporary goes from a register to another one, or does so behind others that go from where it comes to
pub data Goes (a : Plan) (wants : Wants) (from to : ℕ) : (register next : ℕ) → Type 0 where
  AtOnce : {register next : ℕ} (t : ℕ) → wants.live t to 0 ≡ true → place_at_bottom a from t ≡ Reg register →
      place_at_top a to t ≡ Reg next → register ≢ next → Goes a wants from to register next
  Along : {register middle next : ℕ} → Goes a wants from to register middle → Goes a wants from to middle next →
      Goes a wants from to register next

-- a shift on an edge is a step between the two places of its temporary, which differ; through register 28 goes only a
-- temporary of a cycle
pub record IsEdgeShift (a : Plan) (wants : Wants) (from to t source target : ℕ) : Type 0 where
  pub differ : place_at_bottom a from t ≢ place_at_top a to t
  pub begins : (source ≡ 28) ⊎ (place_at_bottom a from t ≡ Reg source)
  pub ends : (target ≡ 28) ⊎ (place_at_top a to t ≡ Reg target)
  pub cycle : (source ≡ 28) ⊎ (target ≡ 28) → (r : ℕ) × (place_at_bottom a from t ≡ Reg r) × Goes a wants from to r r

-- A block's top has the places of its linear predecessor's bottom, for what is live there, and a temporary that is not
-- placed so has its slot, as each one has that is live at the entry. A bottom has the place of each temporary whose
-- lifetime covers the block's last point. On edges loads and shifts are made only where the two places differ
pub record LinearHandOver (a : Plan) (wants : Wants) : Type 0 where
  pub entry : (t : ℕ) → wants.live t 0 0 ≡ true → place_at_top a 0 t ≡ Slot t
  pub tops : (block t : ℕ) → suc block < length a.function.blocks → wants.live t (suc block) 0 ≡ true →
      place_at_top a (suc block) t ≡ place_at_bottom a block t
  pub named_at_tops : (block : ℕ) (s : TempPlace) → Contains (slice_index_or a.top block []) s →
      wants.live s.temp block 0 ≡ true
  pub named_at_bottoms : (block : ℕ) (s : TempPlace) → Contains (slice_index_or a.bottom block []) s →
      (is_covered_at_bottom a wants s.temp block ≡ true) × (top_place s.place ≡ homes_at_bottom a wants block s.temp)
  pub bottoms : (block t : ℕ) → block < length a.function.blocks → is_covered_at_bottom a wants t block ≡ true →
      (s : TempPlace) × Contains (slice_index_or a.bottom block []) s × (s.temp ≡ t)
  pub edge_loads : (from to : ℕ) (made : List Transfer) (t r : ℕ) → IsMadeOnEdge a from to made (Load t r) →
      place_at_bottom a from t ≢ place_at_top a to t
  pub edge_shifts : (from to : ℕ) (made : List Transfer) (t source target : ℕ) →
      IsMadeOnEdge a from to made (Shift t source target) → IsEdgeShift a wants from to t source target

-- ---- keep or take the best register

-- A write of a temporary whose place is a register keeps it. A load, and any other write, takes the best free register
pub record BestRegisters (a : Plan) (wants : Wants) : Type 0 where
  pub kept : (block at : ℕ) (insn : TempInsn) (t r q : ℕ) → IsWrittenIn a block at insn t r →
      (moment_of_write a wants block at insn).homes t ≡ Reg q → r ≡ q
  pub for_loads : (block at : ℕ) (insn : TempInsn) (made : List Transfer) (t r : ℕ) →
      IsMade a block at insn made (Load t r) →
      free_registers a wants (moment_of_read a wants block at insn made) ≢ [] →
      best_register a wants (moment_of_read a wants block at insn made) t ≡ Some r
  pub for_writes : (block at : ℕ) (insn : TempInsn) (t r : ℕ) → IsWrittenIn a block at insn t r →
      (moment_of_write a wants block at insn).homes t ≡ Slot t →
      free_registers a wants (moment_of_write a wants block at insn) ≢ [] →
      best_register a wants (moment_of_write a wants block at insn) t ≡ Some r

-- ---- fixed uses

-- a temporary is shifted out of a register
pub record IsShiftedTo (a : Plan) (block at t from to : ℕ) : Type 0 where
  pub is : Contains (transfers_at a block at) (Shift t from to)

-- A live temporary in a register that the instruction names as fixed or ends is shifted to one that is free up to the
-- end of its part; where there is none, it is not shifted, and so leaves for its slot
pub record FixedUses (a : Plan) (wants : Wants) : Type 0 where
  pub moved : (block at : ℕ) (insn : TempInsn) (t r to : ℕ) → insn_at a.function.blocks block at ≡ Some insn →
      fixes insn r ≡ true → wants.live t block at ≡ true → homes_before a wants block at t ≡ Reg r →
      IsShiftedTo a block at t r to →
      is_free_for a wants (moment_of_read a wants block at insn (made_below a block at insn r)) t to ≡ true
  pub evicted : (block at : ℕ) (insn : TempInsn) (t r : ℕ) → insn_at a.function.blocks block at ≡ Some insn →
      fixes insn r ≡ true → wants.live t block at ≡ true → homes_before a wants block at t ≡ Reg r →
      ((to : ℕ) → ¬ IsShiftedTo a block at t r to) → (to : ℕ) →
      is_free_for a wants (moment_of_read a wants block at insn (made_below a block at insn r)) t to ≡ false

-- ---- the definition

pub record Frugal (a : Plan) : Type 0 where
  pub wants : Wants
  pub are_wants : AreWants a wants
  pub no_repeated_store : NoRepeatedStore a
  pub leave_only_under_pressure : LeaveUnderPressure a wants
  pub the_farthest_leaves : FarthestLeaves a wants
  pub store_only_the_live : StoreOnlyLive a wants
  pub linear_hand_over : LinearHandOver a wants
  pub keep_or_take_the_best_register : BestRegisters a wants
  pub fixed_uses : FixedUses a wants
