-- When an allocation has each value where it is read: the replay of a finished allocation, which keeps the set of what
-- stands where. A temporary or fixed register may stand at several places at once. A fixed register that was written
-- counts as a temporary of its own.
use Rattle.std.specs.Prelude.{◌≡◌, ◌≢◌, ℕ, zero, suc, ◌+◌, ◌<◌, ◌⊎◌, nat_lt, Bool, true, false, List, [], ◌∷◌, ◌++◌, map, length, slice_get, slice_index_or, Contains, All, Option, Some, None, if◌then◌else◌}
use Rattle.std.specs.List.{range_with_len}
use Rattle.pass_core.specs.Functions.{count_of, insn_at, successors_of}
use Rattle.temp_ir.specs.declared.insn.TempInsn.{TempInsn}
use Rattle.temp_ir.specs.Insns.{reads_of, writes_of, targets_of, flows_on_of}
use Rattle.temp_ir.specs.Fixed.{argument_registers, fixed_reads_of}
use Rattle.alloc_model.specs.declared.allocation.Loc.{Loc}
use Rattle.alloc_model.specs.declared.allocation.Loc.TheVariants as loc
use Rattle.alloc_model.specs.declared.allocation.TempPlace.{TempPlace}
use Rattle.alloc_model.specs.declared.allocation.Transfer.{Transfer}
use Rattle.alloc_model.specs.declared.allocation.Transfer.TheVariants.{Store, Load, Shift}
use Rattle.alloc_model.specs.Effect.{Holder, Temp, Fixed, holders_written}
use Rattle.alloc_model.specs.Temporaries.{flows_out}
use Rattle.alloc_model.specs.Places.{Place, Reg, Slot, places_written_at, ends_place, source_of, transfer_target, moved_temp, Plan, transfers_at, registers_at, edge_transfers}
use Rattle.alloc_model.specs.Needs.{is_live_at, top_place, place_at_top, IsNeeded}

-- ---- the set

-- which places hold what
abbrev pub HolderPlaces : Type 1
HolderPlaces = Holder → Place → Type 0

-- something stands at a place from now on, and nothing else does
abbrev pub stands : Holder → Place → HolderPlaces → HolderPlaces
stands n p h m q = (h m q × (q ≢ p)) ⊎ ((m ≡ n) × (q ≡ p))

-- something that is written stands nowhere any more
abbrev pub forget : Holder → HolderPlaces → HolderPlaces
forget n h m q = h m q × (m ≢ n)

-- places that are ended hold nothing
abbrev pub end_all : (ended : Place → Bool) → HolderPlaces → HolderPlaces
end_all ended h m q = h m q × (ended q ≡ false)

-- what is written enters with its place
abbrev pub write_all : List Holder → List Place → HolderPlaces → HolderPlaces
write_all (n ∷ ns) (p ∷ ps) h = write_all ns ps (stands n p (forget n h))
write_all _ _ h = h

-- one set has all that another one has
pub record Includes (h k : HolderPlaces) : Type 0 where
  pub each : (n : Holder) (p : Place) → k n p → h n p

-- ---- transfers

-- a transfer asks for the temporary at the source, and the temporary then stands at the target
abbrev pub move_all : List Transfer → HolderPlaces → HolderPlaces
move_all [] h = h
move_all (x ∷ xs) h = move_all xs (stands (Temp (moved_temp x)) (transfer_target x) h)

abbrev pub MovesAsk : List Transfer → HolderPlaces → Type 0
MovesAsk [] h = Unit {0}
MovesAsk (x ∷ xs) h =
    h (Temp (moved_temp x)) (source_of x) × MovesAsk xs (stands (Temp (moved_temp x)) (transfer_target x) h)

-- ---- instructions

-- an instruction asks for each temporary that it reads, in the register that is stated
abbrev pub ReadsAsk : (temps registers : List ℕ) → HolderPlaces → Type 0
ReadsAsk [] rs h = Unit {0}
ReadsAsk (t ∷ ts) [] h = ⊥
ReadsAsk (t ∷ ts) (r ∷ rs) h = h (Temp t) (Reg r) × ReadsAsk ts rs h

-- and for each fixed register that it reads
abbrev pub FixedAsk : (registers : List ℕ) → HolderPlaces → Type 0
FixedAsk [] h = Unit {0}
FixedAsk (r ∷ rs) h = h (Fixed r) (Reg r) × FixedAsk rs h

-- the set behind an instruction, with the transfers before it and its stated registers
abbrev pub behind_insn : List Transfer → (registers : List ℕ) → Option TempInsn → HolderPlaces → HolderPlaces
behind_insn xs rs None h = h
behind_insn xs rs (Some x) h =
    write_all (holders_written x) (places_written_at rs x) (end_all (ends_place x) (move_all xs h))

-- ---- blocks

-- at a block's top each temporary that is live there stands at its place, and each in need of the block in its slot
abbrev pub at_top : Plan → (block : ℕ) → HolderPlaces
at_top a block (Temp t) q =
    (is_live_at a t block 0 × (q ≡ place_at_top a block t)) ⊎ (IsNeeded a t block × (q ≡ Slot t))
at_top a block _ q = ⊥

-- at the entry of the function the argument registers stand, and each temporary, which is unset, stands in its slot
abbrev pub at_entry : Plan → HolderPlaces
at_entry a (Temp t) q = q ≡ Slot t
at_entry a (Fixed r) q = Contains (argument_registers a.params) r × (q ≡ Reg r)
at_entry a _ q = ⊥

abbrev pub at_start : Plan → (block : ℕ) → HolderPlaces
at_start a zero = at_entry a
at_start a (suc block) = at_top a (suc block)

-- before the instruction at a place of a block, and behind the block's last one
abbrev pub held_before : Plan → (block at : ℕ) → HolderPlaces
held_before a block zero = at_start a block
held_before a block (suc at) =
    behind_insn (transfers_at a block at) (registers_at a block at) (insn_at a.function.blocks block at)
    (held_before a block at)

-- at a block's bottom each temporary that is live there stands at the place that is named, if one is
abbrev pub at_bottom : Plan → (block : ℕ) → (insns : List TempInsn) → HolderPlaces
at_bottom a block insns (Temp t) q =
    is_live_at a t block (length insns)
    × ((s : TempPlace) × Contains (slice_index_or a.bottom block []) s × (s.temp ≡ t) × (q ≡ top_place s.place))
at_bottom a block insns _ q = ⊥

-- an edge is kept: its transfers are given what they ask for, and lead to what the target's top starts with
pub record KeepsEdge (a : Plan) (from to : ℕ) (h : HolderPlaces) : Type 0 where
  pub moves : MovesAsk (edge_transfers a from to) h
  pub leads : Includes (move_all (edge_transfers a from to) h) (at_start a to)

-- ---- the lists

-- the 26 registers that temporaries can be given
abbrev pub given_registers : List ℕ
given_registers =
    range_with_len 1 8 ++ range_with_len 22 4 ++ 0 ∷ range_with_len 16 6 ++ range_with_len 9 7

abbrev pub IsGivenRegister : ℕ → Type 0
IsGivenRegister r = Contains given_registers r

-- a place in a map is a given register or the temporary's own slot
abbrev pub IsOwnPlace : (t : ℕ) → Loc → Type 0
IsOwnPlace t (loc.Reg r) = IsGivenRegister r
IsOwnPlace t (loc.Slot k) = k ≡ t

abbrev pub IsStanding : (temps : ℕ) → TempPlace → Type 0
IsStanding temps s = (s.temp < temps) × IsOwnPlace s.temp s.place

-- the registers that a transfer names
abbrev pub named_registers : Transfer → List ℕ
named_registers (Store t r) = r ∷ []
named_registers (Load t r) = r ∷ []
named_registers (Shift t from to) = from ∷ to ∷ []

abbrev pub IsTransfer : (temps : ℕ) → (IsAllowed : ℕ → Type 0) → Transfer → Type 0
IsTransfer temps IsAllowed x = (moved_temp x < temps) × All IsAllowed (named_registers x)

-- on an edge register 28 may be named too
abbrev pub IsGivenOrScratch : ℕ → Type 0
IsGivenOrScratch r = Contains (28 ∷ given_registers) r

-- the edges by rising first block and then second one; two equal ones stand twice
abbrev pub sorted_targets : List ℕ → List ℕ
sorted_targets (a ∷ b ∷ []) = if nat_lt b a then b ∷ a ∷ [] else a ∷ b ∷ []
sorted_targets blocks = blocks

abbrev pub sorted_edges_from : (block : ℕ) → List (List TempInsn) → List (ℕ × ℕ)
sorted_edges_from block [] = []
sorted_edges_from block (insns ∷ blocks) =
    map (λ to. (block, to)) (sorted_targets (successors_of targets_of flows_on_of block insns))
    ++ sorted_edges_from (suc block) blocks

-- the maps and lists have the lengths, temporaries and registers that they should
pub record HasLists (a : Plan) : Type 0 where
  pub tops : length a.top ≡ length a.function.blocks
  pub bottoms : length a.bottom ≡ length a.function.blocks
  pub ats : length a.at ≡ count_of a.function.blocks
  pub regs : length a.regs ≡ count_of a.function.blocks
  pub stated : (block at : ℕ) (x : TempInsn) → insn_at a.function.blocks block at ≡ Some x →
      length (registers_at a block at) ≡ length (reads_of x) + length (writes_of x)
  pub edges : map (λ e. (e.from, e.to)) a.edges ≡ sorted_edges_from 0 a.function.blocks
  pub standing : All (All (IsStanding a.temps)) a.top × All (All (IsStanding a.temps)) a.bottom
  pub transfers : All (All (IsTransfer a.temps IsGivenRegister)) a.at
  pub edge_transfers : All (λ e. All (IsTransfer a.temps IsGivenOrScratch) e.code) a.edges
  pub given : All (All IsGivenRegister) a.regs

-- ---- the definition

-- all that is asked for is in the set
pub record Faithful (a : Plan) : Type 0 where
  pub lists : HasLists a
  -- what the entry's top names is what stands there at the start
  pub entry : Includes (at_entry a) (at_top a 0)
  pub moves : (block at : ℕ) (x : TempInsn) → insn_at a.function.blocks block at ≡ Some x →
      MovesAsk (transfers_at a block at) (held_before a block at)
  pub temps_read : (block at : ℕ) (x : TempInsn) → insn_at a.function.blocks block at ≡ Some x →
      ReadsAsk (reads_of x) (registers_at a block at) (move_all (transfers_at a block at) (held_before a block at))
  pub fixed_read : (block at : ℕ) (x : TempInsn) → insn_at a.function.blocks block at ≡ Some x →
      FixedAsk (fixed_reads_of x) (move_all (transfers_at a block at) (held_before a block at))
  pub bottoms : (block : ℕ) (insns : List TempInsn) → slice_get a.function.blocks block ≡ Some insns →
      Includes (held_before a block (length insns)) (at_bottom a block insns)
  -- a jump or branch stands last in its block, so the set behind it is that at the bottom
  pub jumps : (block at : ℕ) (x : TempInsn) → insn_at a.function.blocks block at ≡ Some x → (k to : ℕ) →
      slice_get (targets_of x) k ≡ Some to → KeepsEdge a block to (held_before a block (suc at))
  pub follows : (block : ℕ) (insns : List TempInsn) → slice_get a.function.blocks block ≡ Some insns →
      flows_out insns ≡ true → KeepsEdge a block (suc block) (held_before a block (length insns))
