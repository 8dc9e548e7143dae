-- Which slots a block relies on at its top: it leaves a temporary there, or loads it from there, without a store or a
-- write of its own before. The blocks before it have to see to it that the slot has the value.
use Rattle.std.specs.Prelude.{◌≡◌, ◌≢◌, ℕ, suc, ◌⊎◌, ◌==◌, true, List, [], ◌∷◌, find, slice_get, slice_index_or, Contains, Option, Some, None}
use Rattle.pass_core.specs.Functions.{insn_at, successors_of}
use Rattle.pass_core.specs.Live.{Live}
use Rattle.temp_ir.specs.declared.insn.TempInsn.{TempInsn}
use Rattle.temp_ir.specs.Insns.{reads_of, writes_of, targets_of, flows_on_of}
use Rattle.alloc_model.specs.declared.allocation.Loc.{Loc}
use Rattle.alloc_model.specs.declared.allocation.Loc.TheVariants as loc
use Rattle.alloc_model.specs.declared.allocation.TempPlace.{TempPlace}
use Rattle.alloc_model.specs.declared.allocation.Transfer.{Transfer}
use Rattle.alloc_model.specs.declared.allocation.Transfer.TheVariants.{Store, Load, Shift}
use Rattle.alloc_model.specs.Places.{Place, Reg, Slot, places_written_at, ends_place, transfer_target, moved_temp, Plan, transfers_at, registers_at}

-- a temporary is live at a place of a block
abbrev pub is_live_at : Plan → (t block at : ℕ) → Type 0
is_live_at a t block at = Live reads_of writes_of targets_of flows_on_of a.function.blocks t block at

-- the place of a temporary at a block's top: the one that is named, or its slot
abbrev pub top_place : Loc → Place
top_place (loc.Reg r) = Reg r
top_place (loc.Slot t) = Slot t

abbrev pub named_place : (t : ℕ) → Option TempPlace → Place
named_place t None = Slot t
named_place t (Some s) = top_place s.place

abbrev pub place_at_top : Plan → (block t : ℕ) → Place
place_at_top a block t = named_place t (find (λ s. s.temp == t) (slice_index_or a.top block []))

-- an instruction takes a register: it ends it, or writes there
abbrev pub takes_register : (registers : List ℕ) → (register : ℕ) → TempInsn → Type 0
takes_register registers register x =
    ∥ (ends_place x (Reg register) ≡ true) ⊎ Contains (places_written_at registers x) (Reg register) ∥₁

-- From a place of a block, with some transfers left before the instruction there, a temporary that stands in a register
-- has its slot used before a store or a write of it: it is loaded; or something else takes its register while it is
-- live; or none of this is done yet, and it is so from the next step on
pub data UsesSlot (a : Plan) (t block : ℕ) : (at : ℕ) → List Transfer → (register : ℕ) → Type 0 where
  IsLoaded : {at register : ℕ} (to : ℕ) (xs : List Transfer) → UsesSlot a t block at (Load t to ∷ xs) register
  LeavesByMove : {at register : ℕ} (x : Transfer) (xs : List Transfer) → moved_temp x ≢ t →
      transfer_target x ≡ Reg register → is_live_at a t block at → UsesSlot a t block at (x ∷ xs) register
  IsShifted : {at register : ℕ} (from to : ℕ) (xs : List Transfer) → UsesSlot a t block at xs to →
      UsesSlot a t block at (Shift t from to ∷ xs) register
  PassesMove : {at register : ℕ} (x : Transfer) (xs : List Transfer) → moved_temp x ≢ t →
      transfer_target x ≢ Reg register →
      UsesSlot a t block at xs register → UsesSlot a t block at (x ∷ xs) register
  LeavesByInsn : {at register : ℕ} (x : TempInsn) → insn_at a.function.blocks block at ≡ Some x →
      ¬ Contains (writes_of x) t → takes_register (registers_at a block at) register x → is_live_at a t block (suc at) →
      UsesSlot a t block at [] register
  PassesInsn : {at register : ℕ} (x : TempInsn) → insn_at a.function.blocks block at ≡ Some x →
      ¬ Contains (writes_of x) t → ¬ takes_register (registers_at a block at) register x →
      UsesSlot a t block (suc at) (transfers_at a block (suc at)) register → UsesSlot a t block at [] register

-- a block relies on the slot of a temporary that stands in a register at its top
pub record IsRelied (a : Plan) (t block : ℕ) : Type 0 where
  pub register : ℕ
  pub stands : place_at_top a block t ≡ Reg register
  pub used : UsesSlot a t block 0 (transfers_at a block 0) register

-- a block writes a temporary, and stores it
pub record IsWritten (a : Plan) (t block : ℕ) : Type 0 where
  pub at : ℕ
  pub insn : TempInsn
  pub there : insn_at a.function.blocks block at ≡ Some insn
  pub written : Contains (writes_of insn) t

pub record IsStored (a : Plan) (t block : ℕ) : Type 0 where
  pub at : ℕ
  pub insn : TempInsn
  pub there : insn_at a.function.blocks block at ≡ Some insn
  pub register : ℕ
  pub stored : Contains (transfers_at a block at) (Store t register)

-- a block needs a slot that it relies on, and one that a block which may follow needs and that it neither writes nor
-- stores itself
pub data IsNeeded (a : Plan) (t : ℕ) : (block : ℕ) → Type 0 where
  Relied : {block : ℕ} → IsRelied a t block → IsNeeded a t block
  Handed : {block : ℕ} (insns : List TempInsn) (next : ℕ) → slice_get a.function.blocks block ≡ Some insns →
      Contains (successors_of targets_of flows_on_of block insns) next → ¬ IsWritten a t block → ¬ IsStored a t block →
      IsNeeded a t next → IsNeeded a t block
