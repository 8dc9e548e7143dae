-- What the machine does at the items of instructions on registers.
use Rattle.std.specs.Prelude.{◌≡◌, ℕ, ◌<◌, ◌≤◌, ◌⊎◌, ℤ, Bool, true, List, ◌∷◌, length, Some, if◌then◌else◌}
use Rattle.alpha_isa.specs.declared.insn.Fields.TheVariants.{Memory}
use Rattle.alpha_isa.specs.declared.insn.MemoryOp.TheVariants.{Lda}
use Rattle.alpha_isa.specs.Arithmetic.{word_from}
use Rattle.alpha_isa.specs.Lawful.{IsDisplacement}
use Rattle.alpha_isa.specs.Program.{Program, word_address}
use Rattle.alpha_isa.specs.State.{State}
use Rattle.alpha_items.specs.declared.item.AsmItem.{AsmItem}
use Rattle.alpha_items.specs.declared.item.AsmItem.TheVariants.{Plain, Branch}
use Rattle.frame_steps.specs.item_steps.Standing.{Labels, ItemsAt}
use Rattle.frame_steps.specs.item_steps.Steps.{Leaves}
use Rattle.mem_model.specs.Memory as memory
use Rattle.temp_ir.specs.declared.operation.AddressOp.{AddressOp}
use Rattle.temp_ir.specs.declared.operation.LoadOp.{LoadOp}
use Rattle.temp_ir.specs.declared.operation.StoreOp.{StoreOp}
use Rattle.temp_ir.specs.declared.operation.TempBranchOp.{TempBranchOp}
use Rattle.temp_ir.specs.Operations.{address_op, load_op, store_op, branch_op}
use Rattle.alloc_model.specs.Contents.{Content, word_content, moved_bytes, moved_content, loaded_content, stored_memory, branch_test}
use Rattle.alloc_model.specs.Stores.{put}
use Rattle.alloc_model.specs.Places.{Places, Reg, place_eq}
use Rattle.frame_memory.specs.flat_frames.Frames.{with_known}
use Rattle.frame_steps.specs.frame_transfers.Laws.{CallAt, FitsTheStack, StandsFor, KnowsValues, IsWritable, IsKept, HasDone}

-- a content stands in a register: that of a known one, or zero in register 31
abbrev pub StandsIn : (known : ℕ → Bool) → Places → (register : ℕ) → Content → Type 0
StandsIn known store r c = ((known r ≡ true) × (c ≡ store (Reg r))) ⊎ ((r ≡ 31) × (c ≡ word_content 0))

-- a register holds another content behind some items
abbrev pub GivesRegister : Program → Labels → List AsmItem → ℕ → CallAt → memory.Memory → (ℕ → Bool) → Places → State →
    (register : ℕ) → Content → Type 0
GivesRegister p there rest end c m known store s r content =
    HasDone p there rest end c m (with_known known r) (put place_eq (Reg r) content store) s

-- a load through a pointer
abbrev pub FrameLoadsAreDone : Type 0
FrameLoadsAreDone =
    (p : Program) (there : Labels) (rest : List AsmItem) (end : ℕ) (c : CallAt) (m : memory.Memory) (known : ℕ → Bool)
    (store : Places) (s : State) → FitsTheStack c → KnowsValues known →
    (op : LoadOp) (r pointer : ℕ) (plus : ℤ) (content : Content) →
    StandsFor p there (Plain (Memory (load_op op) r pointer plus) ∷ rest) end c m known store s →
    known pointer ≡ true → IsWritable c.shape r → loaded_content m op (store (Reg pointer)) plus ≡ Some content →
    GivesRegister p there rest end c m known store s r content

-- a store
abbrev pub FrameStoresAreDone : Type 0
FrameStoresAreDone =
    (p : Program) (there : Labels) (rest : List AsmItem) (end : ℕ) (c : CallAt) (m : memory.Memory) (known : ℕ → Bool)
    (store : Places) (s : State) → FitsTheStack c → KnowsValues known →
    (op : StoreOp) (r pointer : ℕ) (plus : ℤ) (value : Content) (new : memory.Memory) →
    StandsFor p there (Plain (Memory (store_op op) r pointer plus) ∷ rest) end c m known store s →
    StandsIn known store r value → known pointer ≡ true →
    stored_memory m op value (store (Reg pointer)) plus ≡ Some new → HasDone p there rest end c new known store s

-- a word or a pointer that is moved by so many bytes
abbrev pub MovesAreDone : Type 0
MovesAreDone =
    (p : Program) (there : Labels) (rest : List AsmItem) (end : ℕ) (c : CallAt) (m : memory.Memory) (known : ℕ → Bool)
    (store : Places) (s : State) → FitsTheStack c → KnowsValues known →
    (op : AddressOp) (r base : ℕ) (plus : ℤ) (value content : Content) →
    StandsFor p there (Plain (Memory (address_op op) r base plus) ∷ rest) end c m known store s →
    StandsIn known store base value → IsWritable c.shape r →
    moved_content m value (moved_bytes op plus) ≡ Some content →
    GivesRegister p there rest end c m known store s r content

-- a register that is set to a number
abbrev pub SetsAreDone : Type 0
SetsAreDone =
    (p : Program) (there : Labels) (rest : List AsmItem) (end : ℕ) (c : CallAt) (m : memory.Memory) (known : ℕ → Bool)
    (store : Places) (s : State) → FitsTheStack c → KnowsValues known →
    (r : ℕ) (number : ℤ) → StandsFor p there (Plain (Memory Lda r 31 number) ∷ rest) end c m known store s →
    IsWritable c.shape r → IsDisplacement number →
    GivesRegister p there rest end c m known store s r (word_content (word_from number))

-- a branch is taken or passed, and what the call holds is as before, but for register 28
pub record BranchIsDone (p : Program) (there : Labels) (rest : List AsmItem) (end : ℕ) (c : CallAt) (m : memory.Memory)
    (known : ℕ → Bool) (store : Places) (l : ℕ) (taken : Bool) (s : State) : Type 0 where
  pub to : State
  pub next : ℕ
  pub within : next ≤ length p.words
  pub comes : Leaves p (word_address next) s to
  pub some : 1 ≤ comes.steps
  pub behind : ItemsAt p there next rest end
  pub pc : to.pc ≡ word_address (if taken then there l else next)
  pub stands : (items : List AsmItem) (last : ℕ) →
      ItemsAt p there (if taken then there l else next) items last → StandsFor p there items last c m known store to
  pub input : to.input ≡ s.input
  pub output : to.output ≡ s.output
  pub kept : IsKept p c s to

abbrev pub BranchesAreDone : Type 0
BranchesAreDone =
    (p : Program) (there : Labels) (rest : List AsmItem) (end : ℕ) (c : CallAt) (m : memory.Memory) (known : ℕ → Bool)
    (store : Places) (s : State) → FitsTheStack c → KnowsValues known → ((r : ℕ) → known r ≡ true → r < 28) →
    (op : TempBranchOp) (r l : ℕ) (taken : Bool) →
    StandsFor p there (Branch (branch_op op) r l ∷ rest) end c m known store s →
    known r ≡ true → branch_test op m (store (Reg r)) ≡ Some taken →
    BranchIsDone p there rest end c m known store l taken s
