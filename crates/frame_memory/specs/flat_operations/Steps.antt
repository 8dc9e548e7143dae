-- Loads and stores as steps of the machine.
use Rattle.std.specs.Prelude.{◌≡◌, ◌≢◌, ℕ, ◌^◌, ◌<◌, ℤ, true, Some}
use Rattle.alpha_isa.specs.Program.{Program}
use Rattle.alpha_isa.specs.State.{State, register, with_register}
use Rattle.alpha_isa.specs.Step.{Goes, memory_step, next_instruction, next_pc}
use Rattle.mem_model.specs.Memory.{Memory}
use Rattle.temp_ir.specs.declared.operation.LoadOp.{LoadOp}
use Rattle.temp_ir.specs.declared.operation.StoreOp.{StoreOp}
use Rattle.temp_ir.specs.Operations.{load_op, store_op}
use Rattle.alloc_model.specs.Contents.{Content, loaded_content, stored_memory}
use Rattle.frame_memory.specs.Relation.{Extents, Owners, OfObject, Nobody, MemoryIs}
use Rattle.frame_memory.specs.Machine.{memory_bytes, is_reached, HasParts}
use Rattle.frame_memory.specs.flat_operations.Contents.{ContentIs}

-- the bytes of a machine stand for a memory, and it reaches what anyone owns
pub record HasMemory (xs : Extents) (memory : Memory) (owner : Owners) (p : Program) (s : State) : Type 0 where
  pub parts : HasParts p s
  pub memory_is : MemoryIs xs memory owner (memory_bytes p s)
  pub reached : (y : ℕ) → owner y ≢ Nobody → is_reached p s y ≡ true

-- a load into a register
pub record IsLoadStep (xs : Extents) (p : Program) (op : LoadOp) (ra rb : ℕ) (plus : ℤ) (s : State) (c : Content) :
    Type 0 where
  pub word : ℕ
  pub goes : memory_step p (load_op op) ra rb plus s ≡ next_instruction (with_register ra word s)
  pub small : word < 2 ^ 64
  pub content : ContentIs xs c word

abbrev pub LoadsStep : Type 0
LoadsStep =
    (xs : Extents) (memory : Memory) (owner : Owners) (p : Program) (s : State) → HasMemory xs memory owner p s →
    (op : LoadOp) (ra rb : ℕ) (plus : ℤ) (pointer c : Content) → ContentIs xs pointer (register s rb) →
    loaded_content memory op pointer plus ≡ Some c → IsLoadStep xs p op ra rb plus s c

-- a store from a register: the machine goes on, with the bytes that the new memory has
pub record IsStoreStep (xs : Extents) (new : Memory) (owner : Owners) (p : Program) (op : StoreOp) (ra rb : ℕ)
    (plus : ℤ) (s : State) : Type 0 where
  pub to : State
  pub goes : memory_step p (store_op op) ra rb plus s ≡ Goes to
  pub memory : HasMemory xs new owner p to
  pub pc : to.pc ≡ next_pc s
  pub registers : to.registers ≡ s.registers
  pub input : to.input ≡ s.input
  pub output : to.output ≡ s.output
  pub reach : (y : ℕ) → is_reached p to y ≡ is_reached p s y
  -- what no object owns is as before
  pub others : (y : ℕ) → ((o : ℕ) → owner y ≢ OfObject o) → memory_bytes p to y ≡ memory_bytes p s y

abbrev pub StoresStep : Type 0
StoresStep =
    (xs : Extents) (memory new : Memory) (owner : Owners) (p : Program) (s : State) → HasMemory xs memory owner p s →
    (op : StoreOp) (ra rb : ℕ) (plus : ℤ) (value pointer : Content) → ContentIs xs value (register s ra) →
    ContentIs xs pointer (register s rb) → stored_memory memory op value pointer plus ≡ Some new →
    IsStoreStep xs new owner p op ra rb plus s
