-- What is said of the code of functions, of its instructions where they stand, and of states that correspond.
use Rattle.std.specs.Prelude.{◌≡◌, ℕ, ◌<◌, false, List, [], map, slice_get, All, Some, None}
use Rattle.mem_model.specs.declared.value.Value.{Value}
use Rattle.mem_model.specs.Memory.{Memory}
use Rattle.mem_model.specs.World.{World, Rooms, outer_with_memory}
use Rattle.mem_model.specs.Related.{Names, IsValueOf, IsMemoryOf}
use Rattle.machine_model.specs.Code.{Writes}
use Rattle.machine_model.specs.Machine.{Frame}
use Rattle.suifvm_ir.specs.declared.insn.VmInsn.{VmInsn}
use Rattle.suifvm_ir.specs.declared.insn.VmInsn.TheVariants as n
use Rattle.suifvm_ir.specs.Insns.{reads_of, writes_of}
use Rattle.suifvm_meaning.specs.Effect.{does, takes_turn}
use Rattle.suifvm_meaning.specs.Behave.{FunctionCode, Registers, set_registers, set_register}
use Rattle.c_typed_tree.specs.declared.types.StructDef.{StructDef}
use Rattle.c_typed_tree.specs.declared.units.Local.{Local}
use Rattle.c_semantics.specs.Runs as c
use Rattle.c_semantics.specs.Objects.{Scope}
use Rattle.lowering_code.specs.declared.item.CodeItem.{CodeItem}
use Rattle.lowering_code.specs.Items.{block_total}
use Rattle.lowering_code.specs.Layout.{blocks_of}
use Rattle.lowering_states.specs.Places.{CodePlace, At, stands_at, next_place, next_block, start_of_block}
use Rattle.lowering_states.specs.Runs.{CodeObservation, Meets, config}
use Rattle.lowering_states.specs.States.{IsHeld, type_at, Fits, After}

-- the blocks of items have these
abbrev pub BlocksHaveItems : Type 0
BlocksHaveItems = (end : List VmInsn) (is : List CodeItem)
    → At (blocks_of end is) (block_total is) end [] (start_of_block 0) is

-- within a call of a function whose code is there
module _ (rooms : Rooms) (functions : List FunctionCode) (i own : ℕ) (code : FunctionCode)
    (waiting : List (Frame Registers)) where
  abbrev pub EndsSo : CodeObservation → CodePlace → Registers → World → Memory → Type 0
  EndsSo o p r w m = Meets rooms functions o (config i own waiting p r w m)

  -- an instruction that writes values leads to the place behind it
  abbrev pub InsnLeads : Type 0
  InsnLeads =
      (insn : VmInsn) (p : CodePlace) (r : Registers) (w : World) (m m1 : Memory) (vs : List Value)
      (o : CodeObservation) →
      stands_at code.blocks p ≡ Some (Some insn) → takes_turn insn ≡ false →
      does insn own (map r (reads_of insn)) (outer_with_memory w.outer m) ≡ Writes vs (outer_with_memory w.outer m1) →
      EndsSo o (next_place p) (set_registers (writes_of insn) vs r) w m1 → EndsSo o p r w m

  -- a jump leads to its block, and the end of a block to the next one
  abbrev pub JumpLeads : Type 0
  JumpLeads =
      (block : ℕ) (p : CodePlace) (r : Registers) (w : World) (m : Memory) (o : CodeObservation) →
      stands_at code.blocks p ≡ Some (Some (n.Jump block)) → EndsSo o (start_of_block block) r w m → EndsSo o p r w m

  abbrev pub EndLeads : Type 0
  EndLeads =
      (p : CodePlace) (r : Registers) (w : World) (m : Memory) (o : CodeObservation) →
      stands_at code.blocks p ≡ Some None →
      EndsSo o (next_block p) r w m → EndsSo o p r w m

pub record PlacesLead (rooms : Rooms) (functions : List FunctionCode) (i own : ℕ) (code : FunctionCode)
    (waiting : List (Frame Registers)) : Type 0 where
  pub insns : InsnLeads rooms functions i own code waiting
  pub jumps : JumpLeads rooms functions i own code waiting
  pub ends : EndLeads rooms functions i own code waiting

abbrev pub CodeLeads : Type 0
CodeLeads =
    (rooms : Rooms) (functions : List FunctionCode) (i own : ℕ) (code : FunctionCode)
    (waiting : List (Frame Registers)) → slice_get functions i ≡ Some code →
    PlacesLead rooms functions i own code waiting

-- what a part of a run leaves of names and memories keeps the relation of states
abbrev pub StatesStay : Type 0
StatesStay =
    (globals : ℕ) (ds : List StructDef) (ls : List Local) (own : ℕ) (f g : Names) (scope : Scope) (r : Registers)
    (l : c.LocalRegisters) (m n m1 n1 : Memory) (t t1 : ℕ) (input input1 : List ℕ) → After f m n t g m1 n1 t1 →
    IsMemoryOf g m1 n1 → All (λ b. b < 256) input1 → Fits globals ds ls own f scope r l m n input →
    Fits globals ds ls own g scope r l m1 n1 input1

-- a local is written on both sides
abbrev pub LocalsAreWritten : Type 0
LocalsAreWritten =
    (globals : ℕ) (ds : List StructDef) (ls : List Local) (own : ℕ) (f : Names) (scope : Scope) (r : Registers)
    (l : c.LocalRegisters) (m n : Memory) (input : List ℕ) (k : ℕ) (v w : Value) → IsValueOf f v w →
    IsHeld (type_at (slice_get ls k)) v → Fits globals ds ls own f scope r l m n input →
    Fits globals ds ls own f scope (set_register k w r) (c.with_local_value l k v) m n input
