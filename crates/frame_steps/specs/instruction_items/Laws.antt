-- What the machine does at the items of each instruction that is no call, division or return: what the instruction does
-- with the contents of its places and with the outer part of the world.
use Rattle.std.specs.Prelude.{◌≡◌, ℕ, ◌+◌, ◌*◌, ◌<◌, ◌≤◌, nat_lt, ◌||◌, ◌==◌, ◌^◌, Bool, true, false, List, [], ◌∷◌, ◌++◌, map, length, Some, slice_get}
use Rattle.alpha_isa.specs.Lawful.{IsDisplacement}
use Rattle.alpha_isa.specs.Program.{Program, data_start, word_address}
use Rattle.alpha_isa.specs.State.{State}
use Rattle.alpha_isa.specs.Step as step
use Rattle.alpha_isa.specs.Step.{Halt, exec}
use Rattle.alpha_items.specs.declared.item.AsmItem.{AsmItem}
use Rattle.alpha_items.specs.Words.{most_address}
use Rattle.frame_steps.specs.item_steps.Standing.{Labels, ItemsAt}
use Rattle.frame_steps.specs.item_steps.Steps.{Comes, Leaves}
use Rattle.mem_model.specs.World.{Outer}
use Rattle.machine_model.specs.Code.{Exits, Traps, HasNoMeaning, Act, Writes, Jumps, Calls, Returns, Stops}
use Rattle.suifvm_ir.specs.declared.insn.VmObject.TheVariants.{Global, Local}
use Rattle.temp_ir.specs.declared.insn.SecondOperand.{SecondOperand}
use Rattle.temp_ir.specs.declared.insn.SecondOperand.TheVariants as operand
use Rattle.temp_ir.specs.declared.insn.TempInsn.{TempInsn}
use Rattle.temp_ir.specs.declared.insn.TempInsn.TheVariants as i
use Rattle.temp_ir.specs.Insns.{reads_of, writes_of, targets_of}
use Rattle.alloc_model.specs.Contents.{Content, Plain}
use Rattle.alloc_model.specs.Stores.{without, put_all}
use Rattle.alloc_model.specs.Effect.{does}
use Rattle.alloc_model.specs.Places.{Places, In, place_eq, places_read_at, places_written_at, ends_place}
use Rattle.mem_model.specs.declared.value.Value.TheVariants.{Unset}
use Rattle.mem_model.specs.Bytes.{AreBytes}
use Rattle.frame_memory.specs.Bytes.{Bytes}
use Rattle.frame_memory.specs.Relation.{Extent, IsExtent, OfFrame, ArgumentPiece}
use Rattle.frame_memory.specs.Machine.{memory_bytes}
use Rattle.frame_memory.specs.flat_operations.Contents.{ContentIs}
use Rattle.frame_memory.specs.flat_frames.Shapes.{FrameShape, frame_size, argument_at}
use Rattle.frame_memory.specs.flat_frames.Frames.{word_in}
use Rattle.frame_steps.specs.frame_transfers.Laws.{CallAt, FitsTheStack, StandsFor, IsKept}
use Rattle.frame_steps.specs.instruction_items.Items.{ItemSetting, insn_items}

-- the registers in which values may stand: all but 26, which has the return address, and the scratch registers 28 and
-- 29, the stack pointer 30 and the zero 31
abbrev pub is_usable : (register : ℕ) → Bool
is_usable r = nat_lt r 26 || (r == 27)

-- ---- what an instruction asks for

-- a function saves each of the registers 9 to 15 that it names
pub record MayHold (s : FrameShape) (r : ℕ) : Type 0 where
  pub usable_one : is_usable r ≡ true
  pub saved : 9 ≤ r → r < 16 → s.saves r ≡ true

abbrev pub AllMayHold : FrameShape → (registers : List ℕ) → Type 0
AllMayHold s [] = Unit {0}
AllMayHold s (r ∷ rs) = MayHold s r × AllMayHold s rs

-- as many registers as the instruction has temporaries, each one in which values may stand
pub record IsStated (s : FrameShape) (registers : List ℕ) (x : TempInsn) : Type 0 where
  pub count : length registers ≡ length (reads_of x) + length (writes_of x)
  pub may_hold : AllMayHold s registers

abbrev pub IsSmallOperand : SecondOperand → Type 0
IsSmallOperand (operand.Temp t) = Unit {0}
IsSmallOperand (operand.Literal n) = n < 256

-- an object of static storage lies where the setting has it
pub record IsGlobal (p : Program) (g : ItemSetting) (c : CallAt) (k plus : ℕ) : Type 0 where
  pub extent : Extent
  pub made : slice_get c.extents k ≡ Some extent
  pub sound : IsExtent extent
  pub base : extent.base ≡ data_start p + g.global_at k
  pub within : plus ≤ extent.size
  pub near : data_start p + (g.global_at k + plus) < most_address

pub record IsNearLocal (c : CallAt) (k plus : ℕ) : Type 0 where
  pub size : ℕ
  pub made : slice_get c.shape.sizes k ≡ Some size
  pub within : plus ≤ size

-- what an instruction names is there, and its numbers fit
abbrev pub IsThere : Program → ItemSetting → CallAt → TempInsn → Type 0
IsThere p g c (i.ObjectAddress destination (Global k) plus) = IsGlobal p g c k plus
IsThere p g c (i.ObjectAddress destination (Local k) plus) = IsNearLocal c k plus
IsThere p g c (i.Operate op destination left right) = IsSmallOperand right
IsThere p g c (i.Extend op destination source) = IsSmallOperand source
IsThere p g c (i.SetFixed register number) = IsDisplacement number
IsThere p g c _ = Unit {0}

-- an argument of this call stands above its frame, in a place that the caller owns, unless nothing is held there
pub record IsHeldArgument (c : CallAt) (k : ℕ) (content : Content) (m : Bytes) : Type 0 where
  pub caller : ℕ
  pub above : c.depth ≡ caller + 1
  pub owned : (j : ℕ) → j < 8 →
      c.owner (c.sp + (frame_size c.shape + argument_at k) + j) ≡ OfFrame caller (ArgumentPiece k)
  pub small : c.sp + (frame_size c.shape + argument_at k) < 2 ^ 64
  pub near : frame_size c.shape + argument_at k < most_address
  pub is : ContentIs c.extents content (word_in m (c.sp + (frame_size c.shape + argument_at k)))

abbrev pub ArgumentIs : CallAt → (k : ℕ) → Content → Bytes → Type 0
ArgumentIs c k (Plain Unset) m = Unit {0}
ArgumentIs c k content m = IsHeldArgument c k content m

abbrev pub ArgumentsAre : CallAt → Places → Bytes → Type 0
ArgumentsAre c store m = (k : ℕ) → ArgumentIs c k (store (In k)) m

-- the input and the output of a machine are those of the outer part of a world, whose input is of bytes
pub record HasOuter (o : Outer) (s : State) : Type 0 where
  pub input : s.input ≡ o.input
  pub output : s.output ≡ o.output
  pub bytes : AreBytes o.input

-- ---- what is done

-- the machine has come to items for what the call holds, and for an outer part of the world
pub record ComesToItems (p : Program) (there : Labels) (items : List AsmItem) (end : ℕ) (c : CallAt) (o : Outer)
    (store : Places) (s : State) : Type 0 where
  pub to : State
  pub comes : Comes p s to
  pub stands : StandsFor p there items end c o.memory is_usable store to
  pub outer : HasOuter o to
  pub kept : IsKept p c s to

-- it has come to a label, by a branch behind which items stand, and stands at whatever items stand there
pub record IsAtLabel (p : Program) (there : Labels) (rest : List AsmItem) (end l : ℕ) (c : CallAt) (o : Outer)
    (store : Places) (s : State) : Type 0 where
  pub to : State
  pub next : ℕ
  pub behind : ItemsAt p there next rest end
  pub within : next ≤ length p.words
  pub comes : Leaves p (word_address next) s to
  pub pc : to.pc ≡ word_address (there l)
  pub some : 1 ≤ comes.steps
  pub stands : (items : List AsmItem) (last : ℕ) → ItemsAt p there (there l) items last →
      StandsFor p there items last c o.memory is_usable store to
  pub outer : HasOuter o to
  pub kept : IsKept p c s to

-- so many steps from a state to an end are paid by the words of the text, with three more for those behind the first call
abbrev pub EndIsPaid : Program → (steps : ℕ) → State → Type 0
EndIsPaid p steps s = 4 * steps + 600 * s.pc ≤ 600 * word_address (length p.words) + 7200

-- the run is over, with the output of the outer part
pub record RunIsOver (p : Program) (o : Outer) (h : Halt) (s : State) : Type 0 where
  pub steps : ℕ
  pub last : State
  pub run : exec p steps s ≡ step.Over h last
  pub paid : EndIsPaid p steps s
  pub output : last.output ≡ o.output

-- the machine does what an act of an instruction is: `written` is what the call holds once contents are written
abbrev pub ActIsDone : Program → Labels → ItemSetting → (rest : List AsmItem) → (end : ℕ) → CallAt →
    (written : List Content → Places) → TempInsn → State → Act Content → Type 0
ActIsDone p there g rest end c written x s (Writes cs o) = ComesToItems p there rest end c o (written cs) s
ActIsDone p there g rest end c written x s (Jumps target o) =
    (block : ℕ) → slice_get (targets_of x) target ≡ Some block →
    IsAtLabel p there rest end (g.block_label block) c o (written []) s
ActIsDone p there g rest end c written x s (Calls function cs o) = Unit {0}
ActIsDone p there g rest end c written x s (Returns cs o) = Unit {0}
ActIsDone p there g rest end c written x s (Stops (Exits status) o) = RunIsOver p o (step.Done status) s
ActIsDone p there g rest end c written x s (Stops (Traps code) o) = RunIsOver p o (step.Trap code) s
ActIsDone p there g rest end c written x s (Stops HasNoMeaning o) = Unit {0}

-- the instructions that this is said of
abbrev pub is_no_call : TempInsn → Bool
is_no_call (i.Call function arguments) = false
is_no_call (i.Divide routine) = false
is_no_call (i.Return with_value) = false
is_no_call _ = true

-- what a call holds once an instruction with stated registers has written
abbrev pub store_behind : (registers : List ℕ) → TempInsn → Places → List Content → Places
store_behind registers x store cs =
    put_all place_eq (places_written_at registers x) cs (without (ends_place x) store)

abbrev pub InstructionsAreDone : Type 0
InstructionsAreDone =
    (p : Program) (there : Labels) (g : ItemSetting) (rest : List AsmItem) (end : ℕ) (c : CallAt) (o : Outer)
    (store : Places) (s : State) → FitsTheStack c → g.shape ≡ c.shape → ArgumentsAre c store (memory_bytes p s) →
    HasOuter o s →
    (widest : ℕ) → widest ≤ c.shape.outgoing + 6 →
    (registers : List ℕ) (x : TempInsn) → is_no_call x ≡ true → IsStated c.shape registers x → IsThere p g c x →
    StandsFor p there (insn_items g registers x ++ rest) end c o.memory is_usable store s →
    ActIsDone p there g rest end c (store_behind registers x store) x s
    (does widest x c.own (map store (places_read_at registers x)) o)
