-- Small programs, to show what the meaning gives of them.
use Rattle.std.specs.Prelude.{◌≡◌, ℕ, ◌-◌, ◌^◌, pos, negsuc, true, false, List, [], ◌∷◌, Option, Some, None}
use Rattle.mem_model.specs.Ending.{Ending, Done, Trap, Undefined, More, ending_output}
use Rattle.machine_model.specs.Machine.{Next, Goes, Over}
use Rattle.mem_objects.specs.declared.DataObject.{DataObject}
use Rattle.mem_objects.specs.declared.DataCell.TheVariants as cell
use Rattle.suifvm_ir.specs.declared.types.VmType.TheVariants.{S32, U32, S64, U64, P64}
use Rattle.suifvm_ir.specs.declared.types.MemoryType.TheVariants as memory
use Rattle.suifvm_ir.specs.declared.types.Alignment.TheVariants as align
use Rattle.suifvm_ir.specs.declared.insn.VmUnaryOp.TheVariants.{Move, Negate, Complement}
use Rattle.suifvm_ir.specs.declared.insn.VmBinaryOp.TheVariants.{Add, Subtract, Divide}
use Rattle.suifvm_ir.specs.declared.insn.ShiftOp.TheVariants.{ArithmeticRight, Left, LogicalRight}
use Rattle.suifvm_ir.specs.declared.insn.CompareOp.TheVariants.{Equal, Less, LessOrEqual}
use Rattle.suifvm_ir.specs.declared.insn.VmBranchOp.TheVariants.{IfTrue, IfFalse}
use Rattle.suifvm_ir.specs.declared.insn.VmObject.TheVariants.{Global, Local}
use Rattle.suifvm_ir.specs.declared.insn.VmBuiltin.TheVariants.{PutChar, GetChar, Abort, Exit}
use Rattle.suifvm_ir.specs.declared.insn.VmCallee.TheVariants.{Function, Builtin}
use Rattle.suifvm_ir.specs.declared.insn.VmInsn.{VmInsn}
use Rattle.suifvm_ir.specs.declared.insn.VmInsn.TheVariants.{LoadConstant, LoadAddress, Load, Store, Copy, Unary, Binary, Shift, Convert, Compare, Branch, Jump, Call, Return, Mark, Nop}
use Rattle.suifvm_meaning.specs.Behave.{FunctionCode, Registers, vm_run, start_world}

-- what is seen of a run: how it ended, if it did, and its output
pub data VmObservation : Type 0 where
  ShowsDone : (status : ℕ) → (output : List ℕ) → VmObservation
  ShowsTrap : (code : ℕ) → (output : List ℕ) → VmObservation
  ShowsUndefined : (at : ℕ) → (output : List ℕ) → VmObservation
  ShowsMore : (output : List ℕ) → VmObservation
  GoesOn : VmObservation

abbrev pub shown_ending : Ending → VmObservation
shown_ending (Done w status) = ShowsDone status w.outer.output
shown_ending (Trap w code) = ShowsTrap code w.outer.output
shown_ending (Undefined w at) = ShowsUndefined at w.outer.output
shown_ending (More w) = ShowsMore w.outer.output

abbrev pub observe : Next Registers → VmObservation
observe (Goes k) = GoesOn
observe (Over e) = shown_ending e

-- a run of functions, of which the first is `main`, in at most 30 steps
abbrev pub run_functions : List FunctionCode → List DataObject → (input : List ℕ) → (turns : ℕ) → VmObservation
run_functions functions globals input turns = observe (vm_run [] functions 0 (start_world globals input turns) 30)

-- a run of one function without memory locals
abbrev pub run_blocks : List (List VmInsn) → (input : List ℕ) → (turns : ℕ) → VmObservation
run_blocks blocks input turns = run_functions (record { sizes = []; blocks = blocks } ∷ []) [] input turns

abbrev pub give : (register : ℕ) → VmInsn
give register = Return (Some (record { ty = S32; register = register }))

-- the word of -1
abbrev pub minus_one : ℕ
minus_one = 2 ^ 64 - 1

-- an object of 8 bytes whose first two are 1 and 2
abbrev pub constant_object : DataObject
constant_object =
    record { name = []; size = 8; align = 1; offset = 0; writable = false; cells = cell.Byte 1 ∷ cell.Byte 2 ∷ [] }

pub record VmExamplesRun : Type 0 where
  -- a byte is put, which is a turn, and is the status
  pub puts : run_blocks ((LoadConstant S32 0 65 ∷ Call (Some 1) (Builtin PutChar) (0 ∷ []) ∷ give 1 ∷ []) ∷ []) [] 1
      ≡ ShowsDone 65 (65 ∷ [])
  pub wants_turn : run_blocks
      ((LoadConstant S32 0 65 ∷ Call (Some 1) (Builtin PutChar) (0 ∷ []) ∷ give 1 ∷ []) ∷ []) [] 0 ≡ ShowsMore []
  -- bytes are read, and -1 at the end
  pub gets : run_blocks
      ((Call (Some 0) (Builtin GetChar) [] ∷ Call (Some 1) (Builtin GetChar) [] ∷ Binary Add S32 2 0 1 ∷ give 2 ∷ [])
      ∷ []) (7 ∷ []) 2 ≡ ShowsDone 6 []
  -- signed sums trap, unsigned ones wrap and are held with their sign
  pub traps : run_blocks
      ((LoadConstant S32 0 2147483647 ∷ LoadConstant S32 1 1 ∷ Binary Add S32 2 0 1 ∷ give 2 ∷ []) ∷ []) [] 0
      ≡ ShowsTrap 3 []
  pub wraps : run_blocks
      ((LoadConstant U32 0 minus_one ∷ LoadConstant U32 1 3 ∷ Binary Add U32 2 0 1 ∷ give 2 ∷ []) ∷ []) [] 0
      ≡ ShowsDone 2 []
  pub divides_by_zero : run_blocks
      ((LoadConstant S64 0 5 ∷ LoadConstant S64 1 0 ∷ Binary Divide S64 2 0 1 ∷ give 2 ∷ []) ∷ []) [] 0 ≡ ShowsTrap 1 []
  -- a word that is not held as its type asks, a register that was never written, a shift by the width
  pub not_held : run_blocks ((Nop ∷ LoadConstant S32 0 4294967295 ∷ give 0 ∷ []) ∷ []) [] 0 ≡ ShowsUndefined 1 []
  pub unset : run_blocks ((Nop ∷ Nop ∷ give 0 ∷ []) ∷ []) [] 0 ≡ ShowsUndefined 2 []
  pub shifts_too_far : run_blocks
      ((LoadConstant S32 0 1 ∷ LoadConstant S32 1 32 ∷ Shift Left S32 2 0 1 ∷ give 2 ∷ []) ∷ []) [] 0
      ≡ ShowsUndefined 2 []
  -- the two shifts to the right, and a conversion
  pub shifts_signed : run_blocks
      ((LoadConstant S64 0 minus_one ∷ LoadConstant S64 1 60 ∷ Shift ArithmeticRight S64 2 0 1
      ∷ Convert memory.S64 S32 3 2 ∷ give 3 ∷ []) ∷ []) [] 0 ≡ ShowsDone 255 []
  pub shifts_unsigned : run_blocks
      ((LoadConstant S64 0 minus_one ∷ LoadConstant S64 1 60 ∷ Shift LogicalRight S64 2 0 1 ∷ Convert memory.S64 S32 3 2
      ∷ give 3 ∷ []) ∷ []) [] 0 ≡ ShowsDone 15 []
  pub extends : run_blocks
      ((LoadConstant S32 0 255 ∷ Convert memory.S8 S32 1 0 ∷ Unary Negate S32 2 1 ∷ give 2 ∷ []) ∷ []) [] 0
      ≡ ShowsDone 1 []
  -- a branch that is taken, one that is not, and a block that goes on with the next
  pub branches : run_blocks
      ((LoadConstant S32 0 4 ∷ Branch IfTrue S32 0 2 ∷ []) ∷ (give 1 ∷ []) ∷ (give 0 ∷ []) ∷ []) [] 0 ≡ ShowsDone 4 []
  pub falls_through : run_blocks
      ((LoadConstant S32 0 4 ∷ Branch IfFalse S32 0 2 ∷ []) ∷ (give 0 ∷ []) ∷ (give 1 ∷ []) ∷ []) [] 0 ≡ ShowsDone 4 []
  -- a loop for ever takes a turn each time
  pub loops : run_blocks ([] ∷ (Mark ∷ Jump 1 ∷ []) ∷ []) [] 3 ≡ ShowsMore []
  -- a byte of an object of static storage, one past its cells, and one past its end
  pub loads : run_functions
      (record {
        sizes = [];
        blocks =
            (LoadAddress 0 (Global 0) 1 ∷ Load memory.U8 1 0 (pos 0) ∷ Load memory.U8 2 0 (pos 3) ∷ Binary Add S32 3 1 2
            ∷ give 3 ∷ []) ∷ [];
      } ∷ []) (constant_object ∷ []) [] 0 ≡ ShowsDone 2 []
  pub loads_outside : run_functions
      (record { sizes = []; blocks = (LoadAddress 0 (Global 0) 8 ∷ Load memory.U8 1 0 (pos 0) ∷ give 1 ∷ []) ∷ [] }
      ∷ []) (constant_object ∷ []) [] 0 ≡ ShowsUndefined 1 []
  -- a function writes to its memory local and returns what stands there; the object has ended when it returned
  pub calls : run_functions (
      record { sizes = []; blocks = (LoadConstant S32 0 9 ∷ Call (Some 1) (Function 1) (0 ∷ []) ∷ give 1 ∷ []) ∷ [] }
      ∷ record {
        sizes = 4 ∷ [];
        blocks =
            (LoadAddress 1 (Local 0) 4 ∷ Store memory.S32 1 (negsuc 3) 0 ∷ Load memory.S32 2 1 (negsuc 3) ∷ give 2 ∷ [])
            ∷ [];
      }
      ∷ []) [] [] 1 ≡ ShowsDone 9 []
  pub outlives : run_functions (
      record { sizes = []; blocks = (Call (Some 1) (Function 1) [] ∷ Load memory.S32 2 1 (pos 0) ∷ give 2 ∷ []) ∷ [] }
      ∷ record {
        sizes = 4 ∷ [];
        blocks =
            (LoadAddress 1 (Local 0) 0 ∷ Return (Some (record { ty = P64; register = 1 })) ∷ []) ∷ [];
      }
      ∷ []) [] [] 1 ≡ ShowsUndefined 1 []
  -- the end of a program by `exit` and by `abort`
  pub exits : run_blocks ((LoadConstant S32 0 300 ∷ Call None (Builtin Exit) (0 ∷ []) ∷ give 1 ∷ []) ∷ []) [] 1
      ≡ ShowsDone 44 []
  pub aborts : run_blocks ((Call None (Builtin Abort) [] ∷ give 1 ∷ []) ∷ []) [] 1 ≡ ShowsTrap 2 []
