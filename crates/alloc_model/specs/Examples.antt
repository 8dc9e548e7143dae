-- Small programs over temporaries, to show what the meaning gives of them.
use Rattle.std.specs.Prelude.{◌≡◌, ℕ, pos, negsuc, true, false, List, [], ◌∷◌, map}
use Rattle.mem_model.specs.Ending.{Ending, Done, Trap, Undefined, More}
use Rattle.machine_model.specs.Machine.{Next, Goes, Over}
use Rattle.mem_objects.specs.declared.DataObject.{DataObject}
use Rattle.mem_objects.specs.declared.DataCell.TheVariants as cell
use Rattle.suifvm_ir.specs.declared.insn.VmObject.TheVariants.{Global, Local}
use Rattle.temp_ir.specs.declared.operation.AddressOp.TheVariants.{Lda, Ldah}
use Rattle.temp_ir.specs.declared.operation.LoadOp.TheVariants.{Ldbu, Ldl, Ldq}
use Rattle.temp_ir.specs.declared.operation.StoreOp.TheVariants.{Stl, Stq}
use Rattle.temp_ir.specs.declared.operation.TempBranchOp.TheVariants.{Beq, Bne}
use Rattle.temp_ir.specs.declared.operation.Operation.TheVariants.{Addl, Addq, AddqV, Subq, Cmpeq, Bis, Sll, Mulq}
use Rattle.temp_ir.specs.declared.operation.ExtendOp.TheVariants.{Sextb}
use Rattle.temp_ir.specs.declared.operation.DivisionRoutine.TheVariants.{Divq, Reml}
use Rattle.temp_ir.specs.declared.operation.Service as service
use Rattle.temp_ir.specs.declared.operation.Service.TheVariants.{End, PutByte, GetByte}
use Rattle.temp_ir.specs.declared.insn.FixedRegister.TheVariants.{Value, Argument0, Argument1, Argument2, Argument3, Argument4, Argument5, Dividend, Divisor, Answer}
use Rattle.temp_ir.specs.declared.insn.FirstOperand.TheVariants as s
use Rattle.temp_ir.specs.declared.insn.SecondOperand.TheVariants as o
use Rattle.temp_ir.specs.declared.insn.TempInsn.{TempInsn}
use Rattle.temp_ir.specs.declared.insn.TempInsn.TheVariants.{Address, ObjectAddress, Load, Store, Operate, Extend, ToFixed, FromFixed, SetFixed, WriteArgument, ReadArgument, Branch, Jump, Call, Divide, Serve, Return, Mark}
use Rattle.alloc_model.specs.declared.allocation.EdgeCode.{EdgeCode}
use Rattle.alloc_model.specs.declared.allocation.Transfer.{Transfer}
use Rattle.alloc_model.specs.declared.allocation.Transfer.TheVariants as x
use Rattle.alloc_model.specs.Temporaries.{TemporaryCode, temp_run, start_world}
use Rattle.alloc_model.specs.Places.{Plan, placed_run}

-- what is seen of a run: how it ended, if it did, and its output
pub data TemporaryObservation : Type 0 where
  ShowsDone : (status : ℕ) → (output : List ℕ) → TemporaryObservation
  ShowsTrap : (code : ℕ) → (output : List ℕ) → TemporaryObservation
  ShowsUndefined : (at : ℕ) → (output : List ℕ) → TemporaryObservation
  ShowsMore : (output : List ℕ) → TemporaryObservation
  GoesOn : TemporaryObservation

abbrev pub shown_ending : Ending → TemporaryObservation
shown_ending (Done w status) = ShowsDone status w.outer.output
shown_ending (Trap w code) = ShowsTrap code w.outer.output
shown_ending (Undefined w at) = ShowsUndefined at w.outer.output
shown_ending (More w) = ShowsMore w.outer.output

abbrev pub observe : {S : Type 0} → Next S → TemporaryObservation
observe (Goes k) = GoesOn
observe (Over e) = shown_ending e

-- a run of functions, of which the first is `main`, in at most 30 steps
abbrev pub run_functions : List TemporaryCode → List DataObject → (input : List ℕ) → (turns : ℕ) → TemporaryObservation
run_functions functions globals input turns = observe (temp_run [] functions 0 (start_world globals input turns) 30)

abbrev pub example_function : (sizes : List ℕ) → List (List TempInsn) → TemporaryCode
example_function sizes blocks = record { sizes = sizes; blocks = blocks }

-- a run of one function without memory locals, and of one block
abbrev pub run_blocks : List (List TempInsn) → (input : List ℕ) → (turns : ℕ) → TemporaryObservation
run_blocks blocks input turns = run_functions (example_function [] blocks ∷ []) [] input turns

abbrev pub run_block : List TempInsn → (input : List ℕ) → (turns : ℕ) → TemporaryObservation
run_block block input turns = run_blocks (block ∷ []) input turns

-- a temporary is a number, and another one of the same content; a temporary is returned
abbrev pub set_temp : (t n : ℕ) → TempInsn
set_temp t n = Address Lda t s.Zero (pos n)

abbrev pub copy_temp : (t u : ℕ) → TempInsn
copy_temp t u = Operate Bis t s.Zero (o.Temp u)

abbrev pub return_temp : (t : ℕ) → List TempInsn
return_temp t = ToFixed Value t ∷ Return true ∷ []

-- an object of 8 bytes whose first two are 1 and 255
abbrev pub example_object : DataObject
example_object = record {
  name = [];
  size = 8;
  align = 8;
  offset = 0;
  writable = true;
  cells = cell.Byte 1 ∷ cell.Byte 255 ∷ [];
}

pub record TemporaryExamplesRun : Type 0 where
  -- an address of 16 bits and one of its high half
  pub constants : run_block (Address Ldah 0 s.Zero (pos 1) ∷ Address Lda 1 (s.Temp 0) (negsuc 65528) ∷ return_temp 1)
      [] 0
      ≡ ShowsDone 7 []
  -- a sum that traps, and one that wraps
  pub traps : run_block (set_temp 0 1 ∷ Operate Sll 0 (s.Temp 0) (o.Literal 63) ∷ Operate AddqV 1 (s.Temp 0) (o.Temp 0)
      ∷ return_temp 1) [] 0 ≡ ShowsTrap 3 []
  pub wraps : run_block (Address Lda 0 s.Zero (negsuc 0) ∷ Operate Addl 1 (s.Temp 0) (o.Literal 5) ∷ return_temp 1) [] 0
      ≡ ShowsDone 4 []
  -- a byte is put, which is a turn
  pub puts : run_block (SetFixed Value (pos 2) ∷ SetFixed Argument0 (pos 65) ∷ Serve PutByte ∷ set_temp 0 3
      ∷ return_temp 0) [] 1
      ≡ ShowsDone 3 (65 ∷ [])
  pub wants_turn : run_block (SetFixed Value (pos 2) ∷ SetFixed Argument0 (pos 65) ∷ Serve PutByte ∷ []) [] 0
      ≡ ShowsMore []
  -- a byte is taken, and the number of a service has to be its own
  pub gets : run_block (SetFixed Value (pos 3) ∷ Serve GetByte ∷ FromFixed 0 Value ∷ return_temp 0) (7 ∷ []) 1
      ≡ ShowsDone 7 []
  pub other_number : run_block (SetFixed Value (pos 2) ∷ Serve GetByte ∷ FromFixed 0 Value ∷ return_temp 0) (7 ∷ []) 1
      ≡ ShowsUndefined 1 []
  pub ends : run_block (SetFixed Value (pos 1) ∷ SetFixed Argument0 (pos 300) ∷ Serve End ∷ []) [] 1 ≡ ShowsDone 44 []
  pub aborts : run_block (SetFixed Argument0 (pos 2) ∷ Serve service.TheVariants.Trap ∷ []) [] 1 ≡ ShowsTrap 2 []
  -- a quotient and a remainder, a division by zero, one whose operands were not written, and a word that a routine of 32
  -- bits does not take
  pub divides : run_block (SetFixed Dividend (pos 17) ∷ SetFixed Divisor (pos 5) ∷ Divide Divq ∷ FromFixed 0 Answer
      ∷ return_temp 0) [] 0 ≡ ShowsDone 3 []
  pub divides_by_zero : run_block (SetFixed Dividend (pos 17) ∷ SetFixed Divisor (pos 0) ∷ Divide Reml ∷ []) [] 0
      ≡ ShowsTrap 1 []
  pub divides_nothing : run_block (Divide Divq ∷ []) [] 0 ≡ ShowsUndefined 0 []
  pub not_held : run_block (Address Ldah 0 s.Zero (pos 32767) ∷ Operate Addq 1 (s.Temp 0) (o.Temp 0)
      ∷ ToFixed Dividend 1 ∷ SetFixed Divisor (pos 5) ∷ Divide Reml ∷ []) [] 0 ≡ ShowsUndefined 4 []
  -- a branch that is taken, one that is not, and a loop for ever, which takes a turn each time
  pub branches : run_blocks ((set_temp 0 4 ∷ Branch Bne 0 2 ∷ []) ∷ return_temp 1 ∷ return_temp 0 ∷ []) [] 0
      ≡ ShowsDone 4 []
  pub falls_through : run_blocks ((set_temp 0 4 ∷ Branch Beq 0 2 ∷ []) ∷ return_temp 0 ∷ return_temp 1 ∷ []) [] 0
      ≡ ShowsDone 4 []
  pub loops : run_blocks ([] ∷ (Mark ∷ Jump 1 ∷ []) ∷ []) [] 3 ≡ ShowsMore []
  -- nothing was written
  pub unset : run_block (set_temp 0 1 ∷ Operate Addq 1 (s.Temp 0) (o.Temp 2) ∷ return_temp 1) [] 0 ≡ ShowsUndefined 1 []
  -- a byte of an object of static storage with its sign, one past its end, and a pointer that leaves it
  pub loads : run_functions
      (example_function [] ((ObjectAddress 0 (Global 0) 0 ∷ Load Ldbu 1 0 (pos 1) ∷ Extend Sextb 2 (o.Temp 1)
      ∷ Operate Addq 3 (s.Temp 2) (o.Literal 10) ∷ return_temp 3) ∷ []) ∷ []) (example_object ∷ []) [] 0
      ≡ ShowsDone 9 []
  pub loads_outside : run_functions (example_function []
      ((ObjectAddress 0 (Global 0) 8 ∷ Load Ldbu 1 0 (pos 0) ∷ return_temp 1)
      ∷ []) ∷ []) (example_object ∷ []) [] 0 ≡ ShowsUndefined 1 []
  pub leaves : run_functions (example_function [] ((ObjectAddress 0 (Global 0) 8
      ∷ Operate Addq 1 (s.Temp 0) (o.Literal 1)
      ∷ return_temp 1) ∷ []) ∷ []) (example_object ∷ []) [] 0 ≡ ShowsUndefined 1 []
  -- a pointer that is stored, loaded and compared, and one whose low half is moved as a bundle
  pub stores_pointer : run_functions (example_function (8 ∷ [])
      ((ObjectAddress 0 (Global 0) 0 ∷ ObjectAddress 1 (Local 0) 0
      ∷ Store Stq (s.Temp 0) 1 (pos 0) ∷ Load Ldq 2 1 (pos 0) ∷ Operate Cmpeq 3 (s.Temp 2)
      (o.Temp 0) ∷ return_temp 3) ∷ [])
      ∷ []) (example_object ∷ []) [] 0 ≡ ShowsDone 1 []
  pub moves_bundle : run_functions (example_function (8 ∷ 8 ∷ [])
      ((ObjectAddress 0 (Global 0) 0 ∷ ObjectAddress 1 (Local 0) 0
      ∷ Store Stq (s.Temp 0) 1 (pos 0) ∷ ObjectAddress 2 (Local 1) 0 ∷ Load Ldl 3 1 (pos 0) ∷ copy_temp 4 3
      ∷ Store Stl (s.Temp 4) 2 (pos 0) ∷ Load Ldl 5 1 (pos 4) ∷ Store Stl (s.Temp 5) 2 (pos 4) ∷ Load Ldq 6 2 (pos 0)
      ∷ Operate Cmpeq 7 (s.Temp 6) (o.Temp 0) ∷ return_temp 7) ∷ []) ∷ []) (example_object ∷ []) [] 0 ≡ ShowsDone 1 []
  pub adds_bundle : run_functions (example_function (8 ∷ []) ((ObjectAddress 1 (Local 0) 0 ∷ Load Ldl 3 1 (pos 0)
      ∷ Operate Addq 4 (s.Temp 3) (o.Literal 1) ∷ return_temp 4) ∷ []) ∷ []) [] [] 0 ≡ ShowsUndefined 2 []
  -- seven arguments, of which the last stands in a place; one place more was not given
  pub calls : run_functions (example_function [] ((set_temp 0 5 ∷ set_temp 1 9 ∷ ToFixed Argument0 0
      ∷ SetFixed Argument1 (pos 0)
      ∷ SetFixed Argument2 (pos 0) ∷ SetFixed Argument3 (pos 0) ∷ SetFixed Argument4 (pos 0)
      ∷ SetFixed Argument5 (pos 0)
      ∷ WriteArgument 0 1 ∷ Call 1 7 ∷ FromFixed 2 Value ∷ return_temp 2) ∷ [])
      ∷ example_function [] ((FromFixed 0 Argument0 ∷ ReadArgument 1 0 ∷ Operate Mulq 2 (s.Temp 0) (o.Temp 1)
      ∷ return_temp 2) ∷ [])
      ∷ []) [] [] 1 ≡ ShowsDone 45 []
  pub not_given : run_functions (example_function [] ((set_temp 0 5 ∷ ToFixed Argument0 0 ∷ Call 1 1 ∷ []) ∷ [])
      ∷ example_function [] ((ReadArgument 1 0 ∷ return_temp 1) ∷ []) ∷ []) [] [] 1 ≡ ShowsUndefined 3 []
  pub too_wide : run_functions (example_function [] ((set_temp 0 5 ∷ WriteArgument 0 0 ∷ Call 1 6 ∷ []) ∷ []) ∷ [])
      [] [] 1
      ≡ ShowsUndefined 1 []
  -- a function that returns nothing
  pub returns_nothing : run_functions
      (example_function [] ((Call 1 0 ∷ FromFixed 0 Value ∷ Operate Addq 1 (s.Temp 0) (o.Literal 1)
      ∷ return_temp 1) ∷ []) ∷ example_function [] ((Return false ∷ []) ∷ []) ∷ []) [] [] 1 ≡ ShowsUndefined 2 []

-- ---- over registers and slots

-- a run of functions with their allocations, of which the first is `main`
abbrev pub run_plans : List Plan → (turns : ℕ) → TemporaryObservation
run_plans plans turns = observe (placed_run [] plans 0 (start_world [] [] turns) 30)

abbrev pub plan : List (List TempInsn) → List (List Transfer) → List (List ℕ) → List EdgeCode → Plan
plan blocks at regs edges = record {
  function = example_function [] blocks;
  params = 0;
  temps = 4;
  top = map (λ block. []) blocks;
  bottom = map (λ block. []) blocks;
  at = at;
  regs = regs;
  edges = edges;
}

abbrev pub edge : (from to : ℕ) → List Transfer → EdgeCode
edge from to code = record { from = from; to = to; code = code }

-- 5 + 7, which is 12
abbrev pub sum_blocks : List (List TempInsn)
sum_blocks = (set_temp 0 5 ∷ set_temp 1 7 ∷ Operate Addq 2 (s.Temp 0) (o.Temp 1) ∷ return_temp 2) ∷ []

-- each temporary in a register of its own
abbrev pub sum_in_registers : Plan
sum_in_registers =
    plan sum_blocks ([] ∷ [] ∷ [] ∷ [] ∷ [] ∷ []) ((1 ∷ []) ∷ (2 ∷ []) ∷ (1 ∷ 2 ∷ 3 ∷ []) ∷ (3 ∷ []) ∷ [] ∷ []) []

abbrev pub run_sum : List (List Transfer) → List (List ℕ) → TemporaryObservation
run_sum at regs = run_plans (plan sum_blocks at regs [] ∷ []) 0

-- a function that calls another one, which returns nothing, while 5 stands in a register
abbrev pub calling_blocks : List (List TempInsn)
calling_blocks = (set_temp 0 5 ∷ Call 1 0 ∷ return_temp 0) ∷ []

abbrev pub run_calling : (register : ℕ) → TemporaryObservation
run_calling register =
    run_plans (plan calling_blocks [] ((register ∷ []) ∷ [] ∷ (register ∷ []) ∷ [] ∷ []) []
    ∷ plan ((Return false ∷ []) ∷ []) [] [] [] ∷ []) 1

-- two temporaries, whose difference is taken in the next block, where each stands in the other's register
abbrev pub swap_two : List (List TempInsn)
swap_two = (set_temp 0 9 ∷ set_temp 1 4 ∷ Jump 1 ∷ []) ∷ (Operate Subq 2 (s.Temp 0) (o.Temp 1) ∷ return_temp 2) ∷ []

abbrev pub run_swapped : List Transfer → TemporaryObservation
run_swapped code =
    run_plans (plan swap_two [] ((1 ∷ []) ∷ (2 ∷ []) ∷ [] ∷ (2 ∷ 1 ∷ 3 ∷ []) ∷ (3 ∷ []) ∷ [] ∷ []) (edge 0 1 code ∷ [])
    ∷ []) 0

pub record PlacementsRun : Type 0 where
  -- each temporary in a register of its own, and each in its slot between the instructions
  pub registers : run_plans (sum_in_registers ∷ []) 0 ≡ ShowsDone 12 []
  pub slots : run_sum ([] ∷ (x.Store 0 1 ∷ []) ∷ (x.Store 1 1 ∷ x.Load 0 1 ∷ x.Load 1 2 ∷ [])
      ∷ (x.Store 2 1 ∷ x.Load 2 1
      ∷ []) ∷ []) ((1 ∷ []) ∷ (1 ∷ []) ∷ (1 ∷ 2 ∷ 1 ∷ []) ∷ (1 ∷ []) ∷ [] ∷ []) ≡ ShowsDone 12 []
  -- a store is forgotten; a load stands before the store; a register is taken while its temporary is wanted
  pub no_store : run_sum ([] ∷ (x.Store 0 1 ∷ []) ∷ (x.Load 0 1 ∷ x.Load 1 2 ∷ []) ∷ []) ((1 ∷ []) ∷ (1 ∷ [])
      ∷ (1 ∷ 2 ∷ 1 ∷ []) ∷ (1 ∷ []) ∷ [] ∷ []) ≡ ShowsUndefined 2 []
  pub load_first : run_sum ([] ∷ (x.Store 0 1 ∷ []) ∷ (x.Load 1 2 ∷ x.Store 1 1 ∷ x.Load 0 1 ∷ []) ∷ []) ((1 ∷ [])
      ∷ (1 ∷ []) ∷ (1 ∷ 2 ∷ 1 ∷ []) ∷ (1 ∷ []) ∷ [] ∷ []) ≡ ShowsUndefined 2 []
  pub taken : run_sum [] ((1 ∷ []) ∷ (1 ∷ []) ∷ (1 ∷ 1 ∷ 1 ∷ []) ∷ (1 ∷ []) ∷ [] ∷ []) ≡ ShowsDone 14 []
  -- a call keeps register 9, and ends register 1
  pub kept : run_calling 9 ≡ ShowsDone 5 []
  pub ended : run_calling 1 ≡ ShowsUndefined 3 []
  -- the transfers of an edge, in an order that swaps two registers and in one that does not, and none
  pub in_order : run_swapped (x.Shift 0 1 28 ∷ x.Shift 1 2 1 ∷ x.Shift 0 28 2 ∷ []) ≡ ShowsDone 5 []
  pub out_of_order : run_swapped (x.Shift 0 1 2 ∷ x.Shift 1 2 1 ∷ []) ≡ ShowsDone 0 []
  pub no_transfers : run_swapped [] ≡ ShowsDone 251 []
