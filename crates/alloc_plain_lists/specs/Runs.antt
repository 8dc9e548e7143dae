-- Small programs with calls, a loop, arguments in places and more values than there are registers: what they do over
-- temporaries, in the slots of `plain`, and where a placement by hand puts them.
use Rattle.std.specs.Prelude.{◌≡◌, ℕ, pos, List, [], ◌∷◌, ◌++◌, map}
use Rattle.std.specs.List.{range_with_len}
use Rattle.temp_ir.specs.declared.operation.TempBranchOp.TheVariants.{Bne}
use Rattle.temp_ir.specs.declared.operation.Operation.TheVariants.{Addq, Subq, Mulq}
use Rattle.temp_ir.specs.declared.insn.FixedRegister.TheVariants.{Value, Argument0, Argument1, Argument2, Argument3, Argument4, Argument5}
use Rattle.temp_ir.specs.declared.insn.FirstOperand.TheVariants as s
use Rattle.temp_ir.specs.declared.insn.SecondOperand.TheVariants as o
use Rattle.temp_ir.specs.declared.insn.TempInsn.{TempInsn}
use Rattle.temp_ir.specs.declared.insn.TempInsn.TheVariants.{Operate, ToFixed, FromFixed, SetFixed, WriteArgument, ReadArgument, Branch, Call, Mark}
use Rattle.alloc_model.specs.Temporaries.{TemporaryCode, temp_run, start_world}
use Rattle.alloc_model.specs.Places.{Plan, placed_run}
use Rattle.alloc_model.specs.Examples.{TemporaryObservation, ShowsDone, ShowsUndefined, observe, example_function, set_temp, return_temp, plan}
use Rattle.alloc_plain_lists.specs.Plain.{plain_plan}

-- ---- runs of the first of some functions, in at most so many steps

abbrev pub runs_over_temps : List TemporaryCode → (turns steps : ℕ) → TemporaryObservation
runs_over_temps functions turns steps = observe (temp_run [] functions 0 (start_world [] [] turns) steps)

abbrev pub runs_over_places : List Plan → (turns steps : ℕ) → TemporaryObservation
runs_over_places plans turns steps = observe (placed_run [] plans 0 (start_world [] [] turns) steps)

-- ---- a loop with a call: the sum of the squares of 3, 2 and 1

abbrev pub squares : List (List TempInsn)
squares =
    (set_temp 0 0 ∷ set_temp 1 3 ∷ [])
    ∷ (Mark ∷ ToFixed Argument0 1 ∷ ToFixed Argument1 0 ∷ Call 1 2 ∷ FromFixed 0 Value
    ∷ Operate Subq 1 (s.Temp 1) (o.Literal 1) ∷ Branch Bne 1 1 ∷ [])
    ∷ return_temp 0 ∷ []

-- the square of the first argument, and the second one
abbrev pub square_and : List (List TempInsn)
square_and =
    (FromFixed 0 Argument0 ∷ FromFixed 1 Argument1 ∷ Operate Mulq 2 (s.Temp 0) (o.Temp 0)
    ∷ Operate Addq 3 (s.Temp 2) (o.Temp 1) ∷ return_temp 3) ∷ []

-- each temporary in a register of its own, those of the loop in these two
abbrev pub squares_in : (sum count : ℕ) → List Plan
squares_in sum count =
    plan squares []
    ((sum ∷ []) ∷ (count ∷ []) ∷ [] ∷ (count ∷ []) ∷ (sum ∷ []) ∷ [] ∷ (sum ∷ []) ∷ (count ∷ count ∷ []) ∷ (count ∷ [])
    ∷ (sum ∷ []) ∷ [] ∷ []) []
    ∷ plan square_and []
    ((1 ∷ []) ∷ (2 ∷ []) ∷ (1 ∷ 1 ∷ 3 ∷ []) ∷ (3 ∷ 2 ∷ 4 ∷ []) ∷ (4 ∷ []) ∷ [] ∷ []) []
    ∷ []

-- ---- thirty values at once: the sum of the numbers from 0 to 29

abbrev pub thirty_numbers : List (List TempInsn)
thirty_numbers =
    (set_temp 30 0 ∷ map (λ k. set_temp k k) (range_with_len 0 30)
    ++ map (λ k. Operate Addq 30 (s.Temp 30) (o.Temp k)) (range_with_len 0 30) ++ return_temp 30) ∷ []

-- ---- eight arguments, of which the last two stand in places: ten times the last one, and the one before it

abbrev pub gives_eight : List (List TempInsn)
gives_eight =
    (SetFixed Argument0 (pos 0) ∷ SetFixed Argument1 (pos 0) ∷ SetFixed Argument2 (pos 0) ∷ SetFixed Argument3 (pos 0)
    ∷ SetFixed Argument4 (pos 0) ∷ SetFixed Argument5 (pos 0) ∷ set_temp 0 4 ∷ WriteArgument 0 0 ∷ set_temp 1 7
    ∷ WriteArgument 1 1
    ∷ Call 1 8 ∷ FromFixed 2 Value ∷ return_temp 2) ∷ []

abbrev pub takes_eight : List (List TempInsn)
takes_eight =
    (ReadArgument 0 0 ∷ ReadArgument 1 1 ∷ Operate Mulq 2 (s.Temp 1) (o.Literal 10)
    ∷ Operate Addq 3 (s.Temp 2) (o.Temp 0) ∷ return_temp 3) ∷ []

-- ---- what is shown

pub record PlainRuns : Type 0 where
  pub squares_over_temps : runs_over_temps (example_function [] squares ∷ example_function [] square_and ∷ []) 6 60
      ≡ ShowsDone 14 []
  pub squares_in_slots : runs_over_places
      (plain_plan (example_function [] squares) 0 2 ∷ plain_plan (example_function [] square_and) 2 4 ∷ []) 6 60
      ≡ ShowsDone 14 []
  -- registers 9 and 10 are kept by a call, and register 1 is not
  pub squares_in_kept_registers : runs_over_places (squares_in 9 10) 6 60 ≡ ShowsDone 14 []
  pub squares_in_ended_register : runs_over_places (squares_in 9 1) 6 60 ≡ ShowsUndefined 7 []
  pub numbers_over_temps : runs_over_temps (example_function [] thirty_numbers ∷ []) 0 70 ≡ ShowsDone 179 []
  pub numbers_in_slots : runs_over_places (plain_plan (example_function [] thirty_numbers) 0 31 ∷ []) 0 70
      ≡ ShowsDone 179 []
  pub eight_over_temps : runs_over_temps (example_function [] gives_eight ∷ example_function [] takes_eight ∷ []) 1 30
      ≡ ShowsDone 74 []
  pub eight_in_slots : runs_over_places
      (plain_plan (example_function [] gives_eight) 0 3 ∷ plain_plan (example_function [] takes_eight) 8 4 ∷ []) 1 30
      ≡ ShowsDone 74 []
