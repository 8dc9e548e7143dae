-- The laws of runs over temporaries, and over registers and slots.
use Rattle.std.specs.Prelude.{◌≡◌, ℕ, ◌+◌, ◌≤◌, ◌↔◌, true, List, map, slice_get, Some}
use Rattle.mem_model.specs.World.{Outer, World, Rooms}
use Rattle.mem_model.specs.Ending.{Ending, ending_output}
use Rattle.machine_model.specs.Code.{Stops, Traps}
use Rattle.machine_model.specs.Machine.{Over}
use Rattle.machine_model.specs.Laws.{IsFinal, IsPrefix, ending_with_turns, KeepsOutput, next_world}
use Rattle.temp_ir.specs.declared.insn.TempInsn.{TempInsn}
use Rattle.temp_ir.specs.declared.program.TempProgram.{TempProgram}
use Rattle.temp_ir.specs.Insns.{may_trap_of}
use Rattle.alloc_model.specs.declared.allocation.Allocation.{Allocation}
use Rattle.alloc_model.specs.Contents.{Content}
use Rattle.alloc_model.specs.Effect.{does}
use Rattle.alloc_model.specs.Temporaries.{TemporaryCode, code_of, Temps, temp_code, temp_run, TempsEnd}
use Rattle.alloc_model.specs.Places.{Plan, plan_of, functions_of, Places, placed_code, placed_run, PlacesEnd}
use Rattle.alloc_model.specs.Faithful.{Faithful}

-- a run has one ending at most
pub record OneEnding : Type 0 where
  pub temps : (rooms : Rooms) (program : TempProgram) (input : List ℕ) (turns : ℕ) (e f : Ending) →
      TempsEnd rooms program input turns e → TempsEnd rooms program input turns f → e ≡ f
  pub places : (rooms : Rooms) (program : TempProgram) (allocations : List Allocation) (input : List ℕ) (turns : ℕ)
      (e f : Ending) → PlacesEnd rooms program allocations input turns e →
      PlacesEnd rooms program allocations input turns f → e ≡ f

-- with more turns an ending stays, with so many turns more left
pub record MoreTurnsKeepEnding : Type 0 where
  pub temps : (rooms : Rooms) (program : TempProgram) (input : List ℕ) (turns more : ℕ) (e : Ending) →
      TempsEnd rooms program input turns e → IsFinal e →
      TempsEnd rooms program input (turns + more) (ending_with_turns more e)
  pub places : (rooms : Rooms) (program : TempProgram) (allocations : List Allocation) (input : List ℕ)
      (turns more : ℕ) (e : Ending) → PlacesEnd rooms program allocations input turns e → IsFinal e →
      PlacesEnd rooms program allocations input (turns + more) (ending_with_turns more e)

-- with more turns an output only grows
pub record MoreTurnsExtendOutput : Type 0 where
  pub temps : (rooms : Rooms) (program : TempProgram) (input : List ℕ) (turns more : ℕ) (e f : Ending) →
      TempsEnd rooms program input turns e → TempsEnd rooms program input (turns + more) f →
      IsPrefix (ending_output e) (ending_output f)
  pub places : (rooms : Rooms) (program : TempProgram) (allocations : List Allocation) (input : List ℕ)
      (turns more : ℕ) (e f : Ending) → PlacesEnd rooms program allocations input turns e →
      PlacesEnd rooms program allocations input (turns + more) f → IsPrefix (ending_output e) (ending_output f)

-- along a run the peak only rises, and the output only grows
pub record PeaksRise : Type 0 where
  pub temps : (rooms : Rooms) (functions : List TemporaryCode) (main : ℕ) (w : World) (n : ℕ) →
      w.meter.peak ≤ (next_world (temp_run rooms functions main w n)).meter.peak
  pub places : (rooms : Rooms) (plans : List Plan) (main : ℕ) (w : World) (n : ℕ) →
      w.meter.peak ≤ (next_world (placed_run rooms plans main w n)).meter.peak

pub record InstructionsKeepOutput : Type 0 where
  pub temps : (functions : List TemporaryCode) → KeepsOutput Content Temps (temp_code functions)
  pub places : (plans : List Plan) → KeepsOutput Content Places (placed_code plans)

-- an instruction that traps is one that may
abbrev pub OnlyTheseTrap : Type 0
OnlyTheseTrap =
    (widest : ℕ) (x : TempInsn) (own : ℕ) (cs : List Content) (o p : Outer) (code : ℕ) →
    does widest x own cs o ≡ Stops (Traps code) p → may_trap_of x ≡ true

-- each function of a program has a faithful allocation
pub record AllFaithful (plans : List Plan) : Type 0 where
  pub each : (k : ℕ) (a : Plan) → slice_get plans k ≡ Some a → Faithful a

-- Then its runs end over registers and slots just as over temporaries, in the same number of steps, with the same world
-- and ending; and a program has the endings over registers and slots that it has over temporaries
abbrev pub AllocationKeepsRuns : Type 0
AllocationKeepsRuns =
    (rooms : Rooms) (plans : List Plan) → AllFaithful plans → (main : ℕ) (w : World) (steps : ℕ) (e : Ending) →
    (temp_run rooms (functions_of plans) main w steps ≡ Over e) ↔ (placed_run rooms plans main w steps ≡ Over e)

abbrev pub AllocationKeeps : Type 0
AllocationKeeps =
    (rooms : Rooms) (program : TempProgram) (allocations : List Allocation) →
    map code_of program.functions ≡ functions_of (map plan_of allocations) → AllFaithful (map plan_of allocations) →
    (input : List ℕ) (turns : ℕ) (e : Ending) →
    TempsEnd rooms program input turns e ↔ PlacesEnd rooms program allocations input turns e
