-- Runs of programs by their numbers of steps.
use Rattle.std.proofs.Common.{◌≡◌, ℕ, ◌+◌, ◌≤◌, List, max, map, arith}
use Rattle.mem_model.specs.declared.value.Value.{Value}
use Rattle.mem_model.specs.World.{World, Rooms}
use Rattle.mem_model.specs.Ending.{Ending, ending_output}
use Rattle.machine_model.specs.Code.{Code}
use Rattle.machine_model.specs.Machine.{Config, start_config}
use Rattle.machine_model.specs.Laws.{IsFinal, IsPrefix, ending_with_turns, next_world}
use Rattle.machine_model.proofs.Runs as runs
use Rattle.machine_model.proofs.Turns as turns
use Rattle.machine_model.proofs.Peaks as peaks
use Rattle.machine_model.proofs.Outputs as outputs
use Rattle.suifvm_ir.specs.declared.program.VmProgram.{VmProgram}
use Rattle.suifvm_meaning.specs.Behave.{FunctionCode, Registers, code_of, vm_code, vm_run, main_of, start_world, behave_vm}
use Rattle.suifvm_meaning.proofs.Output.{keeps_output}

abbrev code : VmProgram → Code Value Registers
code program = vm_code (map code_of program.functions)

abbrev begin : Rooms → VmProgram → (input : List ℕ) → (turns : ℕ) → Config Registers
begin rooms program input n = start_config Value Registers rooms (code program) (main_of program.functions) (start_world program.globals input n)

pub one_ending : (rooms : Rooms) (program : VmProgram) (input : List ℕ) (n : ℕ) (e f : Ending) → behave_vm rooms program input n e → behave_vm rooms program input n f → e ≡ f
one_ending rooms program input n e f x y =
    runs.one_ending Value Registers rooms (code program) x.steps y.steps (begin rooms program input n) e f x.over y.over

pub more_turns : (rooms : Rooms) (program : VmProgram) (input : List ℕ) (n more : ℕ) (e : Ending) → behave_vm rooms program input n e → IsFinal e → behave_vm rooms program input (n + more) (ending_with_turns more e)
more_turns rooms program input n more e x final =
    record { steps = x.steps; over = turns.turns_keep Value Registers rooms (code program) more x.steps (begin rooms program input n) e x.over final }

pub extends : (rooms : Rooms) (program : VmProgram) (input : List ℕ) (n more : ℕ) (e f : Ending) → behave_vm rooms program input n e → behave_vm rooms program input (n + more) f → IsPrefix (ending_output e) (ending_output f)
extends rooms program input n more e f x y =
    outputs.turns_extend Value Registers rooms (code program) (keeps_output (map code_of program.functions)) more x.steps y.steps
    (begin rooms program input n) e f x.over y.over

first_peak : (a b c : ℕ) → max a b ≤ c → a ≤ c
first_peak a b c h = omega arith

pub peak_rises : (rooms : Rooms) (functions : List FunctionCode) (main : ℕ) (w : World) (n : ℕ) → w.meter.peak ≤ (next_world (vm_run rooms functions main w n)).meter.peak
peak_rises rooms functions main w n =
    first_peak w.meter.peak _ _
    (peaks.peak_rises Value Registers rooms (vm_code functions) n (start_config Value Registers rooms (vm_code functions) main w))
