-- The laws of the runs of programs.
use Rattle.std.specs.Prelude.{◌≡◌, ℕ, ◌+◌, ◌≤◌, true, List}
use Rattle.mem_model.specs.declared.value.Value.{Value}
use Rattle.mem_model.specs.World.{Outer, World, Rooms}
use Rattle.mem_model.specs.Ending.{Ending, ending_output}
use Rattle.machine_model.specs.Code.{Stops, Traps}
use Rattle.machine_model.specs.Laws.{IsFinal, IsPrefix, ending_with_turns, KeepsOutput, next_world}
use Rattle.suifvm_ir.specs.declared.insn.VmInsn.{VmInsn}
use Rattle.suifvm_ir.specs.declared.program.VmProgram.{VmProgram}
use Rattle.suifvm_ir.specs.Insns.{may_trap_of}
use Rattle.suifvm_meaning.specs.Effect.{does}
use Rattle.suifvm_meaning.specs.Behave.{FunctionCode, Registers, vm_code, vm_run, behave_vm}

-- a run has one ending at most
abbrev pub OneVmEnding : Type 0
OneVmEnding =
    (rooms : Rooms) (program : VmProgram) (input : List ℕ) (turns : ℕ) (e f : Ending) →
    behave_vm rooms program input turns e → behave_vm rooms program input turns f → e ≡ f

-- with more turns an ending stays, with so many turns more left
abbrev pub MoreTurnsKeepVmEnding : Type 0
MoreTurnsKeepVmEnding =
    (rooms : Rooms) (program : VmProgram) (input : List ℕ) (turns more : ℕ) (e : Ending) →
    behave_vm rooms program input turns e → IsFinal e →
    behave_vm rooms program input (turns + more) (ending_with_turns more e)

-- with more turns an output only grows
abbrev pub MoreTurnsExtendVmOutput : Type 0
MoreTurnsExtendVmOutput =
    (rooms : Rooms) (program : VmProgram) (input : List ℕ) (turns more : ℕ) (e f : Ending) →
    behave_vm rooms program input turns e → behave_vm rooms program input (turns + more) f →
    IsPrefix (ending_output e) (ending_output f)

-- along a run the peak only rises, and the output only grows
abbrev pub VmPeakRises : Type 0
VmPeakRises =
    (rooms : Rooms) (functions : List FunctionCode) (main : ℕ) (w : World) (n : ℕ) →
    w.meter.peak ≤ (next_world (vm_run rooms functions main w n)).meter.peak

abbrev pub VmKeepsOutput : Type 0
VmKeepsOutput = (functions : List FunctionCode) → KeepsOutput Value Registers (vm_code functions)

-- an instruction that traps is one that may
abbrev pub OnlyTheseVmInstructionsTrap : Type 0
OnlyTheseVmInstructionsTrap =
    (i : VmInsn) (own : ℕ) (vs : List Value) (o p : Outer) (code : ℕ) → does i own vs o ≡ Stops (Traps code) p →
    may_trap_of i ≡ true
