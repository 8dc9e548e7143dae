use Rattle.std.proofs.Common.{◌^◌, ◌≤◌, take, All}
use Rattle.suifvm_ir.specs.Programs.{VmFunction}
use Rattle.suifvm_checks.proofs.size.have_few_registers.Given as goal

abbrev pub invariant-loop-function : goal.invariant-loop-function
invariant-loop-function l = All (λ (f : VmFunction). f.temps ≤ 2 ^ 24) (take l.function-index l.functions)
