use Rattle.std.proofs.Common.{take, All}
use Rattle.suifvm_ir.specs.Programs.{IsLawfulFunction}
use Rattle.suifvm_checks.proofs.program.are_lawful.Given as goal

abbrev pub invariant-loop-function : goal.invariant-loop-function
invariant-loop-function l = All (IsLawfulFunction l.functions l.globals) (take l.function-index l.functions)
