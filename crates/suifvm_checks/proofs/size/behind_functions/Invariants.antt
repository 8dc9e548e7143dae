use Rattle.std.proofs.Common.{◌≡◌, ◌+◌, take}
use Rattle.suifvm_ir.specs.Programs.{program_size}
use Rattle.suifvm_checks.proofs.size.behind_functions.Given as goal

abbrev pub invariant-loop-function : goal.invariant-loop-function
invariant-loop-function l = l.rest + program_size (take l.function-index l.functions) ≡ l.left
