use Rattle.std.proofs.Common.{◌≡◌, ◌≤◌, take}
use Rattle.suifvm_ir.specs.Programs.{main_count}
use Rattle.suifvm_checks.proofs.program.has_one_main.Given as goal

abbrev pub invariant-loop-function : goal.invariant-loop-function
invariant-loop-function l = record {
  counted : l.count ≡ main_count (take l.function-index l.functions);
  few : l.count ≤ l.function-index;
}
