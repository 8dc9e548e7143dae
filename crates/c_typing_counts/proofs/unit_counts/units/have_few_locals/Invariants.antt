use Rattle.std.proofs.Common.{◌≡◌, drop}
use Rattle.std.specs.List.{list_all}
use Rattle.c_typing_counts.specs.unit_counts.Counts.{has_few_locals}
use Rattle.c_typing_counts.proofs.unit_counts.units.have_few_locals.Given as goal

abbrev pub invariant-loop-function : goal.invariant-loop-function
invariant-loop-function l = list_all has_few_locals l.functions ≡ list_all has_few_locals (drop l.function-index l.functions)
