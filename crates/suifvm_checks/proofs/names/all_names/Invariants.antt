use Rattle.std.proofs.Common.{All, IsTrue, take}
use Rattle.suifvm_ir.specs.Programs.{names_what_is_there}
use Rattle.suifvm_checks.proofs.names.all_names.Given as goal

abbrev pub invariant-loop-block : goal.invariant-loop-block
invariant-loop-block l =
    All (All (λ i. IsTrue (names_what_is_there l.functions l.globals l.objects i))) (take l.block-index l.blocks)
