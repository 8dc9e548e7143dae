use Rattle.std.proofs.Common.{All, IsTrue}
use Rattle.bk_ilist.specs.Listing.{items}
use Rattle.suifvm_ir.specs.Programs.{names_what_is_there}
use Rattle.suifvm_checks.proofs.names.block_names.Given as goal

-- what holds of all that are left holds of all
abbrev pub invariant-loop-line : goal.invariant-loop-line
invariant-loop-line l =
    All (λ i. IsTrue (names_what_is_there l.functions l.globals l.objects i)) (items l.line-iterator) →
    All (λ i. IsTrue (names_what_is_there l.functions l.globals l.objects i)) l.block
