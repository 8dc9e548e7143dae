use Rattle.std.proofs.Common.{◌≡◌}
use Rattle.std.specs.List.{list_all}
use Rattle.bk_ilist.specs.Listing.{items}
use Rattle.frame_checks.specs.model.Asked.{is_asked}
use Rattle.frame_checks.proofs.insns.block_asks.Given as goal

abbrev pub invariant-loop-line : goal.invariant-loop-line
invariant-loop-line l =
    list_all (is_asked l.globals l.objects l.first_label) (items l.line-iterator) ≡ list_all (is_asked l.globals l.objects l.first_label) l.block
