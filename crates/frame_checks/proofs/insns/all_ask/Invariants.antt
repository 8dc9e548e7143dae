use Rattle.std.proofs.Common.{◌≡◌, drop}
use Rattle.std.specs.List.{list_all}
use Rattle.frame_checks.specs.model.Asked.{is_asked}
use Rattle.frame_checks.proofs.insns.all_ask.Given as goal

abbrev pub invariant-loop-block : goal.invariant-loop-block
invariant-loop-block l =
    list_all (list_all (is_asked l.globals l.objects l.first_label)) (drop l.block-index l.blocks)
    ≡ list_all (list_all (is_asked l.globals l.objects l.first_label)) l.blocks
