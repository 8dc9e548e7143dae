use Rattle.std.proofs.Common.{◌≡◌, take, false}
use Rattle.std.specs.List.{list_any}
use Rattle.cfg_edges.specs.model.Split.{is_join}
use Rattle.cfg_edges.proofs.marks.any_join.Given as goal

abbrev pub invariant-loop-block : goal.invariant-loop-block
invariant-loop-block l = list_any (is_join l.sources) (take l.block-index l.blocks) ≡ false
