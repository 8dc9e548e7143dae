use Rattle.std.proofs.Common.{◌≡◌, take}
use Rattle.cfg.specs.model.Search.{search_of, visit_all}
use Rattle.cfg.proofs.search.visit_all.Given as goal

abbrev pub invariant-loop-block : goal.invariant-loop-block
invariant-loop-block l = search_of l.marks l.found ≡ visit_all (search_of l.fn.marks l.fn.found) (take l.block-index l.blocks)
