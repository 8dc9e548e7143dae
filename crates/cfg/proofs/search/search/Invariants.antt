use Rattle.cfg.specs.model.Search.{search_of}
use Rattle.cfg.proofs.Searching.{IsSearched}
use Rattle.cfg.proofs.search.search.Given as goal

abbrev pub invariant-loop-at : goal.invariant-loop-at
invariant-loop-at l = IsSearched l.followers (search_of l.marks l.found) l.at
