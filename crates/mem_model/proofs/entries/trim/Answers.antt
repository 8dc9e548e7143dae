use Rattle.std.proofs.Common.{rules}
use Rattle.mem_model.specs.model.Objects.{IsLastEnded}
use Rattle.mem_model.proofs.EntryLists.{trim_turn}
use Rattle.mem_model.proofs.entries.trim.Goals as goal

pub loop-entries-preserved-in-loop-entries-2 : goal.loop-entries-preserved-in-loop-entries-2
loop-entries-preserved-in-loop-entries-2 c =
    let ended : IsLastEnded c.loop-entries.entries.items = search rules in
    trim_turn _ _ _ _ c.loop-entries.invariant ended (search rules) c.pop.ensures.rest
