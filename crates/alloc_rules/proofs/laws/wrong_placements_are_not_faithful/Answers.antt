use Rattle.alloc_rules.proofs.WrongPlacements.{none_is_faithful}
use Rattle.alloc_rules.proofs.WrongReplays.{none_replays}
use Rattle.alloc_rules.proofs.laws.wrong_placements_are_not_faithful.Goals as goal

pub returns : goal.returns
returns c = record { placements = none_is_faithful; replays = none_replays }
