use Rattle.frame_steps.proofs.CallParts.Entries.{entries_are_done}
use Rattle.frame_steps.proofs.CallParts.Exits.{exits_are_done}
use Rattle.frame_steps.proofs.call_parts.laws.parts_are_done.Goals as goal

pub returns : goal.returns
returns c = record { entries = entries_are_done; exits = exits_are_done }
