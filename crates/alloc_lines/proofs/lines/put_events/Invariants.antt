-- What was put, with the text of what is left behind it, is the whole.
use Rattle.std.proofs.Common.{◌≡◌, ◌++◌, drop}
use Rattle.alloc_lines.specs.Text.{events_text}
use Rattle.alloc_lines.proofs.lines.put_events.Given as goal

abbrev pub invariant-loop-event : goal.invariant-loop-event
invariant-loop-event l =
    l.out.items ++ events_text (drop l.event-index l.events) ≡ l.initial.out.items ++ events_text l.events
