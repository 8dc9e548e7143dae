-- What was put, with the text of what is left behind it, is the whole.
use Rattle.std.proofs.Common.{◌≡◌, ◌++◌, drop}
use Rattle.alloc_live_lines.specs.Text.{parts_text}
use Rattle.alloc_live_lines.proofs.lines.put_parts.Given as goal

abbrev pub invariant-loop-part : goal.invariant-loop-part
invariant-loop-part l =
    l.out.items ++ parts_text (drop l.part-index l.parts) ≡ l.initial.out.items ++ parts_text l.parts
