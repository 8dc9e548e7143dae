-- What is there, with the lines of the bytes that are left, is the whole.
use Rattle.std.proofs.Common.{◌≡◌, ◌++◌, length}
use Rattle.alpha_text.specs.Texts.{ended_lines, hex_lines}
use Rattle.alpha_text.proofs.print.push_rows.Given as goal

abbrev pub invariant-loop-rest : goal.invariant-loop-rest
invariant-loop-rest l = l.text.items ++ ended_lines (hex_lines l.rest) ≡ l.fn.text.items ++ ended_lines (hex_lines l.fn.bytes)

abbrev pub decreases-loop-rest : goal.decreases-loop-rest
decreases-loop-rest l = length l.rest
