-- None of the lines so far begins with `.data`.
use Rattle.std.proofs.Common.{◌≡◌, length}
use Rattle.std.specs.Prelude.{find}
use Rattle.alpha_text.specs.Wrong.{lines_of, begins_data}
use Rattle.alpha_text.proofs.survey.count_of.Given as goal

abbrev pub invariant-loop-line : goal.invariant-loop-line
invariant-loop-line l = find begins_data (lines_of l.fn.text) ≡ find begins_data (lines_of l.lines.0)

abbrev pub decreases-loop-line : goal.decreases-loop-line
decreases-loop-line l = length l.lines.0
