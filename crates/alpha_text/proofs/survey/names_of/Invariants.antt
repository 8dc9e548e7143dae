-- A label is named by the lines so far or by one that is left.
use Rattle.std.proofs.Common.{◌≡◌, ℕ, ◌^◌, ◌<◌, ◌||◌, length}
use Rattle.alpha_text.specs.Wrong.{lines_of, is_label_named}
use Rattle.alpha_text.specs.model.Labels.{has_label}
use Rattle.alpha_text.proofs.survey.names_of.Given as goal

abbrev pub invariant-loop-line : goal.invariant-loop-line
invariant-loop-line l = (m : ℕ) → m < 2 ^ 32 → is_label_named (lines_of l.fn.text) m ≡ (has_label l.names m || is_label_named (lines_of l.lines.0) m)

abbrev pub decreases-loop-line : goal.decreases-loop-line
decreases-loop-line l = length l.lines.0
