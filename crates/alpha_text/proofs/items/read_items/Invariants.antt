-- The items so far stand at the lines that are left, and their labels have been seen.
use Rattle.std.proofs.Common.{[], length}
use Rattle.alpha_items.specs.Assembly.{labels}
use Rattle.alpha_text.specs.Wrong.{Text, lines_of}
use Rattle.alpha_text.specs.model.Labels.{IsIndex}
use Rattle.alpha_text.specs.model.Reaches.{Reaches}
use Rattle.alpha_text.proofs.items.read_items.Given as goal

abbrev pub invariant-reading : goal.invariant-reading
invariant-reading l = IsIndex l.seen (labels l.items.items) × Reaches (lines_of l.survey.text.now) (Text []) l.fn.lines (Text l.items.items) l.lines

abbrev pub decreases-reading : goal.decreases-reading
decreases-reading l = length l.lines.0
