-- The fixes so far stand at the lines that are left.
use Rattle.std.proofs.Common.{◌≡◌, ℕ, List, [], length}
use Rattle.alpha_items.specs.declared.item.AsmItem.{AsmItem}
use Rattle.alpha_text.specs.Wrong.{Data}
use Rattle.alpha_text.specs.model.Reaches.{Reaches}
use Rattle.alpha_text.proofs.bytes.read_fixes.Given as goal

abbrev pub invariant-loop-line : goal.invariant-loop-line
invariant-loop-line l = (all : List (List ℕ)) (items : List AsmItem) (bytes : List ℕ) → length bytes ≡ l.count → Reaches all (Data items l.count bytes []) l.fn.lines (Data items l.count bytes l.fixes.items) l.lines

abbrev pub decreases-loop-line : goal.decreases-loop-line
decreases-loop-line l = length l.lines.0
