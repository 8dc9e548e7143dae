-- The bytes so far stand at the lines that are left.
use Rattle.std.proofs.Common.{ℕ, ◌-◌, ◌≤◌, List, [], length}
use Rattle.alpha_items.specs.declared.item.AsmItem.{AsmItem}
use Rattle.alpha_text.specs.Wrong.{Data}
use Rattle.alpha_text.specs.model.Reaches.{Reaches}
use Rattle.alpha_text.proofs.bytes.read_bytes.Given as goal

abbrev pub invariant-rows : goal.invariant-rows
invariant-rows l = (length l.bytes.items ≤ l.count) × ((all : List (List ℕ)) (items : List AsmItem) → Reaches all (Data items l.count [] []) l.fn.lines (Data items l.count l.bytes.items []) l.lines)

abbrev pub decreases-rows : goal.decreases-rows
decreases-rows l = l.count - length l.bytes.items
