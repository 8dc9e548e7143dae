use Rattle.std.proofs.Common.{◌≡◌, ◌++◌, take}
use Rattle.std.specs.Prelude.{flat_map}
use Rattle.alpha_lines.specs.Lines.{item_line}
use Rattle.alpha_text.specs.Texts.{with_line_feed}
use Rattle.alpha_text.proofs.print.push_items.Given as goal

abbrev pub invariant-loop-item : goal.invariant-loop-item
invariant-loop-item l = l.text.items ≡ l.fn.text.items ++ flat_map (λ i. with_line_feed (item_line i)) (take l.item-index l.items)
