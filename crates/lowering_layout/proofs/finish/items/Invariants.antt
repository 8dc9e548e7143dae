-- What is left to lay out comes to the whole.
use Rattle.std.proofs.Common.{◌≡◌, length, reverse}
use Rattle.lowering_code.specs.Items.{block_total}
use Rattle.lowering_code.specs.Layout.{with_items, no_block}
use Rattle.lowering_layout.specs.Views.{layout_view, CountsRegisters}
use Rattle.lowering_layout.proofs.finish.items.Given as goal

abbrev pub invariant-loop-item : goal.invariant-loop-item
invariant-loop-item l =
    (with_items (reverse l.items.items) (layout_view l.layout) ≡ with_items l.fn.code (no_block (block_total l.fn.code))) × CountsRegisters l.layout

abbrev pub decreases-loop-item : goal.decreases-loop-item
decreases-loop-item l = length l.items.items
