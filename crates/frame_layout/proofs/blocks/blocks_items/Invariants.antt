-- The items of the blocks from one on, and the instructions before them.
use Rattle.std.proofs.Common.{◌≡◌, drop, take}
use Rattle.pass_core.specs.Functions.{count_of}
use Rattle.frame_emitter.specs.Items.{blocks_items}
use Rattle.frame_emitter.specs.Layouts.{plan_in, setting_in}
use Rattle.frame_layout.proofs.blocks.blocks_items.Given as goal

abbrev pub invariant-loop-block : goal.invariant-loop-block
invariant-loop-block l =
    (l.first ≡ count_of (take l.block l.layout.blocks.now))
    × (l.items ≡ blocks_items (plan_in l.layout) (setting_in l.layout) l.block (drop l.block l.layout.blocks.now) l.initial.items)
