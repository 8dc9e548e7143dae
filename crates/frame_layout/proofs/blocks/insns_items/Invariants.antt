-- The items of the instructions from one on.
use Rattle.std.proofs.Common.{◌≡◌, drop}
use Rattle.frame_emitter.specs.Items.{insns_items}
use Rattle.frame_emitter.specs.Layouts.{plan_in, setting_in}
use Rattle.frame_layout.proofs.blocks.insns_items.Given as goal

abbrev pub invariant-loop-at : goal.invariant-loop-at
invariant-loop-at l = l.items ≡ insns_items (plan_in l.layout) (setting_in l.layout) l.block l.at (drop l.at l.insns) l.initial.items
