-- There is room for each item.
use Rattle.std.proofs.Common.{arith, reverse}
use Rattle.lowering_layout.specs.Views.{layout_view}
use Rattle.lowering_layout.proofs.Sizes.{count_le}
use Rattle.lowering_layout.proofs.Kept.{room_for}
use Rattle.lowering_layout.proofs.finish.items.Goals as goal

pub overflow_cast-name : goal.overflow_cast-name
overflow_cast-name c = omega (arith, count_le c.args.code, c.requires, c.name.ensures)

pub item-requires-clause-room : goal.item-requires-clause-room
item-requires-clause-room c = room_for (reverse c.loop-item.items.items) c.args.code (layout_view c.loop-item.layout) c.loop-item.invariant.0 c.requires
