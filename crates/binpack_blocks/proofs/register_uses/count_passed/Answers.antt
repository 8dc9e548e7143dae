use Rattle.binpack_blocks.proofs.Uses.{next_found, none_next}
use Rattle.binpack_blocks.proofs.register_uses.count_passed.Goals as goal

pub returns-then-point_at-point-clause-next : goal.returns-then-point_at-point-clause-next
returns-then-point_at-point-clause-next c = next_found c.args.points.now c.loop-place.place c.point_at.result c.args.point c.loop-place.invariant c.point_at.ensures c.if-point_at-point.true

pub returns-clause-next : goal.returns-clause-next
returns-clause-next c = none_next c.args.points.now c.loop-place.place c.args.point c.loop-place.invariant c.loop-place-test.false
