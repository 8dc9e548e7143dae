use Rattle.std.proofs.Common.{ap, length, arith}
use Rattle.bk_ilist.proofs.Views.{made_same}
use Rattle.bk_ilist.proofs.list.IndexList.reserve.Goals as goal

pub invariant_of-self : goal.invariant_of-self
invariant_of-self g c =
    let grown = c.take_room.ensures.capacity in
    let before = c.self.invariant.1 in
    rw c.take_room.ensures.items (c.self.invariant.0, omega arith, c.self.invariant.2)

pub invariant_of-self-2 : goal.invariant_of-self-2
invariant_of-self-2 g c =
    let room = c.in_ok-take_room.ensures.ok in
    let kept = ap length c.take_room.ensures.items in
    let same = c.self.inside.nodes.ok in
    let made = made_same _ _ c.self.view_is in
    rw c.take_room.ensures.items (c.self.invariant.0, omega arith, omega arith)
