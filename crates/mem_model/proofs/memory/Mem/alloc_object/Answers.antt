use Rattle.std.proofs.Common.{rules, Some}
use Rattle.mem_model.proofs.Places.{begin-rising, count-objects, begin_object-place}
use Rattle.mem_model.proofs.memory.Mem.alloc_object.Goals as goal

pub invariant_of-self-2 : goal.invariant_of-self-2
invariant_of-self-2 c = begin-rising c.self.inside.made _ _ _ _ (Some c.in_ok-new.field-0) c.self.invariant c.make_room.ensures (search rules) (search rules)

pub returns-clause-number : goal.returns-clause-number
returns-clause-number c = count-objects _ _ _ c.self.view_is

pub returns-clause-ok : goal.returns-clause-ok
returns-clause-ok c =
    begin_object-place c.self.inside.made _ _ _ _ (Some c.in_ok-new.field-0) _ _ _ c.self.invariant c.self.view_is c.make_room.ensures (search rules) (search rules) (search rules)
