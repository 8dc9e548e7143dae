use Rattle.std.proofs.Common.{rules, ◌≡◌}
use Rattle.mem_model.specs.Memory.{object_at}
use Rattle.mem_model.specs.model.Objects.{object_in}
use Rattle.mem_model.proofs.Places.{object_in-read, object_at-none, entry_of_slice, place_of_slice}
use Rattle.mem_model.proofs.memory.Mem.object.Goals as goal

pub returns-in-Some-clause-live : goal.returns-in-Some-clause-live
returns-in-Some-clause-live c =
    let read : object_in c.index.result.now.object ≡ object_at c.args.self.now c.args.id =
    object_in-read _ _ _ _ _ _ c.self.invariant c.self.view_is (entry_of_slice _ _ _ _ c.deref.ensures.value c.in-Some.ensures.found) c.index.ensures in
    search rules

pub returns-in-Some-clause-gone : goal.returns-in-Some-clause-gone
returns-in-Some-clause-gone c =
    let read : object_in c.index.result.now.object ≡ object_at c.args.self.now c.args.id =
    object_in-read _ _ _ _ _ _ c.self.invariant c.self.view_is (entry_of_slice _ _ _ _ c.deref.ensures.value c.in-Some.ensures.found) c.index.ensures in
    search rules

pub returns-in-None-clause-gone : goal.returns-in-None-clause-gone
returns-in-None-clause-gone c = object_at-none _ _ _ _ c.self.invariant c.self.view_is (place_of_slice _ _ _ c.deref.ensures.value c.in-None.ensures.absent)
