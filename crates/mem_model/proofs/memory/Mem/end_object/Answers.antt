use Rattle.std.proofs.Common.{rules, ◌≡◌}
use Rattle.mem_model.specs.Memory.{object_at, no_object}
use Rattle.mem_model.proofs.Places.{end-rising, end_object-trim, object_at-none, entry_of_slice, place_of_slice}
use Rattle.mem_model.proofs.memory.Mem.end_object.Goals as goal

pub invariant_of-self : goal.invariant_of-self
invariant_of-self c = end-rising _ _ _ _ _ _ c.self.invariant c.index_mut.ensures.value c.trim.ensures

pub returns-in-Some : goal.returns-in-Some
returns-in-Some c =
    end_object-trim _ _ _ _ _ _ _ c.self.invariant c.self.view_is (entry_of_slice _ _ _ _ c.deref.ensures.value c.in-Some.ensures.found) c.index_mut.ensures.value c.trim.ensures

pub returns-in-None : goal.returns-in-None
returns-in-None c =
    let none : object_at c.args.self.now c.args.id ≡ no_object = object_at-none _ _ _ _ c.self.invariant c.self.view_is (place_of_slice _ _ _ c.deref.ensures.value c.in-None.ensures.absent) in
    search rules
