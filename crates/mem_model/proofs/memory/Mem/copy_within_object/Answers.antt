use Rattle.std.proofs.Common.{rules, ◌≡◌}
use Rattle.mem_model.specs.Memory.{object_at, no_object}
use Rattle.mem_model.specs.model.Objects.{object_in}
use Rattle.mem_model.proofs.EntryLists.{rising-set}
use Rattle.mem_model.proofs.Places.{object_in-read, put_row-inside, object_at-none, entry_of_slice, place_of_slice}
use Rattle.mem_model.proofs.memory.Mem.copy_within_object.Goals as goal

pub copy_inside-requires-clause-live : goal.copy_inside-requires-clause-live
copy_inside-requires-clause-live c =
    let read : object_in c.index_mut.result.now.object ≡ object_at c.args.self.now c.args.to.object =
    object_in-read _ _ _ _ _ _ c.self.invariant c.self.view_is (entry_of_slice _ _ _ _ c.deref.ensures.value c.in-Some.ensures.found) c.index_mut.ensures.value in
    search rules

pub copy_inside-requires-clause-within : goal.copy_inside-requires-clause-within
copy_inside-requires-clause-within c =
    let read : object_in c.index_mut.result.now.object ≡ object_at c.args.self.now c.args.to.object =
    object_in-read _ _ _ _ _ _ c.self.invariant c.self.view_is (entry_of_slice _ _ _ _ c.deref.ensures.value c.in-Some.ensures.found) c.index_mut.ensures.value in
    search rules

pub copy_inside-requires-clause-source : goal.copy_inside-requires-clause-source
copy_inside-requires-clause-source c =
    let read : object_in c.index_mut.result.now.object ≡ object_at c.args.self.now c.args.to.object =
    object_in-read _ _ _ _ _ _ c.self.invariant c.self.view_is (entry_of_slice _ _ _ _ c.deref.ensures.value c.in-Some.ensures.found) c.index_mut.ensures.value in
    search rules

pub invariant_of-self : goal.invariant_of-self
invariant_of-self c = rising-set _ _ _ _ _ _ c.self.invariant c.index_mut.ensures.value

pub returns-in-Some : goal.returns-in-Some
returns-in-Some c =
    put_row-inside _ _ _ c.args.to c.args.from _ _ _ _ _ _ c.self.invariant c.self.view_is (entry_of_slice _ _ _ _ c.deref.ensures.value c.in-Some.ensures.found) c.index_mut.ensures.value c.requires.same c.place.ensures.value
    c.place-in-Some.ensures.value c.copy_inside.ensures

pub returns-in-None : goal.returns-in-None
returns-in-None c =
    let none : object_at c.args.self.now c.args.to.object ≡ no_object = object_at-none _ _ _ _ c.self.invariant c.self.view_is (place_of_slice _ _ _ c.deref.ensures.value c.in-None.ensures.absent) in
    search rules
