use Rattle.std.proofs.Common.{rules, ◌≡◌, ◌∙◌, ap}
use Rattle.mem_model.specs.Memory.{object_at, no_object}
use Rattle.mem_model.specs.model.Objects.{object_in}
use Rattle.mem_model.proofs.Places.{object_in-read, object_in-read_apart, put_back-rising, put_row-between, object_at-none, entry_of_slice, place_of_slice}
use Rattle.mem_model.proofs.memory.Mem.copy_between_objects.Goals as goal

pub returns-in_default : goal.returns-in_default
returns-in_default c =
    let none : object_at c.args.self.now c.args.to.object ≡ no_object = object_at-none _ _ _ _ c.self.invariant c.self.view_is (place_of_slice _ _ _ c.deref.ensures.value c.in_default.ensures.absent) in
    search rules

pub returns-in_default-find : goal.returns-in_default-find
returns-in_default-find c =
    let none : object_at c.args.self.now c.args.from.object ≡ no_object = object_at-none _ _ _ _ c.self.invariant c.self.view_is (place_of_slice _ _ _ c.deref-2.ensures.value c.in_default-find.ensures.absent) in
    search rules

pub copy_across-requires-clause-live : goal.copy_across-requires-clause-live
copy_across-requires-clause-live c =
    let read : object_in c.replace-target.result ≡ object_at c.args.self.now c.args.to.object =
    ap object_in c.replace-target.ensures.value ∙ object_in-read _ _ _ _ _ _ c.self.invariant c.self.view_is (entry_of_slice _ _ _ _ c.deref.ensures.value c.in-Some.ensures.found) c.index_mut.ensures.value in
    search rules

pub copy_across-requires-clause-source_live : goal.copy_across-requires-clause-source_live
copy_across-requires-clause-source_live c =
    let read : object_in c.index.result.now.object ≡ object_at c.args.self.now c.args.from.object =
    object_in-read_apart _ _ _ c.args.to c.args.from _ _ c.index_mut.result.now _ _ c.self.invariant c.self.view_is (entry_of_slice _ _ _ _ c.deref.ensures.value c.in-Some.ensures.found)
    (entry_of_slice _ _ _ _ c.deref-2.ensures.value c.in-Some-find.ensures.found) c.requires.other c.index.ensures in
    search rules

pub copy_across-requires-clause-within : goal.copy_across-requires-clause-within
copy_across-requires-clause-within c =
    let read : object_in c.replace-target.result ≡ object_at c.args.self.now c.args.to.object =
    ap object_in c.replace-target.ensures.value ∙ object_in-read _ _ _ _ _ _ c.self.invariant c.self.view_is (entry_of_slice _ _ _ _ c.deref.ensures.value c.in-Some.ensures.found) c.index_mut.ensures.value in
    search rules

pub copy_across-requires-clause-source : goal.copy_across-requires-clause-source
copy_across-requires-clause-source c =
    let read : object_in c.index.result.now.object ≡ object_at c.args.self.now c.args.from.object =
    object_in-read_apart _ _ _ c.args.to c.args.from _ _ c.index_mut.result.now _ _ c.self.invariant c.self.view_is (entry_of_slice _ _ _ _ c.deref.ensures.value c.in-Some.ensures.found)
    (entry_of_slice _ _ _ _ c.deref-2.ensures.value c.in-Some-find.ensures.found) c.requires.other c.index.ensures in
    search rules

pub invariant_of-self : goal.invariant_of-self
invariant_of-self c =
    put_back-rising _ _ _ _ _ _ _ _ c.self.invariant (entry_of_slice _ _ _ _ c.deref.ensures.value c.in-Some.ensures.found) c.index_mut.ensures.value c.index_mut-2.ensures.value

pub returns : goal.returns
returns c =
    put_row-between _ _ _ c.args.to c.args.from _ _ _ _ _ _ _ _ _ _ _ c.self.invariant c.self.view_is (entry_of_slice _ _ _ _ c.deref.ensures.value c.in-Some.ensures.found)
    (entry_of_slice _ _ _ _ c.deref-2.ensures.value c.in-Some-find.ensures.found) c.requires.other c.place.ensures.value c.place-2.ensures.value
    c.index_mut.ensures.value c.index.ensures c.index_mut-2.ensures.value c.replace-target.ensures.value c.copy_across.ensures
