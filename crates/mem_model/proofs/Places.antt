-- The places in which the objects of a memory are kept.
use Rattle.std.proofs.Common.{◌≡◌, ◌≢◌, ℕ, ◌+◌, ◌<◌, Bool, List, [], ◌∷◌, ◌++◌, length, take, drop, get_or, set, None, sym, ap, ◌∙◌, subst}
use Rattle.std.specs.Prelude.{slice_get, option_map}
use Rattle.std.proofs.lemmas.List.{get_or-set_same, get_or-set_other, set-set}
use Rattle.std.proofs.lemmas.Option.{same_Some}
use Rattle.mem_model.specs.declared.entries.Entry.{Entry}
use Rattle.mem_model.specs.declared.value.Ptr.{Ptr}
use Rattle.mem_model.specs.declared.value.Cell.{Cell}
use Rattle.mem_model.specs.Memory.{Memory, Object, object_at, no_object, fresh_object, begin_object, end_object, place_of, row_at, put_row}
use Rattle.mem_model.specs.model.Objects.{Place, place_in, object_in, objects_in, IsRising, IsEntryAt, KeepsObjects, with_row_in}
use Rattle.mem_model.proofs.EntryLists.{object-in_place, objects-set, objects-push, length-objects, rising-push, rising-set, place-there, entry-within}

-- the object of an entry that was read
pub object_in-read : (made : ℕ) (es : List Entry) (m : Memory) (at number : ℕ) (e : Entry) → IsRising 0 made es → objects_in made es ≡ m → IsEntryAt es at number → e ≡ get_or es at e →
    object_in e.object ≡ object_at m number
object_in-read made es m at number e rising is there read =
    sym (object-in_place made es m number rising is ∙ ap object_in (place-there 0 made es at number e rising there read))

-- an entry that holds nothing any more
pub end_object-place : (made : ℕ) (es : List Entry) (m : Memory) (at number : ℕ) (e : Entry) → IsRising 0 made es → objects_in made es ≡ m → IsEntryAt es at number → e ≡ get_or es at e →
    objects_in made (set es at (record e { object = None })) ≡ end_object m number
end_object-place made es m at number e rising is there read = objects-set made es at number e None rising there read ∙ ap (λ l. set l number no_object) is

-- another row of cells in the object of an entry
pub put_row-place : (made : ℕ) (es : List Entry) (m : Memory) (p : Ptr) (at place : ℕ) (row : List Cell) (e : Entry) (y : Place) → IsRising 0 made es → objects_in made es ≡ m →
    IsEntryAt es at p.object → e ≡ get_or es at e → place ≡ place_of p.offset → object_in y ≡ with_row_in (object_in e.object) place row →
    objects_in made (set es at (record e { object = y })) ≡ put_row m p row
put_row-place made es m p at place row e y rising is there read place_is put =
    let object : object_in e.object ≡ object_at m p.object = object_in-read made es m at p.object e rising is there read in
    objects-set made es at p.object e y rising there read
    ∙ ap (λ l. set l p.object (object_in y)) is
    ∙ ap (set m p.object) (put ∙ ap (λ (o : Object). with_row_in o place row) object ∙ ap (λ k. with_row_in (object_at m p.object) k row) place_is)

-- a row of cells that was read
row_at-read : (m : Memory) (p : Ptr) (place size : ℕ) (o : Object) → o ≡ object_at m p.object → place ≡ place_of p.offset → take size (drop place o.cells) ≡ row_at m p size
row_at-read m p place size o is place_is =
    ap (λ (x : Object). take size (drop place x.cells)) is ∙ ap (λ k. take size (drop k (object_at m p.object).cells)) place_is

-- the same within one object
pub put_row-inside : (made : ℕ) (es : List Entry) (m : Memory) (to from : Ptr) (at place from_place size : ℕ) (e : Entry) (y : Place) → IsRising 0 made es → objects_in made es ≡ m →
    IsEntryAt es at to.object → e ≡ get_or es at e → to.object ≡ from.object → place ≡ place_of to.offset → from_place ≡ place_of from.offset →
    object_in y ≡ with_row_in (object_in e.object) place (take size (drop from_place (object_in e.object).cells)) →
    objects_in made (set es at (record e { object = y })) ≡ put_row m to (row_at m from size)
put_row-inside made es m to from at place from_place size e y rising is there read same place_is from_is put =
    let object : object_in e.object ≡ object_at m from.object = object_in-read made es m at to.object e rising is there read ∙ ap (object_at m) same in
    put_row-place made es m to at place (row_at m from size) e y rising is there read place_is (put ∙ ap (with_row_in (object_in e.object) place) (row_at-read m from from_place size (object_in e.object) object from_is))

-- the object of an entry that was read while another object was taken out of its entry
pub object_in-read_apart : (made : ℕ) (es : List Entry) (m : Memory) (to from : Ptr) (at from_at : ℕ) (e f : Entry) (n : Place) → IsRising 0 made es → objects_in made es ≡ m →
    IsEntryAt es at to.object → IsEntryAt es from_at from.object → to.object ≢ from.object → f ≡ get_or (set es at (record e { object = n })) from_at f → object_in f.object ≡ object_at m from.object
object_in-read_apart made es m to from at from_at e f n rising is there from_there other source =
    let apart : from_at ≢ at = λ same. other (same_Some to.object from.object (sym there ∙ ap (λ k. option_map (λ (o : Entry). o.number) (slice_get es k)) (sym same) ∙ from_there)) in
    let source_read : f ≡ get_or es from_at f = source ∙ get_or-set_other es at from_at (record e { object = n }) f apart in
    object_in-read made es m from_at from.object f rising is from_there source_read

-- an object is put back into its entry
put_back : (es : List Entry) (at number : ℕ) (e g : Entry) (n y : Place) → IsEntryAt es at number → g ≡ get_or (set es at (record e { object = n })) at g →
    set (set es at (record e { object = n })) at (record g { object = y }) ≡ set es at (record e { object = y })
put_back es at number e g n y there target =
    let within : at < length es = entry-within es at number there in
    let empty : g ≡ record e { object = n } = target ∙ get_or-set_same es at (record e { object = n }) g within in
    set-set es at (record e { object = n }) (record g { object = y }) ∙ ap (λ (o : Entry). set es at (record o { object = y })) empty

pub put_back-rising : (made : ℕ) (es : List Entry) (at number : ℕ) (e g : Entry) (n y : Place) → IsRising 0 made es → IsEntryAt es at number → e ≡ get_or es at e →
    g ≡ get_or (set es at (record e { object = n })) at g → IsRising 0 made (set (set es at (record e { object = n })) at (record g { object = y }))
put_back-rising made es at number e g n y rising there read target =
    subst (IsRising 0 made) (sym (put_back es at number e g n y there target)) (rising-set 0 made es at e y rising read)

-- a row of cells from another object, while the target is taken out of its entry
pub put_row-between : (made : ℕ) (es : List Entry) (m : Memory) (to from : Ptr) (at from_at place from_place size : ℕ) (e f g : Entry) (n x y : Place) → IsRising 0 made es → objects_in made es ≡ m →
    IsEntryAt es at to.object → IsEntryAt es from_at from.object → to.object ≢ from.object → place ≡ place_of to.offset → from_place ≡ place_of from.offset →
    e ≡ get_or es at e → f ≡ get_or (set es at (record e { object = n })) from_at f → g ≡ get_or (set es at (record e { object = n })) at g → x ≡ e.object →
    object_in y ≡ with_row_in (object_in x) place (take size (drop from_place (object_in f.object).cells)) →
    objects_in made (set (set es at (record e { object = n })) at (record g { object = y })) ≡ put_row m to (row_at m from size)
put_row-between made es m to from at from_at place from_place size e f g n x y rising is there from_there other place_is from_is read source target x_is put =
    let object : object_in f.object ≡ object_at m from.object = object_in-read_apart made es m to from at from_at e f n rising is there from_there other source in
    ap (objects_in made) (put_back es at to.object e g n y there target)
    ∙ put_row-place made es m to at place (row_at m from size) e y rising is there read place_is
    (put ∙ ap (λ (o : Place). with_row_in (object_in o) place (take size (drop from_place (object_in f.object).cells))) x_is ∙ ap (with_row_in (object_in e.object) place) (row_at-read m from from_place size (object_in f.object) object from_is))

-- an object that is not kept
pub object_at-none : (made : ℕ) (es : List Entry) (m : Memory) (number : ℕ) → IsRising 0 made es → objects_in made es ≡ m → place_in es number ≡ None → object_at m number ≡ no_object
object_at-none made es m number rising is none = object-in_place made es m number rising is ∙ ap object_in none

-- the same of a slice of the entries
pub entry_of_slice : (slice es : List Entry) (at number : ℕ) → slice ≡ es → IsEntryAt slice at number → IsEntryAt es at number
entry_of_slice slice es at number same there = subst (λ l. IsEntryAt l at number) same there

pub place_of_slice : (slice es : List Entry) (number : ℕ) → slice ≡ es → place_in slice number ≡ None → place_in es number ≡ None
place_of_slice slice es number same none = ap (λ l. place_in l number) (sym same) ∙ none

-- an object is made, behind the entries that are left
pub begin-rising : (made next : ℕ) (es fs gs : List Entry) (x : Place) → IsRising 0 made es → KeepsObjects es fs → next ≡ made + 1 → gs ≡ fs ++ record { number = made; object = x } ∷ [] → IsRising 0 next gs
begin-rising made next es fs gs x rising kept next_is is =
    subst (λ n. IsRising 0 n gs) (sym next_is) (subst (IsRising 0 (made + 1)) (sym is) (rising-push 0 made fs x (kept made rising).rising))

pub count-objects : (made : ℕ) (es : List Entry) (m : Memory) → objects_in made es ≡ m → made ≡ length m
count-objects made es m is = sym (length-objects made es) ∙ ap length is

pub begin_object-place : (made next : ℕ) (es fs gs : List Entry) (x : Place) (m : Memory) (size : ℕ) (writable : Bool) → IsRising 0 made es → objects_in made es ≡ m → KeepsObjects es fs →
    next ≡ made + 1 → gs ≡ fs ++ record { number = made; object = x } ∷ [] → object_in x ≡ fresh_object size writable → objects_in next gs ≡ begin_object m size writable
begin_object-place made next es fs gs x m size writable rising is kept next_is gs_is fresh =
    ap (λ n. objects_in n gs) next_is ∙ ap (objects_in (made + 1)) gs_is ∙ objects-push made fs x (kept made rising).rising
    ∙ ap (λ (l : Memory). l ++ object_in x ∷ []) ((kept made rising).objects ∙ is) ∙ ap (λ (o : Object). m ++ o ∷ []) fresh

-- an object ends, and what is behind the last live one is left out
pub end-rising : (made : ℕ) (es fs : List Entry) (at : ℕ) (e : Entry) (y : Place) → IsRising 0 made es → e ≡ get_or es at e → KeepsObjects (set es at (record e { object = y })) fs → IsRising 0 made fs
end-rising made es fs at e y rising read kept = (kept made (rising-set 0 made es at e y rising read)).rising

pub end_object-trim : (made : ℕ) (es fs : List Entry) (m : Memory) (at number : ℕ) (e : Entry) → IsRising 0 made es → objects_in made es ≡ m → IsEntryAt es at number → e ≡ get_or es at e →
    KeepsObjects (set es at (record e { object = None })) fs → objects_in made fs ≡ end_object m number
end_object-trim made es fs m at number e rising is there read kept =
    (kept made (rising-set 0 made es at e None rising read)).objects ∙ end_object-place made es m at number e rising is there read
