-- One turn of the loops over the cells of an object and over the objects of static storage, and their ends.
use Rattle.std.proofs.Common.{◌≡◌, ℕ, ◌+◌, ◌-◌, ◌<◌, ◌≤◌, ◌^◌, List, [], ◌∷◌, ◌++◌, true, length, map, take, drop, replicate, get_or, refl, sym, ap, ◌∙◌, subst, arith}
use Rattle.std.proofs.Math.Nat.{zero-add}
use Rattle.std.proofs.lemmas.List.{length-append, length-map, length-replicate, length-take-le, length-drop, take_all, take-take, drop-take, take-append-drop, map-append, map_more, append-nil, replicate-append-replicate}
use Rattle.mem_objects.specs.declared.DataCell.{DataCell}
use Rattle.mem_objects.specs.declared.DataObject.{DataObject}
use Rattle.mem_objects.specs.Start.{memory_cell, start_object}
use Rattle.mem_model.specs.declared.value.Cell as c
use Rattle.mem_model.specs.declared.value.Cell.TheVariants as cell
use Rattle.mem_model.specs.Memory.{Object, Memory, begin_object}
use Rattle.mem_model.proofs.Objects.{no_object_past}
use Rattle.suifvm_operations.specs.Tidy.{MemoryIsTidy}
use Rattle.suifvm_operations.specs.model.Fills.{Adds}
use Rattle.suifvm_operations.proofs.Fills.{adds_nothing, adds_more}

abbrev held : List DataCell → List c.Cell
held cells = map memory_cell cells

-- ---- the cells of an object

taken : (cells : List DataCell) (at count : ℕ) → take at cells ++ take count (drop at cells) ≡ take (at + count) cells
taken cells at count =
    ap (λ xs. xs ++ take count (drop at cells)) (sym (take-take at (at + count) cells (omega arith)))
    ∙ ap (λ xs. take at (take (at + count) cells) ++ xs) (sym (drop-take at count cells))
    ∙ take-append-drop at (take (at + count) cells)

pub cells_within : (cells : List DataCell) (at count : ℕ) → at ≤ length cells → count ≤ length (drop at cells) → at + count ≤ length cells
cells_within cells at count within few = let len = length-drop at cells in omega (arith, within, few, len)

pub cells_more : (m mid new : Memory) (object at count : ℕ) (cells : List DataCell) → at ≤ length cells → Adds m mid object 0 (map memory_cell (take at cells)) → Adds mid new object at (map memory_cell (take count (drop at cells))) → Adds m new object 0 (map memory_cell (take (at + count) cells))
cells_more m mid new object at count cells within first second =
    adds_more m mid new object 0 (held (take at cells)) (held (take count (drop at cells))) (held (take (at + count) cells)) first
    (subst (λ n. Adds mid new object n (held (take count (drop at cells)))) (sym len) second)
    (sym (map-append memory_cell (take at cells) (take count (drop at cells))) ∙ ap held (taken cells at count))
  where
    len : 0 + length (held (take at cells)) ≡ at
    len = zero-add (length (held (take at cells))) ∙ length-map (take at cells) memory_cell ∙ length-take-le at cells within

pub cells_all : (m new : Memory) (object at : ℕ) (cells : List DataCell) → length cells ≤ at → Adds m new object 0 (map memory_cell (take at cells)) → Adds m new object 0 (map memory_cell cells)
cells_all m new object at cells past a = subst (λ xs. Adds m new object 0 (held xs)) (take_all at cells past) a

-- ---- the zeros behind them

pub zeros_more : (m mid new : Memory) (object first at count : ℕ) → first ≤ at → Adds m mid object first (replicate (at - first) (cell.Byte 0)) → Adds mid new object at (replicate count (cell.Byte 0)) → Adds m new object first (replicate (at + count - first) (cell.Byte 0))
zeros_more m mid new object first at count past before some =
    adds_more m mid new object first (replicate (at - first) (cell.Byte 0)) (replicate count (cell.Byte 0)) (replicate (at + count - first) (cell.Byte 0)) before
    (subst (λ n. Adds mid new object n (replicate count (cell.Byte 0))) (sym place) some)
    (replicate-append-replicate (at - first) count (cell.Byte 0) ∙ ap (λ n. replicate n (cell.Byte 0)) sum)
  where
    len : length (replicate (at - first) (cell.Byte 0)) ≡ at - first
    len = length-replicate (at - first) (cell.Byte 0)

    place : first + length (replicate (at - first) (cell.Byte 0)) ≡ at
    place = ap (λ n. first + n) len ∙ omega (arith, past)

    sum : at - first + count ≡ at + count - first
    sum = omega (arith, past)

pub zeros_all : (m new : Memory) (object first at end : ℕ) → at ≤ end → end ≤ at → Adds m new object first (replicate (at - first) (cell.Byte 0)) → Adds m new object first (replicate (end - first) (cell.Byte 0))
zeros_all m new object first at end within past a = subst (λ n. Adds m new object first (replicate (n - first) (cell.Byte 0))) same a
  where
    same : at ≡ end
    same = omega (arith, within, past)

pub zeros_none : (m : Memory) (object first : ℕ) → MemoryIsTidy m → Adds m m object first (replicate (first - first) (cell.Byte 0))
zeros_none m object first tidy = subst (λ n. Adds m m object first (replicate n (cell.Byte 0))) none (adds_nothing m object first tidy)
  where
    none : 0 ≡ first - first
    none = omega arith

-- ---- an object

pub object_made : (m mid more new : Memory) (o : DataObject) (cells : List DataCell) (number count : ℕ) → number ≡ length m → mid ≡ begin_object m o.size o.writable → cells ≡ o.cells → count ≡ length cells → count ≤ o.size → Adds mid more number 0 (map memory_cell cells) → Adds more new number count (replicate (o.size - count) (cell.Byte 0)) → new ≡ m ++ start_object o ∷ []
object_made m mid more new o cells number count number_is mid_is cells_is count_is few first second =
    whole.fronts m o.writable o.size [] number_is refl (mid_is ∙ ap (λ n. m ++ record { live = true; writable = o.writable; cells = replicate n cell.Empty } ∷ []) none)
    ∙ ap (λ xs. m ++ record { live = true; writable = o.writable; cells = xs } ∷ []) full
  where
    row : List c.Cell
    row = held o.cells ++ replicate (o.size - length o.cells) (cell.Byte 0)

    joined : held cells ++ replicate (o.size - count) (cell.Byte 0) ≡ row
    joined = ap (λ n. held cells ++ replicate (o.size - n) (cell.Byte 0)) count_is ∙ ap (λ xs. held xs ++ replicate (o.size - length xs) (cell.Byte 0)) cells_is

    none : o.size ≡ o.size - 0
    none = omega arith

    held_count : length (held cells) ≡ count
    held_count = length-map cells memory_cell ∙ sym count_is

    place : 0 + length (held cells) ≡ count
    place = zero-add (length (held cells)) ∙ held_count

    whole : Adds mid new number 0 row
    whole = adds_more mid more new number 0 (held cells) (replicate (o.size - count) (cell.Byte 0)) row first
        (subst (λ n. Adds more new number n (replicate (o.size - count) (cell.Byte 0))) (sym place) second) joined

    len : length row ≡ o.size
    len = sym (ap length joined) ∙ length-append (held cells) (replicate (o.size - count) (cell.Byte 0))
        ∙ ap (λ n. n + length (replicate (o.size - count) (cell.Byte 0))) held_count
        ∙ ap (λ n. count + n) (length-replicate (o.size - count) (cell.Byte 0)) ∙ omega (arith, few)

    rest : o.size - length row ≡ 0
    rest = omega (arith, len)

    full : row ++ replicate (o.size - length row) cell.Empty ≡ row
    full = ap (λ n. row ++ replicate n cell.Empty) rest ∙ append-nil row

-- ---- all objects

pub none_tidy : (m : Memory) → m ≡ [] → MemoryIsTidy m
none_tidy m is = subst MemoryIsTidy (sym is) (record {
  gone = λ k dead. no_object_past [] k (omega arith);
  small = λ k. subst (λ (x : Object). length x.cells < 2 ^ 63) (sym (no_object_past [] k (omega arith))) (omega arith);
})

pub objects_more : (m new : Memory) (globals : List DataObject) (i : ℕ) (o : DataObject) → i < length globals → o ≡ get_or globals i o → m ≡ map start_object (take i globals) → new ≡ m ++ start_object o ∷ [] → new ≡ map start_object (take (i + 1) globals)
objects_more m new globals i o within read m_is new_is =
    new_is ∙ ap (λ xs. xs ++ start_object o ∷ []) m_is
    ∙ ap (λ x. map start_object (take i globals) ++ start_object x ∷ []) read
    ∙ sym (map_more start_object globals i o within)

pub objects_all : (m : Memory) (globals : List DataObject) (i : ℕ) → length globals ≤ i → m ≡ map start_object (take i globals) → m ≡ map start_object globals
objects_all m globals i past is = is ∙ ap (map start_object) (take_all i globals past)

pub objects_count : (m : Memory) (globals : List DataObject) → m ≡ map start_object globals → length m ≡ length globals
objects_count m globals is = ap length is ∙ length-map globals start_object
