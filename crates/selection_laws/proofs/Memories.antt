-- The bytes of a memory stay below 256.
use Rattle.std.proofs.Common.{◌≡◌, ℕ, zero, suc, ◌+◌, List, [], ◌∷◌, ◌++◌, length, replicate, map, true, ℤ, Option, Some, None, Result, Ok, Err, refl, sym, ◌∙◌, subst, arith, inl, inr, length-append, length-set, All}
use Rattle.std.specs.Prelude.{slice_get, ◌-◌}
use Rattle.std.proofs.lemmas.Bool.{cases_eq, cases_lt}
use Rattle.std.proofs.lemmas.List.{get_or-set_other, get_or-set_same, get_or_push, get_or_append_left, get_or_past}
use Rattle.mem_model.specs.declared.value.Value.{Value}
use Rattle.mem_model.specs.declared.value.Value.TheVariants.{Word, Address, Unset}
use Rattle.mem_model.specs.declared.value.Ptr.{Ptr}
use Rattle.mem_model.specs.declared.value.Cell as memory
use Rattle.mem_model.specs.declared.value.Cell.TheVariants as m
use Rattle.std.proofs.Math.Logic.{∥∥₁_elim}
use mathlib.Core.HLevel.{Π_prop, ×_prop}
use native.Mathlib.Bridge.{le_prop}
use Rattle.mem_model.specs.declared.value.MemFault.{MemFault}
use Rattle.mem_model.specs.Cells.{cells_of}
use Rattle.mem_model.specs.Memory.{Memory, Object, object_at, no_object, fresh_object, begin_object, begin_objects, end_object, end_objects, store_at, copy_at, row_at, IsStorable}
use Rattle.mem_model.proofs.Changes.{store_at-ok, copy_is, outside-stands, length-bytes_of}
use Rattle.mem_model.proofs.RowValues.{length-parts_of}
use Rattle.mem_objects.specs.declared.DataObject.{DataObject}
use Rattle.mem_objects.specs.declared.DataCell.{DataCell}
use Rattle.mem_objects.specs.declared.DataCell.TheVariants.{Byte, AddressPart}
use Rattle.mem_objects.specs.Globals.{IsLawfulCell, IsLawfulObject, AreLawful}
use Rattle.mem_objects.specs.Start.{memory_cell, start_object, start_memory}
use Rattle.bk_arithmetic.specs.declared.integer_type.IntegerType.{IntegerType}
use Rattle.suifvm_ir.specs.declared.types.MemoryType.{MemoryType}
use Rattle.suifvm_meaning.specs.Operations.{ok_of, access_bytes, store_through, stored_memory, copied_memory, memory_integer}
use Rattle.selection_forms.specs.alpha_forms.Registers.{IsCell, AreCells, MemoryHasBytes}
use Rattle.selection_forms.proofs.AlphaCopies.Bytes.{are_append, are_cells_of, are_empty, are_row, bytes_with_row}

-- where there is a memory, its bytes are bytes
abbrev pub AnyMemoryHasBytes : Option Memory → Type 0
AnyMemoryHasBytes (Some m) = MemoryHasBytes m
AnyMemoryHasBytes None = Unit {0}

-- ---- objects begin and end

bytes_begin : (m : Memory) (size : ℕ) → MemoryHasBytes m → MemoryHasBytes (begin_object m size true)
bytes_begin m size h k = elim (cases_lt k (length m)) [
  | inl lt ↦ subst (λ (x : Object). AreCells x.cells) (sym (get_or_append_left m (fresh_object size true ∷ []) no_object k lt)) (h k)
  | inr ge ↦ elim (cases_eq k (length m)) [
    | inl e ↦ subst (λ (x : Object). AreCells x.cells) (sym (get_or_push m (fresh_object size true) no_object k (sym e))) (are_empty size)
    | inr ne ↦ subst (λ (x : Object). AreCells x.cells) (sym (get_or_past (m ++ (fresh_object size true ∷ [])) k no_object (omega (arith, length-append m (fresh_object size true ∷ []))))) tt
  ]
]

pub bytes_begins : (sizes : List ℕ) (m : Memory) → MemoryHasBytes m → MemoryHasBytes (begin_objects m sizes)
bytes_begins [] m h = h
bytes_begins (size ∷ sizes) m h = bytes_begins sizes (begin_object m size true) (bytes_begin m size h)

bytes_end : (m : Memory) (id : ℕ) → MemoryHasBytes m → MemoryHasBytes (end_object m id)
bytes_end m id h k = elim (cases_eq k id) [
  | inl e ↦ elim (cases_lt id (length m)) [
    | inl lt ↦ subst (λ j. AreCells (object_at (end_object m id) j).cells) (sym e) (subst (λ (x : Object). AreCells x.cells) (sym (get_or-set_same m id no_object no_object lt)) tt)
    | inr ge ↦ subst (λ (x : Object). AreCells x.cells) (sym (get_or_past (end_object m id) k no_object (omega (arith, e, length-set m id no_object)))) tt
  ]
  | inr ne ↦ subst (λ (x : Object). AreCells x.cells) (sym (get_or-set_other m id k no_object no_object ne)) (h k)
]

pub bytes_ends : (count : ℕ) (m : Memory) (first : ℕ) → MemoryHasBytes m → MemoryHasBytes (end_objects m first count)
bytes_ends zero m first h = h
bytes_ends (suc count) m first h = bytes_ends count (end_object m first) (suc first) (bytes_end m first h)

-- ---- stores

storable_length : (width : ℕ) (v : Value) → IsStorable width v → length (cells_of width v) ≡ width
unfolding cells_of
storable_length width (Word n) h = length-bytes_of width n
storable_length width (Address p) h = length-parts_of p ∙ sym h
storable_length width Unset h = absurd h

store_bytes : (m : Memory) (p : Ptr) (width : ℕ) (v : Value) (r : Result Memory MemFault) → IsStorable width v → MemoryHasBytes m → store_at m p width v ≡ r → AnyMemoryHasBytes (ok_of r)
store_bytes m p width v (Err f) s h e = tt
store_bytes m p width v (Ok n) s h e =
    let f = store_at-ok m n p width v e in
    subst MemoryHasBytes f.is (bytes_with_row m p (cells_of width v) f.first (outside-stands m p (cells_of width v) width (storable_length width v s) f.second) h (are_cells_of width v))

through_bytes : (m : Memory) (t : Option IntegerType) (q : Option Value) (a : Value) → MemoryHasBytes m → AnyMemoryHasBytes (store_through m t q a)
through_bytes m t (Some (Address p)) (Word n) h = store_bytes m p (access_bytes t) (Word n) (store_at m p (access_bytes t) (Word n)) tt h refl
through_bytes m None (Some (Address p)) (Address q) h = store_bytes m p 8 (Address q) (store_at m p 8 (Address q)) refl h refl
through_bytes m (Some t) (Some (Address p)) (Address q) h = tt
through_bytes m None (Some (Address p)) Unset h = tt
through_bytes m (Some t) (Some (Address p)) Unset h = tt
through_bytes m t (Some (Word n)) a h = tt
through_bytes m t (Some Unset) a h = tt
through_bytes m t None a h = tt

pub stored_bytes : (m : Memory) (ty : MemoryType) (v : Value) (plus : ℤ) (a : Value) → MemoryHasBytes m → AnyMemoryHasBytes (stored_memory m ty v plus a)
stored_bytes m ty v plus a h = through_bytes m (memory_integer ty) _ a h

-- ---- copies

copy_bytes : (m : Memory) (p q : Ptr) (size align : ℕ) (r : Result Memory MemFault) → MemoryHasBytes m → copy_at m p q size align ≡ r → AnyMemoryHasBytes (ok_of r)
copy_bytes m p q size align (Err f) h e = tt
copy_bytes m p q size align (Ok n) h e =
    let f = copy_is m n p q size align e in
    subst MemoryHasBytes f.is (bytes_with_row m p (row_at m q size) f.live f.stands h (are_row m q size h))

pub copied_bytes : (m : Memory) (to from : Value) (size align : ℕ) → MemoryHasBytes m → AnyMemoryHasBytes (copied_memory m to from size align)
copied_bytes m (Address p) (Address q) size align h = copy_bytes m p q size align (copy_at m p q size align) h refl
copied_bytes m (Address p) (Word n) size align h = tt
copied_bytes m (Address p) Unset size align h = tt
copied_bytes m (Word n) from size align h = tt
copied_bytes m Unset from size align h = tt

-- ---- the start

zeros : (n : ℕ) → AreCells (replicate n (m.Byte 0))
zeros zero = tt
zeros (suc n) = (omega arith, zeros n)

cells_from : (globals : List DataObject) (o : DataObject) (k : ℕ) (cells : List DataCell) → ((at : ℕ) (c : DataCell) → slice_get cells at ≡ Some c → IsLawfulCell globals o (k + at) c) → AreCells (map memory_cell cells)
cells_from globals o k [] h = tt
cells_from globals o k (c ∷ cells) h = (first c (h 0 c refl), cells_from globals o (suc k) cells (λ at d e. subst (λ n. IsLawfulCell globals o n d) (shift at) (h (suc at) d e)))
  where
    first : (c : DataCell) → IsLawfulCell globals o (k + 0) c → IsCell (memory_cell c)
    first (Byte b) h = h
    first (AddressPart global plus part) h = tt

    shift : (at : ℕ) → k + suc at ≡ suc k + at
    shift at = omega arith

object_cells : (globals : List DataObject) (o : DataObject) → IsLawfulObject globals o → AreCells (start_object o).cells
object_cells globals o h =
    are_append (map memory_cell o.cells) (replicate (o.size - length o.cells) (m.Byte 0))
    (cells_from globals o 0 o.cells (λ at c e. subst (λ n. IsLawfulCell globals o n c) (plain at) (h.lawful at c e))) (zeros (o.size - length o.cells))
  where
    plain : (at : ℕ) → at ≡ 0 + at
    plain at = omega arith

objects_bytes : (globals os : List DataObject) → All (IsLawfulObject globals) os → MemoryHasBytes (map start_object os)
objects_bytes globals [] h k = subst (λ (x : Object). AreCells x.cells) (sym (get_or_past [] k no_object (omega arith))) tt
objects_bytes globals (o ∷ os) h zero = object_cells globals o (h 0 o (omega arith))
objects_bytes globals (o ∷ os) h (suc k) = objects_bytes globals os (λ j d lt. h (suc j) d (omega (arith, lt))) k

pub start_bytes : (globals : List DataObject) → AreLawful globals → MemoryHasBytes (start_memory globals)
start_bytes globals h = objects_bytes globals globals h.objects

-- that the bytes of a memory are bytes has one proof at most
cell_prop : (c : memory.Cell) → IsProp (IsCell c)
cell_prop m.Empty = λ a b. refl
cell_prop (m.Byte b) = le_prop
cell_prop (m.Part p k) = λ a b. refl

cells_prop : (cs : List memory.Cell) → IsProp (AreCells cs)
cells_prop [] = λ a b. refl
cells_prop (c ∷ cs) = ×_prop (cell_prop c) (cells_prop cs)

pub bytes_prop : (m : Memory) → IsProp (MemoryHasBytes m)
bytes_prop m = Π_prop (λ k. cells_prop (object_at m k).cells)

pub start_has_bytes : (globals : List DataObject) → ∥ AreLawful globals ∥₁ → MemoryHasBytes (start_memory globals)
start_has_bytes globals h = ∥∥₁_elim h (bytes_prop (start_memory globals)) (start_bytes globals)
