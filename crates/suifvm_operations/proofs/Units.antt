-- Bytes and addresses that are put into an object.
use Rattle.std.proofs.Common.{◌≡◌, ℕ, zero, suc, ◌+◌, ◌<◌, ◌≤◌, ℤ, List, [], ◌∷◌, length, map, take, get_or, replicate, pos, Option, Some, None, Ok, refl, sym, ap, ◌∙◌, subst, inl, inr, arith}
use Rattle.std.specs.Prelude.{slice_get}
use Rattle.std.proofs.lemmas.Bool.{cases_eq}
use Rattle.std.proofs.lemmas.List.{take-replicate}
use Rattle.std.proofs.lemmas.Option.{slice_get_within}
use Rattle.mem_objects.specs.declared.DataCell.{DataCell}
use Rattle.mem_objects.specs.declared.DataCell.TheVariants.{Byte, AddressPart}
use Rattle.mem_objects.specs.Start.{memory_cell}
use Rattle.mem_model.specs.declared.value.Ptr.{Ptr}
use Rattle.mem_model.specs.declared.value.Value.{Value}
use Rattle.mem_model.specs.declared.value.Value.TheVariants.{Word, Address}
use Rattle.mem_model.specs.declared.value.Cell.TheVariants as cell
use Rattle.mem_model.specs.Cells.{parts_of, cells_of}
use Rattle.mem_model.specs.Memory.{Memory, put_row, init_at, store_at, byte_of, IsWidth, IsStorable}
use Rattle.mem_model.proofs.Changes.{init_puts, store_puts}
use Rattle.suifvm_operations.specs.Tidy.{MemoryIsTidy}
use Rattle.suifvm_operations.specs.model.Fills.{Adds}
use Rattle.suifvm_operations.specs.model.Units.{HasParts}
use Rattle.suifvm_operations.proofs.Fills.{adds_row}
use Rattle.suifvm_operations.proofs.Tidiness.{put_tidy}

abbrev here : (object : ℕ) → ℤ → Ptr
here object offset = record { object = object; offset = offset }

pub row_adds : (m new : Memory) (object at : ℕ) (offset : ℤ) (values : List Value) → offset ≡ pos at → init_at m (record { object = object; offset = offset }) values ≡ Ok new → MemoryIsTidy m → Adds m new object at (map byte_of values)
row_adds m new object at offset values o is t =
    let put = init_puts m new (here object offset) values is in
    adds_row m new object at (map byte_of values) (put.is ∙ ap (λ z. put_row m (here object z) (map byte_of values)) o) (put_tidy m new (here object offset) (length values) (map byte_of values) put t)

zero_bytes : (n : ℕ) → map byte_of (replicate n (Word 0)) ≡ replicate n (cell.Byte 0)
zero_bytes zero = refl
zero_bytes (suc n) = ap (λ xs. cell.Byte 0 ∷ xs) (zero_bytes n)

pub zeros_adds : (m new : Memory) (object at count most : ℕ) (offset : ℤ) (values : List Value) → offset ≡ pos at → count ≤ most → values ≡ take count (replicate most (Word 0)) → init_at m (record { object = object; offset = offset }) values ≡ Ok new → MemoryIsTidy m → Adds m new object at (replicate count (cell.Byte 0))
zeros_adds m new object at count most offset values o few row is t =
    subst (Adds m new object at) (ap (map byte_of) (row ∙ take-replicate count most (Word 0) few) ∙ zero_bytes count)
    (row_adds m new object at offset values o is t)

pub address_adds : (m new : Memory) (object at : ℕ) (offset : ℤ) (to : Ptr) → offset ≡ pos at → IsWidth 8 → IsStorable 8 (Address to) → store_at m (record { object = object; offset = offset }) 8 (Address to) ≡ Ok new → MemoryIsTidy m → Adds m new object at (parts_of to)
unfolding cells_of
address_adds m new object at offset to o wide storable is t =
    let put = store_puts m new (here object offset) 8 (Address to) wide storable is in
    adds_row m new object at (parts_of to) (put.is ∙ ap (λ z. put_row m (here object z) (parts_of to)) o) (put_tidy m new (here object offset) 8 (parts_of to) put t)

-- ---- cells that are put together

pub parts_more : (cells : List DataCell) (global plus n : ℕ) → HasParts cells global plus n → slice_get cells n ≡ Some (AddressPart global plus n) → HasParts cells global plus (n + 1)
parts_more cells global plus n before at k within = elim (cases_eq k n) [
  | inl e ↦ subst (λ j. slice_get cells j ≡ Some (AddressPart global plus j)) (sym e) at
  | inr ne ↦ before k (omega (arith, within, ne))
]

-- the parts from a number on
abbrev parts_from : (global plus first count : ℕ) → List DataCell
parts_from global plus first zero = []
parts_from global plus first (suc count) = AddressPart global plus first ∷ parts_from global plus (suc first) count

none_some : {A : Type 0} (b : A) → (let x : Option A = None in x ≡ Some b) → ⊥
none_some b h = cc

some_is : {A : Type 0} (a b : A) → (let x : Option A = Some a in x ≡ Some b) → a ≡ b
some_is a b h = cc

taken : (cells : List DataCell) (global plus first count : ℕ) → ((k : ℕ) → k < count → slice_get cells k ≡ Some (AddressPart global plus (first + k))) → take count cells ≡ parts_from global plus first count
taken cells global plus first zero h = refl
taken [] global plus first (suc count) h = absurd (none_some _ (h 0 (omega arith)))
taken (c ∷ cells) global plus first (suc count) h =
    let none : first + 0 ≡ first = omega arith in
    let head : c ≡ AddressPart global plus first = some_is c (AddressPart global plus (first + 0)) (h 0 (omega arith)) ∙ ap (AddressPart global plus) none in
    ap (λ x. x ∷ take count cells) head
    ∙ ap (λ xs. AddressPart global plus first ∷ xs) (taken cells global plus (suc first) count (λ k within.
    h (suc k) (omega (arith, within)) ∙ ap (λ j. Some (AddressPart global plus j)) (next k)))
  where
    next : (k : ℕ) → first + suc k ≡ suc first + k
    next k = omega arith

address_unit : (cells : List DataCell) (global plus : ℕ) → HasParts cells global plus 8 → parts_of (record { object = global; offset = pos plus }) ≡ map memory_cell (take 8 cells)
unfolding parts_of
address_unit cells global plus h = sym (ap (map memory_cell) (taken cells global plus 0 8 (λ k within. h k within ∙ ap (λ j. Some (AddressPart global plus j)) (none k))))
  where
    none : (k : ℕ) → k ≡ 0 + k
    none k = omega arith

pub address_within : (cells : List DataCell) (global plus : ℕ) → HasParts cells global plus 8 → 8 ≤ length cells
address_within cells global plus h = let last : 7 < length cells = slice_get_within cells 7 (AddressPart global plus 7) (h 7 (omega arith)) in omega (arith, last)

-- the first cells were put, one byte or the eight parts of an address
pub byte_unit : (m new : Memory) (object at byte : ℕ) (cells : List DataCell) → 0 < length cells → Byte byte ≡ get_or cells 0 (Byte byte) → Adds m new object at (cell.Byte byte ∷ []) → Adds m new object at (map memory_cell (take 1 cells))
byte_unit m new object at byte cells some read a = subst (Adds m new object at) (row cells some read) a
  where
    row : (cs : List DataCell) → 0 < length cs → Byte byte ≡ get_or cs 0 (Byte byte) → cell.Byte byte ∷ [] ≡ map memory_cell (take 1 cs)
    row [] none r = absurd (omega (arith, none))
    row (c ∷ cs) there r = ap (λ x. memory_cell x ∷ []) r

pub address_unit_adds : (m new : Memory) (object at : ℕ) (cells : List DataCell) (global plus : ℕ) (offset : ℤ) → HasParts cells global plus 8 → offset ≡ pos plus → Adds m new object at (parts_of (record { object = global; offset = offset })) → Adds m new object at (map memory_cell (take 8 cells))
address_unit_adds m new object at cells global plus offset h o a =
    subst (Adds m new object at) (ap (λ z. parts_of (record { object = global; offset = z })) o ∙ address_unit cells global plus h) a
