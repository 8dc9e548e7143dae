-- What the accesses to a memory answer, by the tests of their faults.
use Rattle.std.proofs.Common.{◌≡◌, ℕ, ◌+◌, ◌<◌, ◌≤◌, ◌⊎◌, Bool, true, false, List, [], ◌∷◌, length, get_or, set, Some, None, Ok, Err, refl, sym, ap, ◌∙◌, subst, arith, map}
use Rattle.std.specs.Prelude.{◌&&◌, not, nat_lt, ℤ, pos, negsuc}
use Rattle.std.proofs.Common.{inl, inr}
use Rattle.std.proofs.lemmas.Bool.{cases_lt}
use Rattle.std.proofs.lemmas.Bool.Decides.{nat_tests}
use Rattle.std.proofs.lemmas.List.{get_or_past, set-get_or, nil_from_length}
use Rattle.mem_model.proofs.RowLaws.{with_row-own}
use Rattle.mem_model.specs.Cells.{value_or_fault, cells_of}
use Rattle.mem_model.specs.Memory.{Memory, Object, object_at, no_object, place_of, is_within, is_gone, is_outside, is_misaligned, overlaps, fault_or, range_fault, read_fault, write_fault, copy_fault, row_at, put_row, load_at, store_at, copy_at, init_at, byte_of}
use Rattle.mem_model.specs.declared.value.Ptr.{Ptr}
use Rattle.mem_model.specs.declared.value.Value.{Value}
use Rattle.mem_model.specs.declared.value.MemFault.{MemFault}
use Rattle.mem_model.specs.declared.value.MemFault.TheVariants.{NoObject, Outside, Misaligned}
use Rattle.mem_model.proofs.Faults.{skips}

-- a test that was made at a number that equals another
pub test_at : {A : Type 0} (f : ℕ → A) (r b : A) (n k : ℕ) → r ≡ f n → n ≡ k → r ≡ b → f k ≡ b
test_at f r b n k is same gives = ap f (sym same) ∙ sym is ∙ gives

-- an access by its fault
pub load_at-fault : (m : Memory) (p : Ptr) (width : ℕ) (pointer : Bool) (fault : MemFault) → read_fault m p width width ≡ Some fault → load_at m p width pointer ≡ Err fault
unfolding load_at
load_at-fault m p width pointer fault e = ap (λ f. fault_or f (value_or_fault pointer (row_at m p width))) e

pub load_at-free : (m : Memory) (p : Ptr) (width : ℕ) (pointer : Bool) → read_fault m p width width ≡ None → load_at m p width pointer ≡ value_or_fault pointer (row_at m p width)
unfolding load_at
load_at-free m p width pointer e = ap (λ f. fault_or f (value_or_fault pointer (row_at m p width))) e

pub load_at-read : (m : Memory) (p : Ptr) (width : ℕ) (pointer : Bool) → is_gone m p ≡ false → is_outside m p width ≡ false → is_misaligned p width ≡ false → load_at m p width pointer ≡ value_or_fault pointer (row_at m p width)
load_at-read m p width pointer live within aligned =
    load_at-free m p width pointer (skips (is_gone m p) NoObject ((is_outside m p width, Outside) ∷ (is_misaligned p width, Misaligned) ∷ []) live ∙ skips (is_outside m p width) Outside ((is_misaligned p width, Misaligned) ∷ []) within ∙ skips (is_misaligned p width) Misaligned [] aligned)

pub store_at-fault : (m : Memory) (p : Ptr) (width : ℕ) (v : Value) (fault : MemFault) → write_fault m p width width ≡ Some fault → store_at m p width v ≡ Err fault
unfolding store_at
store_at-fault m p width v fault e = ap (λ f. fault_or f (Ok (put_row m p (cells_of width v)))) e

pub store_at-free : (m new : Memory) (p : Ptr) (width : ℕ) (v : Value) → write_fault m p width width ≡ None → new ≡ put_row m p (cells_of width v) → store_at m p width v ≡ Ok new
unfolding store_at
store_at-free m new p width v e is = ap (λ f. fault_or f (Ok (put_row m p (cells_of width v)))) e ∙ ap (λ (n : Memory). Ok n) (sym is)

pub copy_at-fault : (m : Memory) (to from : Ptr) (size align : ℕ) (fault : MemFault) → copy_fault m to from size align ≡ Some fault → copy_at m to from size align ≡ Err fault
unfolding copy_at
copy_at-fault m to from size align fault e = ap (λ f. fault_or f (Ok (put_row m to (row_at m from size)))) e

pub copy_at-free : (m new : Memory) (to from : Ptr) (size align : ℕ) → copy_fault m to from size align ≡ None → new ≡ put_row m to (row_at m from size) → copy_at m to from size align ≡ Ok new
unfolding copy_at
copy_at-free m new to from size align e is = ap (λ f. fault_or f (Ok (put_row m to (row_at m from size)))) e ∙ ap (λ (n : Memory). Ok n) (sym is)

pub init_at-fault : (m : Memory) (p : Ptr) (values : List Value) (fault : MemFault) → range_fault m p (length values) ≡ Some fault → init_at m p values ≡ Err fault
unfolding init_at
init_at-fault m p values fault e = ap (λ f. fault_or f (Ok (put_row m p (map byte_of values)))) e

pub init_at-free : (m new : Memory) (p : Ptr) (values : List Value) → range_fault m p (length values) ≡ None → new ≡ put_row m p (map byte_of values) → init_at m p values ≡ Ok new
unfolding init_at
init_at-free m new p values e is = ap (λ f. fault_or f (Ok (put_row m p (map byte_of values)))) e ∙ ap (λ (n : Memory). Ok n) (sym is)

-- the object of a pointer is there where it is not gone
pub gone-within : (m : Memory) (p : Ptr) → is_gone m p ≡ false → p.object < length m
gone-within m p e = elim (cases_lt p.object (length m)) [ inl lt ↦ lt | inr ge ↦ absurd (past ge) ]
  where
    past : length m ≤ p.object → ⊥
    past ge = let h : get_or m p.object no_object ≡ no_object = get_or_past m p.object no_object ge in
        let f : not (object_at m p.object).live ≡ true = ap (λ (x : Object). not x.live) h in cc

-- a range of some bytes that is not outside lies within the cells
pub inside : (m : Memory) (p : Ptr) (size : ℕ) (x : Object) (at : ℕ) → x ≡ object_at m p.object → at ≡ place_of p.offset → 0 < size → is_outside m p size ≡ false → at + size ≤ length x.cells
inside m p size x at is place some in_it =
    subst (λ k. k + size ≤ length x.cells) (sym place) (subst (λ (y : Object). place_of p.offset + size ≤ length y.cells) (sym is) (within p.offset (length (object_at m p.object).cells) in_it))
  where
    within : (offset : ℤ) (n : ℕ) → (nat_lt 0 size && not (is_within offset size n)) ≡ false → place_of offset + size ≤ n
    within (pos k) n e = grind (arith, nat_tests)
    within (negsuc k) n e = absurd (grind (arith, nat_tests))

-- a memory in which an object has its own cells is the same
pub put_row-own : (m : Memory) (p : Ptr) (size : ℕ) → put_row m p (row_at m p size) ≡ m
put_row-own m p size =
    ap (λ l. set m p.object (record { live = (object_at m p.object).live; writable = (object_at m p.object).writable; cells = l })) (with_row-own (object_at m p.object).cells (place_of p.offset) size)
    ∙ set-get_or m p.object no_object

pub put_row-nothing : (m : Memory) (to from : Ptr) (size : ℕ) → size ≡ 0 → put_row m to (row_at m from size) ≡ m
put_row-nothing m to from size e = ap (λ n. put_row m to (row_at m from n)) e ∙ put_row-own m to 0

-- the same, at a pointer of the same object and offset
pub put_row-same : (m : Memory) (to from : Ptr) (size : ℕ) → to ≡ from → put_row m to (row_at m from size) ≡ m
put_row-same m to from size e = ap (λ (q : Ptr). put_row m to (row_at m q size)) (sym e) ∙ put_row-own m to size

-- ranges that do not overlap and begin apart lie apart
pub overlaps-apart : (p q : Ptr) (size : ℕ) → p.object ≡ q.object → (place_of p.offset ≡ place_of q.offset → ⊥) → overlaps p q size ≡ false → (place_of p.offset + size ≤ place_of q.offset) ⊎ (place_of q.offset + size ≤ place_of p.offset)
overlaps-apart p q size same differ none = grind (arith, nat_tests)

pub init-nothing : (m : Memory) (p : Ptr) (values : List Value) → length values ≡ 0 → put_row m p (map byte_of values) ≡ m
init-nothing m p values e = ap (λ l. put_row m p (map byte_of l)) (nil_from_length values e) ∙ put_row-nothing m p p 0 refl
