-- What a memory with other cells in one object keeps, and what it gives back.
use Rattle.std.proofs.Common.{◌≡◌, ◌≢◌, ℕ, zero, suc, ◌+◌, ◌/◌, ◌<◌, ◌≤◌, ◌⊎◌, Bool, true, false, List, [], ◌∷◌, length, take, drop, Ok, Option, Some, None, Result, refl, sym, ap, ◌∙◌, subst, arith, inl, inr, map, length-set}
use Rattle.std.specs.Prelude.{◌||◌, ◌&&◌, not, nat_lt}
use Rattle.std.proofs.lemmas.Bool.{cases_eq}
use Rattle.std.proofs.lemmas.List.{get_or-set_same, get_or-set_other, length-map, nil_from_length}
use Rattle.mem_model.specs.Cells.{value_or_fault, cells_of, bytes_of, parts_of, with_row}
use Rattle.mem_model.specs.Memory.{Memory, Object, object_at, no_object, place_of, is_within, is_gone, is_outside, is_misaligned, is_read_only, overlaps, first_fault, read_fault, fault_or, row_at, put_row, load_at, store_at, copy_at, init_at, byte_of, IsWidth, IsStorable}
use Rattle.mem_model.specs.Laws.{Apart, ChangesCells, CanPut, IsPut, SameFaults, IsLoad}
use Rattle.mem_model.specs.declared.value.Ptr.{Ptr}
use Rattle.mem_model.specs.declared.value.Value.{Value}
use Rattle.mem_model.specs.declared.value.Value.TheVariants.{Word, Address, Unset}
use Rattle.mem_model.specs.declared.value.Cell.{Cell}
use Rattle.mem_model.specs.declared.value.MemFault.{MemFault}
use Rattle.mem_model.specs.declared.value.MemFault.TheVariants.{NoObject, Outside, Misaligned, ReadOnly}
use Rattle.mem_model.proofs.Accesses.{gone-within, inside}
use Rattle.mem_model.proofs.RowLaws.{length-with_row, with_row-none, take-drop-with_row, take-drop-with_row_apart, length-row}

-- what an answer without a fault tells
pub record PastTwo {A : Type 0} (a b : Bool) (r new : A) : Type 0 where
  pub first : a ≡ false
  pub second : b ≡ false
  pub is : r ≡ new

pub past_two-ok : {A : Type 0} (a b : Bool) (x y : MemFault) (r new : A) → fault_or (first_fault ((a, x) ∷ (b, y) ∷ [])) (Ok r) ≡ Ok new → PastTwo a b r new
past_two-ok true b x y r new e = absurd (cc)
past_two-ok false true x y r new e = absurd (cc)
past_two-ok false false x y r new e = record { first = refl; second = refl; is = cc }

pub record PastFour {A : Type 0} (a b c d : Bool) (r new : A) : Type 0 where
  pub first : a ≡ false
  pub second : b ≡ false
  pub third : c ≡ false
  pub fourth : d ≡ false
  pub is : r ≡ new

pub past_four-ok : {A : Type 0} (a b c d : Bool) (x y z w : MemFault) (r new : A) → fault_or (first_fault ((a, x) ∷ (b, y) ∷ (c, z) ∷ (d, w) ∷ [])) (Ok r) ≡ Ok new → PastFour a b c d r new
past_four-ok true b c d x y z w r new e = absurd (cc)
past_four-ok false true c d x y z w r new e = absurd (cc)
past_four-ok false false true d x y z w r new e = absurd (cc)
past_four-ok false false false true x y z w r new e = absurd (cc)
past_four-ok false false false false x y z w r new e = record { first = refl; second = refl; third = refl; fourth = refl; is = cc }

pub store_at-ok : (m new : Memory) (p : Ptr) (width : ℕ) (v : Value) → store_at m p width v ≡ Ok new → PastFour (is_gone m p) (is_outside m p width) (is_misaligned p width) (is_read_only m p) (put_row m p (cells_of width v)) new
unfolding store_at
store_at-ok m new p width v e = past_four-ok (is_gone m p) (is_outside m p width) (is_misaligned p width) (is_read_only m p) NoObject Outside Misaligned ReadOnly (put_row m p (cells_of width v)) new e

pub copy_at-ok : (m new : Memory) (to from : Ptr) (size align : ℕ) → copy_at m to from size align ≡ Ok new → PastFour (is_gone m to || is_gone m from) (is_outside m to size || is_outside m from size || overlaps to from size) (is_misaligned to align || is_misaligned from align) (is_read_only m to) (put_row m to (row_at m from size)) new
unfolding copy_at
copy_at-ok m new to from size align e = past_four-ok (is_gone m to || is_gone m from) (is_outside m to size || is_outside m from size || overlaps to from size) (is_misaligned to align || is_misaligned from align) (is_read_only m to) NoObject Outside Misaligned ReadOnly (put_row m to (row_at m from size)) new e

pub init_at-ok : (m new : Memory) (p : Ptr) (values : List Value) → init_at m p values ≡ Ok new → PastTwo (is_gone m p) (is_outside m p (length values)) (put_row m p (map byte_of values)) new
unfolding init_at
init_at-ok m new p values e = past_two-ok (is_gone m p) (is_outside m p (length values)) NoObject Outside (put_row m p (map byte_of values)) new e

-- a row that may be written: it is empty, or lies within its object
abbrev pub MayStand : Memory → Ptr → List Cell → Type 0
MayStand m p row = (length row ≡ 0) ⊎ (place_of p.offset + length row ≤ length (object_at m p.object).cells)

pub length-with_row_there : (xs row : List Cell) (at : ℕ) → (length row ≡ 0) ⊎ (at + length row ≤ length xs) → length (with_row xs at row) ≡ length xs
length-with_row_there xs row at (inl none) = ap (λ l. length (with_row xs at l)) (nil_from_length row none) ∙ ap length (with_row-none xs at)
length-with_row_there xs row at (inr within) = length-with_row xs row at within

pub outside-stands : (m : Memory) (p : Ptr) (row : List Cell) (size : ℕ) → length row ≡ size → is_outside m p size ≡ false → MayStand m p row
outside-stands m p row size len within = elim (cases_eq size 0) [ inl none ↦ inl (len ∙ none) | inr some ↦ inr (rest some) ]
  where
    rest : size ≢ 0 → place_of p.offset + length row ≤ length (object_at m p.object).cells
    rest some = let positive : 0 < size = omega arith in let h : place_of p.offset + size ≤ length (object_at m p.object).cells = inside m p size (object_at m p.object) (place_of p.offset) refl refl positive within in omega arith

module _ (m : Memory) (p : Ptr) (row : List Cell) (live : is_gone m p ≡ false) (stands : MayStand m p row) where
  put : Object
  put = record { live = (object_at m p.object).live; writable = (object_at m p.object).writable; cells = with_row (object_at m p.object).cells (place_of p.offset) row }

  -- the object itself
  pub object-here : object_at (put_row m p row) p.object ≡ record { live = (object_at m p.object).live; writable = (object_at m p.object).writable; cells = with_row (object_at m p.object).cells (place_of p.offset) row }
  object-here = get_or-set_same m p.object _ no_object (gone-within m p live)

  pub object-other : (k : ℕ) → k ≢ p.object → object_at (put_row m p row) k ≡ object_at m k
  object-other k ne = get_or-set_other m p.object k _ no_object ne

  pub changes_cells : ChangesCells m (put_row m p row) p.object
  changes_cells = record {
    count = length-set m p.object _;
    live = ap (λ (x : Object). x.live) object-here;
    writable = ap (λ (x : Object). x.writable) object-here;
    size = ap (λ (x : Object). length x.cells) object-here ∙ length-with_row_there (object_at m p.object).cells row (place_of p.offset) stands;
    others = object-other;
  }

  pub row_at-here : row_at (put_row m p row) p (length row) ≡ row
  row_at-here = ap (λ (x : Object). take (length row) (drop (place_of p.offset) x.cells)) object-here ∙ back stands
    where
      back : MayStand m p row → take (length row) (drop (place_of p.offset) (with_row (object_at m p.object).cells (place_of p.offset) row)) ≡ row
      back (inl none) = ap (λ n. take n (drop (place_of p.offset) (with_row (object_at m p.object).cells (place_of p.offset) row))) none ∙ sym (nil_from_length row none)
      back (inr within) = take-drop-with_row (object_at m p.object).cells row (place_of p.offset) within

-- a load where the tests and the cells are as before
pub load_at-same : (m n : Memory) (q : Ptr) (width : ℕ) (pointer : Bool) → is_gone n q ≡ is_gone m q → is_outside n q width ≡ is_outside m q width → row_at n q width ≡ row_at m q width → load_at n q width pointer ≡ load_at m q width pointer
unfolding load_at
load_at-same m n q width pointer gone outside cells =
    ap (λ b. fault_or (first_fault ((b, NoObject) ∷ (is_outside n q width, Outside) ∷ (is_misaligned q width, Misaligned) ∷ [])) (value_or_fault pointer (row_at n q width))) gone
    ∙ ap (λ b. fault_or (first_fault ((is_gone m q, NoObject) ∷ (b, Outside) ∷ (is_misaligned q width, Misaligned) ∷ [])) (value_or_fault pointer (row_at n q width))) outside
    ∙ ap (λ l. fault_or (first_fault ((is_gone m q, NoObject) ∷ (is_outside m q width, Outside) ∷ (is_misaligned q width, Misaligned) ∷ [])) (value_or_fault pointer l)) cells

module _ (m new : Memory) (id : ℕ) (changes : ChangesCells m new id) where
  pub live-kept : (k : ℕ) → (object_at new k).live ≡ (object_at m k).live
  live-kept k = elim (cases_eq k id) [ inl e ↦ subst (λ j. (object_at new j).live ≡ (object_at m j).live) (sym e) changes.live | inr ne ↦ ap (λ (x : Object). x.live) (changes.others k ne) ]

  pub size-kept : (k : ℕ) → length (object_at new k).cells ≡ length (object_at m k).cells
  size-kept k = elim (cases_eq k id) [ inl e ↦ subst (λ j. length (object_at new j).cells ≡ length (object_at m j).cells) (sym e) changes.size | inr ne ↦ ap (λ (x : Object). length x.cells) (changes.others k ne) ]

  pub writable-kept : (k : ℕ) → (object_at new k).writable ≡ (object_at m k).writable
  writable-kept k = elim (cases_eq k id) [ inl e ↦ subst (λ j. (object_at new j).writable ≡ (object_at m j).writable) (sym e) changes.writable | inr ne ↦ ap (λ (x : Object). x.writable) (changes.others k ne) ]

  pub gone-kept : (q : Ptr) → is_gone new q ≡ is_gone m q
  gone-kept q = ap not (live-kept q.object)

  pub outside-kept : (q : Ptr) (size : ℕ) → is_outside new q size ≡ is_outside m q size
  outside-kept q size = ap (λ n. nat_lt 0 size && not (is_within q.offset size n)) (size-kept q.object)

module _ (m : Memory) (p : Ptr) (row : List Cell) (live : is_gone m p ≡ false) (stands : MayStand m p row) where
  pub row_at-apart : (q : Ptr) (other : ℕ) → Apart p (length row) q other → row_at (put_row m p row) q other ≡ row_at m q other
  row_at-apart q other (inl ne) = ap (λ (x : Object). take other (drop (place_of q.offset) x.cells)) (object-other m p row live stands q.object (λ e. ne (sym e)))
  row_at-apart q other (inr apart) = elim (cases_eq q.object p.object) [ inl e ↦ here e stands | inr ne ↦ ap (λ (x : Object). take other (drop (place_of q.offset) x.cells)) (object-other m p row live stands q.object ne) ]
    where
      swap : (place_of p.offset + length row ≤ place_of q.offset) ⊎ (place_of q.offset + other ≤ place_of p.offset) → (place_of q.offset + other ≤ place_of p.offset) ⊎ (place_of p.offset + length row ≤ place_of q.offset)
      swap (inl a) = inr a
      swap (inr b) = inl b

      rows : MayStand m p row → take other (drop (place_of q.offset) (with_row (object_at m p.object).cells (place_of p.offset) row)) ≡ take other (drop (place_of q.offset) (object_at m p.object).cells)
      rows (inl none) = ap (λ l. take other (drop (place_of q.offset) (with_row (object_at m p.object).cells (place_of p.offset) l))) (nil_from_length row none) ∙ ap (λ l. take other (drop (place_of q.offset) l)) (with_row-none (object_at m p.object).cells (place_of p.offset))
      rows (inr within) = take-drop-with_row_apart (object_at m p.object).cells row (place_of p.offset) (place_of q.offset) other within (swap apart)

      here : q.object ≡ p.object → MayStand m p row → row_at (put_row m p row) q other ≡ row_at m q other
      here e s =
          ap (λ j. take other (drop (place_of q.offset) (object_at (put_row m p row) j).cells)) e
          ∙ ap (λ (x : Object). take other (drop (place_of q.offset) x.cells)) (object-here m p row live stands)
          ∙ rows s
          ∙ ap (λ j. take other (drop (place_of q.offset) (object_at m j).cells)) (sym e)

  pub load_at-apart : (q : Ptr) (other : ℕ) (pointer : Bool) → Apart p (length row) q other → load_at (put_row m p row) q other pointer ≡ load_at m q other pointer
  load_at-apart q other pointer apart =
      let changes = changes_cells m p row live stands in
      load_at-same m (put_row m p row) q other pointer (gone-kept m _ p.object changes q) (outside-kept m _ p.object changes q other) (row_at-apart q other apart)

pub length-bytes_of : (width n : ℕ) → length (bytes_of width n) ≡ width
unfolding bytes_of
length-bytes_of zero n = refl
length-bytes_of (suc width) n = ap suc (length-bytes_of width (n / 256))

pub length-cells_of : (width : ℕ) (v : Value) → IsStorable width v → length (cells_of width v) ≡ width
unfolding cells_of parts_of
length-cells_of width (Word n) h = length-bytes_of width n
length-cells_of width (Address p) h = sym h
length-cells_of width Unset h = absurd h

-- a row that can be put has its place
pub can-stands : (m : Memory) (p : Ptr) (row : List Cell) → CanPut m p row → MayStand m p row
can-stands m p row can = outside-stands m p row (length row) refl can.within

pub put_changes : (m : Memory) (p : Ptr) (row : List Cell) → CanPut m p row → ChangesCells m (put_row m p row) p.object
put_changes m p row can = changes_cells m p row can.live (can-stands m p row can)

pub put_gives : (m : Memory) (p : Ptr) (row : List Cell) → CanPut m p row → row_at (put_row m p row) p (length row) ≡ row
put_gives m p row can = row_at-here m p row can.live (can-stands m p row can)

pub put_keeps : (m : Memory) (p q : Ptr) (row : List Cell) (other : ℕ) → CanPut m p row → Apart p (length row) q other → row_at (put_row m p row) q other ≡ row_at m q other
put_keeps m p q row other can apart = row_at-apart m p row can.live (can-stands m p row can) q other apart

pub put_keeps_loads : (m : Memory) (p q : Ptr) (row : List Cell) (other : ℕ) (pointer : Bool) → CanPut m p row → Apart p (length row) q other → load_at (put_row m p row) q other pointer ≡ load_at m q other pointer
put_keeps_loads m p q row other pointer can apart = load_at-apart m p row can.live (can-stands m p row can) q other pointer apart

-- what puts a row of so many cells
put_is : (m new : Memory) (p : Ptr) (size : ℕ) (row : List Cell) → is_gone m p ≡ false → is_outside m p size ≡ false → length row ≡ size → put_row m p row ≡ new → IsPut m new p size row
put_is m new p size row live within len is = record { can = record { live = live; within = ap (is_outside m p) len ∙ within }; size_is = len; is = sym is }

pub store_puts : (m new : Memory) (p : Ptr) (width : ℕ) (v : Value) → IsWidth width → IsStorable width v → store_at m p width v ≡ Ok new → IsPut m new p width (cells_of width v)
store_puts m new p width v wide fit e =
    let f = store_at-ok m new p width v e in put_is m new p width (cells_of width v) f.first f.second (length-cells_of width v fit) f.is

pub init_puts : (m new : Memory) (p : Ptr) (values : List Value) → init_at m p values ≡ Ok new → IsPut m new p (length values) (map byte_of values)
init_puts m new p values e =
    let f = init_at-ok m new p values e in put_is m new p (length values) (map byte_of values) f.first f.second (length-map values byte_of) f.is

-- none of three tests
none_left : (a b : Bool) → (a || b) ≡ false → (a ≡ false) × (b ≡ false)
none_left true b e = absurd (cc)
none_left false b e = (refl, e)

-- the source of a copy has as many cells as are copied
pub length-row_at : (m : Memory) (p : Ptr) (size : ℕ) → is_outside m p size ≡ false → length (row_at m p size) ≡ size
length-row_at m p size within = elim (cases_eq size 0) [ inl none ↦ ap (λ n. length (row_at m p n)) none ∙ sym none | inr some ↦ rest some ]
  where
    rest : size ≢ 0 → length (row_at m p size) ≡ size
    rest some =
        let positive : 0 < size = omega arith in
        length-row (object_at m p.object).cells (place_of p.offset) size (inside m p size (object_at m p.object) (place_of p.offset) refl refl positive within)

pub record CanBeCopied (m new : Memory) (to from : Ptr) (size : ℕ) : Type 0 where
  pub live : is_gone m to ≡ false
  pub within : is_outside m to size ≡ false
  pub stands : MayStand m to (row_at m from size)
  pub len : length (row_at m from size) ≡ size
  pub is : put_row m to (row_at m from size) ≡ new

pub copy_is : (m new : Memory) (to from : Ptr) (size align : ℕ) → copy_at m to from size align ≡ Ok new → CanBeCopied m new to from size
copy_is m new to from size align e =
    let f = copy_at-ok m new to from size align e in
    let gone = none_left (is_gone m to) (is_gone m from) f.first in
    let out = none_left (is_outside m to size || is_outside m from size) (overlaps to from size) f.second in
    let outs = none_left (is_outside m to size) (is_outside m from size) out.0 in
    let len : length (row_at m from size) ≡ size = length-row_at m from size outs.1 in
    record { live = gone.0; within = outs.0; stands = outside-stands m to (row_at m from size) size len outs.0; len = len; is = f.is }

pub copy_changes : (m new : Memory) (to from : Ptr) (size align : ℕ) → copy_at m to from size align ≡ Ok new → ChangesCells m new to.object
copy_changes m new to from size align e =
    let f = copy_is m new to from size align e in subst (λ n. ChangesCells m n to.object) f.is (changes_cells m to (row_at m from size) f.live f.stands)

pub copy_puts : (m new : Memory) (to from : Ptr) (size align : ℕ) → copy_at m to from size align ≡ Ok new → IsPut m new to size (row_at m from size)
copy_puts m new to from size align e =
    let f = copy_is m new to from size align e in put_is m new to size (row_at m from size) f.live f.within f.len f.is

pub copy_gives : (m new : Memory) (to from : Ptr) (size align : ℕ) → copy_at m to from size align ≡ Ok new → row_at new to size ≡ row_at m from size
copy_gives m new to from size align e =
    let f = copy_is m new to from size align e in
    ap (λ n. row_at n to size) (sym f.is) ∙ ap (λ n. row_at (put_row m to (row_at m from size)) to n) (sym f.len) ∙ row_at-here m to (row_at m from size) f.live f.stands

-- the objects and ranges of a copy
pub record CopyParts (m : Memory) (to from : Ptr) (size : ℕ) : Type 0 where
  pub to_live : is_gone m to ≡ false
  pub from_live : is_gone m from ≡ false
  pub target : is_outside m to size ≡ false
  pub source : is_outside m from size ≡ false

pub copy_parts : (m new : Memory) (to from : Ptr) (size align : ℕ) → copy_at m to from size align ≡ Ok new → CopyParts m to from size
copy_parts m new to from size align e =
    let f = copy_at-ok m new to from size align e in
    let gone = none_left (is_gone m to) (is_gone m from) f.first in
    let out = none_left (is_outside m to size || is_outside m from size) (overlaps to from size) f.second in
    let outs = none_left (is_outside m to size) (is_outside m from size) out.0 in
    record { to_live = gone.0; from_live = gone.1; target = outs.0; source = outs.1 }

-- the faults of accesses where one object has other cells
pub changes_keep_faults : (m new : Memory) (id : ℕ) → ChangesCells m new id → SameFaults m new
changes_keep_faults m new id changes = record {
  range = λ q size.
      ap (λ b. first_fault ((b, NoObject) ∷ (is_outside new q size, Outside) ∷ [])) (gone-kept m new id changes q)
      ∙ ap (λ b. first_fault ((is_gone m q, NoObject) ∷ (b, Outside) ∷ [])) (outside-kept m new id changes q size);
  reading = λ q size align.
      ap (λ b. first_fault ((b, NoObject) ∷ (is_outside new q size, Outside) ∷ (is_misaligned q align, Misaligned) ∷ [])) (gone-kept m new id changes q)
      ∙ ap (λ b. first_fault ((is_gone m q, NoObject) ∷ (b, Outside) ∷ (is_misaligned q align, Misaligned) ∷ [])) (outside-kept m new id changes q size);
  writing = λ q size align.
      ap (λ b. first_fault ((b, NoObject) ∷ (is_outside new q size, Outside) ∷ (is_misaligned q align, Misaligned) ∷ (is_read_only new q, ReadOnly) ∷ [])) (gone-kept m new id changes q)
      ∙ ap (λ b. first_fault ((is_gone m q, NoObject) ∷ (b, Outside) ∷ (is_misaligned q align, Misaligned) ∷ (is_read_only new q, ReadOnly) ∷ [])) (outside-kept m new id changes q size)
      ∙ ap (λ b. first_fault ((is_gone m q, NoObject) ∷ (is_outside m q size, Outside) ∷ (is_misaligned q align, Misaligned) ∷ (b, ReadOnly) ∷ [])) (ap not (writable-kept m new id changes q.object));
}

-- a load that gave a value
free_load : (f : Option MemFault) (r : Result Value MemFault) (v : Value) → fault_or f r ≡ Ok v → (f ≡ None) × (r ≡ Ok v)
free_load None r v e = (refl, e)
free_load (Some fault) r v e = absurd (cc)

pub load_tells : (m : Memory) (p : Ptr) (width : ℕ) (pointer : Bool) (v : Value) → load_at m p width pointer ≡ Ok v → IsLoad m p width pointer v
unfolding load_at
load_tells m p width pointer v e =
    let h = free_load (read_fault m p width width) (value_or_fault pointer (row_at m p width)) v e in record { free = h.0; value = h.1 }
