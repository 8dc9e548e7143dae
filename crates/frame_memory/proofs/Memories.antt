-- Accesses to objects, and the bytes at their addresses.
use Rattle.std.proofs.Common.{◌≡◌, ◌≢◌, ℕ, ◌+◌, ◌%◌, ◌<◌, ◌≤◌, ◌⊎◌, Bool, true, false, List, [], ◌∷◌, ◌++◌, length, take, drop, Option, Some, None, Ok, refl, sym, ap, ◌∙◌, subst, arith, inl, inr, ⊎_elim}
use Rattle.std.specs.Prelude.{◌==◌, pos, option_map}
use Rattle.std.proofs.lemmas.Bool.{cases_eq, cases_lt, eqb-true, not-false, or_parts}
use Rattle.std.proofs.lemmas.List.{length-take-le}
use Rattle.mem_model.specs.declared.value.Ptr.{Ptr}
use Rattle.mem_model.specs.declared.value.Value.{Value}
use Rattle.mem_model.specs.declared.value.Value.TheVariants.{Word}
use Rattle.mem_model.specs.declared.value.Cell.{Cell}
use Rattle.mem_model.specs.declared.value.MemFault.TheVariants.{NoObject, Outside, Misaligned}
use Rattle.mem_model.specs.Cells.{number_of, value_of, cells_of, with_row}
use Rattle.mem_model.specs.Memory.{Memory, Object, object_at, place_of, is_gone, is_outside, is_misaligned, read_fault, row_at, put_row, load_at, store_at, copy_at, IsWidth, IsStorable}
use Rattle.mem_model.specs.Laws.{CanPut}
use Rattle.mem_model.proofs.Accesses.{inside}
use Rattle.mem_model.proofs.Changes.{load_tells, store_at-ok, copy_at-ok, copy_puts, store_puts, copy_parts, can-stands, changes_cells, object-here, object-other, length-with_row_there}
use Rattle.mem_model.proofs.Faults.{none_first}
use Rattle.mem_model.proofs.RelatedRows.{value_or_fault-some}
use Rattle.mem_model.proofs.RowLaws.{length-row}
use Rattle.mem_model.specs.Bytes.{AreBytes}
use Rattle.frame_memory.specs.Bytes.{Bytes, bytes_from, put_bytes, low_bytes, number_from}
use Rattle.frame_memory.specs.Relation.{Extent, Extents, IsAddressOf, ValueIs, CellsAre, CellsAreAt, Owners, OfObject, ObjectIs, MemoryIs}
use Rattle.frame_memory.specs.Laws.{IsRowThere, IsLoadAt, IsStoreAt, IsCopyAt}
use Rattle.frame_memory.proofs.Numbers.{put-out, put-small, low_bytes-are, bytes_from-are}
use Rattle.frame_memory.proofs.Rows.{at-join, at-take, at-drop, at-cells, at-kept, at-put, cells-length}
use Rattle.frame_memory.proofs.Values.{numbers_are_read, pointers_are_read, values_have_bytes}

-- a multiple of a width behind a multiple of 8
pub aligned_sum : (base at align : ℕ) → IsWidth align → base % 8 ≡ 0 → at % align ≡ 0 → (base + at) % align ≡ 0
aligned_sum base at align (inl one) b h = subst (λ k. (base + at) % k ≡ 0) (sym one) (omega arith)
aligned_sum base at align (inr (inl two)) b h =
    let g : at % 2 ≡ 0 = subst (λ k. at % k ≡ 0) two h in subst (λ k. (base + at) % k ≡ 0) (sym two) (omega arith)
aligned_sum base at align (inr (inr (inl four))) b h =
    let g : at % 4 ≡ 0 = subst (λ k. at % k ≡ 0) four h in subst (λ k. (base + at) % k ≡ 0) (sym four) (omega arith)
aligned_sum base at align (inr (inr (inr eight))) b h =
    let g : at % 8 ≡ 0 = subst (λ k. at % k ≡ 0) eight h in subst (λ k. (base + at) % k ≡ 0) (sym eight) (omega arith)

-- an address in a live object
pub record IsWithin (xs : Extents) (memory : Memory) (owner : Owners) (m : Bytes) (p : Ptr) (a : ℕ) : Type 0 where
  pub object : ObjectIs xs (object_at memory p.object) owner m p.object
  pub at : ℕ
  pub offset : p.offset ≡ pos at
  pub size : at ≤ length (object_at memory p.object).cells
  pub place : a ≡ object.extent.base + at

pub is_within_object : (xs : Extents) (memory : Memory) (owner : Owners) (m : Bytes) → MemoryIs xs memory owner m → (p : Ptr) (a : ℕ) → IsAddressOf xs p a → (object_at memory p.object).live ≡ true → IsWithin xs memory owner m p a
is_within_object xs memory owner m mem p a s live =
    let x = mem.each p.object live in
    let e : Some s.extent ≡ Some x.extent = sym s.made ∙ x.made in
    let same : s.extent ≡ x.extent = cc in
    let base : s.extent.base ≡ x.extent.base = ap (λ (z : Extent). z.base) same in
    let size : s.extent.size ≡ x.extent.size = ap (λ (z : Extent). z.size) same in
    let within = s.within in
    record { object = x; at = s.at; offset = s.offset; size = omega (arith, x.size, size, within); place = omega (arith, s.place, base) }

module _ (xs : Extents) (memory : Memory) (owner : Owners) (m : Bytes) (p : Ptr) (a : ℕ) (w : IsWithin xs memory owner m p a) where
  -- a range that is not outside
  range-fits : (size : ℕ) → is_outside memory p size ≡ false → w.at + size ≤ length (object_at memory p.object).cells
  range-fits size within = ⊎_elim
      (λ (none : size ≡ 0). let le = w.size in omega (arith, none, le))
      (λ some. let positive : 0 < size = omega arith in inside memory p size (object_at memory p.object) w.at refl (sym (ap place_of w.offset)) positive within)
      (cases_eq size 0)

  range-owned : (size : ℕ) → is_outside memory p size ≡ false → (i : ℕ) → i < size → owner (a + i) ≡ OfObject p.object
  range-owned size within i lt =
      let fits = range-fits size within in
      let e = w.object.size in
      w.object.own (a + i) (omega (arith, w.place)) (omega (arith, w.place, fits, e))

  range-aligned : (align : ℕ) → IsWidth align → is_misaligned p align ≡ false → a % align ≡ 0
  range-aligned align wide even =
      let h : place_of p.offset % align ≡ 0 = eqb-true (place_of p.offset % align) 0 (not-false (place_of p.offset % align == 0) even) in
      let g : w.at % align ≡ 0 = subst (λ z. place_of z % align ≡ 0) w.offset h in
      subst (λ k. k % align ≡ 0) (sym w.place) (aligned_sum w.object.extent.base w.at align wide w.object.sound.aligned g)

  row-cells : (size : ℕ) → is_outside memory p size ≡ false → CellsAre xs (row_at memory p size) (bytes_from m a size)
  row-cells size within =
      let fits = range-fits size within in
      let cells = (object_at memory p.object).cells in
      let le : w.at ≤ length cells = w.size in
      let there : CellsAreAt xs m (w.object.extent.base + w.at) (take size (drop w.at cells)) = at-take xs m (w.object.extent.base + w.at) size (drop w.at cells) (at-drop xs m w.object.extent.base w.at cells le w.object.cells) in
      let len : length (take size (drop w.at cells)) ≡ size = length-row cells w.at size fits in
      let row : take size (drop w.at cells) ≡ row_at memory p size = ap (λ z. take size (drop (place_of z) cells)) (sym w.offset) in
      subst (λ c. CellsAre xs c (bytes_from m a size)) row
      (subst (λ k. CellsAre xs (take size (drop w.at cells)) (bytes_from m k size)) (sym w.place)
      (subst (λ k. CellsAre xs (take size (drop w.at cells)) (bytes_from m (w.object.extent.base + w.at) k)) len (at-cells xs m (w.object.extent.base + w.at) (take size (drop w.at cells)) there)))

module _ (xs : Extents) (memory : Memory) (owner : Owners) (m : Bytes) (mem : MemoryIs xs memory owner m) where
  -- ---- reading

  pub rows_are_there : (p : Ptr) (a size align : ℕ) → IsAddressOf xs p a → IsWidth align → read_fault memory p size align ≡ None → IsRowThere xs memory owner m p a size align
  rows_are_there p a size align s wide free =
      let one = none_first (is_gone memory p) NoObject ((is_outside memory p size, Outside) ∷ (is_misaligned p align, Misaligned) ∷ []) free in
      let two = none_first (is_outside memory p size) Outside ((is_misaligned p align, Misaligned) ∷ []) one.1 in
      let three = none_first (is_misaligned p align) Misaligned [] two.1 in
      let w = is_within_object xs memory owner m mem p a s (not-false (object_at memory p.object).live one.0) in
      record {
        range = record { aligned = range-aligned xs memory owner m p a w align wide three.0; owned = range-owned xs memory owner m p a w size two.0 };
        cells = row-cells xs memory owner m p a w size two.0;
      }

  word-some : (o : Option ℕ) (v : Value) → option_map Word o ≡ Some v → (n : ℕ) × (o ≡ Some n) × (v ≡ Word n)
  word-some None v e = absurd (cc)
  word-some (Some n) v e = (n, refl, cc)

  value-read : (pointer : Bool) (cs : List Cell) (bs : List ℕ) (v : Value) → CellsAre xs cs bs → value_of pointer cs ≡ Some v → ValueIs xs v (number_from bs)
  value-read true cs bs v h e = pointers_are_read xs cs bs v h e
  value-read false cs bs v h e =
      let is = word-some (number_of cs) v e in
      subst (λ x. ValueIs xs x (number_from bs)) (sym is.2) (numbers_are_read xs cs bs is.0 h is.1)

  pub loads_are_read : (p : Ptr) (a width : ℕ) (pointer : Bool) (v : Value) → IsAddressOf xs p a → IsWidth width → load_at memory p width pointer ≡ Ok v → IsLoadAt xs owner m p a width v
  loads_are_read p a width pointer v s wide e =
      let told = load_tells memory p width pointer v e in
      let row = rows_are_there p a width width s wide told.free in
      record { range = row.range; value = value-read pointer (row_at memory p width) (bytes_from m a width) v row.cells (value_or_fault-some pointer (row_at memory p width) v told.value) }

  -- ---- writing

  module _ (p : Ptr) (a : ℕ) (row : List Cell) (bs : List ℕ) (s : IsAddressOf xs p a) (cells : CellsAre xs row bs) (are : AreBytes bs) (can : CanPut memory p row) where
    lives : (object_at memory p.object).live ≡ true
    lives = not-false (object_at memory p.object).live can.live

    w : IsWithin xs memory owner m p a
    w = is_within_object xs memory owner m mem p a s lives

    old : List Cell
    old = (object_at memory p.object).cells

    len : length bs ≡ length row
    len = cells-length xs row bs cells

    fits : w.at + length row ≤ length old
    unfolding old
    fits = range-fits xs memory owner m p a w (length row) can.within

    k : Bytes
    k = put_bytes m a bs

    base : ℕ
    base = w.object.extent.base

    before : CellsAreAt xs k base (take w.at old)
    unfolding k base old
    before =
        let front : length (take w.at old) ≡ w.at = length-take-le w.at old w.size in
        at-kept xs m k base (take w.at old) (λ y from to. put-out bs m a y (inl (omega (arith, w.place, front)))) (at-take xs m base w.at old w.object.cells)

    behind : CellsAreAt xs k (base + (w.at + length row)) (drop (w.at + length row) old)
    unfolding k base old
    behind =
        let n = len in
        at-kept xs m k (base + (w.at + length row)) (drop (w.at + length row) old) (λ y from to. put-out bs m a y (inr (omega (arith, w.place, n)))) (at-drop xs m base (w.at + length row) old fits w.object.cells)

    new-cells : CellsAreAt xs k base (with_row old w.at row)
    unfolding k base old
    new-cells =
        let front : length (take w.at old) ≡ w.at = length-take-le w.at old w.size in
        let e : base + (w.at + length row) ≡ a + length row = omega (arith, w.place) in
        let g : a ≡ base + length (take w.at old) = omega (arith, w.place, front) in
        let tail = at-join xs k a row (drop (w.at + length row) old) (at-put xs row bs m a cells) (subst (λ j. CellsAreAt xs k j (drop (w.at + length row) old)) e behind) in
        at-join xs k base (take w.at old) (row ++ drop (w.at + length row) old) before (subst (λ j. CellsAreAt xs k j (row ++ drop (w.at + length row) old)) g tail)

    here : object_at (put_row memory p row) p.object ≡ record { live = (object_at memory p.object).live; writable = (object_at memory p.object).writable; cells = with_row (object_at memory p.object).cells (place_of p.offset) row }
    here = object-here memory p row can.live (can-stands memory p row can)

    changed : ObjectIs xs (record { live = (object_at memory p.object).live; writable = (object_at memory p.object).writable; cells = with_row (object_at memory p.object).cells (place_of p.offset) row }) owner k p.object
    unfolding base old
    changed = record {
      extent = w.object.extent;
      made = w.object.made;
      sound = w.object.sound;
      size = ap (λ z. length (with_row old (place_of z) row)) w.offset ∙ length-with_row_there old row w.at (inr fits) ∙ w.object.size;
      cells = subst (λ z. CellsAreAt xs k base (with_row old (place_of z) row)) (sym w.offset) new-cells;
      own = w.object.own;
    }

    -- another object is as before
    elsewhere : (o : ℕ) → o ≢ p.object → (object_at memory o).live ≡ true → ObjectIs xs (object_at memory o) owner k o
    unfolding k base old
    elsewhere o ne live =
        let x = mem.each o live in
        record {
          extent = x.extent;
          made = x.made;
          sound = x.sound;
          size = x.size;
          cells = at-kept xs m k x.extent.base (object_at memory o).cells (λ y from to. put-out bs m a y (apart y from (omega (arith, x.size)))) x.cells;
          own = x.own;
        }
      where
        apart : (y : ℕ) → (mem.each o live).extent.base ≤ y → y < (mem.each o live).extent.base + (mem.each o live).extent.size → (y < a) ⊎ (a + length bs ≤ y)
        apart y from to = ⊎_elim inl (λ above. ⊎_elim (λ below. absurd (clash above below)) inr (cases_lt y (a + length bs))) (cases_lt y a)
          where
            clash : a ≤ y → y < a + length bs → ⊥
            clash above below =
                let n = len in
                let size = w.object.size in
                let f = fits in
                let mine : owner y ≡ OfObject p.object = w.object.own y (omega (arith, w.place)) (omega (arith, w.place, n, size, f)) in
                let e : OfObject o ≡ OfObject p.object = sym ((mem.each o live).own y from to) ∙ mine in
                ne (cc)

    pub rows_are_put : MemoryIs xs (put_row memory p row) owner (put_bytes m a bs)
    unfolding k
    rows_are_put = record {
      each = λ o live. ⊎_elim
          (λ (e : o ≡ p.object). subst (λ j. ObjectIs xs (object_at (put_row memory p row) j) owner k j) (sym e) (subst (λ z. ObjectIs xs z owner k p.object) (sym here) changed))
          (λ ne. let same = object-other memory p row can.live (can-stands memory p row can) o ne in
          subst (λ z. ObjectIs xs z owner k o) (sym same) (elsewhere o ne (ap (λ (z : Object). z.live) (sym same) ∙ live)))
          (cases_eq o p.object);
      count = mem.count ∙ sym (changes_cells memory p row can.live (can-stands memory p row can)).count;
      bytes = put-small bs m a are mem.bytes;
    }

  pub stores_are_put : (new : Memory) (p : Ptr) (a width : ℕ) (v : Value) (x : ℕ) → IsAddressOf xs p a → IsWidth width → IsStorable width v → ValueIs xs v x → store_at memory p width v ≡ Ok new → IsStoreAt xs new owner m p a width x
  stores_are_put new p a width v x s wide fit is e =
      let ok = store_at-ok memory new p width v e in
      let put = store_puts memory new p width v wide fit e in
      let w = is_within_object xs memory owner m mem p a s (not-false (object_at memory p.object).live ok.first) in
      record {
        range = record { aligned = range-aligned xs memory owner m p a w width wide ok.third; owned = range-owned xs memory owner m p a w width ok.second };
        memory = subst (λ z. MemoryIs xs z owner (put_bytes m a (low_bytes width x))) (sym put.is) (rows_are_put p a (cells_of width v) (low_bytes width x) s (values_have_bytes xs width v x is fit) (low_bytes-are width x) put.can);
      }

  pub copies_are_put : (new : Memory) (to from : Ptr) (a b size align : ℕ) → IsAddressOf xs to a → IsAddressOf xs from b → IsWidth align → copy_at memory to from size align ≡ Ok new → IsCopyAt xs new owner m to from a b size align
  copies_are_put new to from a b size align s t wide e =
      let ok = copy_at-ok memory new to from size align e in
      let put = copy_puts memory new to from size align e in
      let parts = copy_parts memory new to from size align e in
      let even = or_parts (is_misaligned to align) (is_misaligned from align) ok.third in
      let v = is_within_object xs memory owner m mem to a s (not-false (object_at memory to.object).live parts.to_live) in
      let w = is_within_object xs memory owner m mem from b t (not-false (object_at memory from.object).live parts.from_live) in
      record {
        target = record { aligned = range-aligned xs memory owner m to a v align wide even.0; owned = range-owned xs memory owner m to a v size parts.target };
        source = record { aligned = range-aligned xs memory owner m from b w align wide even.1; owned = range-owned xs memory owner m from b w size parts.source };
        memory = subst (λ z. MemoryIs xs z owner (put_bytes m a (bytes_from m b size))) (sym put.is) (rows_are_put to a (row_at memory from size) (bytes_from m b size) s (row-cells xs memory owner m from b w size parts.source) (bytes_from-are m mem.bytes b size) put.can);
      }
