-- The bytes of the data stand for the objects of static storage.
use Rattle.std.proofs.Common.{◌≡◌, ◌≢◌, ℕ, zero, suc, ◌+◌, ◌-◌, ◌%◌, ◌<◌, ◌≤◌, Bool, true, false, List, [], ◌∷◌, ◌++◌, Option, Some, None, length, map, replicate, if◌then◌else◌, refl, sym, ap, ◌∙◌, subst, arith, ⊎_elim}
use Rattle.std.specs.Prelude.{nat_le, nat_lt, ◌&&◌, slice_get, slice_index}
use Rattle.std.proofs.lemmas.Bool.{cases_lt, le-leb, leb-true, ltb-true, lt-ltb, le-ltb, cond-true, cond-false, and_parts}
use Rattle.alpha_isa.specs.Program.{Program, data_start, stack_start}
use Rattle.alpha_isa.specs.State.{State}
use Rattle.mem_model.specs.declared.value.Cell as c
use Rattle.mem_model.specs.declared.value.Cell.TheVariants as m
use Rattle.mem_model.specs.Memory.{Object, object_at, no_object}
use Rattle.mem_objects.specs.declared.DataObject.{DataObject}
use Rattle.mem_objects.specs.declared.DataCell.{DataCell}
use Rattle.mem_objects.specs.declared.DataCell.TheVariants.{Byte, AddressPart}
use Rattle.mem_objects.specs.Layout.{ObjectsLieFrom}
use Rattle.mem_objects.specs.Globals.{Reaches}
use Rattle.mem_objects.specs.Start.{memory_cell, start_object, start_memory}
use Rattle.mem_model.specs.Bytes.{AreBytes}
use Rattle.frame_memory.specs.Bytes.{Bytes, low_bytes}
use Rattle.frame_memory.specs.Relation.{Extents, IsExtent, CellIs, CellsAreAt, OfObject, Nobody, ObjectIs, MemoryIs}
use Rattle.frame_memory.specs.Machine.{is_in_data, is_in_stack, memory_bytes, HasParts}
use Rattle.frame_memory.specs.flat_globals.Globals.{global_offset, cell_byte, AreLaidOut, DataIs, extents_of, owner_from, owner_of}
use Rattle.frame_memory.proofs.FlatGlobals.Lists.{get-below, stands-at, get-index, get-map, map-size, replicate-size, append-size, get-first, get-second, get-same, byte-small}

-- ---- where objects lie

record Lies (end : ℕ) (o : DataObject) : Type 0 where
  aligned : o.offset % 8 ≡ 0
  behind : end ≤ o.offset

lies : (globals : List DataObject) (end k : ℕ) (o : DataObject) → ObjectsLieFrom end globals → slice_get globals k ≡ Some o → Lies end o
lies [] end k o h e = absurd (cc)
lies (x ∷ globals) end zero o h e =
    let is : x ≡ o = cc in
    let at = h.0 in
    subst (λ z. Lies end z) is (record { aligned = omega (arith, at); behind = omega (arith, at) })
lies (x ∷ globals) end (suc k) o h e =
    let at = h.0 in
    let l = lies globals (x.offset + x.size) k o h.1 e in
    let from = l.behind in
    record { aligned = l.aligned; behind = omega (arith, at, from) }

-- ---- owners

in-range : (a y e : ℕ) → a ≤ y → y < e → (nat_le a y && nat_lt y e) ≡ true
in-range a y e le lt = ap (λ t. t && nat_lt y e) (le-leb a y le) ∙ lt-ltb y e lt

behind-range : (a y e : ℕ) → e ≤ y → (nat_le a y && nat_lt y e) ≡ false
behind-range a y e le = ap (λ t. nat_le a y && t) (le-ltb y e le) ∙ none (nat_le a y)
  where
    none : (t : Bool) → (t && false) ≡ false
    none true = refl
    none false = refl

owns : (start n : ℕ) (globals : List DataObject) (end k : ℕ) (o : DataObject) → ObjectsLieFrom end globals → slice_get globals k ≡ Some o → (y : ℕ) → start + o.offset ≤ y → y < start + o.offset + o.size → owner_from start n globals y ≡ OfObject (n + k)
owns start n [] end k o h e y from to = absurd (cc)
owns start n (x ∷ globals) end zero o h e y from to =
    let is : x ≡ o = cc in
    let sum : n ≡ n + 0 = omega arith in
    let test = subst (λ (z : DataObject). (nat_le (start + z.offset) y && nat_lt y (start + z.offset + z.size)) ≡ true) (sym is) (in-range (start + o.offset) y (start + o.offset + o.size) from to) in
    cond-true (nat_le (start + x.offset) y && nat_lt y (start + x.offset + x.size)) _ _ test ∙ ap OfObject sum
owns start n (x ∷ globals) end (suc k) o h e y from to =
    let l = lies globals (x.offset + x.size) k o h.1 e in
    let behind = l.behind in
    let sum : suc n + k ≡ n + suc k = omega arith in
    cond-false (nat_le (start + x.offset) y && nat_lt y (start + x.offset + x.size)) _ _ (behind-range (start + x.offset) y (start + x.offset + x.size) (omega (arith, behind, from)))
    ∙ owns start (suc n) globals (x.offset + x.size) k o h.1 e y from to ∙ ap OfObject sum

-- what has an owner lies in an object
record IsOwned (start : ℕ) (globals : List DataObject) (y : ℕ) : Type 0 where
  number : ℕ
  object : DataObject
  is : slice_get globals number ≡ Some object
  from : start + object.offset ≤ y
  to : y < start + object.offset + object.size

owned : (start n : ℕ) (globals : List DataObject) (y : ℕ) → owner_from start n globals y ≢ Nobody → IsOwned start globals y
owned start n [] y ne = absurd (ne refl)
owned start n (x ∷ globals) y ne = by_test (owned start (suc n) globals y) (nat_le (start + x.offset) y && nat_lt y (start + x.offset + x.size)) refl
  where
    by_test : (owner_from start (suc n) globals y ≢ Nobody → IsOwned start globals y) → (t : Bool) → (nat_le (start + x.offset) y && nat_lt y (start + x.offset + x.size)) ≡ t → IsOwned start (x ∷ globals) y
    by_test ih true e =
        let h = and_parts (nat_le (start + x.offset) y) (nat_lt y (start + x.offset + x.size)) e in
        record { number = 0; object = x; is = refl; from = leb-true (start + x.offset) y h.0; to = ltb-true y (start + x.offset + x.size) h.1 }
    by_test ih false e =
        let h = ih (λ f. ne (cond-false (nat_le (start + x.offset) y && nat_lt y (start + x.offset + x.size)) (OfObject n) (owner_from start (suc n) globals y) e ∙ f)) in
        record { number = suc h.number; object = h.object; is = h.is; from = h.from; to = h.to }

pub data_has_owners : (globals : List DataObject) (start : ℕ) (data_bytes : List ℕ) → DataIs globals start data_bytes → (y : ℕ) → owner_of start globals y ≢ Nobody → (start ≤ y) × (y < start + length data_bytes)
data_has_owners globals start data_bytes d y ne =
    let h = owned start 0 globals y ne in
    let within = d.within h.number h.object h.is in
    let from = h.from in
    let to = h.to in
    (omega (arith, from), omega (arith, to, within))

-- ---- the bytes of a machine

pub data-byte : (p : Program) (s : State) (i : ℕ) → i < length s.data_bytes → memory_bytes p s (data_start p + i) ≡ slice_index s.data_bytes i
unfolding memory_bytes
data-byte p s i lt =
    let e : data_start p + i - data_start p ≡ i = omega arith in
    cond-true (is_in_data p s (data_start p + i)) _ _ (in-range (data_start p) (data_start p + i) (data_start p + length s.data_bytes) (omega arith) (omega (arith, lt)))
    ∙ ap (slice_index s.data_bytes) e

if-small : (t : Bool) (a c : ℕ) → a < 256 → c < 256 → (if t then a else c) < 256
if-small true a c h k = h
if-small false a c h k = k

pub bytes-small : (p : Program) (s : State) → AreBytes s.data_bytes → AreBytes s.stack_bytes → (y : ℕ) → memory_bytes p s y < 256
unfolding memory_bytes
bytes-small p s d t y =
    if-small (is_in_data p s y) (slice_index s.data_bytes (y - data_start p)) (if is_in_stack p s y then slice_index s.stack_bytes (y - stack_start p) else 0) (byte-small s.data_bytes (y - data_start p) d)
    (if-small (is_in_stack p s y) (slice_index s.stack_bytes (y - stack_start p)) 0 (byte-small s.stack_bytes (y - stack_start p) t) (omega arith))

-- ---- cells

cells-at : (xs : Extents) (b : Bytes) (cells : List c.Cell) (a : ℕ) → ((j : ℕ) (x : c.Cell) → slice_get cells j ≡ Some x → CellIs xs x (b (a + j))) → CellsAreAt xs b a cells
cells-at xs b [] a h = tt
cells-at xs b (x ∷ cells) a h = (
  (let e : a + 0 ≡ a = omega arith in subst (λ z. CellIs xs x (b z)) e (h 0 x refl)),
  cells-at xs b cells (suc a) (λ j y is. let e : a + suc j ≡ suc a + j = omega arith in subst (λ z. CellIs xs y (b z)) e (h (suc j) y is)),
)

module _ (globals : List DataObject) (p : Program) (s : State) (lawful : AreLaidOut globals) (d : DataIs globals (data_start p) s.data_bytes) where
  abbrev start : ℕ
  start = data_start p

  abbrev xs : Extents
  xs = extents_of (data_start p) globals

  made : (k : ℕ) (o : DataObject) → slice_get globals k ≡ Some o → slice_get xs k ≡ Some (record { base = start + o.offset; size = o.size })
  made k o e = get-map (λ (z : DataObject). record { base = start + z.offset; size = z.size }) globals k o e

  sound : (k : ℕ) (o : DataObject) → slice_get globals k ≡ Some o → IsExtent (record { base = start + o.offset; size = o.size })
  sound k o e =
      let l = (lies globals 0 k o lawful.layout e).aligned in
      let within = d.within k o e in
      let small = d.small in
      record { above = omega arith; aligned = omega (arith, l); small = omega (arith, within, small) }

  -- a part of an address stands for that of the pointer
  address : (global plus part x : ℕ) → Reaches plus (slice_get globals global) → x ≡ cell_byte globals start (AddressPart global plus part) → CellIs xs (memory_cell (AddressPart global plus part)) x
  address global plus part x reaches is = by_object (slice_get globals global) refl
    where
      by_object : (o : Option DataObject) → slice_get globals global ≡ o → CellIs xs (memory_cell (AddressPart global plus part)) x
      by_object None e = absurd (subst (Reaches plus) e reaches)
      by_object (Some o) e = (
        start + o.offset + plus,
        record {
          extent = record { base = start + o.offset; size = o.size };
          made = made global o e;
          sound = sound global o e;
          at = plus;
          offset = refl;
          within = subst (Reaches plus) e reaches;
          place = refl;
        },
        is ∙ ap (λ z. slice_index (low_bytes 8 (start + global_offset z + plus)) part) e,
      )

  cell-is : (k : ℕ) (o : DataObject) → slice_get globals k ≡ Some o → (at : ℕ) (x : DataCell) (n : ℕ) → slice_get o.cells at ≡ Some x → n ≡ cell_byte globals start x → CellIs xs (memory_cell x) n
  cell-is k o e at (Byte b) n h is = is
  cell-is k o e at (AddressPart global plus part) n h is = address global plus part n (lawful.reaches k o e at global plus part h) is

  abbrev all-cells : DataObject → List c.Cell
  all-cells o = map memory_cell o.cells ++ replicate (o.size - length o.cells) (m.Byte 0)

  cells-are : (k : ℕ) (o : DataObject) → slice_get globals k ≡ Some o → (j : ℕ) (x : c.Cell) → slice_get (all-cells o) j ≡ Some x → CellIs xs x (memory_bytes p s (start + o.offset + j))
  cells-are k o e j x is =
      let count = map-size memory_cell o.cells in
      let most = lawful.cells k o e in
      let within = d.within k o e in
      ⊎_elim
      (λ lt.
      let z = stands-at o.cells j lt in
      let first : slice_get (map memory_cell o.cells) j ≡ Some x = sym (get-first (map memory_cell o.cells) (replicate (o.size - length o.cells) (m.Byte 0)) j (omega (arith, count, lt))) ∙ is in
      let same : memory_cell z.one ≡ x = same-some (memory_cell z.one) x (sym (get-map memory_cell o.cells j z.one z.is) ∙ first) in
      let sum : start + (o.offset + j) ≡ start + o.offset + j = omega arith in
      subst (λ y. CellIs xs y (memory_bytes p s (start + o.offset + j))) same
      (cell-is k o e j z.one (memory_bytes p s (start + o.offset + j)) z.is
      (ap (memory_bytes p s) (sym sum) ∙ data-byte p s (o.offset + j) (omega (arith, lt, most, within)) ∙ d.cells k o e j z.one z.is)))
      (λ le.
      let second = sym (get-second (map memory_cell o.cells) (replicate (o.size - length o.cells) (m.Byte 0)) j (omega (arith, count, le))) ∙ is in
      let same = get-same (o.size - length o.cells) (m.Byte 0) x (j - length (map memory_cell o.cells)) second in
      let below = get-below (replicate (o.size - length o.cells) (m.Byte 0)) (j - length (map memory_cell o.cells)) x second in
      let many = replicate-size (o.size - length o.cells) (m.Byte 0) in
      let size : j < o.size = omega (arith, below, many, count, le) in
      let sum : start + (o.offset + j) ≡ start + o.offset + j = omega arith in
      subst (λ y. CellIs xs y (memory_bytes p s (start + o.offset + j))) (sym same)
      (ap (memory_bytes p s) (sym sum) ∙ data-byte p s (o.offset + j) (omega (arith, size, within)) ∙ d.zeros k o e j le size))
      (cases_lt j (length o.cells))
    where
      same-some : (a c : c.Cell) → Some a ≡ Some c → a ≡ c
      same-some a c e = cc

  object-is : (k : ℕ) (o : DataObject) → slice_get globals k ≡ Some o → ObjectIs xs (start_object o) (owner_of start globals) (memory_bytes p s) k
  object-is k o e =
      let sum : 0 + k ≡ k = omega arith in
      let count = append-size (map memory_cell o.cells) (replicate (o.size - length o.cells) (m.Byte 0)) in
      let mapped = map-size memory_cell o.cells in
      let many = replicate-size (o.size - length o.cells) (m.Byte 0) in
      let most = lawful.cells k o e in
      record {
        extent = record { base = start + o.offset; size = o.size };
        made = made k o e;
        sound = sound k o e;
        size = omega (arith, count, mapped, many, most);
        cells = cells-at xs (memory_bytes p s) (all-cells o) (start + o.offset) (cells-are k o e);
        own = λ y from to. owns start 0 globals 0 k o lawful.layout e y from to ∙ ap OfObject sum;
      }

  past-end : (ms : List Object) (k : ℕ) → length ms ≤ k → object_at ms k ≡ no_object
  past-end [] k le = refl
  past-end (x ∷ ms) zero le = absurd (omega (arith, le))
  past-end (x ∷ ms) (suc k) le = past-end ms k (omega (arith, le))

  each : (k : ℕ) → (object_at (start_memory globals) k).live ≡ true → ObjectIs xs (object_at (start_memory globals) k) (owner_of start globals) (memory_bytes p s) k
  each k live = ⊎_elim
      (λ lt.
      let z = stands-at globals k lt in
      let is : object_at (start_memory globals) k ≡ start_object z.one = get-index (start_memory globals) k (start_object z.one) no_object (get-map start_object globals k z.one z.is) in
      subst (λ x. ObjectIs xs x (owner_of start globals) (memory_bytes p s) k) (sym is) (object-is k z.one z.is))
      (λ le.
      let count = map-size start_object globals in
      let none = past-end (start_memory globals) k (omega (arith, le, count)) in
      absurd (dead (ap (λ (x : Object). x.live) (sym none) ∙ live)))
      (cases_lt k (length globals))
    where
      dead : false ≡ true → ⊥
      dead e = cc

pub globals_stand : (globals : List DataObject) (p : Program) (s : State) → AreLaidOut globals → DataIs globals (data_start p) s.data_bytes → HasParts p s → AreBytes s.stack_bytes → MemoryIs (extents_of (data_start p) globals) (start_memory globals) (owner_of (data_start p) globals) (memory_bytes p s)
globals_stand globals p s lawful d parts stack = record {
  each = each globals p s lawful d;
  count = map-size (λ (z : DataObject). record { base = data_start p + z.offset; size = z.size }) globals ∙ sym (map-size start_object globals);
  bytes = bytes-small p s d.bytes stack;
}
