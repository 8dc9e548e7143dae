-- The bytes of objects in the data, and their fixes.
use Rattle.std.proofs.Common.{◌≡◌, ℕ, zero, suc, ◌+◌, ◌-◌, ◌<◌, ◌≤◌, List, [], ◌∷◌, ◌++◌, Some, length, map, replicate, refl, ap, ◌∙◌, subst, arith, inl, ⊎_elim, length-append}
use Rattle.std.specs.Prelude.{slice_get, slice_index}
use Rattle.std.proofs.lemmas.Bool.{cases_lt}
use Rattle.std.proofs.lemmas.List.{get_or_append_left, get_or-append_right}
use Rattle.alpha_items.specs.declared.item.Fix.{Fix}
use Rattle.mem_objects.specs.declared.DataObject.{DataObject}
use Rattle.mem_objects.specs.declared.DataCell.{DataCell}
use Rattle.mem_objects.specs.declared.DataCell.TheVariants.{Byte, AddressPart}
use Rattle.mem_objects.specs.Layout.{ObjectsLieFrom}
use Rattle.mem_model.specs.Bytes.{AreBytes}
use Rattle.frame_memory.specs.flat_globals.Globals.{global_offset}
use Rattle.frame_memory.proofs.FlatGlobals.Lists.{map-size, replicate-size}
use Rattle.frame_memory.specs.global_data.GlobalBytes.{unfixed_byte, object_bytes, bytes_from_end, cell_fixes, cells_fixes, objects_fixes}
use Rattle.frame_memory.proofs.GlobalData.Lists.{bytes-append, bytes-zeros, zeros-index, map-index}
use Rattle.frame_memory.proofs.GlobalData.Fixes.{OfEach, OfSome, each-append, some-first, some-second}

-- ---- where objects lie

pub behind-of : (globals : List DataObject) (end k : ℕ) (o : DataObject) → ObjectsLieFrom end globals → slice_get globals k ≡ Some o → end ≤ o.offset
behind-of [] end k o h e = absurd (cc)
behind-of (x ∷ globals) end zero o h e =
    let is : x ≡ o = cc in
    let at = h.0 in
    subst (λ (z : DataObject). end ≤ z.offset) is (omega (arith, at))
behind-of (x ∷ globals) end (suc k) o h e =
    let at = h.0 in
    let later = behind-of globals (x.offset + x.size) k o h.1 e in
    omega (arith, at, later)

before-other : (globals : List DataObject) (end j k : ℕ) (o q : DataObject) → ObjectsLieFrom end globals → slice_get globals j ≡ Some o → slice_get globals k ≡ Some q → j < k → o.offset + o.size ≤ q.offset
before-other [] end j k o q h e f lt = absurd (cc)
before-other (x ∷ globals) end j zero o q h e f lt = absurd (omega (arith, lt))
before-other (x ∷ globals) end zero (suc k) o q h e f lt =
    let is : x ≡ o = cc in
    subst (λ (z : DataObject). z.offset + z.size ≤ q.offset) is (behind-of globals (x.offset + x.size) k q h.1 f)
before-other (x ∷ globals) end (suc j) (suc k) o q h e f lt = before-other globals (x.offset + x.size) j k o q h.1 e f (omega (arith, lt))

-- a byte lies in one object
pub same-object : (globals : List DataObject) (end j k y : ℕ) (o q : DataObject) → ObjectsLieFrom end globals → slice_get globals j ≡ Some o → slice_get globals k ≡ Some q → o.offset ≤ y → y < o.offset + o.size → q.offset ≤ y → y < q.offset + q.size → j ≡ k
same-object globals end j k y o q h e f a b c d = ⊎_elim
    (λ lt. let z = before-other globals end j k o q h e f lt in absurd (omega (arith, z, b, c)))
    (λ le. ⊎_elim
    (λ lt. let z = before-other globals end k j q o h f e lt in absurd (omega (arith, z, a, d)))
    (λ ge. omega (arith, le, ge))
    (cases_lt k j))
    (cases_lt j k)

-- ---- the bytes of an object

pub object-size : (o : DataObject) → length o.cells ≤ o.size → length (object_bytes o) ≡ o.size
object-size o le =
    let sum = length-append (map unfixed_byte o.cells) (replicate (o.size - length o.cells) 0) in
    let count = map-size unfixed_byte o.cells in
    let zeros = replicate-size {X = ℕ} (o.size - length o.cells) 0 in
    omega (arith, le, sum, count, zeros)

pub cell-at : (o : DataObject) (at : ℕ) (c : DataCell) → at < length o.cells → slice_get o.cells at ≡ Some c → slice_index (object_bytes o) at ≡ unfixed_byte c
cell-at o at c lt e =
    let count = map-size unfixed_byte o.cells in
    get_or_append_left (map unfixed_byte o.cells) (replicate (o.size - length o.cells) 0) 0 at (omega (arith, count, lt)) ∙ map-index unfixed_byte o.cells at c e

pub zero-at : (o : DataObject) (at : ℕ) → length o.cells ≤ at → slice_index (object_bytes o) at ≡ 0
zero-at o at le =
    let count = map-size unfixed_byte o.cells in
    get_or-append_right (map unfixed_byte o.cells) (replicate (o.size - length o.cells) 0) (length o.cells) at 0 count le ∙ zeros-index (o.size - length o.cells) (at - length o.cells)

-- ---- in the data

pub global-byte : (globals : List DataObject) (end k : ℕ) (o : DataObject) → ObjectsLieFrom end globals → ((n : ℕ) (x : DataObject) → slice_get globals n ≡ Some x → length x.cells ≤ x.size) → slice_get globals k ≡ Some o → (at : ℕ) → at < o.size → slice_index (bytes_from_end end globals) (o.offset + at - end) ≡ slice_index (object_bytes o) at
global-byte [] end k o h small e at lt = absurd (cc)
global-byte (x ∷ globals) end zero o h small e at lt =
    let is : x ≡ o = cc in
    subst (λ (z : DataObject). at < z.size → slice_index (bytes_from_end end (x ∷ globals)) (z.offset + at - end) ≡ slice_index (object_bytes z) at) is (first at) lt
  where
    first : (at : ℕ) → at < x.size → slice_index (bytes_from_end end (x ∷ globals)) (x.offset + at - end) ≡ slice_index (object_bytes x) at
    first at lt =
        let place = h.0 in
        let zeros = replicate-size {X = ℕ} (x.offset - end) 0 in
        let size = object-size x (small 0 x refl) in
        let rest = bytes_from_end (x.offset + x.size) globals in
        let sum : x.offset + at - end - (x.offset - end) ≡ at = omega (arith, place) in
        get_or-append_right (replicate (x.offset - end) 0) (object_bytes x ++ bytes_from_end (x.offset + x.size) globals) (x.offset - end) (x.offset + at - end) 0 zeros (omega (arith, place))
        ∙ ap (slice_index (object_bytes x ++ bytes_from_end (x.offset + x.size) globals)) sum
        ∙ get_or_append_left (object_bytes x) (bytes_from_end (x.offset + x.size) globals) 0 at (omega (arith, size, lt))
global-byte (x ∷ globals) end (suc k) o h small e at lt =
    let place = h.0 in
    let zeros = replicate-size {X = ℕ} (x.offset - end) 0 in
    let size = object-size x (small 0 x refl) in
    let behind = behind-of globals (x.offset + x.size) k o h.1 e in
    let sum : o.offset + at - end - (x.offset - end) - x.size ≡ o.offset + at - (x.offset + x.size) = omega (arith, place, behind) in
    get_or-append_right (replicate (x.offset - end) 0) (object_bytes x ++ bytes_from_end (x.offset + x.size) globals) (x.offset - end) (o.offset + at - end) 0 zeros (omega (arith, place, behind))
    ∙ get_or-append_right (object_bytes x) (bytes_from_end (x.offset + x.size) globals) x.size (o.offset + at - end - (x.offset - end)) 0 size (omega (arith, place, behind))
    ∙ ap (slice_index (bytes_from_end (x.offset + x.size) globals)) sum
    ∙ global-byte globals (x.offset + x.size) k o h.1 (λ n y f. small (suc n) y f) e at lt

pub global-length : (globals : List DataObject) (end k : ℕ) (o : DataObject) → ObjectsLieFrom end globals → ((n : ℕ) (x : DataObject) → slice_get globals n ≡ Some x → length x.cells ≤ x.size) → slice_get globals k ≡ Some o → o.offset + o.size ≤ end + length (bytes_from_end end globals)
global-length [] end k o h small e = absurd (cc)
global-length (x ∷ globals) end zero o h small e =
    let is : x ≡ o = cc in
    let place = h.0 in
    let zeros = replicate-size {X = ℕ} (x.offset - end) 0 in
    let size = object-size x (small 0 x refl) in
    let all = length-append (replicate (x.offset - end) 0) (object_bytes x ++ bytes_from_end (x.offset + x.size) globals) in
    let both = length-append (object_bytes x) (bytes_from_end (x.offset + x.size) globals) in
    subst (λ (z : DataObject). z.offset + z.size ≤ end + length (bytes_from_end end (x ∷ globals))) is (omega (arith, place, zeros, size, all, both))
global-length (x ∷ globals) end (suc k) o h small e =
    let place = h.0 in
    let zeros = replicate-size {X = ℕ} (x.offset - end) 0 in
    let size = object-size x (small 0 x refl) in
    let all = length-append (replicate (x.offset - end) 0) (object_bytes x ++ bytes_from_end (x.offset + x.size) globals) in
    let both = length-append (object_bytes x) (bytes_from_end (x.offset + x.size) globals) in
    let later = global-length globals (x.offset + x.size) k o h.1 (λ n y f. small (suc n) y f) e in
    omega (arith, place, zeros, size, all, both, later)

cells-are-bytes : (cells : List DataCell) → ((at b : ℕ) → slice_get cells at ≡ Some (Byte b) → b < 256) → AreBytes (map unfixed_byte cells)
cells-are-bytes [] h = tt
cells-are-bytes (Byte b ∷ cells) h = (h 0 b refl, cells-are-bytes cells (λ at c e. h (suc at) c e))
cells-are-bytes (AddressPart global plus part ∷ cells) h = (omega arith, cells-are-bytes cells (λ at c e. h (suc at) c e))

pub global-are-bytes : (globals : List DataObject) (end : ℕ) → ((k : ℕ) (o : DataObject) → slice_get globals k ≡ Some o → (at b : ℕ) → slice_get o.cells at ≡ Some (Byte b) → b < 256) → AreBytes (bytes_from_end end globals)
global-are-bytes [] end h = tt
global-are-bytes (x ∷ globals) end h =
    bytes-append (replicate (x.offset - end) 0) (object_bytes x ++ bytes_from_end (x.offset + x.size) globals) (bytes-zeros (x.offset - end))
    (bytes-append (object_bytes x) (bytes_from_end (x.offset + x.size) globals)
    (bytes-append (map unfixed_byte x.cells) (replicate (x.size - length x.cells) 0) (cells-are-bytes x.cells (h 0 x refl)) (bytes-zeros (x.size - length x.cells)))
    (global-are-bytes globals (x.offset + x.size) (λ k o e. h (suc k) o e)))

-- ---- fixes

abbrev pub fix_of : List DataObject → (at global plus : ℕ) → Fix
fix_of globals at global plus = record { at = at; offset = global_offset (slice_get globals global) + plus }

one-cell : (P : Fix → Type 0) (globals : List DataObject) (at : ℕ) (c : DataCell) → ((g plus : ℕ) → c ≡ AddressPart g plus 0 → P (fix_of globals at g plus)) → OfEach P (cell_fixes globals at c)
one-cell P globals at (Byte b) h = tt
one-cell P globals at (AddressPart g plus zero) h = (h g plus refl, tt)
one-cell P globals at (AddressPart g plus (suc part)) h = tt

each-cell : (P : Fix → Type 0) (globals : List DataObject) (at : ℕ) (cells : List DataCell) → ((j g plus : ℕ) → slice_get cells j ≡ Some (AddressPart g plus 0) → P (fix_of globals (at + j) g plus)) → OfEach P (cells_fixes globals at cells)
each-cell P globals at [] h = tt
each-cell P globals at (c ∷ cells) h =
    let none : at + 0 ≡ at = omega arith in
    each-append P (cell_fixes globals at c) (cells_fixes globals (suc at) cells)
    (one-cell P globals at c (λ g plus is. subst (λ n. P (fix_of globals n g plus)) none (h 0 g plus (ap (λ z. Some z) is))))
    (each-cell P globals (suc at) cells (λ j g plus e. let sum : at + suc j ≡ suc at + j = omega arith in subst (λ n. P (fix_of globals n g plus)) sum (h (suc j) g plus e)))

pub each-fix : (P : Fix → Type 0) (globals os : List DataObject) → ((k : ℕ) (o : DataObject) → slice_get os k ≡ Some o → (j g plus : ℕ) → slice_get o.cells j ≡ Some (AddressPart g plus 0) → P (fix_of globals (o.offset + j) g plus)) → OfEach P (objects_fixes globals os)
each-fix P globals [] h = tt
each-fix P globals (o ∷ os) h = each-append P (cells_fixes globals o.offset o.cells) (objects_fixes globals os)
    (each-cell P globals o.offset o.cells (h 0 o refl))
    (each-fix P globals os (λ k q e. h (suc k) q e))

some-cell : (P : Fix → Type 0) (globals : List DataObject) (at : ℕ) (cells : List DataCell) (j g plus : ℕ) → slice_get cells j ≡ Some (AddressPart g plus 0) → P (fix_of globals (at + j) g plus) → OfSome P (cells_fixes globals at cells)
some-cell P globals at [] j g plus e h = absurd (cc)
some-cell P globals at (c ∷ cells) zero g plus e h =
    let is : AddressPart g plus 0 ≡ c = cc in
    let none : at + 0 ≡ at = omega arith in
    subst (λ z. OfSome P (cell_fixes globals at z ++ cells_fixes globals (suc at) cells)) is (inl (subst (λ n. P (fix_of globals n g plus)) none h))
some-cell P globals at (c ∷ cells) (suc j) g plus e h =
    let sum : at + suc j ≡ suc at + j = omega arith in
    some-second P (cell_fixes globals at c) (cells_fixes globals (suc at) cells) (some-cell P globals (suc at) cells j g plus e (subst (λ n. P (fix_of globals n g plus)) sum h))

pub some-fix : (P : Fix → Type 0) (globals os : List DataObject) (k : ℕ) (o : DataObject) → slice_get os k ≡ Some o → (j g plus : ℕ) → slice_get o.cells j ≡ Some (AddressPart g plus 0) → P (fix_of globals (o.offset + j) g plus) → OfSome P (objects_fixes globals os)
some-fix P globals [] k o there j g plus e h = absurd (cc)
some-fix P globals (x ∷ os) zero o there j g plus e h =
    let is : o ≡ x = cc in
    subst (λ (z : DataObject). OfSome P (cells_fixes globals z.offset z.cells ++ objects_fixes globals os)) is
    (some-first P (cells_fixes globals o.offset o.cells) (objects_fixes globals os) (some-cell P globals o.offset o.cells j g plus e h))
some-fix P globals (x ∷ os) (suc k) o there j g plus e h =
    some-second P (cells_fixes globals x.offset x.cells) (objects_fixes globals os) (some-fix P globals os k o there j g plus e h)
