-- The data holds the objects.
use Rattle.std.proofs.Common.{◌≡◌, ℕ, ◌+◌, ◌-◌, ◌*◌, ◌/◌, ◌%◌, ◌^◌, ◌<◌, ◌≤◌, ◌⊎◌, List, [], ◌∷◌, Some, length, refl, sym, ap, ◌∙◌, subst, arith, inl, inr}
use Rattle.std.specs.Prelude.{slice_get, slice_index}
use Rattle.std.specs.Int.{w64, to_le_bytes}
use Rattle.std.proofs.Math.Logic.{∥∥₁_elim}
use mathlib.Core.HLevel.{×_prop}
use native.Mathlib.Bridge.{le_prop}
use native.Mathlib.Nat.{ℕ_set}
use Rattle.alpha_items.specs.Words.{fixed_data}
use Rattle.mem_objects.specs.declared.DataObject.{DataObject}
use Rattle.mem_objects.specs.declared.DataCell.{DataCell}
use Rattle.mem_objects.specs.declared.DataCell.TheVariants.{Byte, AddressPart}
use Rattle.mem_objects.specs.Globals.{IsLawfulObject, AreLawful}
use Rattle.mem_model.specs.Bytes.{AreBytes}
use Rattle.frame_memory.specs.Bytes.{low_bytes}
use Rattle.frame_memory.proofs.Machine.{numbers_of_accesses}
use Rattle.frame_memory.specs.flat_globals.Globals.{global_offset, cell_byte, DataIs}
use Rattle.frame_memory.proofs.FlatGlobals.Lists.{get-below, get-index}
use Rattle.frame_memory.specs.global_data.GlobalBytes.{object_bytes, global_bytes, global_fixes}
use Rattle.frame_memory.proofs.GlobalData.Fixes.{OfEach, OfSome, Covers, fix_byte, FitsIn, fixed-length, fixed-bytes, byte-is}
use Rattle.frame_memory.proofs.GlobalData.Objects.{same-object, cell-at, zero-at, global-byte, global-length, global-are-bytes, fix_of, each-fix, some-fix}

-- an address stands whole around each part of it
record Whole (o : DataObject) (g plus part at : ℕ) : Type 0 where
  first : ℕ
  is : first + part ≡ at
  low : part < 8
  cells : (j : ℕ) → j < 8 → slice_get o.cells (first + j) ≡ Some (AddressPart g plus j)

part-same : (g plus a b : ℕ) → Some (AddressPart g plus a) ≡ Some (AddressPart g plus b) → a ≡ b
part-same g plus a b e = cc

module _ (globals : List DataObject) (start : ℕ) (lawful : AreLawful globals) where
  one : (k : ℕ) (o : DataObject) → slice_get globals k ≡ Some o → IsLawfulObject globals o
  one k o e = subst (IsLawfulObject globals) (get-index globals k o o e) (lawful.objects k o (get-below globals k o e))

  small : (k : ℕ) (o : DataObject) → slice_get globals k ≡ Some o → length o.cells ≤ o.size
  small k o e = (one k o e).cells

  abbrev D : List ℕ
  D = global_bytes globals

  whole : (k : ℕ) (o : DataObject) → slice_get globals k ≡ Some o → (at g plus part : ℕ) → slice_get o.cells at ≡ Some (AddressPart g plus part) → Whole o g plus part at
  whole k o e at g plus part is =
      let h = (one k o e).lawful at (AddressPart g plus part) is in
      let sum : at / 8 * 8 + at % 8 ≡ at = omega arith in
      let low : at % 8 < 8 = omega arith in
      let same = part-same g plus part (at % 8) (sym is ∙ ap (slice_get o.cells) (sym sum) ∙ h.1 (at % 8) low) in
      record { first = at / 8 * 8; is = omega (arith, same, sum); low = omega (arith, same, low); cells = h.1 }

  within : (k : ℕ) (o : DataObject) → slice_get globals k ≡ Some o → o.offset + o.size ≤ length D
  within k o e = let h = global-length globals 0 k o lawful.layout small e in omega (arith, h)

  fits : OfEach (FitsIn (length D)) (global_fixes globals)
  fits = each-fix (FitsIn (length D)) globals globals (λ k o e j g plus is.
      let z = whole k o e j g plus 0 is in
      let at = z.is in
      let last = get-below o.cells (z.first + 7) (AddressPart g plus 7) (z.cells 7 (omega arith)) in
      let most = small k o e in
      let all = within k o e in
      omega (arith, at, last, most, all))

  same-some : (o q : DataObject) → Some o ≡ Some q → o ≡ q
  same-some o q e = cc

  module _ (k : ℕ) (o : DataObject) (e : slice_get globals k ≡ Some o) (at : ℕ) (lt : at < o.size) where
    -- what a fix that covers a byte puts there
    module _ (v : ℕ) (right : (g plus part : ℕ) → slice_get o.cells at ≡ Some (AddressPart g plus part) → cell_byte globals start (AddressPart g plus part) ≡ v) where
      fix-right : (q : DataObject) → o ≡ q → slice_get globals k ≡ Some q → (j g plus : ℕ) → slice_get q.cells j ≡ Some (AddressPart g plus 0) → Covers (o.offset + at) (fix_of globals (q.offset + j) g plus) → fix_byte start (o.offset + at) (fix_of globals (q.offset + j) g plus) ≡ v
      fix-right q same f j g plus is c =
          let z = whole k q f j g plus 0 is in
          let place = z.is in
          let offset : o.offset ≡ q.offset = ap (λ (y : DataObject). y.offset) same in
          let from = c.from in
          let to = c.to in
          let p = at - j in
          let there : z.first + (at - j) ≡ at = omega (arith, place, offset, from) in
          let part : slice_get o.cells at ≡ Some (AddressPart g plus (at - j)) = ap (λ (y : DataObject). slice_get y.cells at) same ∙ ap (slice_get q.cells) (sym there) ∙ z.cells (at - j) (omega (arith, offset, from, to)) in
          let index : o.offset + at - (q.offset + j) ≡ at - j = omega (arith, offset) in
          let sum : start + (global_offset (slice_get globals g) + plus) ≡ start + global_offset (slice_get globals g) + plus = omega arith in
          ap (slice_index (to_le_bytes w64 (start + (global_offset (slice_get globals g) + plus)))) index
          ∙ ap (λ l. slice_index l (at - j)) (numbers_of_accesses.quad_of (start + (global_offset (slice_get globals g) + plus)))
          ∙ ap (λ n. slice_index (low_bytes 8 n) (at - j)) sum
          ∙ right g plus (at - j) part

      agree : OfEach (λ f. Covers (o.offset + at) f → fix_byte start (o.offset + at) f ≡ v) (global_fixes globals)
      agree = each-fix (λ f. Covers (o.offset + at) f → fix_byte start (o.offset + at) f ≡ v) globals globals (λ n q f j g plus is c.
          let z = whole n q f j g plus 0 is in
          let place = z.is in
          let last = get-below q.cells (z.first + 7) (AddressPart g plus 7) (z.cells 7 (omega arith)) in
          let most = small n q f in
          let from = c.from in
          let to = c.to in
          let number = same-object globals 0 k n (o.offset + at) o q lawful.layout e f (omega arith) (omega (arith, lt)) (omega (arith, from)) (omega (arith, to, place, last, most)) in
          let f-here = subst (λ m. slice_get globals m ≡ Some q) (sym number) f in
          fix-right q (same-some o q (sym e ∙ f-here)) f-here j g plus is c)

      -- the byte that stands there
      byte-there : OfSome (Covers (o.offset + at)) (global_fixes globals) ⊎ (slice_index (object_bytes o) at ≡ v) → slice_index (fixed_data start D (global_fixes globals)) (o.offset + at) ≡ v
      byte-there (inl some) = byte-is start (o.offset + at) v (global_fixes globals) D fits agree (inl some)
      byte-there (inr is) =
          let none : o.offset + at - 0 ≡ o.offset + at = omega arith in
          byte-is start (o.offset + at) v (global_fixes globals) D fits agree (inr (ap (slice_index D) (sym none) ∙ global-byte globals 0 k o lawful.layout small e at lt ∙ is))

  part-of-some : (o : DataObject) (at g plus part : ℕ) (c : DataCell) → slice_get o.cells at ≡ Some c → slice_get o.cells at ≡ Some (AddressPart g plus part) → AddressPart g plus part ≡ c
  part-of-some o at g plus part c a b = cc

  cell-there : (k : ℕ) (o : DataObject) (e : slice_get globals k ≡ Some o) (at : ℕ) (c : DataCell) → slice_get o.cells at ≡ Some c → slice_index (fixed_data start D (global_fixes globals)) (o.offset + at) ≡ cell_byte globals start c
  cell-there k o e at (Byte b) is =
      let below = get-below o.cells at (Byte b) is in
      let most = small k o e in
      byte-there k o e at (omega (arith, below, most)) b (λ g plus part f. ap (cell_byte globals start) (part-of-some o at g plus part (Byte b) is f)) (inr (cell-at o at (Byte b) below is))
  cell-there k o e at (AddressPart g plus part) is =
      let below = get-below o.cells at (AddressPart g plus part) is in
      let most = small k o e in
      let z = whole k o e at g plus part is in
      let place = z.is in
      let low = z.low in
      let none : z.first + 0 ≡ z.first = omega arith in
      byte-there k o e at (omega (arith, below, most)) (cell_byte globals start (AddressPart g plus part)) (λ h more other f. ap (cell_byte globals start) (part-of-some o at h more other (AddressPart g plus part) is f))
      (inl (some-fix (Covers (o.offset + at)) globals globals k o e z.first g plus (ap (slice_get o.cells) (sym none) ∙ z.cells 0 (omega arith)) (record { from = omega (arith, place); to = omega (arith, place, low) })))

  zero-there : (k : ℕ) (o : DataObject) (e : slice_get globals k ≡ Some o) (at : ℕ) → length o.cells ≤ at → at < o.size → slice_index (fixed_data start D (global_fixes globals)) (o.offset + at) ≡ 0
  zero-there k o e at le lt =
      byte-there k o e at lt 0 (λ g plus part f. let below = get-below o.cells at (AddressPart g plus part) f in absurd (omega (arith, below, le))) (inr (zero-at o at le))

  same-length : length (fixed_data start D (global_fixes globals)) ≡ length D
  same-length = fixed-length start (global_fixes globals) D fits

  data-bytes : AreBytes (fixed_data start D (global_fixes globals))
  data-bytes = fixed-bytes start (global_fixes globals) D (global-are-bytes globals 0 (λ k o e at b is. (one k o e).lawful at (Byte b) is))

-- ---- each part is a proposition

bytes-prop : (bytes : List ℕ) → IsProp (AreBytes bytes)
bytes-prop [] = λ a b. refl
bytes-prop (x ∷ bytes) = ×_prop le_prop (bytes-prop bytes)

pub data_holds_objects : (globals : List DataObject) (start : ℕ) → ∥ AreLawful globals ∥₁ → start + length (global_bytes globals) < 2 ^ 64 → DataIs globals start (fixed_data start (global_bytes globals) (global_fixes globals))
data_holds_objects globals start h small =
    let same : length (fixed_data start (global_bytes globals) (global_fixes globals)) ≡ length (global_bytes globals) = ∥∥₁_elim h (ℕ_set (length (fixed_data start (global_bytes globals) (global_fixes globals))) (length (global_bytes globals))) (λ l. same-length globals start l) in
    record {
      bytes = ∥∥₁_elim h (bytes-prop (fixed_data start (global_bytes globals) (global_fixes globals))) (λ l. data-bytes globals start l);
      small = omega (arith, same, small);
      within = λ k o e. let w : o.offset + o.size ≤ length (global_bytes globals) = ∥∥₁_elim h le_prop (λ l. within globals start l k o e) in omega (arith, w, same);
      cells = λ k o e at c is. ∥∥₁_elim h (ℕ_set (slice_index (fixed_data start (global_bytes globals) (global_fixes globals)) (o.offset + at)) (cell_byte globals start c)) (λ l. cell-there globals start l k o e at c is);
      zeros = λ k o e at le lt. ∥∥₁_elim h (ℕ_set (slice_index (fixed_data start (global_bytes globals) (global_fixes globals)) (o.offset + at)) 0) (λ l. zero-there globals start l k o e at le lt);
    }
