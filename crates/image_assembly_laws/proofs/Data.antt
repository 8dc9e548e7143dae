-- The bytes of the data are as many as the objects need, and its fixes lie within them, apart.
use Rattle.std.proofs.Common.{◌≡◌, ℕ, zero, suc, ◌+◌, ◌-◌, ◌*◌, ◌/◌, ◌%◌, ◌<◌, ◌≤◌, List, [], ◌∷◌, ◌++◌, Option, Some, None, length, drop, replicate, get_or, refl, sym, ap, ◌∙◌, subst, arith, length-append}
use Rattle.std.specs.Prelude.{slice_get, All}
use Rattle.std.specs.List.{AllAdjacentBelow}
use Rattle.std.proofs.Math.Logic.{∥∥₁_elim}
use mathlib.Core.HLevel.{×_prop}
use native.Mathlib.Bridge.{le_prop}
use Rattle.std.proofs.lemmas.List.Elements.{All-nil, All-cons}
use Rattle.alpha_items.specs.declared.item.Fix.{Fix}
use Rattle.alpha_items.specs.Assembly.{IsFix}
use Rattle.mem_objects.specs.declared.DataObject.{DataObject}
use Rattle.mem_objects.specs.declared.DataCell.{DataCell}
use Rattle.mem_objects.specs.declared.DataCell.TheVariants.{Byte, AddressPart}
use Rattle.mem_objects.specs.Layout.{ObjectsLieFrom, data_end}
use Rattle.mem_objects.specs.Globals.{Reaches, IsLawfulObject, AreLawful}
use Rattle.frame_memory.specs.flat_globals.Globals.{global_offset, AreLaidOut}
use Rattle.frame_memory.proofs.FlatGlobals.Lists.{get-below, get-index, replicate-size}
use Rattle.frame_memory.proofs.FlatGlobals.LaidOut.{lawful_ones_are_laid_out}
use Rattle.image_assembly.proofs.Bounds.{end-next}
use Rattle.frame_memory.specs.global_data.GlobalBytes.{object_bytes, bytes_from_end, global_bytes, cells_fixes, objects_fixes, global_fixes}
use Rattle.frame_memory.proofs.GlobalData.Fixes.{OfEach}
use Rattle.frame_memory.proofs.GlobalData.Objects.{object-size, each-fix}

-- ---- how many bytes

-- the end of objects that lie from an end on
end_from : (end : ℕ) → List DataObject → ℕ
end_from end [] = end
end_from end (o ∷ os) = end_from (o.offset + o.size) os

bytes-size : (end : ℕ) (os : List DataObject) → ObjectsLieFrom end os → ((k : ℕ) (o : DataObject) → slice_get os k ≡ Some o → length o.cells ≤ o.size) → end + length (bytes_from_end end os) ≡ end_from end os
unfolding end_from
bytes-size end [] h small = omega arith
bytes-size end (o ∷ os) h small =
    let place = h.0 in
    let zeros = replicate-size {X = ℕ} (o.offset - end) 0 in
    let size = object-size o (small 0 o refl) in
    let all = length-append (replicate (o.offset - end) 0) (object_bytes o ++ bytes_from_end (o.offset + o.size) os) in
    let both = length-append (object_bytes o) (bytes_from_end (o.offset + o.size) os) in
    let later = bytes-size (o.offset + o.size) os h.1 (λ k x e. small (suc k) x e) in
    omega (arith, place, zeros, size, all, both, later)

last-end : (end : ℕ) (o : DataObject) (os : List DataObject) → end_from end (o ∷ os) ≡ data_end (o ∷ os)
unfolding end_from
last-end end o [] = refl
last-end end o (x ∷ os) = last-end (o.offset + o.size) x os ∙ sym (end-next o x os)

pub data-size : (globals : List DataObject) → AreLaidOut globals → length (global_bytes globals) ≡ data_end globals
unfolding end_from
data-size [] h = refl
data-size (o ∷ os) h =
    let e = bytes-size 0 (o ∷ os) h.layout h.cells in
    let l = last-end 0 o os in
    omega (arith, e, l)

end-past : (end : ℕ) (os : List DataObject) → ObjectsLieFrom end os → end ≤ end_from end os
unfolding end_from
end-past end [] l = omega arith
end-past end (x ∷ os) l = let at = l.0 in let rest = end-past (x.offset + x.size) os l.1 in omega (arith, at, rest)

end-at : (end : ℕ) (os : List DataObject) (k : ℕ) (o : DataObject) → ObjectsLieFrom end os → slice_get os k ≡ Some o → o.offset + o.size ≤ end_from end os
unfolding end_from
end-at end [] k o l e = absurd (cc)
end-at end (x ∷ os) zero o l e =
    let is : x ≡ o = cc in
    subst (λ (z : DataObject). z.offset + z.size ≤ end_from (x.offset + x.size) os) is (end-past (x.offset + x.size) os l.1)
end-at end (x ∷ os) (suc k) o l e = end-at (x.offset + x.size) os k o l.1 e

-- ---- each fix

of-each-all : (P : Fix → Type 0) (fixes : List Fix) → OfEach P fixes → All P fixes
of-each-all P [] h = All-nil P
of-each-all P (f ∷ fixes) h = All-cons P f fixes h.0 (of-each-all P fixes h.1)

each-prop : (P : Fix → Type 0) → ((f : Fix) → IsProp (P f)) → (fixes : List Fix) → IsProp (OfEach P fixes)
each-prop P prop [] = λ a b. refl
each-prop P prop (f ∷ fixes) = ×_prop (prop f) (each-prop P prop fixes)

part-same : (g plus a b : ℕ) → Some (AddressPart g plus a) ≡ Some (AddressPart g plus b) → a ≡ b
part-same g plus a b e = cc

-- an address stands whole from its first part on
record IsWhole (cells : List DataCell) (g plus at : ℕ) : Type 0 where
  parts : (j : ℕ) → j < 8 → slice_get cells (at + j) ≡ Some (AddressPart g plus j)

module _ (globals : List DataObject) (lawful : AreLawful globals) where
  one : (k : ℕ) (o : DataObject) → slice_get globals k ≡ Some o → IsLawfulObject globals o
  one k o e = subst (IsLawfulObject globals) (get-index globals k o o e) (lawful.objects k o (get-below globals k o e))

  whole : (k : ℕ) (o : DataObject) → slice_get globals k ≡ Some o → (at g plus : ℕ) → slice_get o.cells at ≡ Some (AddressPart g plus 0) → IsWhole o.cells g plus at
  whole k o e at g plus is =
      let h = (one k o e).lawful at (AddressPart g plus 0) is in
      let sum : at / 8 * 8 + at % 8 ≡ at = omega arith in
      let low : at % 8 < 8 = omega arith in
      let same = part-same g plus 0 (at % 8) (sym is ∙ ap (slice_get o.cells) (sym sum) ∙ h.1 (at % 8) low) in
      let first : at / 8 * 8 ≡ at = omega (arith, same, sum) in
      record { parts = λ j lt. ap (λ n. slice_get o.cells (n + j)) (sym first) ∙ h.1 j lt }

  within : (size : ℕ) → ((k : ℕ) (o : DataObject) → slice_get globals k ≡ Some o → o.offset + o.size ≤ size) → OfEach (λ f. f.at + 8 ≤ size) (global_fixes globals)
  within size ends = each-fix (λ f. f.at + 8 ≤ size) globals globals (λ k o e j g plus is.
      let w = whole k o e j g plus is in
      let last = get-below o.cells (j + 7) (AddressPart g plus 7) (w.parts 7 (omega arith)) in
      let most = (one k o e).cells in
      let end = ends k o e in
      omega (arith, last, most, end))

-- ---- apart

-- fixes from a place on, each at least eight bytes behind the one before it
abbrev Apart : (low : ℕ) → List Fix → Type 0
Apart low [] = Unit {0}
Apart low (f ∷ fixes) = (low ≤ f.at) × Apart (f.at + 8) fixes

apart-prop : (low : ℕ) (fixes : List Fix) → IsProp (Apart low fixes)
apart-prop low [] = λ a b. refl
apart-prop low (f ∷ fixes) = ×_prop le_prop (apart-prop (f.at + 8) fixes)

apart-from : (low high : ℕ) (fixes : List Fix) → low ≤ high → Apart high fixes → Apart low fixes
apart-from low high [] le h = tt
apart-from low high (f ∷ fixes) le h = let at = h.0 in (omega (arith, le, at), h.1)

adjacent : (low : ℕ) (fixes : List Fix) → Apart low fixes → AllAdjacentBelow (λ f g. f.at + 8 ≤ g.at) fixes (length fixes)
adjacent low [] h k d lt = absurd (omega (arith, lt))
adjacent low (f ∷ []) h k d lt = absurd (omega (arith, lt))
adjacent low (f ∷ g ∷ fixes) h zero d lt = h.1.0
adjacent low (f ∷ g ∷ fixes) h (suc k) d lt =
    let e : suc (k + 1) ≡ suc k + 1 = omega arith in
    subst (λ n. (get_or (f ∷ g ∷ fixes) (suc k) d).at + 8 ≤ (get_or (f ∷ g ∷ fixes) n d).at) e (adjacent (f.at + 8) (g ∷ fixes) h.1 k d (omega (arith, lt)))

-- no address begins at so many cells
abbrev Begins : DataCell → Type 0
Begins (Byte b) = ⊥
Begins (AddressPart g plus zero) = Unit {0}
Begins (AddressPart g plus (suc part)) = ⊥

abbrev Quiet : (count : ℕ) → List DataCell → Type 0
Quiet zero cells = Unit {0}
Quiet (suc n) [] = ⊥
Quiet (suc n) (c ∷ cells) = (Begins c → ⊥) × Quiet n cells

-- after the first part of an address the seven others follow
abbrev Follows : List DataCell → Type 0
Follows cells = (at g plus : ℕ) → slice_get cells at ≡ Some (AddressPart g plus 0) → Quiet 7 (drop (suc at) cells)

quiet-parts : (count : ℕ) (cells : List DataCell) (at g plus from : ℕ) → ((j : ℕ) → j < count → slice_get cells (at + j) ≡ Some (AddressPart g plus (suc (from + j)))) → Quiet count (drop at cells)
quiet-parts zero cells at g plus from h = tt
quiet-parts (suc n) [] at g plus from h = let e = h 0 (omega arith) in absurd (cc)
quiet-parts (suc n) (c ∷ cells) zero g plus from h =
    let e : Some c ≡ Some (AddressPart g plus (suc (from + 0))) = h 0 (omega arith) in
    let is : AddressPart g plus (suc (from + 0)) ≡ c = cc in (
      subst (λ x. Begins x → ⊥) is (λ b. b),
      quiet-parts n cells 0 g plus (suc from) (λ j lt.
          let z : suc (0 + j) ≡ 0 + suc j = omega arith in
          let m : suc (from + suc j) ≡ suc (suc from + j) = omega arith in
          ap (slice_get (c ∷ cells)) z ∙ h (suc j) (omega (arith, lt)) ∙ ap (λ k. Some (AddressPart g plus k)) m),
    )
quiet-parts (suc n) (c ∷ cells) (suc at) g plus from h =
    quiet-parts (suc n) cells at g plus from (λ j lt. let e : suc (at + j) ≡ suc at + j = omega arith in ap (slice_get (c ∷ cells)) e ∙ h j lt)

follows-from : (cells : List DataCell) → ((at g plus : ℕ) → slice_get cells at ≡ Some (AddressPart g plus 0) → IsWhole cells g plus at) → Follows cells
follows-from cells h at g plus is =
    quiet-parts 7 cells (suc at) g plus 0 (λ j lt. let m : suc at + j ≡ at + suc j = omega arith in let z : j ≡ 0 + j = omega arith in ap (slice_get cells) m ∙ (h at g plus is).parts (suc j) (omega (arith, lt)) ∙ ap (λ k. Some (AddressPart g plus (suc k))) z)

apart-next : (at : ℕ) (cells : List DataCell) (rest : List Fix) → Apart (at + suc (length cells)) rest → Apart (suc at + length cells) rest
apart-next at cells rest h = let n : at + suc (length cells) ≡ suc at + length cells = omega arith in subst (λ k. Apart k rest) n h

follows-next : (c : DataCell) (cells : List DataCell) → Follows (c ∷ cells) → Follows cells
follows-next c cells f at g plus is = f (suc at) g plus is

apart-cells : (globals : List DataObject) (count low at : ℕ) (cells : List DataCell) (rest : List Fix) → Quiet count cells → low ≤ at + count → Follows cells → Apart (at + length cells) rest → Apart low (cells_fixes globals at cells ++ rest)
apart-cells globals zero low at [] rest q le f h = apart-from low (at + 0) rest le h
apart-cells globals (suc n) low at [] rest q le f h = absurd q
apart-cells globals zero low at (Byte b ∷ cells) rest q le f h =
    apart-cells globals 0 low (suc at) cells rest tt (omega (arith, le)) (follows-next (Byte b) cells f) (apart-next at cells rest h)
apart-cells globals (suc n) low at (Byte b ∷ cells) rest q le f h =
    apart-cells globals n low (suc at) cells rest q.1 (omega (arith, le)) (follows-next (Byte b) cells f) (apart-next at cells rest h)
apart-cells globals zero low at (AddressPart g plus (suc part) ∷ cells) rest q le f h =
    apart-cells globals 0 low (suc at) cells rest tt (omega (arith, le)) (follows-next (AddressPart g plus (suc part)) cells f) (apart-next at cells rest h)
apart-cells globals (suc n) low at (AddressPart g plus (suc part) ∷ cells) rest q le f h =
    apart-cells globals n low (suc at) cells rest q.1 (omega (arith, le)) (follows-next (AddressPart g plus (suc part)) cells f) (apart-next at cells rest h)
apart-cells globals zero low at (AddressPart g plus zero ∷ cells) rest q le f h =
    (omega (arith, le), apart-cells globals 7 (at + 8) (suc at) cells rest (f 0 g plus refl) (omega arith) (follows-next (AddressPart g plus 0) cells f) (apart-next at cells rest h))
apart-cells globals (suc m) low at (AddressPart g plus zero ∷ cells) rest q le f h = absurd (q.0 tt)

apart-objects : (globals os : List DataObject) (end : ℕ) → ObjectsLieFrom end os → ((k : ℕ) (o : DataObject) → slice_get os k ≡ Some o → length o.cells ≤ o.size) → ((k : ℕ) (o : DataObject) → slice_get os k ≡ Some o → Follows o.cells) → Apart end (objects_fixes globals os)
apart-objects globals [] end lie small f = tt
apart-objects globals (o ∷ os) end lie small f =
    let at = lie.0 in
    let fits = small 0 o refl in
    apart-cells globals 0 end o.offset o.cells (objects_fixes globals os) tt (omega (arith, at)) (f 0 o refl)
    (apart-from (o.offset + length o.cells) (o.offset + o.size) (objects_fixes globals os) (omega (arith, fits))
    (apart-objects globals os (o.offset + o.size) lie.1 (λ k x e. small (suc k) x e) (λ k x e. f (suc k) x e)))

-- ---- of lawful objects

module _ (globals : List DataObject) (h : ∥ AreLawful globals ∥₁) (last : data_end globals ≤ 67108864) where
  laid : AreLaidOut globals
  laid = lawful_ones_are_laid_out globals h

  pub size-is : length (global_bytes globals) ≡ data_end globals
  size-is = data-size globals laid

  ends : (k : ℕ) (o : DataObject) → slice_get globals k ≡ Some o → o.offset + o.size ≤ end_from 0 globals
  ends k o e = end-at 0 globals k o laid.layout e

  within-size : (k : ℕ) (o : DataObject) → slice_get globals k ≡ Some o → o.offset + o.size ≤ length (global_bytes globals)
  within-size k o e =
      let end = ends k o e in
      let size = bytes-size 0 globals laid.layout laid.cells in
      omega (arith, end, size)

  in-object : (o : Option DataObject) (g plus : ℕ) → slice_get globals g ≡ o → Reaches plus o → global_offset o + plus ≤ length (global_bytes globals)
  in-object None g plus e r = absurd r
  in-object (Some o) g plus e r = let end = within-size g o e in omega (arith, r, end)

  reaches-size : OfEach (λ f. f.offset ≤ length (global_bytes globals)) (global_fixes globals)
  reaches-size = each-fix (λ f. f.offset ≤ length (global_bytes globals)) globals globals (λ k o e j g plus is. in-object (slice_get globals g) g plus refl (laid.reaches k o e j g plus 0 is))

  pub fixes-in : All (λ f. IsFix (length (global_bytes globals)) f) (global_fixes globals)
  fixes-in =
      let size = length (global_bytes globals) in
      let a : OfEach (λ f. f.at + 8 ≤ size) (global_fixes globals) = ∥∥₁_elim h (each-prop (λ f. f.at + 8 ≤ size) (λ f. le_prop) (global_fixes globals)) (λ l. within globals l size within-size) in
      of-each-all (λ f. IsFix size f) (global_fixes globals) (both (global_fixes globals) a reaches-size)
    where
      both : (fixes : List Fix) → OfEach (λ f. f.at + 8 ≤ length (global_bytes globals)) fixes → OfEach (λ f. f.offset ≤ length (global_bytes globals)) fixes → OfEach (λ f. IsFix (length (global_bytes globals)) f) fixes
      both [] a b = tt
      both (f ∷ fixes) a b = ((a.0, b.0), both fixes a.1 b.1)

  pub fixes-apart : AllAdjacentBelow (λ f g. f.at + 8 ≤ g.at) (global_fixes globals) (length (global_fixes globals))
  fixes-apart =
      adjacent 0 (global_fixes globals)
      (∥∥₁_elim h (apart-prop 0 (global_fixes globals)) (λ l. apart-objects globals globals 0 laid.layout laid.cells (λ k o e. follows-from o.cells (whole globals l k o e))))
