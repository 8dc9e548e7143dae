-- Lawful objects are within the bounds.
use Rattle.std.proofs.Common.{◌≡◌, ℕ, zero, suc, ◌+◌, ◌-◌, ◌≤◌, List, [], ◌∷◌, Some, None, Option, All, length, refl, sym, ap, ◌∙◌, subst, arith}
use Rattle.std.specs.Prelude.{slice_get}
use Rattle.mem_objects.specs.declared.DataObject.{DataObject}
use Rattle.mem_objects.specs.declared.DataCell.{DataCell}
use Rattle.mem_objects.specs.declared.DataCell.TheVariants.{Byte, AddressPart}
use Rattle.mem_objects.specs.Layout.{ObjectsLieFrom, end_of, data_end}
use Rattle.mem_objects.specs.Globals.{Reaches, AreLawful}
use Rattle.frame_memory.specs.flat_globals.Globals.{global_offset, AreLaidOut}
use Rattle.frame_memory.proofs.FlatGlobals.Lists.{stands-at, get-index}
use Rattle.frame_memory.proofs.FlatGlobals.LaidOut.{lawful_ones_are_laid_out}
use Rattle.image_assembly.specs.model.Bounds.{LieWithin, ReachesWithin, FitsFixes}

abbrev most : ℕ
most = 67108864

pub end-next : (y z : DataObject) (xs : List DataObject) → data_end (y ∷ z ∷ xs) ≡ data_end (z ∷ xs)
end-next y z xs = let e : suc (suc (length xs)) - 1 ≡ suc (suc (length xs) - 1) = omega arith in ap (λ k. end_of (slice_get (y ∷ z ∷ xs) k)) e

later : (end : ℕ) (y : DataObject) (xs : List DataObject) → ObjectsLieFrom end (y ∷ xs) → data_end (y ∷ xs) ≤ most → LieWithin end (y ∷ xs)
later end y [] h last = (h.0, last)
later end y (z ∷ xs) h last = (h.0, later (y.offset + y.size) z xs h.1 (subst (λ n. n ≤ most) (end-next y z xs) last))

pub lies_within : (end : ℕ) (xs : List DataObject) → ObjectsLieFrom end xs → end ≤ most → data_end xs ≤ most → LieWithin end xs
lies_within end [] h le last = le
lies_within end (x ∷ xs) h le last = later end x xs h last

within-end : (end : ℕ) (xs : List DataObject) → LieWithin end xs → end ≤ most
within-end end [] h = h
within-end end (x ∷ xs) h =
    let at = h.0 in
    let rest = within-end (x.offset + x.size) xs h.1 in
    omega (arith, at, rest)

pub object-end : (end : ℕ) (xs : List DataObject) (k : ℕ) (o : DataObject) → LieWithin end xs → slice_get xs k ≡ Some o → o.offset + o.size ≤ most
object-end end [] k o h e = absurd (cc)
object-end end (x ∷ xs) zero o h e =
    let is : x ≡ o = cc in
    subst (λ (z : DataObject). z.offset + z.size ≤ most) is (within-end (x.offset + x.size) xs h.1)
object-end end (x ∷ xs) (suc k) o h e = object-end (x.offset + x.size) xs k o h.1 e

module _ (globals : List DataObject) (h : ∥ AreLawful globals ∥₁) (last : data_end globals ≤ most) where
  laid : AreLaidOut globals
  laid = lawful_ones_are_laid_out globals h

  pub lie : LieWithin 0 globals
  lie = lies_within 0 globals laid.layout (omega arith) last

  pub reach : (global plus : ℕ) → Reaches plus (slice_get globals global) → global_offset (slice_get globals global) + plus ≤ most
  reach global plus r = of_one (slice_get globals global) refl r
    where
      of_one : (o : Option DataObject) → slice_get globals global ≡ o → Reaches plus o → global_offset o + plus ≤ most
      of_one None e r = absurd r
      of_one (Some o) e r = let end = object-end 0 globals global o lie e in omega (arith, r, end)

  cell-within : (c : DataCell) → ((global plus part : ℕ) → c ≡ AddressPart global plus part → Reaches plus (slice_get globals global)) → ReachesWithin globals c
  cell-within (Byte b) r = tt
  cell-within (AddressPart global plus part) r = reach global plus (r global plus part refl)

  cells-within : (k : ℕ) (o : DataObject) → slice_get globals k ≡ Some o → All (ReachesWithin globals) o.cells
  cells-within k o e = λ at d lt.
      let s = stands-at o.cells at lt in
      subst (ReachesWithin globals) (sym (get-index o.cells at s.one d s.is))
      (cell-within s.one (λ global plus part is. laid.reaches k o e at global plus part (s.is ∙ ap (λ c. Some c) is)))

  one-small : (k : ℕ) (o : DataObject) → slice_get globals k ≡ Some o → FitsFixes globals o
  one-small k o e =
      let end = object-end 0 globals k o lie e in
      let cells = laid.cells k o e in
      record { end = omega (arith, end, cells); reaches = cells-within k o e }

  pub small : All (FitsFixes globals) globals
  small = λ k d lt.
      let s = stands-at globals k lt in
      subst (FitsFixes globals) (sym (get-index globals k s.one d s.is)) (one-small k s.one s.is)
