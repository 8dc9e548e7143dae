-- Texts, bytes and fixes, of what is put and what is left.
use Rattle.std.proofs.Common.{◌≡◌, ℕ, zero, suc, ◌+◌, ◌-◌, ◌<◌, ◌≤◌, List, [], ◌∷◌, ◌++◌, length, drop, get_or, map, replicate, refl, sym, ap, ◌∙◌, subst, append_assoc, append-nil, arith}
use Rattle.std.proofs.lemmas.List.{at_drop_more, at_drop_all}
use Rattle.alpha_items.specs.declared.item.AsmItem.{AsmItem}
use Rattle.alpha_items.specs.declared.item.Fix.{Fix}
use Rattle.alpha_items.specs.declared.final_fn.FinalFn.{FinalFn}
use Rattle.alpha_rt.specs.Items.{all_items}
use Rattle.mem_objects.specs.declared.DataObject.{DataObject}
use Rattle.mem_objects.specs.declared.DataCell.{DataCell}
use Rattle.mem_objects.specs.declared.DataCell.TheVariants.{AddressPart}
use Rattle.mem_objects.specs.Layout.{place_after}
use Rattle.frame_memory.specs.flat_globals.Globals.{global_offset}
use Rattle.frame_memory.specs.global_data.GlobalBytes.{unfixed_byte, object_bytes, bytes_from_end, cell_fixes, cells_fixes, objects_fixes}
use Rattle.image_theorem.specs.program_images.Programs.{start_items}
use Rattle.image_assembly.specs.Assemblies.{final_items}
use Rattle.image_assembly.specs.model.Bounds.{LieWithin}
use Rattle.std.specs.Prelude.{slice_get}

-- ---- items

module _ (xs : List FinalFn) (i : ℕ) (done : List AsmItem) where
  pub functions_next : (x : FinalFn) → x ≡ get_or xs i x → i < length xs → (done ++ x.items.items) ++ final_items (drop (i + 1) xs) ≡ done ++ final_items (drop i xs)
  functions_next x is within =
      append_assoc done x.items.items (final_items (drop (i + 1) xs))
      ∙ ap (λ ys. done ++ ys) (sym (at_drop_more final_items xs i x within ∙ ap (λ (y : FinalFn). y.items.items ++ final_items (drop (i + 1) xs)) (sym is)))

  pub functions_end : length xs ≤ i → done ++ final_items (drop i xs) ≡ done
  functions_end past = ap (λ ys. done ++ ys) (at_drop_all final_items xs i past) ∙ append-nil done

pub pieces_joined : (main : ℕ) (finals : List FinalFn) (start : List AsmItem) → start ≡ start_items main [] → (start ++ final_items finals) ++ all_items ≡ start_items main (final_items finals ++ all_items)
pieces_joined main finals start e = append_assoc start (final_items finals) all_items ∙ ap (λ xs. xs ++ (final_items finals ++ all_items)) e

-- ---- bytes

pub object_joined : (o : DataObject) (done : List ℕ) → (done ++ map unfixed_byte o.cells) ++ replicate (o.size - length o.cells) 0 ≡ done ++ object_bytes o
object_joined o done = append_assoc done (map unfixed_byte o.cells) (replicate (o.size - length o.cells) 0)

module _ (xs : List DataObject) (i end : ℕ) (done : List ℕ) where
  pub bytes_next : (x : DataObject) → x ≡ get_or xs i x → i < length xs → ((done ++ replicate (x.offset - end) 0) ++ object_bytes x) ++ bytes_from_end (x.offset + x.size) (drop (i + 1) xs) ≡ done ++ bytes_from_end end (drop i xs)
  bytes_next x is within =
      append_assoc (done ++ replicate (x.offset - end) 0) (object_bytes x) (bytes_from_end (x.offset + x.size) (drop (i + 1) xs))
      ∙ append_assoc done (replicate (x.offset - end) 0) (object_bytes x ++ bytes_from_end (x.offset + x.size) (drop (i + 1) xs))
      ∙ ap (λ ys. done ++ ys) (sym (at_drop_more (bytes_from_end end) xs i x within ∙ ap (λ (y : DataObject). replicate (y.offset - end) 0 ++ (object_bytes y ++ bytes_from_end (y.offset + y.size) (drop (i + 1) xs))) (sym is)))

  pub bytes_end : length xs ≤ i → done ++ bytes_from_end end (drop i xs) ≡ done
  bytes_end past = ap (λ ys. done ++ ys) (at_drop_all (bytes_from_end end) xs i past) ∙ append-nil done

-- the objects that are left lie within the most data
within-end : (end : ℕ) (xs : List DataObject) → LieWithin end xs → end ≤ 67108864
within-end end [] h = h
within-end end (x ∷ xs) h =
    let at = h.0 in
    let rest = within-end (x.offset + x.size) xs h.1 in
    omega (arith, at, rest)

module _ (xs : List DataObject) (i end : ℕ) (x : DataObject) (is : x ≡ get_or xs i x) (within : i < length xs) (h : LieWithin end (drop i xs)) where
  lie_both : (x.offset ≡ place_after end) × LieWithin (x.offset + x.size) (drop (i + 1) xs)
  lie_both =
      subst (λ (y : DataObject). (y.offset ≡ place_after end) × LieWithin (y.offset + y.size) (drop (i + 1) xs)) (sym is)
      (dropped xs i h within)
    where
      dropped : (xs : List DataObject) (i : ℕ) → LieWithin end (drop i xs) → i < length xs → ((get_or xs i x).offset ≡ place_after end) × LieWithin ((get_or xs i x).offset + (get_or xs i x).size) (drop (i + 1) xs)
      dropped [] i g lt = absurd (omega (arith, lt))
      dropped (y ∷ ys) zero g lt = g
      dropped (y ∷ ys) (suc i) g lt =
          let e : suc (i + 1) ≡ suc i + 1 = omega arith in
          subst (λ c. ((get_or ys i x).offset ≡ place_after end) × LieWithin ((get_or ys i x).offset + (get_or ys i x).size) (drop c (y ∷ ys))) e (dropped ys i g (omega (arith, lt)))

  pub lie_next : LieWithin (x.offset + x.size) (drop (i + 1) xs)
  lie_next = lie_both.1

  pub lie_here : x.offset + x.size ≤ 67108864
  lie_here = within-end (x.offset + x.size) (drop (i + 1) xs) lie_both.1

-- ---- fixes

pub part_fixes : (globals : List DataObject) (at g plus part : ℕ) → (part ≡ 0 → ⊥) → cell_fixes globals at (AddressPart g plus part) ≡ []
part_fixes globals at g plus zero ne = absurd (ne refl)
part_fixes globals at g plus (suc part) ne = refl

pub first_fixes : (globals : List DataObject) (at g plus part : ℕ) → part ≡ 0 → cell_fixes globals at (AddressPart g plus part) ≡ record { at = at; offset = global_offset (slice_get globals g) + plus } ∷ []
first_fixes globals at g plus zero e = refl
first_fixes globals at g plus (suc part) e = absurd (omega (arith, e))

module _ (globals : List DataObject) (start : ℕ) (xs : List DataCell) (i : ℕ) (done : List Fix) where
  pub cells_next : (x : DataCell) → x ≡ get_or xs i x → i < length xs → (done ++ cell_fixes globals (start + i) x) ++ cells_fixes globals (start + (i + 1)) (drop (i + 1) xs) ≡ done ++ cells_fixes globals (start + i) (drop i xs)
  cells_next x is within =
      let more : start + (i + 1) ≡ suc (start + i) = omega arith in
      append_assoc done (cell_fixes globals (start + i) x) (cells_fixes globals (start + (i + 1)) (drop (i + 1) xs))
      ∙ ap (λ n. done ++ (cell_fixes globals (start + i) x ++ cells_fixes globals n (drop (i + 1) xs))) more
      ∙ ap (λ ys. done ++ ys) (sym (at_drop_more (cells_fixes globals (start + i)) xs i x within ∙ ap (λ y. cell_fixes globals (start + i) y ++ cells_fixes globals (suc (start + i)) (drop (i + 1) xs)) (sym is)))

  pub cells_end : length xs ≤ i → done ++ cells_fixes globals (start + i) (drop i xs) ≡ done
  cells_end past = ap (λ ys. done ++ ys) (at_drop_all (cells_fixes globals (start + i)) xs i past) ∙ append-nil done

module _ (globals xs : List DataObject) (i : ℕ) (done : List Fix) where
  pub fixes_next : (x : DataObject) → x ≡ get_or xs i x → i < length xs → (done ++ cells_fixes globals x.offset x.cells) ++ objects_fixes globals (drop (i + 1) xs) ≡ done ++ objects_fixes globals (drop i xs)
  fixes_next x is within =
      append_assoc done (cells_fixes globals x.offset x.cells) (objects_fixes globals (drop (i + 1) xs))
      ∙ ap (λ ys. done ++ ys) (sym (at_drop_more (objects_fixes globals) xs i x within ∙ ap (λ (y : DataObject). cells_fixes globals y.offset y.cells ++ objects_fixes globals (drop (i + 1) xs)) (sym is)))

  pub fixes_end : length xs ≤ i → done ++ objects_fixes globals (drop i xs) ≡ done
  fixes_end past = ap (λ ys. done ++ ys) (at_drop_all (objects_fixes globals) xs i past) ∙ append-nil done
