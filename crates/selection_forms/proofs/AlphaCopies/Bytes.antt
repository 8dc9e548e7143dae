-- The bytes of a memory are below 256, and stay so.
use Rattle.std.proofs.Common.{◌≡◌, ℕ, zero, suc, ◌+◌, ◌*◌, ◌/◌, ◌%◌, List, [], ◌∷◌, ◌++◌, length, take, drop, replicate, false, Option, Some, None, refl, sym, ap, ◌∙◌, subst, arith, inl, inr}
use Rattle.std.specs.Prelude.{option_map}
use Rattle.std.proofs.lemmas.Bool.{cases_eq}
use Rattle.mem_model.specs.declared.value.Value.{Value}
use Rattle.mem_model.specs.declared.value.Value.TheVariants.{Word, Address, Unset}
use Rattle.mem_model.specs.declared.value.Ptr.{Ptr}
use Rattle.mem_model.specs.declared.value.Cell.{Cell}
use Rattle.mem_model.specs.declared.value.Cell.TheVariants.{Empty, Byte, Part}
use Rattle.mem_model.specs.Cells.{bytes_of, parts_of, cells_of, number_of, with_row}
use Rattle.mem_model.specs.Memory.{Memory, Object, object_at, place_of, is_gone, put_row, row_at}
use Rattle.mem_model.proofs.Changes.{MayStand, object-here, object-other}
use Rattle.selection_forms.specs.alpha_forms.Registers.{AreCells, MemoryHasBytes}

pub are_take : (n : ℕ) (cs : List Cell) → AreCells cs → AreCells (take n cs)
are_take zero cs h = tt
are_take (suc n) [] h = tt
are_take (suc n) (c ∷ cs) h = (h.0, are_take n cs h.1)

pub are_drop : (n : ℕ) (cs : List Cell) → AreCells cs → AreCells (drop n cs)
are_drop zero cs h = h
are_drop (suc n) [] h = tt
are_drop (suc n) (c ∷ cs) h = are_drop n cs h.1

pub are_append : (xs ys : List Cell) → AreCells xs → AreCells ys → AreCells (xs ++ ys)
are_append [] ys h g = g
are_append (x ∷ xs) ys h g = (h.0, are_append xs ys h.1 g)

pub are_with_row : (xs : List Cell) (at : ℕ) (row : List Cell) → AreCells xs → AreCells row → AreCells (with_row xs at row)
are_with_row xs at row h g =
    are_append (take at xs) (row ++ drop (at + length row) xs) (are_take at xs h) (are_append row (drop (at + length row) xs) g (are_drop (at + length row) xs h))

pub are_bytes_of : (w n : ℕ) → AreCells (bytes_of w n)
unfolding bytes_of
are_bytes_of zero n = tt
are_bytes_of (suc w) n = (omega arith, are_bytes_of w (n / 256))

pub are_parts : (p : Ptr) → AreCells (parts_of p)
unfolding parts_of
are_parts p = (tt, (tt, (tt, (tt, (tt, (tt, (tt, (tt, tt))))))))

pub are_empty : (n : ℕ) → AreCells (replicate n Empty)
are_empty zero = tt
are_empty (suc n) = (tt, are_empty n)

pub are_cells_of : (w : ℕ) (v : Value) → AreCells (cells_of w v)
unfolding cells_of
are_cells_of w (Word n) = are_bytes_of w n
are_cells_of w (Address p) = are_parts p
are_cells_of w Unset = are_empty w

-- of a row, and of a memory in which a row was put
pub are_row : (m : Memory) (p : Ptr) (size : ℕ) → MemoryHasBytes m → AreCells (row_at m p size)
are_row m p size h = are_take size (drop (place_of p.offset) (object_at m p.object).cells) (are_drop (place_of p.offset) (object_at m p.object).cells (h p.object))

pub bytes_with_row : (m : Memory) (p : Ptr) (row : List Cell) → is_gone m p ≡ false → MayStand m p row → MemoryHasBytes m → AreCells row → MemoryHasBytes (put_row m p row)
bytes_with_row m p row live stands h g k = elim (cases_eq k p.object) [
  | inl e ↦ subst (λ j. AreCells (object_at (put_row m p row) j).cells) (sym e) (subst (λ (x : Object). AreCells x.cells) (sym (object-here m p row live stands)) (are_with_row (object_at m p.object).cells (place_of p.offset) row (h p.object) g))
  | inr ne ↦ subst (λ (x : Object). AreCells x.cells) (sym (object-other m p row live stands k ne)) (h k)
]

-- the bytes of a number give the row that the number was read from
pub bytes_number : (cs : List Cell) (n : ℕ) → AreCells cs → number_of cs ≡ Some n → bytes_of (length cs) n ≡ cs
unfolding number_of bytes_of
bytes_number [] n h e = refl
bytes_number (Byte b ∷ cs) n h e = by_rest (λ m is. bytes_number cs m h.1 is) (number_of cs) refl e
  where
    by_rest : ((m : ℕ) → number_of cs ≡ Some m → bytes_of (length cs) m ≡ cs) → (o : Option ℕ) → number_of cs ≡ o → option_map (λ m. b + 256 * m) o ≡ Some n → bytes_of (suc (length cs)) n ≡ Byte b ∷ cs
    by_rest ih None is x = absurd (cc)
    by_rest ih (Some m) is x =
        let v : b + 256 * m ≡ n = cc in
        let low : n % 256 ≡ b = omega (arith, v, h.0) in
        let high : n / 256 ≡ m = omega (arith, v, h.0) in
        ap (λ y. Byte y ∷ bytes_of (length cs) (n / 256)) low ∙ ap (λ y. Byte b ∷ bytes_of (length cs) y) high ∙ ap (λ l. Byte b ∷ l) (ih m is)
bytes_number (Empty ∷ cs) n h e = absurd (cc)
bytes_number (Part p k ∷ cs) n h e = absurd (cc)
