-- What is loaded back where it was stored.
use Rattle.std.proofs.Common.{◌≡◌, ℕ, ℤ, zero, suc, ◌+◌, ◌-◌, ◌*◌, ◌/◌, ◌%◌, ◌^◌, ◌<◌, ◌≤◌, Bool, true, false, List, [], ◌∷◌, length, take, drop, Some, None, Ok, Err, refl, sym, ap, ◌∙◌, subst, arith, inl, inr, lit<}
use Rattle.std.specs.Prelude.{◌&&◌, ◌==◌, not, nat_lt, pos, negsuc, ◌+ℤ◌, option_map, ok_or}
use Rattle.std.specs.List.{list_any}
use Rattle.std.proofs.lemmas.Bool.{eq-eqb}
use Rattle.std.proofs.lemmas.Bool.Decides.{nat_tests}
use Rattle.std.proofs.lemmas.Nat.{mod-pow-add}
use Rattle.std.proofs.lemmas.List.{drop-drop, drop-take, take-take}
use Rattle.mem_model.specs.Cells.{value_or_fault, cells_of, bytes_of, parts_of, number_of, cells_eq, first_pointer, is_empty}
use Rattle.mem_model.specs.Memory.{Memory, object_at, place_of, is_within, is_misaligned, row_at, put_row, load_at, store_at, copy_at, IsWidth, IsStorable, is_outside}
use Rattle.mem_model.specs.Pointers.{ptr_plus}
use Rattle.mem_model.specs.declared.value.Ptr.{Ptr}
use Rattle.mem_model.specs.declared.value.Value.{Value}
use Rattle.mem_model.specs.declared.value.Value.TheVariants.{Word, Address}
use Rattle.mem_model.specs.declared.value.Cell.{Cell}
use Rattle.mem_model.specs.declared.value.Cell.TheVariants.{Empty, Byte, Part}
use Rattle.mem_model.specs.declared.value.MemFault.TheVariants.{PartPointer}
use Rattle.mem_model.proofs.Accesses.{load_at-read}
use Rattle.mem_model.proofs.RowValues.{value_or_fault-value, cells_eq-refl, cell_eq-same, pointer_of-part, pointer_of-null}
use Rattle.mem_model.proofs.Changes.{store_at-ok, changes_cells, row_at-here, outside-stands, gone-kept, outside-kept, length-cells_of, copy_parts, copy_changes, copy_gives}

-- a load at the place of a store reads what was stored
pub store_back : (m new : Memory) (p : Ptr) (width : ℕ) (v : Value) (pointer : Bool) → IsStorable width v → store_at m p width v ≡ Ok new → load_at new p width pointer ≡ value_or_fault pointer (cells_of width v)
store_back m new p width v pointer fit e =
    let f = store_at-ok m new p width v e in
    let row : List Cell = cells_of width v in
    let len : length (cells_of width v) ≡ width = length-cells_of width v fit in
    let stands = outside-stands m p (cells_of width v) width len f.second in
    let changes = changes_cells m p (cells_of width v) f.first stands in
    let back : load_at (put_row m p (cells_of width v)) p width pointer ≡ value_or_fault pointer (row_at (put_row m p (cells_of width v)) p width) =
    load_at-read (put_row m p (cells_of width v)) p width pointer (gone-kept m _ p.object changes p ∙ f.first) (outside-kept m _ p.object changes p width ∙ f.second) f.third in
    ap (λ n. load_at n p width pointer) (sym f.is) ∙ back
    ∙ ap (λ n. value_or_fault pointer (row_at (put_row m p (cells_of width v)) p n)) (sym len) ∙ ap (value_or_fault pointer) (row_at-here m p (cells_of width v) f.first stands)

pub bytes-full : (width n : ℕ) → list_any is_empty (bytes_of width n) ≡ false
unfolding bytes_of
bytes-full zero n = refl
bytes-full (suc width) n = bytes-full width (n / 256)

number_of-bytes_of : (width n : ℕ) → number_of (bytes_of width n) ≡ Some (n % 2 ^ (8 * width))
unfolding bytes_of number_of
number_of-bytes_of zero n = let e : n % 2 ^ (8 * 0) ≡ 0 = omega arith in ap (λ k. Some k) (sym e)
number_of-bytes_of (suc width) n =
    let more : 8 * suc width ≡ 8 * width + 8 = omega arith in
    let split : n % 2 ^ (8 * width + 8) ≡ (n / 2 ^ 8 % 2 ^ (8 * width)) * 2 ^ 8 + n % 2 ^ 8 = mod-pow-add n (8 * width) 8 in
    let e : n % 256 + 256 * (n / 256 % 2 ^ (8 * width)) ≡ n % 2 ^ (8 * suc width) = rw more (omega (arith, split)) in
    ap (option_map (λ k. n % 256 + 256 * k)) (number_of-bytes_of width (n / 256)) ∙ ap (λ k. Some k) e

pub value_or_fault-number : (width n : ℕ) → value_or_fault false (bytes_of width n) ≡ Ok (Word (n % 2 ^ (8 * width)))
value_or_fault-number width n = value_or_fault-value false (bytes_of width n) (bytes-full width n) ∙ ap (λ o. ok_or (option_map Word o) PartPointer) (number_of-bytes_of width n)

pub value_or_fault-null : value_or_fault true (bytes_of 8 0) ≡ Ok (Word 0)
value_or_fault-null = value_or_fault-value true (bytes_of 8 0) (bytes-full 8 0) ∙ ap (λ o. ok_or o PartPointer) (pointer_of-null (bytes_of 8 0) (cells_eq-refl cell_eq-same (bytes_of 8 0)))

pub value_or_fault-pointer : (q : Ptr) → value_or_fault true (parts_of q) ≡ Ok (Address q)
value_or_fault-pointer q =
    let whole : list_any is_empty (parts_of q) ≡ false = unfold parts_of in refl in
    let no_null : cells_eq (parts_of q) (bytes_of 8 0) ≡ false = unfold parts_of in unfold bytes_of in refl in
    let first : first_pointer (parts_of q) ≡ Some q = unfold parts_of in refl in
    value_or_fault-value true (parts_of q) whole ∙ ap (λ o. ok_or o PartPointer) (pointer_of-part (parts_of q) q no_null first (cells_eq-refl cell_eq-same (parts_of q)))

pub loads_number : (m new : Memory) (p : Ptr) (width n : ℕ) → IsWidth width → store_at m p width (Word n) ≡ Ok new → load_at new p width false ≡ Ok (Word (n % 2 ^ (8 * width)))
loads_number m new p width n wide e =
    let is : cells_of width (Word n) ≡ bytes_of width n = unfold cells_of in refl in
    store_back m new p width (Word n) false tt e ∙ ap (value_or_fault false) is ∙ value_or_fault-number width n

pub loads_null : (m new : Memory) (p : Ptr) → store_at m p 8 (Word 0) ≡ Ok new → load_at new p 8 true ≡ Ok (Word 0)
loads_null m new p e =
    let is : cells_of 8 (Word 0) ≡ bytes_of 8 0 = unfold cells_of in refl in
    store_back m new p 8 (Word 0) true tt e ∙ ap (value_or_fault true) is ∙ value_or_fault-null

pub loads_pointer : (m new : Memory) (p q : Ptr) → store_at m p 8 (Address q) ≡ Ok new → load_at new p 8 true ≡ Ok (Address q)
loads_pointer m new p q e =
    let is : cells_of 8 (Address q) ≡ parts_of q = unfold cells_of in refl in
    store_back m new p 8 (Address q) true refl e ∙ ap (value_or_fault true) is ∙ value_or_fault-pointer q

-- cells that are all parts of pointers
abbrev is_part : Cell → Bool
is_part Empty = false
is_part (Byte b) = false
is_part (Part p k) = true

abbrev all_parts : List Cell → Bool
all_parts [] = true
all_parts (c ∷ cs) = is_part c && all_parts cs

number_of-part : (c : Cell) (rest : List Cell) → is_part c ≡ true → number_of (c ∷ rest) ≡ None
unfolding number_of
number_of-part Empty rest e = absurd (cc)
number_of-part (Byte b) rest e = absurd (cc)
number_of-part (Part p k) rest e = refl

part-full : (c : Cell) → is_part c ≡ true → is_empty c ≡ false
part-full Empty e = absurd (cc)
part-full (Byte b) e = refl
part-full (Part p k) e = refl

head_part : (c : Cell) (cs : List Cell) → all_parts (c ∷ cs) ≡ true → (is_part c ≡ true) × (all_parts cs ≡ true)
head_part Empty cs e = absurd (cc)
head_part (Byte b) cs e = absurd (cc)
head_part (Part p k) cs e = (refl, e)

parts-no_number : (xs : List Cell) (k width : ℕ) → all_parts xs ≡ true → k < length xs → 0 < width → number_of (take width (drop k xs)) ≡ None
parts-no_number [] k width e small some = absurd (omega arith)
parts-no_number (x ∷ xs) zero zero e small some = absurd (omega arith)
parts-no_number (x ∷ xs) zero (suc width) e small some = number_of-part x (take width xs) ((head_part x xs e).0)
parts-no_number (x ∷ xs) (suc k) width e small some = parts-no_number xs k width ((head_part x xs e).1) (omega arith) some

parts-full : (xs : List Cell) (k width : ℕ) → all_parts xs ≡ true → list_any is_empty (take width (drop k xs)) ≡ false
parts-full [] zero zero e = refl
parts-full [] zero (suc width) e = refl
parts-full [] (suc k) zero e = refl
parts-full [] (suc k) (suc width) e = refl
parts-full (x ∷ xs) zero zero e = refl
parts-full (x ∷ xs) zero (suc width) e =
    let h = head_part x xs e in rw (part-full x h.0) (parts-full xs 0 width h.1)
parts-full (x ∷ xs) (suc k) width e = parts-full xs k width ((head_part x xs e).1)

value_or_fault-part : (q : Ptr) (k width : ℕ) → 0 < width → k + width ≤ 8 → value_or_fault false (take width (drop k (parts_of q))) ≡ Err PartPointer
value_or_fault-part q k width some small =
    let all : all_parts (parts_of q) ≡ true = unfold parts_of in refl in
    let eight : length (parts_of q) ≡ 8 = unfold parts_of in refl in
    value_or_fault-value false (take width (drop k (parts_of q))) (parts-full (parts_of q) k width all)
    ∙ ap (λ o. ok_or (option_map Word o) PartPointer) (parts-no_number (parts_of q) k width all (omega arith) some)

-- a range within a wider one
ptr_plus-place : (offset : ℤ) (k size n : ℕ) → (nat_lt 0 size && not (is_within offset size n)) ≡ false → 0 < size → place_of (offset +ℤ pos k) ≡ place_of offset + k
ptr_plus-place (pos a) k size n e some = refl
ptr_plus-place (negsuc a) k size n e some = absurd (grind (arith, nat_tests))

ptr_plus-outside : (offset : ℤ) (k size width n : ℕ) → (nat_lt 0 size && not (is_within offset size n)) ≡ false → 0 < size → k + width ≤ size → (nat_lt 0 width && not (is_within (offset +ℤ pos k) width n)) ≡ false
ptr_plus-outside (pos a) k size width n e some small = grind (arith, nat_tests)
ptr_plus-outside (negsuc a) k size width n e some small = absurd (grind (arith, nat_tests))

-- a part of a row of so many cells
part_of_row : (xs row : List Cell) (size k width : ℕ) → take size xs ≡ row → k + width ≤ size → take width (drop k xs) ≡ take width (drop k row)
part_of_row xs row size k width is small =
    let whole : k + (size - k) ≡ size = omega arith in
    let one : drop k (take size xs) ≡ take (size - k) (drop k xs) = ap (λ n. drop k (take n xs)) (sym whole) ∙ drop-take k (size - k) xs in
    sym (ap (λ l. take width (drop k l)) (sym is) ∙ ap (take width) one ∙ take-take width (size - k) (drop k xs) (omega arith))

row_at-ptr_plus : (m : Memory) (p : Ptr) (row : List Cell) (size k width : ℕ) → is_outside m p size ≡ false → 0 < size → row_at m p size ≡ row → k + width ≤ size → row_at m (ptr_plus p (pos k)) width ≡ take width (drop k row)
row_at-ptr_plus m p row size k width within some is small =
    let xs : List Cell = (object_at m p.object).cells in
    ap (λ j. take width (drop j (object_at m p.object).cells)) (ptr_plus-place p.offset k size (length (object_at m p.object).cells) within some)
    ∙ ap (take width) (sym (drop-drop k (place_of p.offset) (object_at m p.object).cells))
    ∙ part_of_row (drop (place_of p.offset) (object_at m p.object).cells) row size k width is small

ptr_plus-aligned : (place k width : ℕ) → not (place % 8 == 0) ≡ false → IsWidth width → k % width ≡ 0 → not ((place + k) % width == 0) ≡ false
ptr_plus-aligned place k width e wide even = ap not (eq-eqb ((place + k) % width) 0 (multiple wide))
  where
    whole : place % 8 ≡ 0
    whole = grind (arith, nat_tests)

    at : (w : ℕ) → width ≡ w → (k % w ≡ 0 → (place + k) % w ≡ 0) → (place + k) % width ≡ 0
    at w is f = subst (λ v. (place + k) % v ≡ 0) (sym is) (f (subst (λ v. k % v ≡ 0) is even))

    multiple : IsWidth width → (place + k) % width ≡ 0
    multiple (inl is) = at 1 is (λ h. let w : place % 8 ≡ 0 = whole in omega arith)
    multiple (inr (inl is)) = at 2 is (λ h. let w : place % 8 ≡ 0 = whole in omega arith)
    multiple (inr (inr (inl is))) = at 4 is (λ h. let w : place % 8 ≡ 0 = whole in omega arith)
    multiple (inr (inr (inr is))) = at 8 is (λ h. let w : place % 8 ≡ 0 = whole in omega arith)

width-some : (width : ℕ) → IsWidth width → 0 < width
width-some width (inl is) = omega arith
width-some width (inr (inl is)) = omega arith
width-some width (inr (inr (inl is))) = omega arith
width-some width (inr (inr (inr is))) = omega arith

pub parts_are_no_number : (m new : Memory) (p q : Ptr) (k width : ℕ) → store_at m p 8 (Address q) ≡ Ok new → IsWidth width → k + width ≤ 8 → k % width ≡ 0 → load_at new (ptr_plus p (pos k)) width false ≡ Err PartPointer
parts_are_no_number m new p q k width e wide small even =
    let f = store_at-ok m new p 8 (Address q) e in
    let is : cells_of 8 (Address q) ≡ parts_of q = unfold cells_of in refl in
    let len : length (cells_of 8 (Address q)) ≡ 8 = length-cells_of 8 (Address q) refl in
    let stands = outside-stands m p (cells_of 8 (Address q)) 8 len f.second in
    let changes = changes_cells m p (cells_of 8 (Address q)) f.first stands in
    let put : Memory = put_row m p (cells_of 8 (Address q)) in
    let place : place_of (p.offset +ℤ pos k) ≡ place_of p.offset + k = ptr_plus-place p.offset k 8 (length (object_at m p.object).cells) f.second (lit< tt) in
    let row : row_at (put_row m p (cells_of 8 (Address q))) p 8 ≡ parts_of q =
    ap (row_at (put_row m p (cells_of 8 (Address q))) p) (sym len) ∙ row_at-here m p (cells_of 8 (Address q)) f.first stands ∙ is in
    let within : is_outside (put_row m p (cells_of 8 (Address q))) p 8 ≡ false = outside-kept m _ p.object changes p 8 ∙ f.second in
    let cells : row_at (put_row m p (cells_of 8 (Address q))) (ptr_plus p (pos k)) width ≡ take width (drop k (parts_of q)) = row_at-ptr_plus _ p (parts_of q) 8 k width within (lit< tt) row small in
    let aligned : is_misaligned (ptr_plus p (pos k)) width ≡ false = ap (λ j. not (j % width == 0)) place ∙ ptr_plus-aligned (place_of p.offset) k width f.third wide even in
    ap (λ n. load_at n (ptr_plus p (pos k)) width false) (sym f.is)
    ∙ load_at-read (put_row m p (cells_of 8 (Address q))) (ptr_plus p (pos k)) width false (gone-kept m _ p.object changes p ∙ f.first)
    (outside-kept m _ p.object changes (ptr_plus p (pos k)) width ∙ ptr_plus-outside p.offset k 8 width (length (object_at m p.object).cells) f.second (lit< tt) small) aligned
    ∙ ap (value_or_fault false) cells ∙ value_or_fault-part q k width (width-some width wide) small

aligned_at : (p : Ptr) (k size n width : ℕ) → (nat_lt 0 size && not (is_within p.offset size n)) ≡ false → 0 < size → (place_of p.offset + k) % width ≡ 0 → is_misaligned (ptr_plus p (pos k)) width ≡ false
aligned_at p k size n width within some even = ap (λ j. not (j % width == 0)) (ptr_plus-place p.offset k size n within some) ∙ ap not (eq-eqb ((place_of p.offset + k) % width) 0 even)

-- a load at the target of a copy reads what one at the source read
pub copy_gives_loads : (m new : Memory) (to from : Ptr) (size align k width : ℕ) (pointer : Bool) → copy_at m to from size align ≡ Ok new → 0 < width → k + width ≤ size →
    (place_of to.offset + k) % width ≡ 0 → (place_of from.offset + k) % width ≡ 0 → load_at new (ptr_plus to (pos k)) width pointer ≡ load_at m (ptr_plus from (pos k)) width pointer
copy_gives_loads m new to from size align k width pointer e wide small even_to even_from =
    let f = copy_parts m new to from size align e in
    let some : 0 < size = omega arith in
    let changes = copy_changes m new to from size align e in
    let within : is_outside new to size ≡ false = outside-kept m new to.object changes to size ∙ f.target in
    let there : load_at new (ptr_plus to (pos k)) width pointer ≡ value_or_fault pointer (row_at new (ptr_plus to (pos k)) width) =
    load_at-read new (ptr_plus to (pos k)) width pointer (gone-kept m new to.object changes to ∙ f.to_live)
    (outside-kept m new to.object changes (ptr_plus to (pos k)) width ∙ ptr_plus-outside to.offset k size width (length (object_at m to.object).cells) f.target some small)
    (aligned_at to k size (length (object_at m to.object).cells) width f.target some even_to) in
    let here : load_at m (ptr_plus from (pos k)) width pointer ≡ value_or_fault pointer (row_at m (ptr_plus from (pos k)) width) =
    load_at-read m (ptr_plus from (pos k)) width pointer f.from_live
    (ptr_plus-outside from.offset k size width (length (object_at m from.object).cells) f.source some small)
    (aligned_at from k size (length (object_at m from.object).cells) width f.source some even_from) in
    there ∙ ap (value_or_fault pointer) (row_at-ptr_plus new to (row_at m from size) size k width within some (copy_gives m new to from size align e) small ∙ sym (row_at-ptr_plus m from (row_at m from size) size k width f.source some refl small)) ∙ sym here
