-- What rows of cells stand for.
use Rattle.std.proofs.Common.{◌≡◌, ℕ, zero, suc, ◌+◌, ◌-◌, ◌*◌, ◌/◌, ◌%◌, ◌^◌, ◌<◌, ◌≤◌, ◌⊎◌, List, [], ◌∷◌, ◌++◌, length, take, drop, get_or, Bool, true, false, Option, Some, None, Err, refl, sym, ap, ◌∙◌, subst, arith, inl, inr}
use Rattle.std.specs.Prelude.{slice_get, ◌==◌, ◌&&◌, option_map, ok_or}
use Rattle.std.specs.List.{list_any}
use Rattle.std.specs.Int.{to_le_bytes, w64}
use Rattle.std.specs.Ordering.{int_eq}
use Rattle.std.proofs.lemmas.Bool.{eqb-true, eq-eqb, cases_lt, and_parts}
use Rattle.std.proofs.lemmas.Nat.{pow_below, pow-add}
use Rattle.std.proofs.lemmas.List.{get_or-take, get_or-drop, take_more, take_all}
use Rattle.std.proofs.lemmas.List.Folds.{list_any_at, list_any-append}
use Rattle.std.specs.Cmp.{int_eq_equiv}
use Rattle.std.proofs.lemmas.Bool.Decides.{Decides-int_eq}
use Rattle.std.proofs.Common.{ℤ}
use Rattle.std.proofs.lemmas.Option.{get_or_from_slice_get}
use Rattle.mem_model.proofs.RowLaws.{row-more, row-first, length-row}
use Rattle.mem_model.specs.Cells.{bytes_of, parts_of, cells_of, number_of, cell_eq, cells_eq, first_pointer, pointer_of, value_of, is_empty, value_or_fault}
use Rattle.mem_model.specs.declared.value.Ptr.{Ptr}
use Rattle.mem_model.specs.declared.value.Value.{Value}
use Rattle.mem_model.specs.declared.value.Value.TheVariants.{Word, Address}
use Rattle.mem_model.specs.declared.value.Cell.{Cell}
use Rattle.mem_model.specs.declared.value.Cell.TheVariants.{Empty, Byte, Part}
use Rattle.mem_model.specs.declared.value.MemFault.TheVariants.{Never, PartPointer}

pub cells_eq-refl : ((c : Cell) → cell_eq c c ≡ true) → (cs : List Cell) → cells_eq cs cs ≡ true
cells_eq-refl same [] = refl
cells_eq-refl same (c ∷ cs) = ap (λ b. b && cells_eq cs cs) (same c) ∙ cells_eq-refl same cs

pub cells_eq-true : ((c d : Cell) → cell_eq c d ≡ true → c ≡ d) → (cs ds : List Cell) → cells_eq cs ds ≡ true → cs ≡ ds
cells_eq-true same [] [] e = refl
cells_eq-true same [] (d ∷ ds) e = absurd (cc)
cells_eq-true same (c ∷ cs) [] e = absurd (cc)
cells_eq-true same (c ∷ cs) (d ∷ ds) e =
    let h = and_parts (cell_eq c d) (cells_eq cs ds) e in cc (same c d h.0, cells_eq-true same cs ds h.1)

-- the bytes of a number, as its type gives them
pub le_bytes : (n : ℕ) (bs : List ℕ) → bs ≡ to_le_bytes w64 n → Byte (get_or bs 0 0) ∷ Byte (get_or bs 1 0) ∷ Byte (get_or bs 2 0) ∷ Byte (get_or bs 3 0) ∷ Byte (get_or bs 4 0) ∷ Byte (get_or bs 5 0) ∷ Byte (get_or bs 6 0) ∷ Byte (get_or bs 7 0) ∷ [] ≡ bytes_of 8 n
unfolding bytes_of
le_bytes n bs is =
    let e2 : n / 256 ^ 2 % 256 ≡ n / 256 / 256 % 256 = omega arith in
    let e3 : n / 256 ^ 3 % 256 ≡ n / 256 / 256 / 256 % 256 = omega arith in
    let e4 : n / 256 ^ 4 % 256 ≡ n / 256 / 256 / 256 / 256 % 256 = omega arith in
    let e5 : n / 256 ^ 5 % 256 ≡ n / 256 / 256 / 256 / 256 / 256 % 256 = omega arith in
    let e6 : n / 256 ^ 6 % 256 ≡ n / 256 / 256 / 256 / 256 / 256 / 256 % 256 = omega arith in
    let e7 : n / 256 ^ 7 % 256 ≡ n / 256 / 256 / 256 / 256 / 256 / 256 / 256 % 256 = omega arith in
    ap (λ l. Byte (get_or l 0 0) ∷ Byte (get_or l 1 0) ∷ Byte (get_or l 2 0) ∷ Byte (get_or l 3 0) ∷ Byte (get_or l 4 0) ∷ Byte (get_or l 5 0) ∷ Byte (get_or l 6 0) ∷ Byte (get_or l 7 0) ∷ []) is
    ∙ cc

-- the number of a row with a byte in front
pub number_of-byte : (row : List Cell) (b : ℕ) (rest : List Cell) → row ≡ Byte b ∷ rest → number_of row ≡ option_map (λ n. b + 256 * n) (number_of rest)
unfolding number_of
number_of-byte row b rest is = ap number_of is

pub number_of-other : (row : List Cell) (c : Cell) (rest : List Cell) → row ≡ c ∷ rest → ((b : ℕ) → c ≡ Byte b → ⊥) → number_of row ≡ None
unfolding number_of
number_of-other row Empty rest is no_byte = ap number_of is
number_of-other row (Byte b) rest is no_byte = absurd (no_byte b refl)
number_of-other row (Part p k) rest is no_byte = ap number_of is

pub number_of-none : (xs : List Cell) (width : ℕ) → width ≡ 0 → number_of (take width xs) ≡ Some 0
unfolding number_of
number_of-none xs width e = ap (λ w. number_of (take w xs)) e

pub pow_le : (i j : ℕ) → i ≤ j → 2 ^ i ≤ 2 ^ j
pow_le i j h = elim (cases_le_lt i j h) [ inl lt ↦ omega (arith, pow_below i j lt) | inr e ↦ subst (λ k. 2 ^ i ≤ 2 ^ k) e (omega arith) ]
  where
    cases_le_lt : (i j : ℕ) → i ≤ j → (i < j) ⊎ (i ≡ j)
    cases_le_lt i j h = elim (cases_lt i j) [ inl lt ↦ inl lt | inr ge ↦ inr (omega arith) ]

-- one more byte in front of a number of a width
pub number_bound : (width b high : ℕ) → 0 < width → b < 256 → high < 2 ^ (8 * (width - 1)) → b + 256 * high < 2 ^ (8 * width)
number_bound width b high positive byte small =
    let split : 2 ^ (8 + 8 * (width - 1)) ≡ 2 ^ 8 * 2 ^ (8 * (width - 1)) = pow-add 2 8 (8 * (width - 1)) in
    let width_is : 8 + 8 * (width - 1) ≡ 8 * width = omega arith in
    let e : 2 ^ (8 * width) ≡ 256 * 2 ^ (8 * (width - 1)) = ap (λ k. 2 ^ k) (sym width_is) ∙ split in
    omega (arith, e)

pub number_fits : (width n : ℕ) → width ≤ 8 → n < 2 ^ (8 * width) → n < 2 ^ 64
number_fits width n narrow small = omega (arith, pow_le (8 * width) 64 (omega arith))

pub pointer_of-null : (cells : List Cell) → cells_eq cells (bytes_of 8 0) ≡ true → pointer_of cells ≡ Some (Word 0)
unfolding pointer_of
pointer_of-null cells e = rw e refl

pub pointer_of-part : (cells : List Cell) (p : Ptr) → cells_eq cells (bytes_of 8 0) ≡ false → first_pointer cells ≡ Some p → cells_eq cells (parts_of p) ≡ true → pointer_of cells ≡ Some (Address p)
unfolding pointer_of
pointer_of-part cells p e first whole = rw (e, first, whole) refl

pub pointer_of-broken : (cells : List Cell) (p : Ptr) → cells_eq cells (bytes_of 8 0) ≡ false → first_pointer cells ≡ Some p → cells_eq cells (parts_of p) ≡ false → pointer_of cells ≡ None
unfolding pointer_of
pointer_of-broken cells p e first whole = rw (e, first, whole) refl

pub pointer_of-none : (cells : List Cell) → cells_eq cells (bytes_of 8 0) ≡ false → first_pointer cells ≡ None → pointer_of cells ≡ None
unfolding pointer_of
pointer_of-none cells e first = rw (e, first) refl

pub first_pointer-other : (c : Cell) (rest : List Cell) → ((p : Ptr) (k : ℕ) → c ≡ Part p k → ⊥) → first_pointer (c ∷ rest) ≡ None
first_pointer-other Empty rest no_part = refl
first_pointer-other (Byte b) rest no_part = refl
first_pointer-other (Part p k) rest no_part = absurd (no_part p k refl)

pub value_or_fault-never : (pointer : Bool) (cells : List Cell) → list_any is_empty cells ≡ true → value_or_fault pointer cells ≡ Err Never
unfolding value_or_fault
value_or_fault-never pointer cells e = rw e refl

pub value_or_fault-value : (pointer : Bool) (cells : List Cell) → list_any is_empty cells ≡ false → value_or_fault pointer cells ≡ ok_or (value_of pointer cells) PartPointer
unfolding value_or_fault
value_or_fault-value pointer cells e = rw e refl

pub is_empty-other : (c : Cell) → (c ≡ Empty → ⊥) → is_empty c ≡ false
is_empty-other Empty other = absurd (other refl)
is_empty-other (Byte b) other = refl
is_empty-other (Part p k) other = refl

-- a cell of the row is empty
pub list_any-row : (xs : List Cell) (at width k : ℕ) (c : Cell) → at + width ≤ length xs → k < width → slice_get xs (at + k) ≡ Some c → is_empty c ≡ true → list_any is_empty (take width (drop at xs)) ≡ true
list_any-row xs at width k c within small read here =
    let len : k < length (take width (drop at xs)) = omega (arith, length-row xs at width within) in
    list_any_at is_empty (take width (drop at xs)) k c len
    (ap is_empty (get_or-take width (drop at xs) k c small ∙ get_or-drop at xs k c ∙ get_or_from_slice_get xs (at + k) c c read) ∙ here)

-- one more cell of the row is not empty
pub list_any-step : (xs : List Cell) (at k : ℕ) (c : Cell) → slice_get xs (at + k) ≡ Some c → list_any is_empty (take k (drop at xs)) ≡ false → is_empty c ≡ false → list_any is_empty (take (k + 1) (drop at xs)) ≡ false
list_any-step xs at k c read before here =
    ap (list_any is_empty) (row-more xs at k c read) ∙ list_any-append is_empty (take k (drop at xs)) (c ∷ []) ∙ rw (before, here) refl

pub int_eq-refl : (x : ℤ) → int_eq x x ≡ true
int_eq-refl x = int_eq_equiv.refl x

pub same_ptr : (p q : Ptr) → p.object ≡ q.object → p.offset ≡ q.offset → p ≡ q
same_ptr p q e f =
    let one : p ≡ record { object = q.object; offset = p.offset } = ap (λ (a : ℕ). let r : Ptr = record { object = a; offset = p.offset } in r) e in
    let two : record { object = q.object; offset = p.offset } ≡ q = ap (λ (b : ℤ). let r : Ptr = record { object = q.object; offset = b } in r) f in
    one ∙ two

pub cell_eq-true : (c d : Cell) → cell_eq c d ≡ true → c ≡ d
cell_eq-true (Byte a) (Byte b) e = ap Byte (eqb-true a b e)
cell_eq-true (Byte a) (Part q k) e = absurd (cc)
cell_eq-true (Byte a) Empty e = absurd (cc)
cell_eq-true (Part p j) (Byte b) e = absurd (cc)
cell_eq-true (Part p j) (Part q k) e =
    let h = and_parts (p.object == q.object && int_eq p.offset q.offset) (j == k) e in
    let i = and_parts (p.object == q.object) (int_eq p.offset q.offset) h.0 in
    cc (same_ptr p q (eqb-true p.object q.object i.0) ((Decides-int_eq p.offset q.offset).0 i.1), eqb-true j k h.1)
cell_eq-true (Part p j) Empty e = absurd (cc)
cell_eq-true Empty (Byte b) e = absurd (cc)
cell_eq-true Empty (Part q k) e = absurd (cc)
cell_eq-true Empty Empty e = refl

pub cell_eq-same : (c : Cell) → cell_eq c c ≡ true
cell_eq-same Empty = refl
cell_eq-same (Byte a) = eq-eqb a a refl
cell_eq-same (Part p k) = rw (eq-eqb p.object p.object refl, int_eq-refl p.offset, eq-eqb k k refl) refl

-- two rows that differ at a place
pub cells_eq-unlike : (cs ds : List Cell) (k : ℕ) → k < length ds → length cs ≡ length ds → cell_eq (get_or cs k Empty) (get_or ds k Empty) ≡ false → cells_eq cs ds ≡ false
cells_eq-unlike [] [] k small len unlike = absurd (omega arith)
cells_eq-unlike [] (y ∷ ys) k small len unlike = absurd (omega arith)
cells_eq-unlike (x ∷ xs) [] k small len unlike = absurd (omega arith)
cells_eq-unlike (x ∷ xs) (y ∷ ys) zero small len unlike = ap (λ b. b && cells_eq xs ys) unlike
cells_eq-unlike (x ∷ xs) (y ∷ ys) (suc k) small len unlike =
    ap (λ b. cell_eq x y && b) (cells_eq-unlike xs ys k (omega arith) (omega arith) unlike) ∙ and_false (cell_eq x y)
  where
    and_false : (b : Bool) → (b && false) ≡ false
    and_false true = refl
    and_false false = refl

-- a row that differs from the cells that were read
pub cells_eq-read : (xs row : List Cell) (at k : ℕ) (c : Cell) → at + length row ≤ length xs → k < length row → slice_get xs (at + k) ≡ Some c → cell_eq c (get_or row k Empty) ≡ false → cells_eq (take (length row) (drop at xs)) row ≡ false
cells_eq-read xs row at k c within small read unlike =
    let here : get_or (take (length row) (drop at xs)) k Empty ≡ c = get_or-take (length row) (drop at xs) k Empty small ∙ get_or-drop at xs k Empty ∙ get_or_from_slice_get xs (at + k) c Empty read in
    cells_eq-unlike (take (length row) (drop at xs)) row k small (length-row xs at (length row) within) (ap (λ x. cell_eq x (get_or row k Empty)) here ∙ unlike)

-- one more cell of two rows that are alike
pub rows-step : (xs row : List Cell) (at k : ℕ) (c : Cell) → k < length row → slice_get xs (at + k) ≡ Some c → cell_eq c (get_or row k Empty) ≡ true → take k (drop at xs) ≡ take k row → take (k + 1) (drop at xs) ≡ take (k + 1) row
rows-step xs row at k c small read alike before =
    row-more xs at k c read ∙ ap (λ l. l ++ c ∷ []) before ∙ ap (λ x. take k row ++ x ∷ []) (cell_eq-true c (get_or row k Empty) alike) ∙ sym (take_more row k Empty small)

-- two rows that are alike as far as they go
pub rows-alike : (xs row : List Cell) (k : ℕ) → k ≡ length row → take k xs ≡ take k row → cells_eq (take (length row) xs) row ≡ true
rows-alike xs row k whole alike =
    ap (λ n. cells_eq (take n xs) row) (sym whole) ∙ ap (λ l. cells_eq l row) (alike ∙ take_all k row (omega arith)) ∙ cells_eq-refl cell_eq-same row

-- a number by its first byte and the rest
pub number-step : (xs : List Cell) (at width b : ℕ) (c : Cell) (rest : Option ℕ) → slice_get xs at ≡ Some c → c ≡ Byte b → 0 < width → rest ≡ number_of (take (width - 1) (drop (at + 1) xs)) → option_map (λ n. b + 256 * n) rest ≡ number_of (take width (drop at xs))
number-step xs at width b c rest read is positive rest_is =
    ap (option_map (λ n. b + 256 * n)) rest_is ∙ sym (number_of-byte (take width (drop at xs)) b (take (width - 1) (drop (at + 1) xs)) (row-first xs at width c read positive ∙ ap (λ x. x ∷ take (width - 1) (drop (at + 1) xs)) is))

pub number-no_byte : (xs : List Cell) (at width : ℕ) (c : Cell) → slice_get xs at ≡ Some c → ((b : ℕ) → c ≡ Byte b → ⊥) → 0 < width → None ≡ number_of (take width (drop at xs))
number-no_byte xs at width c read no_byte positive =
    sym (number_of-other (take width (drop at xs)) c (take (width - 1) (drop (at + 1) xs)) (row-first xs at width c read positive) no_byte)

pub first_pointer-row : (xs : List Cell) (at : ℕ) (c : Cell) → slice_get xs at ≡ Some c → first_pointer (take 8 (drop at xs)) ≡ first_pointer (c ∷ [])
first_pointer-row xs at c read = ap first_pointer (row-first xs at 8 c read (omega arith)) ∙ first_only c (take 7 (drop (at + 1) xs))
  where
    first_only : (c : Cell) (rest : List Cell) → first_pointer (c ∷ rest) ≡ first_pointer (c ∷ [])
    first_only Empty rest = refl
    first_only (Byte b) rest = refl
    first_only (Part p k) rest = refl

-- whether a row is the null
pub is_null : (cells row : List Cell) (r answer : Bool) → row ≡ bytes_of 8 0 → r ≡ cells_eq (take (length row) cells) row → r ≡ answer → cells_eq (take 8 cells) (bytes_of 8 0) ≡ answer
is_null cells row r answer is test_at gives =
    let eight : length (bytes_of 8 0) ≡ 8 = unfold bytes_of in refl in
    ap (λ n. cells_eq (take n cells) (bytes_of 8 0)) (sym eight) ∙ ap (λ l. cells_eq (take (length l) cells) l) (sym is) ∙ sym test_at ∙ gives

-- whether a row is a pointer
pub is_whole : (cells row : List Cell) (p : Ptr) (r answer : Bool) → row ≡ parts_of p → r ≡ cells_eq (take (length row) cells) row → r ≡ answer → cells_eq (take 8 cells) (parts_of p) ≡ answer
is_whole cells row p r answer is test_at gives =
    let eight : length (parts_of p) ≡ 8 = unfold parts_of in refl in
    ap (λ n. cells_eq (take n cells) (parts_of p)) (sym eight) ∙ ap (λ l. cells_eq (take (length l) cells) l) (sym is) ∙ sym test_at ∙ gives

pub take-bytes_of : (w v n : ℕ) → w ≤ v → take w (bytes_of v n) ≡ bytes_of w n
unfolding bytes_of
take-bytes_of zero v n h = refl
take-bytes_of (suc w) zero n h = absurd (omega arith)
take-bytes_of (suc w) (suc v) n h = ap (λ l. Byte (n % 256) ∷ l) (take-bytes_of w v (n / 256) (omega arith))

pub cells_of-word : (width : ℕ) (v : Value) (n : ℕ) → v ≡ Word n → cells_of width v ≡ bytes_of width n
unfolding cells_of
cells_of-word width v n is = ap (cells_of width) is

pub cells_of-address : (width : ℕ) (v : Value) (p : Ptr) → v ≡ Address p → cells_of width v ≡ parts_of p
unfolding cells_of
cells_of-address width v p is = ap (cells_of width) is

pub length-parts_of : (p : Ptr) → length (parts_of p) ≡ 8
unfolding parts_of
length-parts_of p = refl
