-- Rows of cells that are written into a list.
use Rattle.std.proofs.Common.{◌≡◌, ℕ, zero, suc, ◌+◌, ◌-◌, ◌<◌, ◌≤◌, ◌⊎◌, List, [], ◌∷◌, ◌++◌, length, take, drop, get_or, set, replicate, refl, sym, ap, ◌∙◌, subst, arith, length-append, length-take, length-drop, inl, inr, min}
use Rattle.std.proofs.lemmas.List.{append_assoc, take-append-drop, take_at, drop_at, length-take-le, set-append_right, drop_more, get_or-take, get_or-drop, get_or_append_left, get_or-append_right, ext_get_or, length-replicate, take_more, drop-drop, drop_min}
use Rattle.std.proofs.lemmas.Option.{slice_get_within, get_or_from_slice_get, slice_get-get_or}
use Rattle.std.specs.Prelude.{slice_get, Some}
use Rattle.mem_model.specs.Cells.{with_row}
use Rattle.mem_model.specs.declared.value.Cell.{Cell}
use Rattle.mem_model.specs.declared.value.Cell.TheVariants.{Empty}

pub with_row-none : (xs : List Cell) (at : ℕ) → with_row xs at [] ≡ xs
with_row-none xs at = let nought : at + 0 ≡ at = omega arith in ap (λ j. take at xs ++ drop j xs) nought ∙ take-append-drop at xs

pub length-with_row : (xs row : List Cell) (at : ℕ) → at + length row ≤ length xs → length (with_row xs at row) ≡ length xs
length-with_row xs row at within =
    omega (arith, length-append (take at xs) (row ++ drop (at + length row) xs), length-append row (drop (at + length row) xs), length-take at xs, length-drop (at + length row) xs)

-- one more cell behind the row
pub with_row-more : (xs row : List Cell) (at k : ℕ) (c : Cell) → length row ≡ k → at + k < length xs → set (with_row xs at row) (at + k) c ≡ with_row xs at (row ++ c ∷ [])
with_row-more xs row at k c len within =
    let front : length (take at xs) ≡ at = length-take-le at xs (omega arith) in
    let one : set (take at xs ++ (row ++ drop (at + length row) xs)) (at + k) c ≡ take at xs ++ set (row ++ drop (at + length row) xs) (at + k - at) c = set-append_right (take at xs) (row ++ drop (at + length row) xs) at (at + k) c front (omega arith) in
    let two : set (row ++ drop (at + length row) xs) (at + k - at) c ≡ row ++ set (drop (at + length row) xs) (at + k - at - k) c = set-append_right row (drop (at + length row) xs) k (at + k - at) c len (omega arith) in
    let nought : at + k - at - k ≡ 0 = omega arith in
    let here : at + length row < length xs = omega arith in
    let three : set (drop (at + length row) xs) 0 c ≡ c ∷ drop (at + length row + 1) xs = ap (λ ys. set ys 0 c) (drop_more xs (at + length row) Empty here) in
    let place : at + length row + 1 ≡ at + length (row ++ c ∷ []) = omega (arith, length-append row (c ∷ [])) in
    let four : row ++ (c ∷ drop (at + length row + 1) xs) ≡ row ++ c ∷ [] ++ drop (at + length row + 1) xs = sym (append_assoc row (c ∷ []) (drop (at + length row + 1) xs)) in
    one ∙ ap (λ ys. take at xs ++ ys) (two ∙ ap (λ j. row ++ set (drop (at + length row) xs) j c) nought ∙ ap (λ ys. row ++ ys) three ∙ four) ∙ ap (λ j. take at xs ++ ((row ++ c ∷ []) ++ drop j xs)) place

-- a row written over another of its length
pub with_row-twice : (xs a b : List Cell) (at : ℕ) → length a ≡ length b → at + length b ≤ length xs → with_row (with_row xs at a) at b ≡ with_row xs at b
with_row-twice xs a b at same within =
    let front : length (take at xs) ≡ at = length-take-le at xs (omega arith) in
    let one : take at (with_row xs at a) ≡ take at xs = take_at (take at xs) (a ++ drop (at + length a) xs) at front in
    let whole : length (take at xs ++ a) ≡ at + length b = omega (arith, length-append (take at xs) a) in
    let two : drop (at + length b) (with_row xs at a) ≡ drop (at + length a) xs =
    ap (drop (at + length b)) (sym (append_assoc (take at xs) a (drop (at + length a) xs))) ∙ drop_at (take at xs ++ a) (drop (at + length a) xs) (at + length b) whole in
    let three : at + length a ≡ at + length b = omega arith in
    ap (λ ys. ys ++ (b ++ drop (at + length b) (with_row xs at a))) one ∙ ap (λ ys. take at xs ++ (b ++ ys)) (two ∙ ap (λ j. drop j xs) three)

-- what was written stands there
pub take-drop-with_row : (xs row : List Cell) (at : ℕ) → at + length row ≤ length xs → take (length row) (drop at (with_row xs at row)) ≡ row
take-drop-with_row xs row at within =
    let front : length (take at xs) ≡ at = length-take-le at xs (omega arith) in
    ap (take (length row)) (drop_at (take at xs) (row ++ drop (at + length row) xs) at front) ∙ take_at row (drop (at + length row) xs) (length row) refl

-- a cell apart from the row is as before
pub get_or-with_row_apart : (xs row : List Cell) (at k : ℕ) (d : Cell) → at + length row ≤ length xs → (k < at) ⊎ (at + length row ≤ k) → get_or (with_row xs at row) k d ≡ get_or xs k d
get_or-with_row_apart xs row at k d within (inl below) =
    let front : length (take at xs) ≡ at = length-take-le at xs (omega arith) in
    get_or_append_left (take at xs) (row ++ drop (at + length row) xs) d k (omega arith) ∙ get_or-take at xs k d below
get_or-with_row_apart xs row at k d within (inr above) =
    let front : length (take at xs) ≡ at = length-take-le at xs (omega arith) in
    let one : get_or (with_row xs at row) k d ≡ get_or (row ++ drop (at + length row) xs) (k - at) d = get_or-append_right (take at xs) (row ++ drop (at + length row) xs) at k d front (omega arith) in
    let two : get_or (row ++ drop (at + length row) xs) (k - at) d ≡ get_or (drop (at + length row) xs) (k - at - length row) d = get_or-append_right row (drop (at + length row) xs) (length row) (k - at) d refl (omega arith) in
    let place : at + length row + (k - at - length row) ≡ k = omega arith in
    one ∙ two ∙ get_or-drop (at + length row) xs (k - at - length row) d ∙ ap (λ j. get_or xs j d) place

-- a range apart from the row is as before
pub take-drop-with_row_apart : (xs row : List Cell) (at from size : ℕ) → at + length row ≤ length xs → (from + size ≤ at) ⊎ (at + length row ≤ from) → take size (drop from (with_row xs at row)) ≡ take size (drop from xs)
take-drop-with_row_apart xs row at from size within apart =
    ext_get_or Empty _ _
    (length-take size (drop from (with_row xs at row)) ∙ ap (λ n. min size n) (length-drop from (with_row xs at row) ∙ ap (λ n. n - from) (length-with_row xs row at within) ∙ sym (length-drop from xs)) ∙ sym (length-take size (drop from xs)))
    (λ k h. each k (omega (arith, h, length-take size (drop from (with_row xs at row)))))
  where
    side : (k : ℕ) → k < size → (from + size ≤ at) ⊎ (at + length row ≤ from) → (from + k < at) ⊎ (at + length row ≤ from + k)
    side k h (inl a) = inl (omega arith)
    side k h (inr a) = inr (omega arith)

    each : (k : ℕ) → k < size → get_or (take size (drop from (with_row xs at row))) k Empty ≡ get_or (take size (drop from xs)) k Empty
    each k h =
        get_or-take size (drop from (with_row xs at row)) k Empty h ∙ get_or-drop from (with_row xs at row) k Empty
        ∙ get_or-with_row_apart xs row at (from + k) Empty within (side k h apart)
        ∙ sym (get_or-drop from xs k Empty) ∙ sym (get_or-take size (drop from xs) k Empty h)

-- one more cell of a row
pub row-more : (xs : List Cell) (from k : ℕ) (c : Cell) → slice_get xs (from + k) ≡ Some c → take (k + 1) (drop from xs) ≡ take k (drop from xs) ++ c ∷ []
row-more xs from k c is =
    let within : from + k < length xs = slice_get_within xs (from + k) c is in
    let here : k < length (drop from xs) = omega (arith, length-drop from xs) in
    take_more (drop from xs) k c here ∙ ap (λ x. take k (drop from xs) ++ x ∷ []) (get_or-drop from xs k c ∙ get_or_from_slice_get xs (from + k) c c is)

pub length-row : (xs : List Cell) (from k : ℕ) → from + k ≤ length xs → length (take k (drop from xs)) ≡ k
length-row xs from k within = length-take-le k (drop from xs) (omega (arith, length-drop from xs))

-- the step of a loop that writes a row
pub with_row-step : (xs row row' ys zs : List Cell) (at k : ℕ) (c : Cell) → ys ≡ with_row xs at row → zs ≡ set ys (at + k) c → row' ≡ row ++ c ∷ [] → length row ≡ k → at + k < length xs → zs ≡ with_row xs at row'
with_row-step xs row row' ys zs at k c before set_is next len within =
    set_is ∙ ap (λ l. set l (at + k) c) before ∙ with_row-more xs row at k c len within ∙ ap (with_row xs at) (sym next)

-- the end of a loop that writes a row over a wiped one
pub with_row-over : (xs wiped ys row : List Cell) (at size : ℕ) → wiped ≡ with_row xs at (replicate size Empty) → ys ≡ with_row wiped at row → length row ≡ size → at + size ≤ length xs → ys ≡ with_row xs at row
with_row-over xs wiped ys row at size wiped_is ys_is len within =
    ys_is ∙ ap (λ l. with_row l at row) wiped_is ∙ with_row-twice xs (replicate size Empty) row at (length-replicate size Empty ∙ sym len) (omega arith)

pub length-wiped : (xs wiped : List Cell) (at size : ℕ) → wiped ≡ with_row xs at (replicate size Empty) → at + size ≤ length xs → length wiped ≡ length xs
length-wiped xs wiped at size is within =
    ap length is ∙ length-with_row xs (replicate size Empty) at (omega (arith, length-replicate size Empty))

-- a cell that lies apart from a row was read
pub slice_get-with_row_apart : (xs row ys : List Cell) (at k : ℕ) (c : Cell) → ys ≡ with_row xs at row → at + length row ≤ length xs → (k < at) ⊎ (at + length row ≤ k) → slice_get ys k ≡ Some c → slice_get xs k ≡ Some c
slice_get-with_row_apart xs row ys at k c is within apart read =
    let len : length ys ≡ length xs = ap length is ∙ length-with_row xs row at within in
    let small : k < length xs = subst (λ n. k < n) len (slice_get_within ys k c read) in
    let value : get_or xs k c ≡ c = sym (get_or-with_row_apart xs row at k c within apart) ∙ ap (λ l. get_or l k c) (sym is) ∙ get_or_from_slice_get ys k c c read in
    slice_get-get_or xs k c small ∙ ap (λ x. Some x) value

-- a row that starts with a cell
pub row-first : (xs : List Cell) (at width : ℕ) (c : Cell) → slice_get xs at ≡ Some c → 0 < width → take width (drop at xs) ≡ c ∷ take (width - 1) (drop (at + 1) xs)
row-first xs at zero c is pos = absurd (omega arith)
row-first xs at (suc width) c is pos =
    let within : at < length xs = slice_get_within xs at c is in
    let less : suc width - 1 ≡ width = omega arith in
    ap (take (suc width)) (drop_more xs at c within ∙ ap (λ x. x ∷ drop (at + 1) xs) (get_or_from_slice_get xs at c c is)) ∙ ap (λ n. c ∷ take n (drop (at + 1) xs)) (sym less)

-- the end of such a loop, after as many steps as the row has cells
pub with_row-end : (xs wiped ys row : List Cell) (at size k : ℕ) → wiped ≡ with_row xs at (replicate size Empty) → ys ≡ with_row wiped at (take k row) → k ≡ size → length (take size row) ≡ size → at + size ≤ length xs → ys ≡ with_row xs at (take size row)
with_row-end xs wiped ys row at size k wiped_is ys_is whole len within =
    with_row-over xs wiped ys (take size row) at size wiped_is (ys_is ∙ ap (λ n. with_row wiped at (take n row)) whole) len within

-- a cell of a range lies apart from what was written of another range
pub apart_at : (to from size k : ℕ) (row : List Cell) → k < size → length row ≡ k → (to + size ≤ from) ⊎ (from + size ≤ to) → (from + k < to) ⊎ (to + length row ≤ from + k)
apart_at to from size k row small len (inl above) = inr (omega arith)
apart_at to from size k row small len (inr below) = inl (omega arith)

-- the source of a copy is not wiped by it
pub take-drop-wiped : (xs wiped ys : List Cell) (to from size k : ℕ) → wiped ≡ with_row xs to (replicate size Empty) → to + size ≤ length xs → k ≤ size → (to + size ≤ from) ⊎ (from + size ≤ to) → ys ≡ with_row wiped to (take k (drop from wiped)) → ys ≡ with_row wiped to (take k (drop from xs))
take-drop-wiped xs wiped ys to from size k wiped_is within small apart ys_is =
    ys_is ∙ ap (with_row wiped to) (ap (λ l. take k (drop from l)) wiped_is ∙ take-drop-with_row_apart xs (replicate size Empty) to from k (omega (arith, len)) (side apart))
  where
    len : length (replicate size Empty) ≡ size
    len = length-replicate size Empty

    side : (to + size ≤ from) ⊎ (from + size ≤ to) → (from + k ≤ to) ⊎ (to + length (replicate size Empty) ≤ from)
    side (inl above) = inr (omega (arith, len))
    side (inr below) = inl (omega arith)

-- a row that is written over itself
pub with_row-own : (xs : List Cell) (at size : ℕ) → with_row xs at (take size (drop at xs)) ≡ xs
with_row-own xs at size =
    let len : length (take size (drop at xs)) ≡ min size (length (drop at xs)) = length-take size (drop at xs) in
    let rest : drop (at + length (take size (drop at xs))) xs ≡ drop size (drop at xs) =
    sym (drop-drop (length (take size (drop at xs))) at xs) ∙ ap (λ n. drop n (drop at xs)) len ∙ drop_min size (drop at xs) in
    ap (λ l. take at xs ++ (take size (drop at xs) ++ l)) rest ∙ ap (λ l. take at xs ++ l) (take-append-drop size (drop at xs)) ∙ take-append-drop at xs
