-- Rows behind rows.
use Rattle.std.proofs.Common.{◌≡◌, ℕ, ◌+◌, ◌≤◌, ◌++◌, List, length, take, drop, sym, ap, ◌∙◌, arith, length-append}
use Rattle.std.proofs.lemmas.List.{append_assoc, take_at, drop_at, length-take-le, drop-drop}
use Rattle.mem_model.specs.declared.value.Cell.{Cell}
use Rattle.mem_model.specs.Cells.{with_row}

-- a row that was put behind another one
pub with_row-behind : (xs a b : List Cell) (at : ℕ) → at + length a + length b ≤ length xs → with_row (with_row xs at a) (at + length a) b ≡ with_row xs at (a ++ b)
with_row-behind xs a b at within =
    let E = drop (at + length a + length b) xs in
    let D = drop (at + length a) xs in
    let front : length (take at xs) ≡ at = length-take-le at xs (omega arith) in
    let len : length (take at xs ++ a) ≡ at + length a = omega (arith, front, length-append (take at xs) a) in
    let whole : with_row xs at a ≡ (take at xs ++ a) ++ D = sym (append_assoc (take at xs) a D) in
    let one : take (at + length a) (with_row xs at a) ≡ take at xs ++ a = ap (take (at + length a)) whole ∙ take_at (take at xs ++ a) D (at + length a) len in
    let two : drop (at + length a + length b) (with_row xs at a) ≡ E =
    sym (drop-drop (length b) (at + length a) (with_row xs at a)) ∙ ap (λ l. drop (length b) (drop (at + length a) l)) whole ∙ ap (drop (length b)) (drop_at (take at xs ++ a) D (at + length a) len) ∙ drop-drop (length b) (at + length a) xs in
    let place : at + length a + length b ≡ at + length (a ++ b) = omega (arith, length-append a b) in
    ap (λ l. l ++ (b ++ drop (at + length a + length b) (with_row xs at a))) one ∙ ap (λ l. (take at xs ++ a) ++ (b ++ l)) two
    ∙ append_assoc (take at xs) a (b ++ E) ∙ ap (λ l. take at xs ++ l) (sym (append_assoc a b E)) ∙ ap (λ n. take at xs ++ ((a ++ b) ++ drop n xs)) place
