-- The lines of the data, row by row.
use Rattle.std.proofs.Common.{◌≡◌, ℕ, suc, ◌%◌, ◌<◌, ◌≤◌, List, [], ◌∷◌, ◌++◌, length, take, drop, min, inl, inr, refl, sym, ap, ◌∙◌, arith, append_assoc, append-nil}
use Rattle.std.proofs.Math.ListN.{drop_of_length-le}
use Rattle.std.proofs.lemmas.Bool.{cases_lt}
use Rattle.std.proofs.lemmas.List.{length-drop, take_all, take-append-le, drop-append-le}
use Rattle.alpha_lines.specs.Lines.{hex_line}
use Rattle.alpha_text.specs.Texts.{ended_lines, hex_rows, hex_lines}

pub rows_enough : (j k : ℕ) (s : List ℕ) → length s ≤ j → length s ≤ k → hex_rows j s ≡ hex_rows k s
rows_enough Prim.Native.Nat.zero Prim.Native.Nat.zero s a b = refl
rows_enough Prim.Native.Nat.zero (suc k) [] a b = refl
rows_enough Prim.Native.Nat.zero (suc k) (x ∷ s) a b = absurd (omega arith)
rows_enough (suc j) Prim.Native.Nat.zero [] a b = refl
rows_enough (suc j) Prim.Native.Nat.zero (x ∷ s) a b = absurd (omega arith)
rows_enough (suc j) (suc k) [] a b = refl
rows_enough (suc j) (suc k) (x ∷ s) a b =
    ap (λ rows. hex_line (take 32 (x ∷ s)) ∷ rows) (rows_enough j k (drop 32 (x ∷ s)) (omega (arith, length-drop 32 (x ∷ s))) (omega (arith, length-drop 32 (x ∷ s))))

pub rows_step : (s : List ℕ) → 0 < length s → hex_lines s ≡ hex_line (take 32 s) ∷ hex_lines (drop 32 s)
unfolding hex_lines
rows_step [] some = absurd (omega arith)
rows_step (b ∷ s) some =
    ap (λ rows. hex_line (take 32 (b ∷ s)) ∷ rows) (rows_enough (length s) (length (drop 32 (b ∷ s))) (drop 32 (b ∷ s)) (omega (arith, length-drop 32 (b ∷ s))) (omega arith))

pub rows_none : (s : List ℕ) → length s ≡ 0 → hex_lines s ≡ []
unfolding hex_lines
rows_none [] none = refl
rows_none (b ∷ s) none = absurd (omega arith)

-- the first row and what stands behind it
front_row : (s : List ℕ) (mid : ℕ) → mid ≡ min (length s) 32 → take mid s ≡ take 32 s
front_row s mid e = elim (cases_lt 32 (length s)) [
  | inl wide ↦ (let same : mid ≡ 32 = omega arith in ap (λ k. take k s) same)
  | inr short ↦ (let same : mid ≡ length s = omega arith in take_all mid s (omega arith) ∙ sym (take_all 32 s short))
]

behind_row : (s : List ℕ) (mid : ℕ) → mid ≡ min (length s) 32 → drop mid s ≡ drop 32 s
behind_row s mid e = elim (cases_lt 32 (length s)) [
  | inl wide ↦ (let same : mid ≡ 32 = omega arith in ap (λ k. drop k s) same)
  | inr short ↦ (let same : mid ≡ length s = omega arith in drop_of_length-le s (omega arith) ∙ sym (drop_of_length-le s short))
]

pub row_pushed : (text done after whole rest row behind : List ℕ) (mid : ℕ) → 0 < length rest → mid ≡ min (length rest) 32 → row ≡ take mid rest → behind ≡ drop mid rest → done ≡ text ++ hex_line row → after ≡ done ++ 10 ∷ []
    → text ++ ended_lines (hex_lines rest) ≡ whole → after ++ ended_lines (hex_lines behind) ≡ whole
row_pushed text done after whole rest row behind mid some e front back pushed ended e2 =
    let first : row ≡ take 32 rest = front ∙ front_row rest mid e in
    let later : behind ≡ drop 32 rest = back ∙ behind_row rest mid e in
    let lines : hex_lines rest ≡ hex_line row ∷ hex_lines behind = rows_step rest some ∙ rw (first, later) refl in
    let text_is : after ≡ (text ++ hex_line row) ++ 10 ∷ [] = ended ∙ ap (λ t. t ++ 10 ∷ []) pushed in
    let regroup : ((text ++ hex_line row) ++ 10 ∷ []) ++ ended_lines (hex_lines behind) ≡ text ++ ((hex_line row ++ 10 ∷ []) ++ ended_lines (hex_lines behind)) = simp append_assoc in
    ap (λ t. t ++ ended_lines (hex_lines behind)) text_is ∙ (regroup ∙ (ap (λ t. text ++ ended_lines t) (sym lines) ∙ e2))

pub rows_pushed : (text whole rest : List ℕ) → length rest ≡ 0 → text ++ ended_lines (hex_lines rest) ≡ whole → text ≡ whole
rows_pushed text whole rest none e = sym (append-nil text) ∙ (ap (λ t. text ++ ended_lines t) (sym (rows_none rest none)) ∙ e)

-- one row more, behind rows that are full
push_at : (k : ℕ) (done row : List ℕ) → length done ≤ k → length done % 32 ≡ 0 → 0 < length row → length row ≤ 32 → hex_lines (done ++ row) ≡ hex_lines done ++ hex_line row ∷ []
push_at k [] row low full some short =
    let whole : take 32 row ≡ row = take_all 32 row short in
    let none : hex_lines (drop 32 row) ≡ [] = rows_none (drop 32 row) (omega (arith, length-drop 32 row)) in
    let empty : hex_lines [] ≡ [] = rows_none [] refl in
    rows_step row some ∙ rw (whole, none, empty) refl
push_at Prim.Native.Nat.zero (b ∷ done) row low full some short = absurd (omega arith)
push_at (suc k) (b ∷ done) row low full some short =
    let wide : 32 ≤ length (b ∷ done) = omega arith in
    let front : take 32 ((b ∷ done) ++ row) ≡ take 32 (b ∷ done) = take-append-le 32 (b ∷ done) row wide in
    let behind : drop 32 ((b ∷ done) ++ row) ≡ drop 32 (b ∷ done) ++ row = drop-append-le 32 (b ∷ done) row wide in
    let later = push_at k (drop 32 (b ∷ done)) row (omega (arith, length-drop 32 (b ∷ done))) (omega (arith, length-drop 32 (b ∷ done))) some short in
    rows_step ((b ∷ done) ++ row) (omega arith)
    ∙ (ap (λ t. hex_line t ∷ hex_lines (drop 32 ((b ∷ done) ++ row))) front
    ∙ (ap (λ t. hex_line (take 32 (b ∷ done)) ∷ hex_lines t) behind
    ∙ (ap (λ t. hex_line (take 32 (b ∷ done)) ∷ t) later
    ∙ sym (ap (λ t. t ++ hex_line row ∷ []) (rows_step (b ∷ done) (omega arith))))))

pub rows_push : (done row : List ℕ) → length done % 32 ≡ 0 → 0 < length row → length row ≤ 32 → hex_lines (done ++ row) ≡ hex_lines done ++ hex_line row ∷ []
rows_push done row full some short = push_at (length done) done row (omega arith) full some short
