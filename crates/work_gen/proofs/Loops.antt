-- One turn of each loop of the generator.
use Rattle.std.proofs.Common.{◌≡◌, ℕ, ◌+◌, ◌*◌, ◌/◌, ◌^◌, List, [], ◌∷◌, ◌++◌, flat_map, sym, ap, ◌∙◌, append_assoc, add-one, arith}
use Rattle.std.specs.List.{range_with_len}
use Rattle.std.proofs.lemmas.List.{flat_map_more, map-id}
use Rattle.std.proofs.lemmas.List.FromFn.{map-range_with_len_more}
use Rattle.work_gen.specs.Generator.{next_draw, after_draws, drawn_line, function_line}

-- the numbers below k, and k behind them
one_more : (k : ℕ) → range_with_len 0 k ++ k ∷ [] ≡ range_with_len 0 (k + 1)
one_more k =
    ap (λ xs. xs ++ k ∷ []) (sym (map-id (range_with_len 0 k)))
    ∙ sym (map-range_with_len_more (λ (x : ℕ). x) 0 k k (omega arith))
    ∙ map-id (range_with_len 0 (k + 1))

-- what is written for the numbers below k, with what is written for k behind it
pub pieces_more : (text : List ℕ) (piece : ℕ → List ℕ) (k : ℕ) → text ++ flat_map piece (range_with_len 0 k) ++ piece k ≡ text ++ flat_map piece (range_with_len 0 (k + 1))
pieces_more text piece k =
    flat_map_more piece text (range_with_len 0 k) k ∙ ap (λ xs. text ++ flat_map piece xs) (one_more k)

-- one draw more
after_one_more : (seed n : ℕ) → next_draw (after_draws seed n) ≡ after_draws seed (n + 1)
after_one_more seed n = sym (ap (after_draws seed) (add-one n))

-- the first draw for function k
first_draw : (seed k r first : ℕ) → r ≡ after_draws seed (2 * k) → first ≡ next_draw r → first ≡ after_draws seed (2 * k + 1)
first_draw seed k r first is drawn = drawn ∙ ap next_draw is ∙ after_one_more seed (2 * k)

-- and the second
second_draw : (seed k r first second : ℕ) → r ≡ after_draws seed (2 * k) → first ≡ next_draw r → second ≡ next_draw first → second ≡ after_draws seed (2 * k + 2)
second_draw seed k r first second is drawn again =
    let same : 2 * k + 1 + 1 ≡ 2 * k + 2 = omega arith in
    again ∙ ap next_draw (first_draw seed k r first is drawn) ∙ after_one_more seed (2 * k + 1) ∙ ap (after_draws seed) same

-- the draws for the next function begin where those for function k end
pub draws_more : (seed k r first second : ℕ) → r ≡ after_draws seed (2 * k) → first ≡ next_draw r → second ≡ next_draw first → second ≡ after_draws seed (2 * (k + 1))
draws_more seed k r first second is drawn again =
    let same : 2 * k + 2 ≡ 2 * (k + 1) = omega arith in
    second_draw seed k r first second is drawn again ∙ ap (after_draws seed) same

-- the line that those draws give is the one of function k
pub lines_more : (text : List ℕ) (seed k r first second : ℕ) → r ≡ after_draws seed (2 * k) → first ≡ next_draw r → second ≡ next_draw first → text ++ flat_map (drawn_line seed) (range_with_len 0 k) ++ function_line k (1 + first / 2 ^ 24) (second / 2 ^ 16) ≡ text ++ flat_map (drawn_line seed) (range_with_len 0 (k + 1))
lines_more text seed k r first second is drawn again =
    ap (λ x. text ++ flat_map (drawn_line seed) (range_with_len 0 k) ++ function_line k (1 + x / 2 ^ 24) (second / 2 ^ 16)) (first_draw seed k r first is drawn)
    ∙ ap (λ x. text ++ flat_map (drawn_line seed) (range_with_len 0 k) ++ function_line k (1 + after_draws seed (2 * k + 1) / 2 ^ 24) (x / 2 ^ 16)) (second_draw seed k r first second is drawn again)
    ∙ pieces_more text (drawn_line seed) k

-- what is put in three pieces
pub three_pieces : (text front calls end first second third : List ℕ) → first ≡ text ++ front → second ≡ first ++ calls → third ≡ second ++ end → third ≡ text ++ (front ++ calls ++ end)
three_pieces text front calls end first second third put_front put_calls put_end =
    put_end
    ∙ ap (λ x. x ++ end) (put_calls ∙ ap (λ x. x ++ calls) put_front)
    ∙ append_assoc (text ++ front) calls end
    ∙ append_assoc text front (calls ++ end)
    ∙ ap (λ xs. text ++ xs) (sym (append_assoc front calls end))
