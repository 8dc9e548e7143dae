-- Names are taken away one by one.
use Rattle.std.proofs.Common.{◌≡◌, ℕ, ◌-◌, ◌+◌, ◌<◌, ◌≤◌, List, sym, ap, ◌∙◌, drop, arith}
use Rattle.std.proofs.lemmas.List.{drop-drop}

pub leave_turn : {X : Type 0} (last turn : ℕ) (xs : List X) → turn < last → drop (last - turn) xs ≡ drop (last - (turn + 1)) (drop 1 xs)
leave_turn last turn xs h =
    let e : last - turn ≡ 1 + (last - (turn + 1)) = omega arith in
    ap (λ k. drop k xs) e ∙ sym (drop-drop (last - (turn + 1)) 1 xs)

pub leave_end : {X : Type 0} (last turn : ℕ) (xs : List X) → last ≤ turn → drop (last - turn) xs ≡ xs
leave_end last turn xs h =
    let e : last - turn ≡ 0 = omega arith in ap (λ k. drop k xs) e
