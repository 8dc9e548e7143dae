-- The lists of the blocks from which edges lead to each block.
use Rattle.std.proofs.Common.{◌≡◌, ◌≢◌, ℕ, suc, ◌+◌, ◌<◌, ◌≤◌, Bool, false, cond, eqb, List, [], ◌∷◌, ◌++◌, map, length, take, drop, get_or, set, refl, sym, ap, subst, ◌∙◌, inl, inr, arith, add-zero, append_assoc, append-nil, length-set, length-take}
use Rattle.std.proofs.lemmas.Bool.Decides.{eqb_tells}
use Rattle.std.proofs.lemmas.Bool.{eq-eqb}
use Rattle.std.proofs.lemmas.List.{ext_get_or, get_or-set_same, get_or-set_other, take_more, map-append, map_push}
use Rattle.std.proofs.lemmas.List.Elements.{filter-append}
use Rattle.std.proofs.lemmas.List.FromFn.{length-map-range_with_len, get_or-map-range_with_len}
use Rattle.std.proofs.Math.Seq.{take-length, drop-length}
use Rattle.std.specs.List.{range_with_len}
use Rattle.std.specs.Prelude.{filter}
use Rattle.cfg.specs.Edges.{edges_to, edges_from, sources_of, sources_of_each, predecessors}
use Rattle.cfg.proofs.Lists.{range_push, take_all}

-- one edge more
sources_more : (edges : List (ℕ × ℕ)) (number to k : ℕ) → sources_of (edges ++ (number, to) ∷ []) k ≡ sources_of edges k ++ map (λ (e : ℕ × ℕ). e.0) (cond (eqb to k) ((number, to) ∷ []) [])
sources_more edges number to k =
    ap (map (λ (e : ℕ × ℕ). e.0)) (filter-append (λ (e : ℕ × ℕ). eqb e.1 k) edges ((number, to) ∷ []))
    ∙ map-append (λ (e : ℕ × ℕ). e.0) (filter (λ (e : ℕ × ℕ). eqb e.1 k) edges) (cond (eqb to k) ((number, to) ∷ []) [])

sources_same : (edges : List (ℕ × ℕ)) (number to : ℕ) → sources_of (edges ++ (number, to) ∷ []) to ≡ sources_of edges to ++ number ∷ []
sources_same edges number to =
    sources_more edges number to to
    ∙ ap (λ (b : Bool). sources_of edges to ++ map (λ (e : ℕ × ℕ). e.0) (cond b ((number, to) ∷ []) [])) (eq-eqb to to refl)

sources_other : (edges : List (ℕ × ℕ)) (number to k : ℕ) → eqb to k ≡ false → sources_of (edges ++ (number, to) ∷ []) k ≡ sources_of edges k
sources_other edges number to k other =
    sources_more edges number to k
    ∙ ap (λ (b : Bool). sources_of edges k ++ map (λ (e : ℕ × ℕ). e.0) (cond b ((number, to) ∷ []) [])) other
    ∙ append-nil (sources_of edges k)

length-each : (n : ℕ) (edges : List (ℕ × ℕ)) → length (sources_of_each n edges) ≡ n
length-each n edges = length-map-range_with_len (sources_of edges) 0 n

get-each : (n : ℕ) (edges : List (ℕ × ℕ)) (k : ℕ) → k < n → get_or (sources_of_each n edges) k [] ≡ sources_of edges k
get-each n edges k within = get_or-map-range_with_len (sources_of edges) 0 n k k [] within (omega arith)

set_at_same : (n : ℕ) (edges : List (ℕ × ℕ)) (number to : ℕ) → to < n → get_or (set (sources_of_each n edges) to (sources_of edges to ++ number ∷ [])) to [] ≡ get_or (sources_of_each n (edges ++ (number, to) ∷ [])) to []
set_at_same n edges number to within =
    get_or-set_same (sources_of_each n edges) to (sources_of edges to ++ number ∷ []) [] (omega (arith, length-each n edges))
    ∙ sym (sources_same edges number to)
    ∙ sym (get-each n (edges ++ (number, to) ∷ []) to within)

set_at_other : (n : ℕ) (edges : List (ℕ × ℕ)) (number to k : ℕ) → k < n → eqb to k ≡ false → to ≢ k → get_or (set (sources_of_each n edges) to (sources_of edges to ++ number ∷ [])) k [] ≡ get_or (sources_of_each n (edges ++ (number, to) ∷ [])) k []
set_at_other n edges number to k below is apart =
    get_or-set_other (sources_of_each n edges) to k (sources_of edges to ++ number ∷ []) [] (λ e. apart (sym e))
    ∙ get-each n edges k below
    ∙ sym (sources_other edges number to k is)
    ∙ sym (get-each n (edges ++ (number, to) ∷ []) k below)

-- the list of a block that there is gets one more
each_set : (n : ℕ) (edges : List (ℕ × ℕ)) (number to : ℕ) → to < n → set (sources_of_each n edges) to (sources_of edges to ++ number ∷ []) ≡ sources_of_each n (edges ++ (number, to) ∷ [])
each_set n edges number to within =
    let long : length (set (sources_of_each n edges) to (sources_of edges to ++ number ∷ [])) ≡ n =
    length-set (sources_of_each n edges) to (sources_of edges to ++ number ∷ []) ∙ length-each n edges in
    ext_get_or [] (set (sources_of_each n edges) to (sources_of edges to ++ number ∷ [])) (sources_of_each n (edges ++ (number, to) ∷ []))
    (long ∙ sym (length-each n (edges ++ (number, to) ∷ [])))
    (λ k below. elim (eqb_tells to k) [
      | inl same ↦ subst (λ j. get_or (set (sources_of_each n edges) to (sources_of edges to ++ number ∷ [])) j [] ≡ get_or (sources_of_each n (edges ++ (number, to) ∷ [])) j []) same.1 (set_at_same n edges number to within)
      | inr other ↦ set_at_other n edges number to k (omega arith) other.0 other.1
    ])

-- an edge past the last block changes no list
each_past : (n : ℕ) (edges : List (ℕ × ℕ)) (number to : ℕ) → n ≤ to → sources_of_each n edges ≡ sources_of_each n (edges ++ (number, to) ∷ [])
each_past n edges number to past =
    ext_get_or [] (sources_of_each n edges) (sources_of_each n (edges ++ (number, to) ∷ []))
    (length-each n edges ∙ sym (length-each n (edges ++ (number, to) ∷ [])))
    (λ k below.
    let within : k < n = omega (arith, length-each n edges) in
    elim (eqb_tells to k) [
      | inl same ↦ absurd (omega (arith, same.1))
      | inr other ↦ get-each n edges k within ∙ sym (sources_other edges number to k other.0) ∙ sym (get-each n (edges ++ (number, to) ∷ []) k within)
    ])

-- what a write of one list leaves
pub edge_added : (lists new : List (List ℕ)) (old other : List ℕ) (number to : ℕ) → to < length lists → old ≡ get_or lists to other → new ≡ set lists to (old ++ number ∷ []) → (edges : List (ℕ × ℕ)) → lists ≡ sources_of_each (length lists) edges → new ≡ sources_of_each (length lists) (edges ++ (number, to) ∷ [])
edge_added lists new old other number to within old_is new_is edges is =
    let read : old ≡ sources_of edges to =
    old_is ∙ ap (λ ls. get_or ls to other) is ∙ get_or-map-range_with_len (sources_of edges) 0 (length lists) to to other within (omega arith) in
    new_is ∙ ap (λ l. set lists to (l ++ number ∷ [])) read ∙ ap (λ ls. set ls to (sources_of edges to ++ number ∷ [])) is ∙ each_set (length lists) edges number to within

pub edge_past : (lists : List (List ℕ)) (number to : ℕ) → length lists ≤ to → (edges : List (ℕ × ℕ)) → lists ≡ sources_of_each (length lists) edges → lists ≡ sources_of_each (length lists) (edges ++ (number, to) ∷ [])
edge_past lists number to past edges is = is ∙ each_past (length lists) edges number to past

-- the edges of one follower more
edges_more : (edges : List (ℕ × ℕ)) (number : ℕ) (followers : List ℕ) (at : ℕ) → at < length followers → (edges ++ edges_to number (take at followers)) ++ (number, get_or followers at 0) ∷ [] ≡ edges ++ edges_to number (take (at + 1) followers)
edges_more edges number followers at within =
    let pair : ℕ → ℕ × ℕ = λ b. (number, b) in
    append_assoc edges (edges_to number (take at followers)) ((number, get_or followers at 0) ∷ [])
    ∙ ap (λ es. edges ++ es) (sym (map_push pair (take at followers) (get_or followers at 0)))
    ∙ ap (λ bs. edges ++ edges_to number bs) (sym (take_more followers at 0 within))

-- a step of the loop over the edges of a block
pub edges_step : (lists new : List (List ℕ)) (n number at : ℕ) (edges : List (ℕ × ℕ)) (followers : List ℕ) → ((es : List (ℕ × ℕ)) → lists ≡ sources_of_each (length lists) es → new ≡ sources_of_each (length lists) (es ++ (number, get_or followers at 0) ∷ [])) → length lists ≡ n → lists ≡ sources_of_each n (edges ++ edges_to number (take at followers)) → at < length followers → new ≡ sources_of_each n (edges ++ edges_to number (take (at + 1) followers))
edges_step lists new n number at edges followers step long is within =
    let before = edges ++ edges_to number (take at followers) in
    step before (is ∙ ap (λ m. sources_of_each m before) (sym long))
    ∙ ap (λ m. sources_of_each m (before ++ (number, get_or followers at 0) ∷ [])) long
    ∙ ap (sources_of_each n) (edges_more edges number followers at within)

-- its end
pub edges_done : (lists : List (List ℕ)) (n number at : ℕ) (edges : List (ℕ × ℕ)) (followers : List ℕ) → lists ≡ sources_of_each n (edges ++ edges_to number (take at followers)) → length followers ≤ at → lists ≡ sources_of_each n (edges ++ edges_to number followers)
edges_done lists n number at edges followers is past =
    is ∙ ap (λ bs. sources_of_each n (edges ++ edges_to number bs)) (take_all followers at past)

edges_push : (number : ℕ) (lists : List (List ℕ)) (followers : List ℕ) → edges_from number (lists ++ followers ∷ []) ≡ edges_from number lists ++ edges_to (number + length lists) followers
edges_push number [] followers = append-nil (edges_to number followers) ∙ ap (λ n. edges_to n followers) (sym (add-zero number))
edges_push number (l ∷ lists) followers =
    let moved : suc number + length lists ≡ number + suc (length lists) = omega arith in
    ap (λ es. edges_to number l ++ es) (edges_push (suc number) lists followers ∙ ap (λ n. edges_from (suc number) lists ++ edges_to n followers) moved)
    ∙ sym (append_assoc (edges_to number l) (edges_from (suc number) lists) (edges_to (number + suc (length lists)) followers))

-- the edges of one block more
blocks_more : (all : List (List ℕ)) (at : ℕ) (other : List ℕ) → at < length all → edges_from 0 (take at all) ++ edges_to at (get_or all at other) ≡ edges_from 0 (take (at + 1) all)
blocks_more all at other within =
    let reached : at ≡ 0 + length (take at all) = omega (arith, length-take at all) in
    ap (λ n. edges_from 0 (take at all) ++ edges_to n (get_or all at other)) reached
    ∙ sym (edges_push 0 (take at all) (get_or all at other))
    ∙ ap (edges_from 0) (sym (take_more all at other within))

-- a step of the loop over the blocks
pub blocks_step : (lists new : List (List ℕ)) (n at : ℕ) (shown other : List ℕ) (all : List (List ℕ)) → ((es : List (ℕ × ℕ)) → lists ≡ sources_of_each (length lists) es → new ≡ sources_of_each (length lists) (es ++ edges_to at shown)) → length lists ≡ n → lists ≡ sources_of_each n (edges_from 0 (take at all)) → shown ≡ get_or all at other → at < length all → new ≡ sources_of_each n (edges_from 0 (take (at + 1) all))
blocks_step lists new n at shown other all step long is shown_is within =
    let before = edges_from 0 (take at all) in
    step before (is ∙ ap (λ m. sources_of_each m before) (sym long))
    ∙ ap (λ m. sources_of_each m (before ++ edges_to at shown)) long
    ∙ ap (λ followers. sources_of_each n (before ++ edges_to at followers)) shown_is
    ∙ ap (sources_of_each n) (blocks_more all at other within)

-- one empty list more
pub empty_more : (n : ℕ) → sources_of_each n [] ++ [] ∷ [] ≡ sources_of_each (n + 1) []
empty_more n = sym (ap (map (sources_of [])) (range_push n) ∙ map_push (sources_of []) (range_with_len 0 n) n)

-- a vector after a write to its slice
written_back : (n : ℕ) (new old : List (List ℕ)) → length new ≡ n → length old ≡ n → take n (new ++ drop (length new) old) ≡ new
written_back n new old is same =
    let whole : drop (length new) old ≡ [] = rw (is, ← same) (drop-length old) in
    rw (whole, append-nil, ← is) (take-length new)

-- lists of a length
pub each_of_length : (lists : List (List ℕ)) (n : ℕ) (edges : List (ℕ × ℕ)) → lists ≡ sources_of_each n edges → lists ≡ sources_of_each (length lists) edges
each_of_length lists n edges is = is ∙ ap (λ m. sources_of_each m edges) (sym (ap length is ∙ length-each n edges))

-- the vector of all lists, which was written through its slice
pub predecessors_done : (shown new old result : List (List ℕ)) (n count : ℕ) (followers : List (List ℕ)) → shown ≡ old → old ≡ sources_of_each n [] → length new ≡ length shown → count ≡ length old → new ≡ sources_of_each (length shown) (edges_from 0 followers) → result ≡ take count (new ++ drop (length new) old) → result ≡ predecessors followers n
predecessors_done shown new old result n count followers shown_is old_is new_length count_is new_is result_is =
    let long : length shown ≡ n = ap length (shown_is ∙ old_is) ∙ length-each n [] in
    let same : length old ≡ length shown = sym (ap length shown_is) in
    result_is
    ∙ written_back count new old (omega arith) (sym count_is)
    ∙ new_is
    ∙ ap (λ m. sources_of_each m (edges_from 0 followers)) long
