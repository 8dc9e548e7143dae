-- One turn of each loop of the text, and its end.
use Rattle.std.proofs.Common.{◌≡◌, ℕ, zero, suc, ◌+◌, ◌-◌, ◌<◌, ◌≤◌, Bool, true, false, List, [], ◌∷◌, ◌++◌, length, get_or, drop, refl, sym, ap, ◌∙◌, ⊎_elim, append_assoc, append-nil, arith}
use Rattle.std.specs.Prelude.{flat_map, codes, decimal}
use Rattle.std.proofs.lemmas.Bool.{cases_lt}
use Rattle.std.proofs.lemmas.List.{at_drop_more, at_drop_all, get_or_past, get_or_default}
use Rattle.bk_bits.specs.Sets.{has, IsNext, HasNone}
use Rattle.alloc_rules.specs.declared.scan.LifetimePart.{LifetimePart}
use Rattle.alloc_live_lines.specs.Text.{members_text, live_block_line, live_blocks_text, part_text, parts_text, lifetime_line, lifetimes_text}

-- ---- a set

-- the members from one on
abbrev pub members_from : (set : List Bool) → (from : ℕ) → List ℕ
members_from set from = members_text from (drop from set)

-- where a number is no member it has no text
none_there : (set : List Bool) (from first : ℕ) → has set from ≡ false → members_text first (drop from set) ≡ members_text (suc first) (drop (suc from) set)
none_there [] zero first e = refl
none_there [] (suc from) first e = refl
none_there (true ∷ set) zero first e = let never : ⊥ = cc in absurd never
none_there (false ∷ set) zero first e = refl
none_there (b ∷ set) (suc from) first e = none_there set from first e

one_there : (set : List Bool) (from first : ℕ) → has set from ≡ true → members_text first (drop from set) ≡ codes " t" ++ decimal first ++ members_text (suc first) (drop (suc from) set)
one_there [] zero first e = let never : ⊥ = cc in absurd never
one_there [] (suc from) first e = let never : ⊥ = cc in absurd never
one_there (true ∷ set) zero first e = refl
one_there (false ∷ set) zero first e = let never : ⊥ = cc in absurd never
one_there (b ∷ set) (suc from) first e = one_there set from first e

-- nothing stands before the next member
skipped : (set : List Bool) (gap from : ℕ) → ((j : ℕ) → from ≤ j → j < from + gap → has set j ≡ false) → members_from set from ≡ members_from set (from + gap)
skipped set zero from none = ap (members_from set) (let e : from ≡ from + 0 = omega arith in e)
skipped set (suc gap) from none =
    none_there set from from (none from (omega arith) (omega arith))
    ∙ skipped set gap (suc from) (λ j low high. none j (omega (arith, low)) (omega (arith, high)))
    ∙ ap (members_from set) (let e : suc from + gap ≡ from + suc gap = omega arith in e)

next_text : (set : List Bool) (from temp next : ℕ) → IsNext set from temp → next ≡ temp + 1 → members_from set from ≡ codes " t" ++ decimal temp ++ members_from set next
next_text set from temp next is step =
    let low = is.0 in
    skipped set (temp - from) from (λ j above below. is.2 j above (omega (arith, below, low)))
    ∙ ap (members_from set) (let e : from + (temp - from) ≡ temp = omega (arith, low) in e)
    ∙ one_there set temp temp is.1
    ∙ ap (λ n. codes " t" ++ decimal temp ++ members_from set n) (let e : suc temp ≡ next = omega (arith, step) in e)

members_next : (out : List ℕ) (set : List Bool) (from temp next : ℕ) → IsNext set from temp → next ≡ temp + 1 →
    ((out ++ codes " t") ++ decimal temp) ++ members_from set next ≡ out ++ members_from set from
members_next out set from temp next is step =
    append_assoc (out ++ codes " t") (decimal temp) (members_from set next)
    ∙ append_assoc out (codes " t") (decimal temp ++ members_from set next)
    ∙ ap (λ y. out ++ y) (sym (append_assoc (codes " t") (decimal temp) (members_from set next)))
    ∙ ap (λ y. out ++ y) (sym (next_text set from temp next is step))

none_left : (set : List Bool) (from first : ℕ) → ((j : ℕ) → from ≤ j → has set j ≡ false) → members_text first (drop from set) ≡ []
none_left [] zero first none = refl
none_left [] (suc from) first none = refl
none_left (true ∷ set) zero first none = let h = none 0 (omega arith) in let never : ⊥ = cc in absurd never
none_left (false ∷ set) zero first none = none_left set 0 (suc first) (λ j low. none (suc j) (omega arith))
none_left (b ∷ set) (suc from) first none = none_left set from first (λ j low. none (suc j) (omega (arith, low)))

pub members_end : (out : List ℕ) (set : List Bool) (from : ℕ) → HasNone set from → out ++ members_from set from ≡ out
members_end out set from none = ap (λ y. out ++ y) (none_left set from from none) ∙ append-nil out

within_set : (set : List Bool) (t : ℕ) → has set t ≡ true → t < length set
within_set set t h = ⊎_elim (λ (below : t < length set). below) (λ past. absurd (let none = get_or_past set t false past in cc)) (cases_lt t (length set))

pub member_inside : (set : List Bool) (from temp bound : ℕ) → IsNext set from temp → length set < bound → temp + 1 < bound
member_inside set from temp bound is few = let within = within_set set temp is.1 in omega (arith, within, few)

pub member_within : (set : List Bool) (from temp : ℕ) → IsNext set from temp → temp + 1 ≤ length set
member_within set from temp is = let within = within_set set temp is.1 in omega (arith, within)

pub members_step : (old now one two : List ℕ) (set : List Bool) (from temp : ℕ) → IsNext set from temp → one ≡ now ++ codes " t" → two ≡ one ++ decimal temp →
    now ++ members_from set from ≡ old ++ members_from set 0 → two ++ members_from set (temp + 1) ≡ old ++ members_from set 0
members_step old now one two set from temp is one_is two_is so =
    ap (λ l. l ++ members_from set (temp + 1)) (two_is ∙ ap (λ l. l ++ decimal temp) one_is)
    ∙ members_next now set from temp (temp + 1) is refl ∙ so

-- ---- lists

pub parts_next : (out : List ℕ) (xs : List LifetimePart) (i : ℕ) (x : LifetimePart) → x ≡ get_or xs i x → i < length xs →
    (out ++ part_text x) ++ parts_text (drop (i + 1) xs) ≡ out ++ parts_text (drop i xs)
parts_next out xs i x is within =
    append_assoc out (part_text x) (flat_map part_text (drop (i + 1) xs))
    ∙ ap (λ y. out ++ (part_text y ++ flat_map part_text (drop (i + 1) xs))) is
    ∙ ap (λ y. out ++ y) (sym (at_drop_more (flat_map part_text) xs i x within))

pub parts_end : (out : List ℕ) (xs : List LifetimePart) (i : ℕ) → length xs ≤ i → out ++ parts_text (drop i xs) ≡ out
parts_end out xs i past = ap (λ y. out ++ y) (at_drop_all (flat_map part_text) xs i past) ∙ append-nil out

pub lifetimes_next : (out : List ℕ) (xs : List (List LifetimePart)) (i : ℕ) (x : List LifetimePart) → x ≡ get_or xs i x → i < length xs →
    (out ++ lifetime_line i x) ++ lifetimes_text (i + 1) (drop (i + 1) xs) ≡ out ++ lifetimes_text i (drop i xs)
lifetimes_next out xs i x is within =
    append_assoc out (lifetime_line i x) (lifetimes_text (i + 1) (drop (i + 1) xs))
    ∙ ap (λ y. out ++ (lifetime_line i y ++ lifetimes_text (i + 1) (drop (i + 1) xs))) is
    ∙ ap (λ y. out ++ y) (sym (at_drop_more (lifetimes_text i) xs i x within))

pub lifetimes_end : (out : List ℕ) (xs : List (List LifetimePart)) (i : ℕ) → length xs ≤ i → out ++ lifetimes_text i (drop i xs) ≡ out
lifetimes_end out xs i past = ap (λ y. out ++ y) (at_drop_all (lifetimes_text i) xs i past) ∙ append-nil out

pub blocks_next : (out : List ℕ) (bottoms tops : List (List Bool)) (i : ℕ) (top bottom : List Bool) → top ≡ get_or tops i top → bottom ≡ get_or bottoms i bottom → i < length tops → i < length bottoms →
    (out ++ live_block_line i top bottom) ++ live_blocks_text (i + 1) bottoms (drop (i + 1) tops) ≡ out ++ live_blocks_text i bottoms (drop i tops)
blocks_next out bottoms tops i top bottom top_is bottom_is within inside =
    append_assoc out (live_block_line i top bottom) (live_blocks_text (i + 1) bottoms (drop (i + 1) tops))
    ∙ ap (λ y. out ++ (live_block_line i y bottom ++ live_blocks_text (i + 1) bottoms (drop (i + 1) tops))) top_is
    ∙ ap (λ y. out ++ (live_block_line i (get_or tops i top) y ++ live_blocks_text (i + 1) bottoms (drop (i + 1) tops))) (bottom_is ∙ get_or_default bottoms i bottom [] inside)
    ∙ ap (λ y. out ++ y) (sym (at_drop_more (live_blocks_text i bottoms) tops i top within))

pub blocks_end : (out : List ℕ) (bottoms tops : List (List Bool)) (i : ℕ) → length tops ≤ i → out ++ live_blocks_text i bottoms (drop i tops) ≡ out
blocks_end out bottoms tops i past = ap (λ y. out ++ y) (at_drop_all (live_blocks_text i bottoms) tops i past) ∙ append-nil out
