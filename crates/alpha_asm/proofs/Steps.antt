-- What one step of a sweep keeps, and what two sweeps show.
use Rattle.std.proofs.Common.{◌≡◌, ◌≢◌, ℕ, zero, suc, ◌+◌, ◌<◌, ◌≤◌, ◌-◌, Bool, true, false, not, cond, List, length, drop, get_or, set, replicate, sym, ◌∙◌, ap, subst, ⊎_elim, arith}
use native.Mathlib.Numerals.{unary_clauses}
use Rattle.std.specs.List.{sum}
use Rattle.std.proofs.lemmas.Bool.{cases_eq, cases_lt}
use Rattle.std.proofs.lemmas.List.{length-set, get_or-set_same, get_or-set_other, get_or-replicate, get_or_default, get_or_past, get_or_read, length-replicate, drop_more, drop_all}
use Rattle.std.proofs.lemmas.List.Sums.{sum_by-set, sum_by-take-drop}
use Rattle.alpha_isa.specs.declared.insn.BranchOp.{BranchOp}
use Rattle.alpha_items.specs.declared.item.AsmItem.{AsmItem}
use Rattle.alpha_items.specs.declared.item.AsmItem.TheVariants.{Label, Name, Plain, Branch, TextAddress, DataAddress}
use Rattle.alpha_items.specs.Assembly.{label_index}
use Rattle.alpha_items.specs.Layout.{item_words, sizes, item_place, label_place, displacement, ItemReaches, is_far, AllReach, IsForced}
use Rattle.alpha_isa.specs.Lawful.{IsBranchDisplacement}
use Rattle.alpha_items.proofs.Sums.{sum-cons, sum-more}
use Rattle.alpha_items.proofs.Reach.{reaches_from}
use Rattle.alpha_items.proofs.Far.{length-sizes, sizes-at, place-more}
use Rattle.alpha_items.proofs.Forced.{IsShort, forced_ahead, forced_back}
use Rattle.alpha_asm.specs.model.Sweeps.{SweptBack, SweptForth, BackReachesAt, ForthReachesAt, TooFarBack, TooFarForth, GrowsWhere, ArePlaces, near, rest, reach}
use Rattle.alpha_asm.proofs.Places.{place-set, rest-set}

-- ---- words behind an item

pub rest-more : (items : List AsmItem) (far : List Bool) (k : ℕ) (d : AsmItem) → length far ≡ length items → k < length items →
    rest items far k ≡ item_words (is_far far k) (get_or items k d) + rest items far (k + 1)
rest-more items far k d e h =
    let inside : k < length (sizes items far) = omega (arith, h, length-sizes items far e) in
    ap sum (drop_more (sizes items far) k 0 inside) ∙ sum-cons (get_or (sizes items far) k 0) (drop (k + 1) (sizes items far))
    ∙ ap (λ n. n + rest items far (k + 1)) (sizes-at items far k d e h)

pub whole_text : (items : List AsmItem) (far : List Bool) (k : ℕ) → item_place items far k + rest items far k ≡ sum (sizes items far)
whole_text items far k = sum_by-take-drop (λ (n : ℕ). n) (sizes items far) k

-- ---- one far branch more

pub near-set : (far : List Bool) (k : ℕ) → k < length far → is_far far k ≡ false → near (set far k true) + 1 ≡ near far
near-set far k h short =
    let counted = sum_by-set (λ (b : Bool). cond (not b) 1 0) far k true false h in
    let weight : Bool → ℕ = λ b. cond (not b) 1 0 in
    let one : weight (is_far far k) ≡ weight false = ap weight short in
    omega (arith, counted, one)

grown_set : (first far : List Bool) (k : ℕ) (grew : Bool) → k < length far → is_far far k ≡ false → GrowsWhere first far grew → near (set far k true) < near first
grown_set first far k true h short grown = omega (arith, grown, near-set far k h short)
grown_set first far k false h short grown = omega (arith, ap near grown, near-set far k h short)

-- ---- a step from the front

back_kept : (items : List AsmItem) (far : List Bool) (i k : ℕ) → k < i → BackReachesAt items far k → BackReachesAt items (set far i true) k
back_kept items far i k before reaches op ra l is short behind =
    let same = get_or-set_other far i k true false (λ (e : k ≡ i). omega (arith, e, before)) in
    let close = reaches op ra l is (sym same ∙ short) behind in
    let here = place-set items far i k true (omega (arith, before)) in
    let there = place-set items far i (label_index items l) true (omega (arith, before, behind)) in
    omega (arith, close, here, there)

-- the places after one more is written
places_more : (items : List AsmItem) (far : List Bool) (places : List ℕ) (i w : ℕ) → length far ≡ length items → i < length items →
    length places ≡ length items + 1 → ((k : ℕ) → k ≤ i → get_or places k 0 ≡ item_place items far k) →
    w ≡ item_words (is_far far i) (get_or items i (Label 0)) →
    (k : ℕ) → k ≤ i + 1 → get_or (set places (i + 1) (get_or places i 0 + w)) k 0 ≡ item_place items far k
places_more items far places i w e inside room at size k below =
    ⊎_elim
    (λ (same : k ≡ i + 1).
    let P : ℕ → Type 0 = λ m. get_or (set places (i + 1) (get_or places i 0 + w)) m 0 ≡ item_place items far m in
    let new = get_or-set_same places (i + 1) (get_or places i 0 + w) 0 (omega (arith, inside, room)) in
    let before = at i (omega arith) in
    let more = place-more items far i (Label 0) e inside in
    let next : i + 1 ≡ suc i = omega arith in
    let after : item_place items far (i + 1) ≡ item_place items far (suc i) = ap (item_place items far) next in
    subst P (sym same) (omega (arith, new, before, more, size, after)))
    (λ (apart : k ≢ i + 1).
    get_or-set_other places (i + 1) k (get_or places i 0 + w) 0 apart ∙ at k (omega (arith, below, apart)))
    (cases_eq k (i + 1))

pub back_same : (items : List AsmItem) (far : List Bool) (places : List ℕ) (i w : ℕ) (x : AsmItem) → SweptBack items far places i → i < length items →
    x ≡ get_or items i x → BackReachesAt items far i → w ≡ item_words (is_far far i) x →
    SweptBack items far (set places (i + 1) (get_or places i 0 + w)) (i + 1)
back_same items far places i w x swept inside read reaches words =
    let size : w ≡ item_words (is_far far i) (get_or items i (Label 0)) = words ∙ ap (item_words (is_far far i)) (get_or_read items i x inside read (Label 0)) in
    record {
      one_each = swept.one_each;
      room = length-set places (i + 1) (get_or places i 0 + w) ∙ swept.room;
      at = places_more items far places i w swept.one_each inside swept.room swept.at size;
      reach = λ k below. ⊎_elim (λ (before : k < i). swept.reach k before)
          (λ (not_before : i ≤ k).
          let same : i ≡ k = omega (arith, below, not_before) in
          let P : ℕ → Type 0 = λ m. BackReachesAt items far m in subst P same reaches) (cases_lt k i);
    }

pub back_set : (items : List AsmItem) (far : List Bool) (places : List ℕ) (i w : ℕ) (x : AsmItem) → SweptBack items far places i → i < length items →
    x ≡ get_or items i x → w ≡ item_words true x →
    SweptBack items (set far i true) (set places (i + 1) (get_or places i 0 + w)) (i + 1)
back_set items far places i w x swept inside read words =
    let size : w ≡ item_words true (get_or items i (Label 0)) = words ∙ ap (item_words true) (get_or_read items i x inside read (Label 0)) in
    let long : length (set far i true) ≡ length items = length-set far i true ∙ swept.one_each in
    let set_now : is_far (set far i true) i ≡ true = get_or-set_same far i true false (omega (arith, inside, swept.one_each)) in
    let size_now : w ≡ item_words (is_far (set far i true) i) (get_or items i (Label 0)) = size ∙ ap (λ b. item_words b (get_or items i (Label 0))) (sym set_now) in
    record {
      one_each = long;
      room = length-set places (i + 1) (get_or places i 0 + w) ∙ swept.room;
      at = places_more items (set far i true) places i w long inside swept.room (λ k below. swept.at k below ∙ sym (place-set items far i k true below)) size_now;
      reach = λ k below. ⊎_elim (λ (before : k < i). back_kept items far i k before (swept.reach k before))
          (λ (not_before : i ≤ k) op ra l is short behind.
          let same : i ≡ k = omega (arith, below, not_before) in
          let now : is_far (set far i true) k ≡ true = subst (λ (m : ℕ). is_far (set far i true) m ≡ true) same set_now in
          let clash : true ≡ false = sym now ∙ short in
          let none : ⊥ = cc in absurd none) (cases_lt k i);
    }

pub short_of : (items : List AsmItem) (far : List Bool) (i : ℕ) (op : BranchOp) (ra l : ℕ) → length far ≡ length items → i < length items →
    get_or items i (Label 0) ≡ Branch op ra l → is_far far i ≡ false → IsShort items far i op ra l
short_of items far i op ra l e inside is short = record {
  one_each = e;
  inside = inside;
  is_branch = λ d. get_or_default items i d (Label 0) inside ∙ is;
  short = short;
}

pub back_forced : (items : List AsmItem) (far : List Bool) (i : ℕ) → length far ≡ length items → i < length items → TooFarBack items far i →
    IsForced items far → IsForced items (set far i true)
back_forced items far i e inside too forced =
    forced_back items far i too.op too.ra too.l (short_of items far i too.op too.ra too.l e inside too.is_branch too.short) forced too.behind too.beyond

pub back_grown : (items : List AsmItem) (far : List Bool) (i : ℕ) → length far ≡ length items → i < length items → TooFarBack items far i →
    (first : List Bool) (grew : Bool) → GrowsWhere first far grew → near (set far i true) < near first
back_grown items far i e inside too first grew grown = grown_set first far i grew (omega (arith, e, inside)) too.short grown

-- ---- a step from the end

forth_kept : (items : List AsmItem) (far : List Bool) (i k : ℕ) → i < k → ForthReachesAt items far k → ForthReachesAt items (set far i true) k
forth_kept items far i k after reaches op ra l is short ahead =
    let same = get_or-set_other far i k true false (λ (e : k ≡ i). omega (arith, e, after)) in
    let close = reaches op ra l is (sym same ∙ short) ahead in
    let here = rest-set items far i (k + 1) true (omega (arith, after)) in
    let there = rest-set items far i (label_index items l) true (omega (arith, after, ahead)) in
    omega (arith, close, here, there)

rests_more : (items : List AsmItem) (far : List Bool) (rests : List ℕ) (i w : ℕ) → length far ≡ length items → i < length items →
    length rests ≡ length items + 1 → ((k : ℕ) → i + 1 ≤ k → k ≤ length items → get_or rests k 0 ≡ rest items far k) →
    w ≡ item_words (is_far far i) (get_or items i (Label 0)) →
    (k : ℕ) → i ≤ k → k ≤ length items → get_or (set rests i (get_or rests (i + 1) 0 + w)) k 0 ≡ rest items far k
rests_more items far rests i w e inside room at size k from within =
    ⊎_elim
    (λ (same : k ≡ i).
    let P : ℕ → Type 0 = λ m. get_or (set rests i (get_or rests (i + 1) 0 + w)) m 0 ≡ rest items far m in
    let new = get_or-set_same rests i (get_or rests (i + 1) 0 + w) 0 (omega (arith, inside, room)) in
    let behind = at (i + 1) (omega arith) (omega (arith, inside)) in
    let more = rest-more items far i (Label 0) e inside in
    subst P (sym same) (omega (arith, new, behind, more, size)))
    (λ (apart : k ≢ i).
    get_or-set_other rests i k (get_or rests (i + 1) 0 + w) 0 apart ∙ at k (omega (arith, from, apart)) within)
    (cases_eq k i)

pub forth_same : (items : List AsmItem) (far : List Bool) (rests : List ℕ) (i w : ℕ) (x : AsmItem) → SweptForth items far rests (i + 1) → i < length items →
    x ≡ get_or items i x → ForthReachesAt items far i → w ≡ item_words (is_far far i) x →
    SweptForth items far (set rests i (get_or rests (i + 1) 0 + w)) i
forth_same items far rests i w x swept inside read reaches words =
    let size : w ≡ item_words (is_far far i) (get_or items i (Label 0)) = words ∙ ap (item_words (is_far far i)) (get_or_read items i x inside read (Label 0)) in
    record {
      one_each = swept.one_each;
      room = length-set rests i (get_or rests (i + 1) 0 + w) ∙ swept.room;
      at = rests_more items far rests i w swept.one_each inside swept.room swept.at size;
      reach = λ k from within. ⊎_elim (λ (after : i < k). swept.reach k (omega (arith, after)) within)
          (λ (not_after : k ≤ i).
          let same : i ≡ k = omega (arith, from, not_after) in
          let P : ℕ → Type 0 = λ m. ForthReachesAt items far m in subst P same reaches) (cases_lt i k);
    }

pub forth_set : (items : List AsmItem) (far : List Bool) (rests : List ℕ) (i w : ℕ) (x : AsmItem) → SweptForth items far rests (i + 1) → i < length items →
    x ≡ get_or items i x → w ≡ item_words true x →
    SweptForth items (set far i true) (set rests i (get_or rests (i + 1) 0 + w)) i
forth_set items far rests i w x swept inside read words =
    let size : w ≡ item_words true (get_or items i (Label 0)) = words ∙ ap (item_words true) (get_or_read items i x inside read (Label 0)) in
    let long : length (set far i true) ≡ length items = length-set far i true ∙ swept.one_each in
    let set_now : is_far (set far i true) i ≡ true = get_or-set_same far i true false (omega (arith, inside, swept.one_each)) in
    let size_now : w ≡ item_words (is_far (set far i true) i) (get_or items i (Label 0)) = size ∙ ap (λ b. item_words b (get_or items i (Label 0))) (sym set_now) in
    record {
      one_each = long;
      room = length-set rests i (get_or rests (i + 1) 0 + w) ∙ swept.room;
      at = rests_more items (set far i true) rests i w long inside swept.room
          (λ k from within. swept.at k from within ∙ sym (rest-set items far i k true (omega (arith, from)))) size_now;
      reach = λ k from within. ⊎_elim (λ (after : i < k). forth_kept items far i k after (swept.reach k (omega (arith, after)) within))
          (λ (not_after : k ≤ i) op ra l is short ahead.
          let same : i ≡ k = omega (arith, from, not_after) in
          let now : is_far (set far i true) k ≡ true = subst (λ (m : ℕ). is_far (set far i true) m ≡ true) same set_now in
          let clash : true ≡ false = sym now ∙ short in
          let none : ⊥ = cc in absurd none) (cases_lt i k);
    }

pub forth_forced : (items : List AsmItem) (far : List Bool) (i : ℕ) → length far ≡ length items → i < length items → TooFarForth items far i →
    IsForced items far → IsForced items (set far i true)
forth_forced items far i e inside too forced =
    let t = label_index items too.l in
    let is_short = short_of items far i too.op too.ra too.l e inside too.is_branch too.short in
    let here = whole_text items far (i + 1) in
    let there = whole_text items far t in
    let more = place-more items far i (Label 0) e inside in
    let next : i + 1 ≡ suc i = omega arith in
    let after : item_place items far (i + 1) ≡ item_place items far (suc i) = ap (item_place items far) next in
    let one : item_words (is_far far i) (get_or items i (Label 0)) ≡ 1
    = ap (λ b. item_words b (get_or items i (Label 0))) too.short ∙ ap (item_words false) too.is_branch in
    let beyond : item_place items far i + 1 + 1048576 ≤ label_place items far too.l = omega (arith, here, there, more, after, one, too.beyond) in
    forced_ahead items far i too.op too.ra too.l is_short forced too.ahead beyond

pub forth_grown : (items : List AsmItem) (far : List Bool) (i : ℕ) → length far ≡ length items → i < length items → TooFarForth items far i →
    (first : List Bool) (grew : Bool) → GrowsWhere first far grew → near (set far i true) < near first
forth_grown items far i e inside too first grew grown = grown_set first far i grew (omega (arith, e, inside)) too.short grown

-- ---- two sweeps

place_rises : (items : List AsmItem) (far : List Bool) (k n : ℕ) → item_place items far k ≤ item_place items far (k + n)
place_rises items far k zero = simp unary_clauses (omega arith)
place_rises items far k (suc n) =
    let before = place_rises items far k n in
    let more = sum-more (sizes items far) (k + n) in
    simp unary_clauses (omega (arith, before, more))

place_mono : (items : List AsmItem) (far : List Bool) (i j : ℕ) → i ≤ j → item_place items far i ≤ item_place items far j
place_mono items far i j h =
    let n : ℕ = j - i in
    let at : i + n ≡ j = omega (arith, h) in
    let P : ℕ → Type 0 = λ m. item_place items far i ≤ item_place items far m in
    subst P at (place_rises items far i n)

-- a branch at k that neither sweep found too far
record Near (items : List AsmItem) (far : List Bool) (k : ℕ) (op : BranchOp) (ra l : ℕ) : Type 0 where
  one_each : length far ≡ length items
  inside : k < length items
  is_branch : get_or items k (Label 0) ≡ Branch op ra l
  short : is_far far k ≡ false
  back : BackReachesAt items far k
  forth : ForthReachesAt items far k

next_place : (items : List AsmItem) (far : List Bool) (k : ℕ) (op : BranchOp) (ra l : ℕ) → Near items far k op ra l →
    item_place items far (k + 1) ≡ item_place items far k + 1
next_place items far k op ra l n =
    let next : k + 1 ≡ suc k = omega arith in
    ap (item_place items far) next ∙ place-more items far k (Label 0) n.one_each n.inside
    ∙ ap (λ b. item_place items far k + item_words b (get_or items k (Label 0))) n.short
    ∙ ap (λ i. item_place items far k + item_words false i) n.is_branch

near_reaches : (items : List AsmItem) (far : List Bool) (k : ℕ) (op : BranchOp) (ra l : ℕ) → Near items far k op ra l →
    IsBranchDisplacement (displacement (item_place items far k) (label_place items far l))
near_reaches items far k op ra l n =
    let t : ℕ = label_index items l in
    let next = next_place items far k op ra l n in
    ⊎_elim
    (λ (ahead : k < t).
    let close = n.forth op ra l n.is_branch n.short ahead in
    let here = whole_text items far (k + 1) in
    let there = whole_text items far t in
    let rises = place_mono items far (k + 1) t (omega (arith, ahead)) in
    reaches_from (item_place items far k) (label_place items far l) (omega (arith, close, here, there, next)) (omega (arith, rises, next)))
    (λ (behind : t ≤ k).
    let close = n.back op ra l n.is_branch n.short behind in
    let rises = place_mono items far t k behind in
    reaches_from (item_place items far k) (label_place items far l) (omega (arith, rises)) (omega (arith, close)))
    (cases_lt k t)

item_reaches : (items : List AsmItem) (far : List Bool) (k : ℕ) (i : AsmItem) → length far ≡ length items → k < length items →
    get_or items k (Label 0) ≡ i → is_far far k ≡ false → BackReachesAt items far k → ForthReachesAt items far k →
    ItemReaches (label_place items far) (item_place items far k) i
item_reaches items far k (Label l) e h is short back forth = tt
item_reaches items far k (Name bytes) e h is short back forth = tt
item_reaches items far k (Plain insn) e h is short back forth = tt
item_reaches items far k (Branch op ra l) e h is short back forth =
    near_reaches items far k op ra l (record { one_each = e; inside = h; is_branch = is; short = short; back = back; forth = forth })
item_reaches items far k (TextAddress ra l) e h is short back forth = tt
item_reaches items far k (DataAddress ra offset) e h is short back forth = tt

pub all_reach : (items : List AsmItem) (far : List Bool) (rests places : List ℕ) → SweptForth items far rests 0 →
    SweptBack items far places (length items) → AllReach items far
all_reach items far rests places forth back k d h short =
    item_reaches items far k (get_or items k d) back.one_each h (get_or_default items k (Label 0) d h) short
    (back.reach k h) (forth.reach k (omega arith) h)

-- nothing is far at first
pub none_forced : (items : List AsmItem) (n : ℕ) → IsForced items (replicate n false)
none_forced items n other e reach k h =
    let none : is_far (replicate n false) k ≡ false = ⊎_elim (λ (below : k < n). get_or-replicate n k false false below)
    (λ (past : n ≤ k). get_or_past (replicate n false) k false (omega (arith, past, length-replicate n false))) (cases_lt k n) in
    let clash : true ≡ false = sym h ∙ none in
    let nothing : ⊥ = cc in absurd nothing

-- where the sweeps begin
pub back_begins : (items : List AsmItem) (far : List Bool) (places : List ℕ) → length far ≡ length items → length places ≡ length items + 1 →
    SweptBack items far (set places 0 0) 0
back_begins items far places e room = record {
  one_each = e;
  room = length-set places 0 0 ∙ room;
  at = λ k below.
      let same : 0 ≡ k = omega (arith, below) in
      let P : ℕ → Type 0 = λ m. get_or (set places 0 0) m 0 ≡ item_place items far m in
      subst P same (get_or-set_same places 0 0 0 (omega (arith, room)));
  reach = λ k below. absurd (omega (arith, below));
}

rest_end : (items : List AsmItem) (far : List Bool) → length far ≡ length items → rest items far (length items) ≡ 0
rest_end items far e = ap sum (drop_all (length items) (sizes items far) (omega (arith, length-sizes items far e)))

pub forth_begins : (items : List AsmItem) (far : List Bool) (rests : List ℕ) → length far ≡ length items → length rests ≡ length items + 1 →
    SweptForth items far (set rests (length items) 0) (length items)
forth_begins items far rests e room = record {
  one_each = e;
  room = length-set rests (length items) 0 ∙ room;
  at = λ k from within.
      let same : length items ≡ k = omega (arith, from, within) in
      let P : ℕ → Type 0 = λ m. get_or (set rests (length items) 0) m 0 ≡ rest items far m in
      subst P same (get_or-set_same rests (length items) 0 0 (omega (arith, room)) ∙ sym (rest_end items far e));
  reach = λ k from within. absurd (omega (arith, from, within));
}

-- the places that a sweep from the front leaves
pub places_of : (items : List AsmItem) (far : List Bool) (places : List ℕ) → SweptBack items far places (length items) → ArePlaces items far places
places_of items far places back = record { room = back.room; at = back.at }

-- two sweeps: how few are near, and what reaches where the second found none
pub both_fewer : (first middle last : List Bool) (a b : Bool) → GrowsWhere first middle a → GrowsWhere middle last b → b ≡ true → near last < near first
both_fewer first middle last true true f g h = omega (arith, f, g)
both_fewer first middle last false true f g h = omega (arith, ap near f, g)
both_fewer first middle last a false f g h = let clash : ⊥ = cc in absurd clash

pub both_reach : (items : List AsmItem) (middle last : List Bool) (rests places : List ℕ) (b : Bool) → SweptForth items middle rests 0 →
    SweptBack items last places (length items) → GrowsWhere middle last b → b ≡ false → AllReach items last
both_reach items middle last rests places true forth back g h = let clash : ⊥ = cc in absurd clash
both_reach items middle last rests places false forth back g h =
    let P : List Bool → Type 0 = λ far. SweptForth items far rests 0 in
    all_reach items last rests places (subst P (sym g) forth) back
