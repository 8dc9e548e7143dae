-- No branch within the routines is far.
use Rattle.std.proofs.Common.{◌≡◌, ◌≢◌, ℕ, zero, suc, ◌+◌, ◌-◌, ◌<◌, ◌≤◌, ◌⊎◌, Bool, true, false, List, [], ◌∷◌, ◌++◌, length, take, drop, replicate, refl, sym, ap, ◌∙◌, subst, arith, inl, inr, ⊎_elim}
use Rattle.std.specs.Prelude.{slice_index_or, nat_lt, nat_le, ◌==◌, ◌&&◌, ◌||◌}
use Rattle.std.specs.List.{AllPairs, list_all, list_any, range_with_len}
use Rattle.std.proofs.lemmas.Bool.{cases_lt, ltb-true, leb-true, eqb-true, and_parts}
use Rattle.std.proofs.lemmas.List.Elements.{filter_map-append}
use Rattle.alpha_isa.specs.Lawful.{IsBranchDisplacement}
use Rattle.alpha_items.specs.declared.item.AsmItem.{AsmItem}
use Rattle.alpha_items.specs.declared.item.AsmItem.TheVariants.{Label, Name, Plain, Branch, TextAddress, DataAddress}
use Rattle.alpha_items.specs.Items.{label_named, names_label}
use Rattle.alpha_items.specs.Assembly.{labels, label_index}
use Rattle.alpha_items.specs.Layout.{text_words, item_place, label_place, displacement, is_far, ItemReaches, AllReach, Within, IsLeastFar}
use Rattle.alpha_items.proofs.Reach.{reaches_within, reaches_from}
use Rattle.alpha_items.proofs.Far.{gap_grows, place_mono}
use Rattle.alpha_items.proofs.Unique.{far_unique}
use Rattle.alpha_rt.specs.Items.{all_items, all_near}
use Rattle.image_theorem.proofs.RoutinePlaces.Lists.{index-first, index-second, index-take, index-drop, take-size, drop-size, append-size, position-second, position-first}
use Rattle.image_theorem.proofs.RoutinePlaces.Texts.{place-second, place-first}

-- ---- tests that compute

all-holds : {X : Type 0} (p : X → Bool) (xs : List X) (k : ℕ) (d : X) → list_all p xs ≡ true → k < length xs → p (slice_index_or xs k d) ≡ true
all-holds p [] k d h lt = absurd (omega (arith, lt))
all-holds p (x ∷ xs) zero d h lt = (and_parts (p x) (list_all p xs) h).0
all-holds p (x ∷ xs) (suc k) d h lt = all-holds p xs k d (and_parts (p x) (list_all p xs) h).1 (omega (arith, lt))

range-at : (a n k : ℕ) → k < n → slice_index_or (range_with_len a n) k 0 ≡ a + k
range-at a zero k lt = absurd (omega (arith, lt))
range-at a (suc n) zero lt = let e : a ≡ a + 0 = omega arith in e
range-at a (suc n) (suc k) lt = range-at (a + 1) n k (omega (arith, lt)) ∙ (let e : a + 1 + k ≡ a + suc k = omega arith in e)

range-size : (a n : ℕ) → length (range_with_len a n) ≡ n
range-size a zero = refl
range-size a (suc n) = ap suc (range-size (a + 1) n)

-- of each of the 20 labels of the routines
for-label : (p : ℕ → Bool) → list_all p (range_with_len 1 20) ≡ true → (l : ℕ) → 1 ≤ l → l ≤ 20 → p l ≡ true
for-label p h l from to =
    let count = range-size 1 20 in
    let sum : 1 + (l - 1) ≡ l = omega (arith, from) in
    ap p (sym (range-at 1 20 (l - 1) (omega (arith, from, to)) ∙ sum)) ∙ all-holds p (range_with_len 1 20) (l - 1) 0 h (omega (arith, from, to, count))

-- they stand within the routines
abbrev stands_within : ℕ → Bool
stands_within l = nat_lt (label_index all_items l) (length all_items)

abbrev is_label : ℕ → Bool
is_label l = list_any (λ m. m == l) (labels all_items)

pub label-within : (l : ℕ) → 1 ≤ l → l ≤ 20 → label_index all_items l < length all_items
label-within l from to = ltb-true (label_index all_items l) (length all_items) (for-label stands_within refl l from to)

label-there : (l : ℕ) → 1 ≤ l → l ≤ 20 → is_label l ≡ true
label-there l from to = for-label is_label refl l from to

-- the branches of the routines go to these
abbrev goes_within : AsmItem → Bool
goes_within (Branch op ra l) = nat_le 1 l && nat_le l 20
goes_within _ = true

all-go-within : list_all goes_within all_items ≡ true
all-go-within = refl

routines-short : item_place all_items all_near (length all_items) < 1000
routines-short = ltb-true (item_place all_items all_near (length all_items)) 1000 refl

-- ---- labels that stand once

record IsAt (xs : List ℕ) (l : ℕ) : Type 0 where
  at : ℕ
  below : at < length xs
  is : slice_index_or xs at 0 ≡ l

any-at : (xs : List ℕ) (l : ℕ) → list_any (λ m. m == l) xs ≡ true → IsAt xs l
any-at [] l e = absurd (cc)
any-at (x ∷ xs) l e = by_test (any-at xs l) (x == l) refl e
  where
    by_test : (list_any (λ m. m == l) xs ≡ true → IsAt xs l) → (t : Bool) → (x == l) ≡ t → list_any (λ m. m == l) (x ∷ xs) ≡ true → IsAt (x ∷ xs) l
    by_test ih true f e = record { at = 0; below = omega arith; is = eqb-true x l f }
    by_test ih false f e =
        let h = ih (rest (x == l) (list_any (λ m. m == l) xs) f e) in
        let below = h.below in
        record { at = suc h.at; below = omega (arith, below); is = h.is }
      where
        rest : (a b : Bool) → a ≡ false → (a || b) ≡ true → b ≡ true
        rest true b f e = absurd (cc)
        rest false b f e = e

named-at : (front : List AsmItem) (l k : ℕ) (d : AsmItem) → k < length front → names_label l (slice_index_or front k d) ≡ true → IsAt (labels front) l
named-at [] l k d lt e = absurd (omega (arith, lt))
named-at (Label m ∷ front) l zero d lt e = record { at = 0; below = omega arith; is = eqb-true m l e }
named-at (Label m ∷ front) l (suc k) d lt e =
    let h = named-at front l k d (omega (arith, lt)) e in
    let below = h.below in
    record { at = suc h.at; below = omega (arith, below); is = h.is }
named-at (Name bytes ∷ front) l zero d lt e = absurd (cc)
named-at (Name bytes ∷ front) l (suc k) d lt e = let h = named-at front l k d (omega (arith, lt)) e in record { at = h.at; below = h.below; is = h.is }
named-at (Plain insn ∷ front) l zero d lt e = absurd (cc)
named-at (Plain insn ∷ front) l (suc k) d lt e = let h = named-at front l k d (omega (arith, lt)) e in record { at = h.at; below = h.below; is = h.is }
named-at (Branch op ra m ∷ front) l zero d lt e = absurd (cc)
named-at (Branch op ra m ∷ front) l (suc k) d lt e = let h = named-at front l k d (omega (arith, lt)) e in record { at = h.at; below = h.below; is = h.is }
named-at (TextAddress ra m ∷ front) l zero d lt e = absurd (cc)
named-at (TextAddress ra m ∷ front) l (suc k) d lt e = let h = named-at front l k d (omega (arith, lt)) e in record { at = h.at; below = h.below; is = h.is }
named-at (DataAddress ra offset ∷ front) l zero d lt e = absurd (cc)
named-at (DataAddress ra offset ∷ front) l (suc k) d lt e = let h = named-at front l k d (omega (arith, lt)) e in record { at = h.at; below = h.below; is = h.is }

module _ (front back : List AsmItem) (once : AllPairs (λ l m. l ≢ m) (labels (front ++ (all_items ++ back)))) where
  abbrev items : List AsmItem
  items = front ++ (all_items ++ back)

  abbrev n : ℕ
  n = length front

  abbrev m : ℕ
  m = length all_items

  none-before : (l : ℕ) → 1 ≤ l → l ≤ 20 → (k : ℕ) (d : AsmItem) → k < n → names_label l (slice_index_or front k d) ≡ false
  none-before l from to k d lt = by_test (names_label l (slice_index_or front k d)) refl
    where
      by_test : (t : Bool) → names_label l (slice_index_or front k d) ≡ t → t ≡ false
      by_test false e = refl
      by_test true e =
          let a = named-at front l k d lt e in
          let b = any-at (labels all_items) l (label-there l from to) in
          let low = a.below in
          let high = b.below in
          let split : labels items ≡ labels front ++ (labels all_items ++ labels back) = filter_map-append label_named front (all_items ++ back) ∙ ap (λ z. labels front ++ z) (filter_map-append label_named all_items back) in
          let size = append-size (labels front) (labels all_items ++ labels back) in
          let inner = append-size (labels all_items) (labels back) in
          let apart = subst (AllPairs (λ x y. x ≢ y)) split once a.at (length (labels front) + b.at) 0 (omega (arith, low)) (omega (arith, size, inner, high)) in
          let sum : length (labels front) + b.at - length (labels front) ≡ b.at = omega arith in
          let first : slice_index_or (labels front ++ (labels all_items ++ labels back)) a.at 0 ≡ l = index-first (labels front) (labels all_items ++ labels back) a.at 0 low ∙ a.is in
          let second : slice_index_or (labels front ++ (labels all_items ++ labels back)) (length (labels front) + b.at) 0 ≡ l =
          index-second (labels front) (labels all_items ++ labels back) (length (labels front) + b.at) 0 (omega arith)
          ∙ ap (λ j. slice_index_or (labels all_items ++ labels back) j 0) sum ∙ index-first (labels all_items) (labels back) b.at 0 high ∙ b.is in
          absurd (apart (first ∙ sym second))

  pub label-at : (l : ℕ) → 1 ≤ l → l ≤ 20 → label_index items l ≡ n + label_index all_items l
  label-at l from to = position-second (names_label l) front (all_items ++ back) (none-before l from to) ∙ ap (λ j. n + j) (position-first (names_label l) all_items back (label-within l from to))

  module _ (far : List Bool) (least : IsLeastFar items far) where
    abbrev pub F1 : List Bool
    F1 = take n far

    abbrev pub F2 : List Bool
    F2 = drop (n + m) far

    -- the same list without far branches in the routines
    abbrev pub other : List Bool
    other = F1 ++ (all_near ++ F2)

    near-size : length all_near ≡ m
    near-size = refl

    items-size : length items ≡ n + (m + length back)
    items-size = append-size front (all_items ++ back) ∙ ap (λ j. n + j) (append-size all_items back)

    pub F1-size : length F1 ≡ n
    F1-size = let all = least.one_each in let size = items-size in take-size n far (omega (arith, all, size))

    other-size : length other ≡ length items
    other-size =
        let all = least.one_each in
        let size = items-size in
        let one = F1-size in
        let outer = append-size F1 (all_near ++ F2) in
        let inner = append-size all_near F2 in
        let rest = drop-size (n + m) far in
        let near = near-size in
        omega (arith, all, size, one, outer, inner, rest, near)

    near-none : (k : ℕ) (j : ℕ) → slice_index_or (replicate j false) k false ≡ false
    near-none k zero = refl
    near-none zero (suc j) = refl
    near-none (suc k) (suc j) = near-none k j

    near-at : (k : ℕ) → n ≤ k → k < n + m → is_far other k ≡ false
    near-at k from to =
        let one = F1-size in
        let near = near-size in
        index-second F1 (all_near ++ F2) k false (omega (arith, one, from))
        ∙ index-first all_near F2 (k - length F1) false (omega (arith, one, near, from, to))
        ∙ near-none (k - length F1) m

    other-at : (k : ℕ) → (k < n) ⊎ (n + m ≤ k) → is_far other k ≡ is_far far k
    other-at k (inl lt) = let one = F1-size in index-first F1 (all_near ++ F2) k false (omega (arith, one, lt)) ∙ index-take n far k false lt
    other-at k (inr le) =
        let one = F1-size in
        let near = near-size in
        let sum : n + m + (k - length F1 - length all_near) ≡ k = omega (arith, one, near, le) in
        index-second F1 (all_near ++ F2) k false (omega (arith, one, le))
        ∙ index-second all_near F2 (k - length F1) false (omega (arith, one, near, le))
        ∙ index-drop (n + m) far (k - length F1 - length all_near) false
        ∙ ap (λ j. slice_index_or far j false) sum

    beside : (k : ℕ) → ((k < n) ⊎ (n + m ≤ k)) ⊎ ((n ≤ k) × (k < n + m))
    beside k = ⊎_elim
        (λ lt. inl (inl lt))
        (λ from. ⊎_elim (λ to. inr (omega (arith, from), to)) (λ le. inl (inr (omega (arith, le)))) (cases_lt k (n + m)))
        (cases_lt k n)

    within : Within other far
    within k e = ⊎_elim (λ out. sym (other-at k out) ∙ e) (λ ins. absurd (clash (sym (near-at k ins.0 ins.1) ∙ e))) (beside k)
      where
        clash : false ≡ true → ⊥
        clash q = cc

    -- where the routines begin, in words
    abbrev pub W : ℕ
    W = text_words front F1

    pub place-in : (j : ℕ) → j ≤ m → item_place items other (n + j) ≡ W + item_place all_items all_near j
    place-in j le =
        place-second front (all_items ++ back) F1 (all_near ++ F2) j F1-size
        ∙ ap (λ z. W + z) (place-first all_items back all_near F2 j near-size le)

    pub label-in : (l : ℕ) → 1 ≤ l → l ≤ 20 → label_place items other l ≡ W + label_place all_items all_near l
    label-in l from to =
        let lt = label-within l from to in
        ap (item_place items other) (label-at l from to) ∙ place-in (label_index all_items l) (omega (arith, lt))

    short : (j : ℕ) → j ≤ m → item_place all_items all_near j < 1000
    short j le = let mono = place_mono all_items all_near j m le in let most = routines-short in omega (arith, mono, most)

    -- a branch within the routines reaches
    reaches-in : (j : ℕ) → j ≤ m → (l : ℕ) → 1 ≤ l → l ≤ 20 → IsBranchDisplacement (displacement (item_place items other (n + j)) (label_place items other l))
    reaches-in j le l from to =
        let here = place-in j le in
        let there = label-in l from to in
        let a = short j le in
        let lt = label-within l from to in
        let b = short (label_index all_items l) (omega (arith, lt)) in
        reaches_from (item_place items other (n + j)) (label_place items other l) (omega (arith, here, there, a, b)) (omega (arith, here, there, a, b))

    own-reaches : (here : ℕ) (x : AsmItem) → goes_within x ≡ true → ((l : ℕ) → 1 ≤ l → l ≤ 20 → IsBranchDisplacement (displacement here (label_place items other l))) → ItemReaches (label_place items other) here x
    own-reaches here (Branch op ra l) own h =
        let z = and_parts (nat_le 1 l) (nat_le l 20) own in
        h l (leb-true 1 l z.0) (leb-true l 20 z.1)
    own-reaches here (Label l) own h = tt
    own-reaches here (Name bytes) own h = tt
    own-reaches here (Plain insn) own h = tt
    own-reaches here (TextAddress ra l) own h = tt
    own-reaches here (DataAddress ra offset) own h = tt

    -- another one reaches as before, as nothing between has more words
    nearer : (k t : ℕ) → IsBranchDisplacement (displacement (item_place items far k) (item_place items far t)) → IsBranchDisplacement (displacement (item_place items other k) (item_place items other t))
    nearer k t h =
        let r = reaches_within (item_place items far k) (item_place items far t) h in
        let ahead = r.0 in
        let back-far = r.1 in
        ⊎_elim
        (λ lt.
        let gap = gap_grows items other far other-size least.one_each within k t (omega (arith, lt)) in
        let mono = place_mono items other k t (omega (arith, lt)) in
        reaches_from (item_place items other k) (item_place items other t) (omega (arith, ahead, gap)) (omega (arith, mono)))
        (λ le.
        let gap = gap_grows items other far other-size least.one_each within t k (omega (arith, le)) in
        let mono = place_mono items other t k (omega (arith, le)) in
        reaches_from (item_place items other k) (item_place items other t) (omega (arith, mono)) (omega (arith, back-far, gap)))
        (cases_lt k t)

    item-nearer : (k : ℕ) (x : AsmItem) → ItemReaches (label_place items far) (item_place items far k) x → ItemReaches (label_place items other) (item_place items other k) x
    item-nearer k (Branch op ra l) h = nearer k (label_index items l) h
    item-nearer k (Label l) h = tt
    item-nearer k (Name bytes) h = tt
    item-nearer k (Plain insn) h = tt
    item-nearer k (TextAddress ra l) h = tt
    item-nearer k (DataAddress ra offset) h = tt

    all-reach : AllReach items other
    all-reach k d lt near = ⊎_elim
        (λ out. item-nearer k (slice_index_or items k d) (least.others_reach k d lt (sym (other-at k out) ∙ near)))
        (λ ins.
        let from = ins.0 in
        let to = ins.1 in
        let sum : n + (k - n) ≡ k = omega (arith, from) in
        let below : k - n < m = omega (arith, from, to) in
        let is : slice_index_or items k d ≡ slice_index_or all_items (k - n) d = index-second front (all_items ++ back) k d (omega (arith, from)) ∙ index-first all_items back (k - n) d below in
        subst (ItemReaches (label_place items other) (item_place items other k)) (sym is)
        (own-reaches (item_place items other k) (slice_index_or all_items (k - n) d) (all-holds goes_within all_items (k - n) d all-go-within below)
        (λ l a b. subst (λ z. IsBranchDisplacement (displacement (item_place items other z) (label_place items other l))) sum (reaches-in (k - n) (omega (arith, below)) l a b))))
        (beside k)

    pub same-far : other ≡ far
    same-far = far_unique items other far
        (record {
          one_each = other-size;
          others_reach = all-reach;
          least = λ third size reach k e. least.least third size reach k (within k e);
        })
        least
