-- Trees of sums: what a range of nodes has, and that a change keeps them.
use Rattle.std.proofs.Common.{◌≡◌, ◌≢◌, ℕ, zero, suc, ◌+◌, ◌*◌, ◌-◌, ◌<◌, ◌≤◌, Bool, List, length, take, get_or, set, replicate, sym, ◌∙◌, ap, subst, ⊎_elim, arith}
use Rattle.std.specs.List.{sum}
use Rattle.std.proofs.lemmas.Bool.{cases_eq, cases_lt}
use Rattle.std.proofs.lemmas.List.{length-set, get_or-set_same, get_or-set_other, get_or_read, get_or-replicate, get_or_past, length-replicate}
use Rattle.alpha_items.specs.declared.item.AsmItem.{AsmItem}
use Rattle.alpha_items.specs.declared.item.AsmItem.TheVariants.{Label}
use Rattle.alpha_items.specs.Layout.{item_words, sizes, item_place, is_far}
use Rattle.alpha_items.proofs.Sums.{sum-more}
use Rattle.alpha_items.proofs.Far.{length-sizes, sizes-at}
use Rattle.alpha_asm.specs.model.Sums.{front, HoldsAtMost}

-- one node more in front
pub front_more : (sums : List ℕ) (k : ℕ) → front sums (k + 1) ≡ front sums k + get_or sums k 0
front_more sums k = let next : k + 1 ≡ suc k = omega arith in ap (front sums) next ∙ sum-more sums k

front_rises : (sums : List ℕ) (l m : ℕ) → front sums l ≤ front sums (l + m)
front_rises sums l zero = let same : l + zero ≡ l = omega arith in omega (arith, ap (front sums) same)
front_rises sums l (suc m) =
    let before = front_rises sums l m in
    let more = front_more sums (l + m) in
    let next : l + suc m ≡ l + m + 1 = omega arith in
    omega (arith, before, more, ap (front sums) next)

pub front_mono : (sums : List ℕ) (l r : ℕ) → l ≤ r → front sums l ≤ front sums r
front_mono sums l r h =
    let at : l + (r - l) ≡ r = omega (arith, h) in
    omega (arith, front_rises sums l (r - l), ap (front sums) at)

-- the nodes above a range of nodes have no more than those have
halves_by : (leaves sums : List ℕ) (l m : ℕ) → HoldsAtMost leaves sums → l + m ≤ length leaves →
    front sums (l + m) + front sums (2 * l) ≤ front sums (2 * (l + m)) + front sums l
halves_by leaves sums l zero h inside =
    let same : l + zero ≡ l = omega arith in
    let twice : 2 * (l + zero) ≡ 2 * l = omega arith in
    omega (arith, ap (front sums) same, ap (front sums) twice)
halves_by leaves sums l (suc m) h inside =
    let before = halves_by leaves sums l m h (omega (arith, inside)) in
    let one = front_more sums (l + m) in
    let left = front_more sums (2 * (l + m)) in
    let right = front_more sums (2 * (l + m) + 1) in
    let node = h.nodes (l + m) (omega (arith, inside)) in
    let next : l + suc m ≡ l + m + 1 = omega arith in
    let twice : 2 * (l + suc m) ≡ 2 * (l + m) + 1 + 1 = omega arith in
    omega (arith, before, one, left, right, node, ap (front sums) next, ap (front sums) twice)

halves : (leaves sums : List ℕ) (l r : ℕ) → HoldsAtMost leaves sums → l ≤ r → r ≤ length leaves →
    front sums r + front sums (2 * l) ≤ front sums (2 * r) + front sums l
halves leaves sums l r h order inside =
    let at : l + (r - l) ≡ r = omega (arith, order) in
    let P : ℕ → Type 0 = λ n. front sums n + front sums (2 * l) ≤ front sums (2 * n) + front sums l in
    subst P at (halves_by leaves sums l (r - l) h (omega (arith, at, inside)))

-- a step up from a range of nodes
pub risen_sums : (leaves sums : List ℕ) (left right words above_left mid_words above_right last_words a b : ℕ) → HoldsAtMost leaves sums →
    above_left ≤ above_right → above_right ≤ length leaves →
    mid_words + front sums left ≤ words + front sums (2 * above_left) →
    last_words + front sums (2 * above_right) ≤ mid_words + front sums right →
    words + front sums right + a ≤ b + front sums left →
    last_words + front sums above_right + a ≤ b + front sums above_left
risen_sums leaves sums left right words above_left mid_words above_right last_words a b h order inside first second before =
    let half = halves leaves sums above_left above_right h order inside in
    omega (arith, half, first, second, before)

-- the leaves of a range of items have no more than its words
leaves_by : (leaves sums : List ℕ) (s m : ℕ) → HoldsAtMost leaves sums → s + m ≤ length leaves →
    front sums (length leaves + (s + m)) + sum (take s leaves) ≤ sum (take (s + m) leaves) + front sums (length leaves + s)
leaves_by leaves sums s zero h inside =
    let same : s + zero ≡ s = omega arith in
    let P : ℕ → Type 0 = λ n. front sums (length leaves + n) + sum (take s leaves) ≤ sum (take n leaves) + front sums (length leaves + s) in
    subst P (sym same) (omega arith)
leaves_by leaves sums s (suc m) h inside =
    let before = leaves_by leaves sums s m h (omega (arith, inside)) in
    let one = front_more sums (length leaves + (s + m)) in
    let more = front_more leaves (s + m) in
    let leaf = h.below (s + m) (omega (arith, inside)) in
    let next : s + suc m ≡ s + m + 1 = omega arith in
    let node : length leaves + (s + m + 1) ≡ length leaves + (s + m) + 1 = omega arith in
    let P : ℕ → Type 0 = λ n. front sums (length leaves + n) + sum (take s leaves) ≤ sum (take n leaves) + front sums (length leaves + s) in
    subst P (sym next) (omega (arith, before, one, more, leaf, ap (front sums) node))

-- what a walk up from the leaves of a range of items counts
pub counted_sums : (items : List AsmItem) (far : List Bool) (sums : List ℕ) (start last left right words : ℕ) → HoldsAtMost (sizes items far) sums →
    length far ≡ length items → start ≤ last → last ≤ length items → left ≤ right →
    words + front sums right + front sums (length items + start) ≤ front sums (length items + last) + front sums left →
    words + item_place items far start ≤ item_place items far last
counted_sums items far sums start last left right words h e order inside sorted walked =
    let long = length-sizes items far e in
    let rises = front_mono sums left right sorted in
    let at : start + (last - start) ≡ last = omega (arith, order) in
    let leaves = leaves_by (sizes items far) sums start (last - start) h (omega (arith, at, inside, long)) in
    let P : ℕ → Type 0 = λ n. front sums (length (sizes items far) + n) + item_place items far start ≤ item_place items far n + front sums (length (sizes items far) + start) in
    let Q : ℕ → Type 0 = λ size. front sums (size + last) + item_place items far start ≤ item_place items far last + front sums (size + start) in
    let here = subst Q long (subst P at leaves) in
    omega (arith, here, rises, walked)

-- a node that takes more keeps a tree
grows : (sums : List ℕ) (j v : ℕ) → j < length sums → get_or sums j 0 ≤ v → (k : ℕ) → get_or sums k 0 ≤ get_or (set sums j v) k 0
grows sums j v inside more k =
    ⊎_elim
    (λ (same : k ≡ j).
    let now = get_or-set_same sums j v 0 inside in
    let P : ℕ → Type 0 = λ n. get_or sums n 0 ≤ get_or (set sums j v) n 0 in
    subst P (sym same) (omega (arith, now, more)))
    (λ (apart : k ≢ j). let kept = get_or-set_other sums j k v 0 apart in omega (arith, kept))
    (cases_eq k j)

raised : (leaves sums : List ℕ) (j v : ℕ) → HoldsAtMost leaves sums → j < length sums → get_or sums j 0 ≤ v →
    ((k : ℕ) → k < length leaves → length leaves + k ≡ j → v ≤ get_or leaves k 0) →
    (j < length leaves → v ≤ get_or sums (2 * j) 0 + get_or sums (2 * j + 1) 0) →
    HoldsAtMost leaves (set sums j v)
raised leaves sums j v h inside more leaf node = record {
  room = length-set sums j v ∙ h.room;
  below = λ k within. ⊎_elim
      (λ (same : length leaves + k ≡ j).
      let now = get_or-set_same sums j v 0 inside in
      let P : ℕ → Type 0 = λ n. get_or (set sums j v) n 0 ≤ get_or leaves k 0 in
      subst P (sym same) (omega (arith, now, leaf k within same)))
      (λ (apart : length leaves + k ≢ j).
      let kept = get_or-set_other sums j (length leaves + k) v 0 apart in
      omega (arith, kept, h.below k within))
      (cases_eq (length leaves + k) j);
  nodes = λ k within.
      let left = grows sums j v inside more (2 * k) in
      let right = grows sums j v inside more (2 * k + 1) in
      ⊎_elim
      (λ (same : k ≡ j).
      let now = get_or-set_same sums j v 0 inside in
      let at : get_or (set sums j v) k 0 ≡ get_or (set sums j v) j 0 = ap (λ n. get_or (set sums j v) n 0) same in
      let first : get_or sums (2 * k) 0 ≡ get_or sums (2 * j) 0 = ap (λ n. get_or sums (2 * n) 0) same in
      let second : get_or sums (2 * k + 1) 0 ≡ get_or sums (2 * j + 1) 0 = ap (λ n. get_or sums (2 * n + 1) 0) same in
      omega (arith, at, now, first, second, left, right, node (omega (arith, same, within))))
      (λ (apart : k ≢ j).
      let kept = get_or-set_other sums j k v 0 apart in
      omega (arith, kept, left, right, h.nodes k within))
      (cases_eq k j);
}

pub node_raised : (leaves sums : List ℕ) (node v : ℕ) → HoldsAtMost leaves sums → 2 * node + 1 < length sums →
    v ≡ get_or sums (2 * node) 0 + get_or sums (2 * node + 1) 0 → HoldsAtMost leaves (set sums node v)
node_raised leaves sums node v h inside is =
    let low : node < length leaves = omega (arith, inside, h.room) in
    raised leaves sums node v h (omega (arith, inside)) (omega (arith, is, h.nodes node low))
    (λ k within same. absurd (omega (arith, same, low))) (λ _. omega (arith, is))

pub leaf_raised : (items : List AsmItem) (far : List Bool) (sums : List ℕ) (i w : ℕ) (x : AsmItem) → HoldsAtMost (sizes items far) sums →
    length far ≡ length items → i < length items → x ≡ get_or items i x → w ≡ item_words (is_far far i) x →
    HoldsAtMost (sizes items far) (set sums (length items + i) w)
leaf_raised items far sums i w x h e inside read words =
    let long = length-sizes items far e in
    let size : w ≡ get_or (sizes items far) i 0
    = words ∙ ap (item_words (is_far far i)) (get_or_read items i x inside read (Label 0)) ∙ sym (sizes-at items far i (Label 0) e inside) in
    let at : length (sizes items far) + i ≡ length items + i = ap (λ n. n + i) long in
    let old : get_or sums (length items + i) 0 ≡ get_or sums (length (sizes items far) + i) 0 = ap (λ n. get_or sums n 0) (sym at) in
    raised (sizes items far) sums (length items + i) w h (omega (arith, h.room, long, inside))
    (omega (arith, old, size, h.below i (omega (arith, inside, long))))
    (λ k within same.
    let here : k ≡ i = omega (arith, same, long) in
    let there : get_or (sizes items far) k 0 ≡ get_or (sizes items far) i 0 = ap (λ n. get_or (sizes items far) n 0) here in
    omega (arith, there, size))
    (λ low. absurd (omega (arith, low, long)))

-- a tree of nothing holds for any text
nothing_at : (n k z : ℕ) → get_or (replicate n z) k z ≡ z
nothing_at n k z = ⊎_elim (λ (below : k < n). get_or-replicate n k z z below)
    (λ (past : n ≤ k). get_or_past (replicate n z) k z (omega (arith, past, length-replicate n z))) (cases_lt k n)

pub none_held : (leaves : List ℕ) (n : ℕ) → n ≡ 2 * length leaves → HoldsAtMost leaves (replicate n 0)
none_held leaves n e = record {
  room = length-replicate n 0 ∙ e;
  below = λ k _. let none = nothing_at n (length leaves + k) 0 in omega (arith, none);
  nodes = λ k _. let none = nothing_at n k 0 in omega (arith, none);
}

pub nothing_held : (items : List AsmItem) (far : List Bool) (n : ℕ) → length far ≡ length items → n ≡ 2 * length items →
    HoldsAtMost (sizes items far) (replicate n 0)
nothing_held items far n e is = none_held (sizes items far) n (omega (arith, is, length-sizes items far e))
