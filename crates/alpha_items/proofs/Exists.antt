-- That every text has a least list of far branches: as long as a branch does not reach, it becomes far.
use Rattle.std.proofs.Common.{◌≡◌, ◌⊎◌, ℕ, zero, suc, ◌+◌, ◌<◌, ◌≤◌, Bool, true, false, not, cond, List, length, get_or, set, replicate, refl, sym, ◌∙◌, ap, subst, inl, inr, ⊎_elim, arith}
use Rattle.std.specs.List.{count_by}
use Rattle.std.proofs.lemmas.Bool.{cases_lt, cases_Bool}
use Rattle.std.proofs.lemmas.List.{length-set, length-replicate, get_or-replicate, get_or_past, get_or_default}
use Rattle.std.proofs.lemmas.List.Sums.{sum_by-set, count_by-le-length}
use Rattle.alpha_isa.specs.declared.insn.BranchOp.{BranchOp}
use Rattle.alpha_isa.specs.Lawful.{IsBranchDisplacement}
use Rattle.alpha_items.specs.declared.item.AsmItem.{AsmItem}
use Rattle.alpha_items.specs.declared.item.AsmItem.TheVariants.{Label, Name, Plain, Branch, TextAddress, DataAddress}
use Rattle.alpha_items.specs.Assembly.{label_index}
use Rattle.alpha_items.specs.Layout.{item_place, label_place, displacement, ItemReaches, is_far, AllReach, IsForced, IsLeastFar}
use Rattle.alpha_items.proofs.Reach.{reaches_from}
use Rattle.alpha_items.proofs.Far.{place_mono}
use Rattle.alpha_items.proofs.Forced.{IsShort, forced_ahead, forced_back}

-- a list that is still within every such list, with a branch that has to become far as well
record Grows (items : List AsmItem) (far : List Bool) : Type 0 where
  k : ℕ
  inside : k < length items
  short : is_far far k ≡ false
  forced : IsForced items (set far k true)

-- a branch reaches, or has to become far
judge_branch : (items : List AsmItem) (far : List Bool) (k : ℕ) (op : BranchOp) (ra l : ℕ) → IsShort items far k op ra l → IsForced items far →
    IsBranchDisplacement (displacement (item_place items far k) (label_place items far l)) ⊎ Grows items far
judge_branch items far k op ra l s forced =
    let here : ℕ = item_place items far k in
    let there : ℕ = label_place items far l in
    ⊎_elim
    (λ (ahead : k < label_index items l).
    let rises = place_mono items far k (label_index items l) (omega (arith, ahead)) in
    ⊎_elim (λ (near : there < here + 1 + 1048576).
    let next : here + 1 ≤ there + 1048576 = omega (arith, rises) in inl (reaches_from here there near next))
    (λ (beyond : here + 1 + 1048576 ≤ there).
    inr (record { k = k; inside = s.inside; short = s.short; forced = forced_ahead items far k op ra l s forced ahead beyond }))
    (cases_lt there (here + 1 + 1048576)))
    (λ (behind : label_index items l ≤ k).
    let rises = place_mono items far (label_index items l) k behind in
    ⊎_elim (λ (beyond : there + 1048576 < here + 1).
    inr (record { k = k; inside = s.inside; short = s.short; forced = forced_back items far k op ra l s forced behind beyond }))
    (λ (near : here + 1 ≤ there + 1048576). inl (reaches_from here there (omega (arith, rises)) near))
    (cases_lt (there + 1048576) (here + 1)))
    (cases_lt k (label_index items l))

judge_item : (items : List AsmItem) (far : List Bool) (k : ℕ) (i : AsmItem) → length far ≡ length items → k < length items →
    get_or items k (Label 0) ≡ i → is_far far k ≡ false → IsForced items far →
    ItemReaches (label_place items far) (item_place items far k) i ⊎ Grows items far
judge_item items far k (Label l) e inside is short forced = inl tt
judge_item items far k (Name bytes) e inside is short forced = inl tt
judge_item items far k (Plain insn) e inside is short forced = inl tt
judge_item items far k (Branch op ra l) e inside is short forced =
    judge_branch items far k op ra l (record {
      one_each = e;
      inside = inside;
      is_branch = λ d. get_or_default items k d (Label 0) inside ∙ is;
      short = short;
    }) forced
judge_item items far k (TextAddress ra l) e inside is short forced = inl tt
judge_item items far k (DataAddress ra offset) e inside is short forced = inl tt

-- all branches before an item reach, or one has to become far
ReachBefore : List AsmItem → List Bool → ℕ → Type 0
ReachBefore items far n = (k : ℕ) (d : AsmItem) → k < n → k < length items → is_far far k ≡ false →
    ItemReaches (label_place items far) (item_place items far k) (get_or items k d)

reach_more : (items : List AsmItem) (far : List Bool) (n : ℕ) → ReachBefore items far n →
    (n < length items → is_far far n ≡ false → ItemReaches (label_place items far) (item_place items far n) (get_or items n (Label 0))) →
    ReachBefore items far (suc n)
unfolding ReachBefore
reach_more items far n before here k d below inside short =
    ⊎_elim (λ (earlier : k < n). before k d earlier inside short)
    (λ (not_earlier : n ≤ k).
    let same : n ≡ k = omega (arith, below, not_earlier) in
    let P : ℕ → Type 0 = λ m. m < length items → is_far far m ≡ false → ItemReaches (label_place items far) (item_place items far m) (get_or items m (Label 0)) in
    let Q : AsmItem → Type 0 = λ i. ItemReaches (label_place items far) (item_place items far k) i in
    subst Q (get_or_default items k (Label 0) d inside) (subst P same here inside short))
    (cases_lt k n)

reach_first : (items : List AsmItem) (far : List Bool) → ReachBefore items far 0
unfolding ReachBefore
reach_first items far k d below inside short = absurd (omega (arith, below))

judge_one : (items : List AsmItem) (far : List Bool) (n : ℕ) → length far ≡ length items → IsForced items far →
    (n < length items → is_far far n ≡ false → ItemReaches (label_place items far) (item_place items far n) (get_or items n (Label 0))) ⊎ Grows items far
judge_one items far n e forced =
    ⊎_elim (λ (inside : n < length items).
    ⊎_elim (λ (set_already : is_far far n ≡ true). inl (λ _ short. let clash : true ≡ false = sym set_already ∙ short in let none : ⊥ = cc in absurd none))
    (λ (short : is_far far n ≡ false).
    ⊎_elim (λ (reaches : ItemReaches (label_place items far) (item_place items far n) (get_or items n (Label 0))). inl (λ _ _. reaches))
    (λ (grows : Grows items far). inr grows)
    (judge_item items far n (get_or items n (Label 0)) e inside refl short forced))
    (cases_Bool (is_far far n)))
    (λ (past : length items ≤ n). inl (λ inside _. absurd (omega (arith, inside, past))))
    (cases_lt n (length items))

judge_before : (items : List AsmItem) (far : List Bool) (n : ℕ) → length far ≡ length items → IsForced items far → ReachBefore items far n ⊎ Grows items far
judge_before items far zero e forced = inl (reach_first items far)
judge_before items far (suc n) e forced =
    ⊎_elim (λ (before : ReachBefore items far n).
    ⊎_elim (λ (here : n < length items → is_far far n ≡ false → ItemReaches (label_place items far) (item_place items far n) (get_or items n (Label 0))).
    inl (reach_more items far n before here))
    (λ (grows : Grows items far). inr grows)
    (judge_one items far n e forced))
    (λ (grows : Grows items far). inr grows)
    (judge_before items far n e forced)

reach_all : (items : List AsmItem) (far : List Bool) → ReachBefore items far (length items) → AllReach items far
unfolding ReachBefore
reach_all items far before k d inside short = before k d inside inside short

-- how many items are not far falls with each
near-set : (far : List Bool) (k : ℕ) → k < length far → is_far far k ≡ false → count_by not (set far k true) + 1 ≡ count_by not far
near-set far k h short =
    let counted = sum_by-set (λ (b : Bool). cond (not b) 1 0) far k true false h in
    let weight : Bool → ℕ = λ b. cond (not b) 1 0 in
    let one : weight (is_far far k) ≡ weight false = ap weight short in
    omega (arith, counted, one)

record Least (items : List AsmItem) : Type 0 where
  far : List Bool
  least : IsLeastFar items far

least_from : (items : List AsmItem) (n : ℕ) (far : List Bool) → length far ≡ length items → IsForced items far → count_by not far ≤ n → Least items
least_from items zero far e forced few =
    ⊎_elim (λ (all : ReachBefore items far (length items)).
    record { far = far; least = record { one_each = e; others_reach = reach_all items far all; least = forced } })
    (λ (grows : Grows items far). absurd (omega (arith, few, near-set far grows.k (omega (arith, grows.inside, e)) grows.short)))
    (judge_before items far (length items) e forced)
least_from items (suc n) far e forced few =
    ⊎_elim (λ (all : ReachBefore items far (length items)).
    record { far = far; least = record { one_each = e; others_reach = reach_all items far all; least = forced } })
    (λ (grows : Grows items far).
    least_from items n (set far grows.k true) (length-set far grows.k true ∙ e) grows.forced
    (omega (arith, few, near-set far grows.k (omega (arith, grows.inside, e)) grows.short)))
    (judge_before items far (length items) e forced)

-- nothing is far at first
pub none_forced : (items : List AsmItem) (n : ℕ) → IsForced items (replicate n false)
none_forced items n other e reach k h =
    let none : is_far (replicate n false) k ≡ false = ⊎_elim (λ (below : k < n). get_or-replicate n k false false below)
    (λ (past : n ≤ k). get_or_past (replicate n false) k false (omega (arith, past, length-replicate n false))) (cases_lt k n) in
    let clash : true ≡ false = sym h ∙ none in
    let nothing : ⊥ = cc in absurd nothing

pub least_far : (items : List AsmItem) → (far : List Bool) × IsLeastFar items far
least_far items =
    let start : List Bool = replicate (length items) false in
    let found = least_from items (length items) start (length-replicate (length items) false) (none_forced items (length items))
    (omega (arith, count_by-le-length not start, length-replicate (length items) false)) in
    (found.far, found.least)
