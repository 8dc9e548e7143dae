-- The words of a text, one item after the other.
use Rattle.std.proofs.Common.{◌≡◌, ℕ, suc, ◌+◌, ◌<◌, ◌≤◌, Bool, false, List, [], ◌∷◌, ◌++◌, length, map, drop, get_or, Some, refl, sym, ◌∙◌, ap, subst, arith}
use Rattle.std.proofs.lemmas.List.{append_assoc, append-nil, map-append, length-append, length-map, drop_more, drop_all}
use Rattle.std.proofs.lemmas.List.Sums.{sum_by-take-le}
use Rattle.alpha_isa.specs.declared.insn.Fields.{Fields}
use Rattle.alpha_isa.specs.Program.{most_words, word_address}
use Rattle.alpha_isa.specs.Words.{insn_word}
use Rattle.alpha_isa.specs.Lawful.{IsBranchDisplacement}
use Rattle.alpha_items.specs.declared.item.AsmItem.{AsmItem}
use Rattle.alpha_items.specs.declared.item.AsmItem.TheVariants.{Label, Name, Plain, Branch, TextAddress, DataAddress}
use Rattle.alpha_items.specs.Items.{label_used}
use Rattle.alpha_items.specs.Layout.{item_words, sizes, item_place, label_place, text_words, displacement, ItemReaches, is_far}
use Rattle.alpha_items.specs.Words.{address_insns, branch_insns, item_insns, text_insns}
use Rattle.alpha_items.proofs.Far.{place-more}
use Rattle.alpha_items.proofs.Unique.{length-item_insns}
use Rattle.alpha_asm.specs.model.Text.{IsLaidOut}

-- places are within the text
pub place_within : (items : List AsmItem) (far : List Bool) (k : ℕ) → item_place items far k ≤ text_words items far
place_within items far k = sum_by-take-le (λ (n : ℕ). n) (sizes items far) k

pub here_small : (items : List AsmItem) (targets : List ℕ) (far : List Bool) (places ws : List ℕ) (i : ℕ) → IsLaidOut items targets far places →
    length ws ≡ item_place items far i → length ws ≤ most_words
here_small items targets far places ws i laid at = omega (arith, at, place_within items far i, laid.few)

pub there_small : (items : List AsmItem) (targets : List ℕ) (far : List Bool) (places : List ℕ) (i : ℕ) → IsLaidOut items targets far places →
    i < length items → get_or places (get_or targets i 0) 0 ≤ most_words
there_small items targets far places i laid inside =
    let target = laid.are_targets.inside i inside in
    let at = laid.are_places.at (get_or targets i 0) (omega (arith, target)) in
    omega (arith, at, place_within items far (get_or targets i 0), laid.few)

-- the place of the label that an item uses
pub there_is : (items : List AsmItem) (targets : List ℕ) (far : List Bool) (places : List ℕ) (i : ℕ) (x : AsmItem) → IsLaidOut items targets far places →
    i < length items → x ≡ get_or items i x → (l : ℕ) → label_used x ≡ Some l → get_or places (get_or targets i 0) 0 ≡ label_place items far l
there_is items targets far places i x laid inside read l used =
    let target = laid.are_targets.inside i inside in
    let right = laid.are_targets.right i x l inside (ap label_used (sym read) ∙ used) in
    laid.are_places.at (get_or targets i 0) (omega (arith, target)) ∙ ap (item_place items far) right

reaches_there : (i : AsmItem) (f : ℕ → ℕ) (t here : ℕ) → ((l : ℕ) → label_used i ≡ Some l → t ≡ f l) → ItemReaches f here i → ItemReaches (λ _. t) here i
reaches_there (Label l) f t here same h = tt
reaches_there (Name bytes) f t here same h = tt
reaches_there (Plain insn) f t here same h = tt
reaches_there (Branch op ra l) f t here same h =
    let P : ℕ → Type 0 = λ n. IsBranchDisplacement (displacement here n) in subst P (sym (same l refl)) h
reaches_there (TextAddress ra l) f t here same h = tt
reaches_there (DataAddress ra offset) f t here same h = tt

pub reaches_at : (items : List AsmItem) (targets : List ℕ) (far : List Bool) (places ws : List ℕ) (i : ℕ) (x : AsmItem) → IsLaidOut items targets far places →
    i < length items → x ≡ get_or items i x → length ws ≡ item_place items far i → is_far far i ≡ false →
    ItemReaches (λ _. get_or places (get_or targets i 0) 0) (length ws) x
reaches_at items targets far places ws i x laid inside read at short =
    let t : ℕ = get_or places (get_or targets i 0) 0 in
    let P : AsmItem → Type 0 = λ y. ItemReaches (label_place items far) (item_place items far i) y in
    let Q : ℕ → Type 0 = λ here. ItemReaches (λ _. t) here x in
    subst Q (sym at) (reaches_there x (label_place items far) t (item_place items far i) (there_is items targets far places i x laid inside read)
    (subst P (sym read) (laid.all_reach i x inside short)))

insns_there : (i : AsmItem) (f : ℕ → ℕ) (t start here : ℕ) (b : Bool) → ((l : ℕ) → label_used i ≡ Some l → t ≡ f l) →
    item_insns (λ _. t) start here b i ≡ item_insns f start here b i
insns_there (Label l) f t start here b same = refl
insns_there (Name bytes) f t start here b same = refl
insns_there (Plain insn) f t start here b same = refl
insns_there (Branch op ra l) f t start here b same = ap (branch_insns b op ra here) (same l refl)
insns_there (TextAddress ra l) f t start here b same = ap (λ n. address_insns ra (word_address n)) (same l refl)
insns_there (DataAddress ra offset) f t start here b same = refl

-- what stands at the beginning of a loop, and at its end
pub text_begins : (there : ℕ → ℕ) (start : ℕ) (ws : List ℕ) (items : List AsmItem) (far : List Bool) → ws ≡ [] →
    ws ++ map insn_word (text_insns there start 0 items far) ≡ map insn_word (text_insns there start 0 items far)
text_begins there start ws items far none = ap (λ s. s ++ map insn_word (text_insns there start 0 items far)) none

-- the instructions of a text from an item on are those of the item and the rest
text_split : (there : ℕ → ℕ) (start here i : ℕ) (items : List AsmItem) (far : List Bool) (x : AsmItem) → length far ≡ length items → i < length items →
    x ≡ get_or items i x →
    text_insns there start here (drop i items) (drop i far)
    ≡ item_insns there start here (is_far far i) x ++ text_insns there start (here + item_words (is_far far i) x) (drop (i + 1) items) (drop (i + 1) far)
text_split there start here i items far x e inside read =
    let items_from : drop i items ≡ x ∷ drop (i + 1) items = drop_more items i x inside ∙ ap (λ y. y ∷ drop (i + 1) items) (sym read) in
    let far_from : drop i far ≡ is_far far i ∷ drop (i + 1) far = drop_more far i false (omega (arith, inside, e)) in
    ap (λ is. text_insns there start here is (drop i far)) items_from
    ∙ ap (λ fs. text_insns there start here (x ∷ drop (i + 1) items) fs) far_from

next_place : (items : List AsmItem) (far : List Bool) (i : ℕ) (x : AsmItem) → length far ≡ length items → i < length items → x ≡ get_or items i x →
    item_place items far (i + 1) ≡ item_place items far i + item_words (is_far far i) x
next_place items far i x e inside read =
    let next : i + 1 ≡ suc i = omega arith in
    ap (item_place items far) next ∙ place-more items far i x e inside ∙ ap (λ y. item_place items far i + item_words (is_far far i) y) (sym read)

-- the words of one item more
record Step (items : List AsmItem) (targets : List ℕ) (far : List Bool) (places : List ℕ) (start i : ℕ) (x : AsmItem) (ws new : List ℕ) : Type 0 where
  laid : IsLaidOut items targets far places
  inside : i < length items
  read : x ≡ get_or items i x
  here : length ws ≡ item_place items far i
  new_is : new ≡ ws ++ map insn_word (item_insns (λ _. get_or places (get_or targets i 0) 0) start (length ws) (is_far far i) x)

new_words : (items : List AsmItem) (targets : List ℕ) (far : List Bool) (places : List ℕ) (start i : ℕ) (x : AsmItem) (ws new : List ℕ) →
    Step items targets far places start i x ws new →
    new ≡ ws ++ map insn_word (item_insns (label_place items far) start (item_place items far i) (is_far far i) x)
new_words items targets far places start i x ws new s =
    let t : ℕ = get_or places (get_or targets i 0) 0 in
    s.new_is ∙ ap (λ n. ws ++ map insn_word (item_insns (λ _. t) start n (is_far far i) x)) s.here
    ∙ ap (λ is. ws ++ map insn_word is)
    (insns_there x (label_place items far) t start (item_place items far i) (is_far far i) (there_is items targets far places i x s.laid s.inside s.read))

new_length : (items : List AsmItem) (targets : List ℕ) (far : List Bool) (places : List ℕ) (start i : ℕ) (x : AsmItem) (ws new : List ℕ) →
    Step items targets far places start i x ws new → length new ≡ item_place items far (i + 1)
new_length items targets far places start i x ws new s =
    let insns : List Fields = item_insns (label_place items far) start (item_place items far i) (is_far far i) x in
    let long = ap length (new_words items targets far places start i x ws new s) in
    let both = length-append ws (map insn_word insns) in
    let same = length-map insns insn_word in
    let item = length-item_insns (label_place items far) start (item_place items far i) (is_far far i) x in
    let next = next_place items far i x s.laid.one_each s.inside s.read in
    omega (arith, long, both, same, item, next, s.here)

new_rest : (items : List AsmItem) (targets : List ℕ) (far : List Bool) (places : List ℕ) (start i : ℕ) (x : AsmItem) (ws new whole : List ℕ) →
    Step items targets far places start i x ws new →
    ws ++ map insn_word (text_insns (label_place items far) start (item_place items far i) (drop i items) (drop i far)) ≡ whole →
    new ++ map insn_word (text_insns (label_place items far) start (item_place items far (i + 1)) (drop (i + 1) items) (drop (i + 1) far)) ≡ whole
new_rest items targets far places start i x ws new whole s rest =
    let first : List Fields = item_insns (label_place items far) start (item_place items far i) (is_far far i) x in
    let more : ℕ → List Fields = λ n. text_insns (label_place items far) start n (drop (i + 1) items) (drop (i + 1) far) in
    let next = next_place items far i x s.laid.one_each s.inside s.read in
    let split = text_split (label_place items far) start (item_place items far i) i items far x s.laid.one_each s.inside s.read in
    ap (λ n. new ++ map insn_word (more n)) next
    ∙ ap (λ v. v ++ map insn_word (more (item_place items far i + item_words (is_far far i) x))) (new_words items targets far places start i x ws new s)
    ∙ append_assoc ws (map insn_word first) (map insn_word (more (item_place items far i + item_words (is_far far i) x)))
    ∙ ap (λ v. ws ++ v) (sym (map-append insn_word first (more (item_place items far i + item_words (is_far far i) x))))
    ∙ ap (λ is. ws ++ map insn_word is) (sym split) ∙ rest

pub text_more : (items : List AsmItem) (targets : List ℕ) (far : List Bool) (places : List ℕ) (start i : ℕ) (x : AsmItem) (ws new whole : List ℕ) →
    IsLaidOut items targets far places → i < length items → x ≡ get_or items i x → length ws ≡ item_place items far i →
    new ≡ ws ++ map insn_word (item_insns (λ _. get_or places (get_or targets i 0) 0) start (length ws) (is_far far i) x) →
    ws ++ map insn_word (text_insns (label_place items far) start (item_place items far i) (drop i items) (drop i far)) ≡ whole →
    (length new ≡ item_place items far (i + 1))
    × (new ++ map insn_word (text_insns (label_place items far) start (item_place items far (i + 1)) (drop (i + 1) items) (drop (i + 1) far)) ≡ whole)
text_more items targets far places start i x ws new whole laid inside read here new_is rest =
    let s : Step items targets far places start i x ws new = record { laid = laid; inside = inside; read = read; here = here; new_is = new_is } in
    (new_length items targets far places start i x ws new s, new_rest items targets far places start i x ws new whole s rest)

pub text_ends : (items : List AsmItem) (far : List Bool) (start here n : ℕ) (ws whole : List ℕ) → length items ≤ n →
    ws ++ map insn_word (text_insns (label_place items far) start here (drop n items) (drop n far)) ≡ whole → ws ≡ whole
text_ends items far start here n ws whole all rest =
    let none : text_insns (label_place items far) start here (drop n items) (drop n far) ≡ []
    = ap (λ is. text_insns (label_place items far) start here is (drop n far)) (drop_all n items all) in
    sym (append-nil ws) ∙ ap (λ is. ws ++ map insn_word is) (sym none) ∙ rest
