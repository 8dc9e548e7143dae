-- Items that stand in a text.
use Rattle.std.proofs.Common.{◌≡◌, ◌≢◌, ℕ, zero, suc, ◌+◌, ◌-◌, ◌*◌, ◌/◌, ◌<◌, ◌≤◌, Bool, true, false, not, inl, inr, cond, ltb, List, [], ◌∷◌, ◌++◌, length, take, drop, map, Option, Some, None, refl, sym, ap, ◌∙◌, subst, arith, length-append}
use Rattle.std.specs.Prelude.{ℤ, pos, negsuc, ◌-ℤ◌, slice_get, slice_index_or, option_and_then}
use Rattle.std.specs.List.{sum, All, AllPairs, position_or_len}
use Rattle.std.proofs.lemmas.Int.{ints}
use Rattle.std.proofs.lemmas.Bool.{le-ltb, eq-eqb, eqb-true, false_from_ne_true}
use Rattle.std.proofs.lemmas.Option.{slice_get-get_or, get_or_from_slice_get}
use Rattle.alpha_isa.specs.declared.insn.Fields.{Fields}
use Rattle.alpha_isa.specs.declared.insn.Fields.TheVariants as fields
use Rattle.alpha_isa.specs.declared.insn.JumpOp.TheVariants.{Jmp, Jsr}
use Rattle.alpha_isa.specs.declared.insn.BranchOp.{BranchOp}
use Rattle.alpha_isa.specs.declared.insn.BranchOp.TheVariants.{Br, Bsr, Blbc, Beq, Blt, Ble, Blbs, Bne, Bge, Bgt}
use Rattle.alpha_isa.specs.Lawful.{IsDisplacement}
use Rattle.alpha_isa.specs.Lawful as lawful
use Rattle.alpha_isa.specs.Words.{insn_word, insn_of}
use Rattle.alpha_isa.specs.Program.{Program, IsLawful, data_start, word_address, instruction_at}
use Rattle.alpha_isa.proofs.Words.{word_decoded}
use Rattle.alpha_items.specs.declared.item.AsmItem.{AsmItem}
use Rattle.alpha_items.specs.declared.item.AsmItem.TheVariants.{Label, Name, Plain, Branch, TextAddress, DataAddress}
use Rattle.alpha_items.specs.Items.{names_label, IsItem}
use Rattle.alpha_items.specs.Assembly.{Assembly, IsWhole, labels, label_index}
use Rattle.alpha_items.specs.Layout.{item_words, sizes, text_words, item_place, label_place, ItemReaches, is_far}
use Rattle.alpha_items.specs.Words.{item_insns, text_insns, far_insns, address_insns, high_of, Words, most_address}
use Rattle.alpha_items.proofs.Sums.{sum-cons}
use Rattle.alpha_items.proofs.Unique.{length-item_insns, length-words}
use Rattle.frame_steps.specs.item_steps.Standing.{Labels, InsnsAt, ItemStands, ItemsAt, HasLabel, StandsInTwo}

-- ---- lists

got_front : {X : Type 0} (xs ys : List X) (k : ℕ) → k < length xs → slice_get (xs ++ ys) k ≡ slice_get xs k
got_front [] ys k lt = absurd (omega arith)
got_front (x ∷ xs) ys zero lt = refl
got_front (x ∷ xs) ys (suc k) lt = got_front xs ys k (omega arith)

got_behind : {X : Type 0} (xs ys : List X) (k : ℕ) → slice_get (xs ++ ys) (length xs + k) ≡ slice_get ys k
got_behind [] ys k = let none : 0 + k ≡ k = omega arith in ap (slice_get ys) none
got_behind (x ∷ xs) ys k = let next : suc (length xs) + k ≡ suc (length xs + k) = omega arith in ap (slice_get (x ∷ (xs ++ ys))) next ∙ got_behind xs ys k

front-at : (p : Program) (w : ℕ) (xs ys : List Fields) → InsnsAt p w (xs ++ ys) → InsnsAt p w xs
front-at p w xs ys h k lt = let n = length-append xs ys in h k (omega (arith, n)) ∙ got_front xs ys k lt

back-at : (p : Program) (w : ℕ) (xs ys : List Fields) → InsnsAt p w (xs ++ ys) → InsnsAt p (w + length xs) ys
back-at p w xs ys h k lt =
    let n = length-append xs ys in
    let e : w + length xs + k ≡ w + (length xs + k) = omega arith in
    ap (λ j. instruction_at p (word_address j)) e ∙ h (length xs + k) (omega (arith, n)) ∙ got_behind xs ys k

-- ---- instructions that have words

abbrev pub AllLawful : List Fields → Type 0
AllLawful [] = Unit {0}
AllLawful (i ∷ insns) = lawful.AreLawfulFields i × AllLawful insns

lawful-append : (xs ys : List Fields) → AllLawful xs → AllLawful ys → AllLawful (xs ++ ys)
lawful-append [] ys h g = g
lawful-append (x ∷ xs) ys h g = (h.0, lawful-append xs ys h.1 g)

decoded : (xs : List Fields) (k : ℕ) → AllLawful xs → k < length xs → option_and_then insn_of (slice_get (map insn_word xs) k) ≡ slice_get xs k
decoded [] k all lt = absurd (omega arith)
decoded (x ∷ xs) zero all lt = word_decoded x all.0
decoded (x ∷ xs) (suc k) all lt = decoded xs k all.1 (omega arith)

pub insn-at : (p : Program) (n : ℕ) → instruction_at p (word_address n) ≡ option_and_then insn_of (slice_get p.words n)
insn-at p n =
    let found : Option Fields = option_and_then insn_of (slice_get p.words ((word_address n - 65536) / 4)) in
    let inside : ltb (word_address n) 65536 ≡ false = le-ltb (word_address n) 65536 (omega arith) in
    let index : (word_address n - 65536) / 4 ≡ n = omega arith in
    ap (λ b. cond b None found) inside ∙ ap (λ k. option_and_then insn_of (slice_get p.words k)) index

words-at : (p : Program) (insns : List Fields) → p.words ≡ map insn_word insns → AllLawful insns → InsnsAt p 0 insns
words-at p insns is all k lt =
    let none : 0 + k ≡ k = omega arith in
    ap (λ j. instruction_at p (word_address j)) none ∙ insn-at p k ∙ ap (λ ws. option_and_then insn_of (slice_get ws k)) is ∙ decoded insns k all lt

rest-fits : (z : ℤ) (a b : ℕ) → z ≡ pos a -ℤ pos b → a < b + 32768 → b ≤ a + 32768 → IsDisplacement z
rest-fits (pos n) a b e lt le = let f : n + b ≡ a = omega (arith, ints, e) in omega (arith, f)
rest-fits (negsuc n) a b e lt le = let f : a + suc n ≡ b = omega (arith, ints, e) in omega (arith, f)

address-lawful : (ra address : ℕ) → ra < 32 → address < most_address → AllLawful (address_insns ra address)
address-lawful ra address r small =
    ((r, omega arith, omega arith), ((r, r, rest-fits (pos address -ℤ pos (high_of address * 65536)) address (high_of address * 65536) refl (omega arith) (omega arith)), tt))

far-lawful : (op : BranchOp) (ra address : ℕ) → ra < 32 → address < most_address → AllLawful (far_insns op ra address)
far-lawful Br ra address r small = lawful-append (address_insns 28 address) (fields.Jump Jmp ra 28 ∷ []) (address-lawful 28 address (omega arith) small) ((r, omega arith), tt)
far-lawful Bsr ra address r small = lawful-append (address_insns 28 address) (fields.Jump Jsr ra 28 ∷ []) (address-lawful 28 address (omega arith) small) ((r, omega arith), tt)
far-lawful Blbc ra address r small = ((r, omega arith), lawful-append (address_insns 28 address) (fields.Jump Jmp 31 28 ∷ []) (address-lawful 28 address (omega arith) small) ((omega arith, omega arith), tt))
far-lawful Beq ra address r small = ((r, omega arith), lawful-append (address_insns 28 address) (fields.Jump Jmp 31 28 ∷ []) (address-lawful 28 address (omega arith) small) ((omega arith, omega arith), tt))
far-lawful Blt ra address r small = ((r, omega arith), lawful-append (address_insns 28 address) (fields.Jump Jmp 31 28 ∷ []) (address-lawful 28 address (omega arith) small) ((omega arith, omega arith), tt))
far-lawful Ble ra address r small = ((r, omega arith), lawful-append (address_insns 28 address) (fields.Jump Jmp 31 28 ∷ []) (address-lawful 28 address (omega arith) small) ((omega arith, omega arith), tt))
far-lawful Blbs ra address r small = ((r, omega arith), lawful-append (address_insns 28 address) (fields.Jump Jmp 31 28 ∷ []) (address-lawful 28 address (omega arith) small) ((omega arith, omega arith), tt))
far-lawful Bne ra address r small = ((r, omega arith), lawful-append (address_insns 28 address) (fields.Jump Jmp 31 28 ∷ []) (address-lawful 28 address (omega arith) small) ((omega arith, omega arith), tt))
far-lawful Bge ra address r small = ((r, omega arith), lawful-append (address_insns 28 address) (fields.Jump Jmp 31 28 ∷ []) (address-lawful 28 address (omega arith) small) ((omega arith, omega arith), tt))
far-lawful Bgt ra address r small = ((r, omega arith), lawful-append (address_insns 28 address) (fields.Jump Jmp 31 28 ∷ []) (address-lawful 28 address (omega arith) small) ((omega arith, omega arith), tt))

-- addresses of labels and data fit
record Bounds (there : Labels) (start size : ℕ) : Type 0 where
  label : (l : ℕ) → word_address (there l) < most_address
  offset : start + size < most_address

item-lawful : (there : Labels) (start size here : ℕ) (far : Bool) (i : AsmItem) → Bounds there start size → IsItem size i → (far ≡ false → ItemReaches there here i) → AllLawful (item_insns there start here far i)
item-lawful there start size here far (Label l) b is reach = tt
item-lawful there start size here far (Name bytes) b is reach = tt
item-lawful there start size here far (Plain insn) b is reach = (is.0, tt)
item-lawful there start size here true (Branch op ra l) b is reach = far-lawful op ra (word_address (there l)) is (b.label l)
item-lawful there start size here false (Branch op ra l) b is reach = ((is, reach refl), tt)
item-lawful there start size here far (TextAddress ra l) b is reach = address-lawful ra (word_address (there l)) is (b.label l)
item-lawful there start size here far (DataAddress ra offset) b is reach = let o = b.offset in let le = is.1 in address-lawful ra (start + offset) is.0 (omega (arith, o, le))

-- ---- texts

module _ (there : Labels) (start size : ℕ) (b : Bounds there start size) where
  -- the items from a word on are lawful, and those that are not far reach
  record Reaches (here : ℕ) (items : List AsmItem) (far : List Bool) : Type 0 where
    are : All (λ i. IsItem size i) items
    reach : (k : ℕ) (d : AsmItem) → k < length items → is_far far k ≡ false → ItemReaches there (here + item_place items far k) (slice_index_or items k d)

  first-reaches : (here : ℕ) (i : AsmItem) (items : List AsmItem) (f : Bool) (far : List Bool) → Reaches here (i ∷ items) (f ∷ far) → f ≡ false → ItemReaches there here i
  first-reaches here i items f far r e = let none : here + 0 ≡ here = omega arith in subst (λ h. ItemReaches there h i) none (r.reach 0 i (omega arith) e)

  rest-reaches : (here : ℕ) (i : AsmItem) (items : List AsmItem) (f : Bool) (far : List Bool) → Reaches here (i ∷ items) (f ∷ far) → Reaches (here + item_words f i) items far
  rest-reaches here i items f far r = record {
    are = λ k d lt. r.are (suc k) d (omega arith);
    reach = λ k d lt e.
        let s = sum-cons (item_words f i) (take k (sizes items far)) in
        let p : here + item_place (i ∷ items) (f ∷ far) (suc k) ≡ here + item_words f i + item_place items far k = omega (arith, s) in
        subst (λ h. ItemReaches there h (slice_index_or items k d)) p (r.reach (suc k) d (omega arith) e);
  }

  text-lawful : (here : ℕ) (items : List AsmItem) (far : List Bool) → Reaches here items far → AllLawful (text_insns there start here items far)
  text-lawful here [] far r = tt
  text-lawful here (i ∷ items) [] r = tt
  text-lawful here (i ∷ items) (f ∷ far) r =
      lawful-append (item_insns there start here f i) (text_insns there start (here + item_words f i) items far)
      (item-lawful there start size here f i b (r.are 0 i (omega arith)) (first-reaches here i items f far r))
      (text-lawful (here + item_words f i) items far (rest-reaches here i items f far r))

-- labels stand where their items do
record LabelsHere (there : Labels) (here : ℕ) (items : List AsmItem) (far : List Bool) : Type 0 where
  at : (k l : ℕ) → slice_get items k ≡ Some (Label l) → there l ≡ here + item_place items far k

first-label : (there : Labels) (here : ℕ) (i : AsmItem) (items : List AsmItem) (f : Bool) (far : List Bool) → LabelsHere there here (i ∷ items) (f ∷ far) → (l : ℕ) → i ≡ Label l → there l ≡ here
first-label there here i items f far labels l is = let none : here + 0 ≡ here = omega arith in labels.at 0 l (ap (λ x. Some x) is) ∙ none

rest-labels : (there : Labels) (here : ℕ) (i : AsmItem) (items : List AsmItem) (f : Bool) (far : List Bool) → LabelsHere there here (i ∷ items) (f ∷ far) → LabelsHere there (here + item_words f i) items far
rest-labels there here i items f far labels = record {
  at = λ k l is.
      let s = sum-cons (item_words f i) (take k (sizes items far)) in
      let p : here + item_place (i ∷ items) (f ∷ far) (suc k) ≡ here + item_words f i + item_place items far k = omega (arith, s) in
      labels.at (suc k) l is ∙ p;
}

-- the items of which the instructions stand, do, from the k-th on
module _ (p : Program) (there : Labels) where
  item-stands : (here : ℕ) (f : Bool) (i : AsmItem) → InsnsAt p here (item_insns there (data_start p) here f i) → ((l : ℕ) → i ≡ Label l → there l ≡ here) → ItemStands p there here f i
  item-stands here f (Label l) h is = is l refl
  item-stands here f (Name bytes) h is = h
  item-stands here f (Plain insn) h is = h
  item-stands here f (Branch op ra l) h is = h
  item-stands here f (TextAddress ra l) h is = h
  item-stands here f (DataAddress ra offset) h is = h

  items-at : (here : ℕ) (items : List AsmItem) (far : List Bool) → length far ≡ length items → LabelsHere there here items far → InsnsAt p here (text_insns there (data_start p) here items far) → ItemsAt p there here items (here + text_words items far)
  items-at here [] far len labels h = omega arith
  items-at here (i ∷ items) [] len labels h = absurd (omega (arith, len))
  items-at here (i ∷ items) (f ∷ far) len labels h =
      let n : length (item_insns there (data_start p) here f i) ≡ item_words f i = length-item_insns there (data_start p) here f i in
      let s = sum-cons (item_words f i) (sizes items far) in
      let rest : InsnsAt p (here + item_words f i) (text_insns there (data_start p) (here + item_words f i) items far) =
      subst (λ k. InsnsAt p (here + k) (text_insns there (data_start p) (here + item_words f i) items far)) n (back-at p here (item_insns there (data_start p) here f i) (text_insns there (data_start p) (here + item_words f i) items far) h) in
      let e : here + item_words f i + text_words items far ≡ here + text_words (i ∷ items) (f ∷ far) = omega (arith, s) in (
        f,
        item-stands here f i (front-at p here (item_insns there (data_start p) here f i) (text_insns there (data_start p) (here + item_words f i) items far) h) (first-label there here i items f far labels),
        subst (ItemsAt p there (here + item_words f i) items) e (items-at (here + item_words f i) items far (omega (arith, len)) (rest-labels there here i items f far labels) rest),
      )

  -- from the k-th on
  suffix-at : (here k : ℕ) (items : List AsmItem) (far : List Bool) → length far ≡ length items → LabelsHere there here items far → k ≤ length items → InsnsAt p here (text_insns there (data_start p) here items far) → ItemsAt p there (here + item_place items far k) (drop k items) (here + text_words items far)
  suffix-at here zero items far len labels le h = let none : here ≡ here + 0 = omega arith in subst (λ w. ItemsAt p there w items (here + text_words items far)) none (items-at here items far len labels h)
  suffix-at here (suc k) [] far len labels le h = absurd (omega arith)
  suffix-at here (suc k) (i ∷ items) [] len labels le h = absurd (omega (arith, len))
  suffix-at here (suc k) (i ∷ items) (f ∷ far) len labels le h =
      let n : length (item_insns there (data_start p) here f i) ≡ item_words f i = length-item_insns there (data_start p) here f i in
      let s = sum-cons (item_words f i) (sizes items far) in
      let t = sum-cons (item_words f i) (take k (sizes items far)) in
      let rest : InsnsAt p (here + item_words f i) (text_insns there (data_start p) (here + item_words f i) items far) =
      subst (λ j. InsnsAt p (here + j) (text_insns there (data_start p) (here + item_words f i) items far)) n (back-at p here (item_insns there (data_start p) here f i) (text_insns there (data_start p) (here + item_words f i) items far) h) in
      let e : here + item_words f i + text_words items far ≡ here + text_words (i ∷ items) (f ∷ far) = omega (arith, s) in
      let g : here + item_words f i + item_place items far k ≡ here + item_place (i ∷ items) (f ∷ far) (suc k) = omega (arith, t) in
      subst (λ w. ItemsAt p there w (drop k items) (here + text_words (i ∷ items) (f ∷ far))) g
      (subst (ItemsAt p there (here + item_words f i + item_place items far k) (drop k items)) e (suffix-at (here + item_words f i) k items far (omega (arith, len)) (rest-labels there here i items f far labels) (omega arith) rest))

  pub parts_stand : (word end : ℕ) (front back : List AsmItem) → ItemsAt p there word (front ++ back) end → StandsInTwo p there word front back end
  parts_stand word end [] back h = record { middle = word; first = refl; second = h }
  parts_stand word end (i ∷ front) back h =
      let r = parts_stand (word + item_words h.0 i) end front back h.2 in
      record { middle = r.middle; first = (h.0, h.1, r.first); second = r.second }

-- ---- the label of an item

sum-take : (xs : List ℕ) (k : ℕ) → sum (take k xs) ≤ sum xs
sum-take [] zero = omega arith
sum-take [] (suc k) = omega arith
sum-take (x ∷ xs) zero = let s = sum-cons x xs in omega arith
sum-take (x ∷ xs) (suc k) = let s = sum-cons x xs in let t = sum-cons x (take k xs) in let h = sum-take xs k in omega (arith, s, t, h)

pub labels_are_words : (a : Assembly) (p : Program) (w : Words a p) (l : ℕ) → label_place a.items w.far l ≤ length p.words
labels_are_words a p w l = let h = sum-take (sizes a.items w.far) (label_index a.items l) in let n = length-words a p w in omega (arith, h, n)

-- a label that no item names before
named-where : (front back : List AsmItem) (l : ℕ) → ((k : ℕ) (d : AsmItem) → k < length front → names_label l (slice_index_or front k d) ≡ false) → label_index (front ++ Label l ∷ back) l ≡ length front
named-where [] back l h = ap (λ t. cond (not t) (1 + position_or_len (names_label l) back) 0) (eq-eqb l l refl)
named-where (i ∷ front) back l h =
    let first : names_label l i ≡ false = h 0 i (omega arith) in
    let rest = named-where front back l (λ k d lt. h (suc k) d (omega arith)) in
    let count : 1 + position_or_len (names_label l) (front ++ Label l ∷ back) ≡ suc (length front) = omega (arith, rest) in
    ap (λ t. cond (not t) (1 + position_or_len (names_label l) (front ++ Label l ∷ back)) 0) first ∙ count

-- where the names of items stand among the labels
label-first : (front back : List AsmItem) (l : ℕ) → slice_get (labels (front ++ Label l ∷ back)) (length (labels front)) ≡ Some l
label-first [] back l = refl
label-first (Label m ∷ front) back l = label-first front back l
label-first (Name bytes ∷ front) back l = label-first front back l
label-first (Plain insn ∷ front) back l = label-first front back l
label-first (Branch op ra m ∷ front) back l = label-first front back l
label-first (TextAddress ra m ∷ front) back l = label-first front back l
label-first (DataAddress ra offset ∷ front) back l = label-first front back l

label-before : (front back : List AsmItem) (k m : ℕ) → slice_get front k ≡ Some (Label m) → (j : ℕ) × (j < length (labels front)) × (slice_get (labels (front ++ back)) j ≡ Some m)
label-before [] back k m e = absurd (cc)
label-before (Label n ∷ front) back zero m e = let is : n ≡ m = cc in (0, omega arith, ap (λ x. Some x) is)
label-before (Label n ∷ front) back (suc k) m e = let r = label-before front back k m e in (suc r.0, (let lt = r.1 in omega arith), r.2)
label-before (Name bytes ∷ front) back zero m e = absurd (cc)
label-before (Name bytes ∷ front) back (suc k) m e = label-before front back k m e
label-before (Plain insn ∷ front) back zero m e = absurd (cc)
label-before (Plain insn ∷ front) back (suc k) m e = label-before front back k m e
label-before (Branch op ra n ∷ front) back zero m e = absurd (cc)
label-before (Branch op ra n ∷ front) back (suc k) m e = label-before front back k m e
label-before (TextAddress ra n ∷ front) back zero m e = absurd (cc)
label-before (TextAddress ra n ∷ front) back (suc k) m e = label-before front back k m e
label-before (DataAddress ra offset ∷ front) back zero m e = absurd (cc)
label-before (DataAddress ra offset ∷ front) back (suc k) m e = label-before front back k m e

got-within : {X : Type 0} (xs : List X) (k : ℕ) (x : X) → slice_get xs k ≡ Some x → k < length xs
got-within [] k x e = absurd (cc)
got-within (y ∷ xs) zero x e = omega arith
got-within (y ∷ xs) (suc k) x e = let lt = got-within xs k x e in omega arith

-- an item that names a label
names-is : (l : ℕ) (i : AsmItem) → names_label l i ≡ true → i ≡ Label l
names-is l (Label m) e = ap Label (eqb-true m l e)
names-is l (Name bytes) e = absurd (cc)
names-is l (Plain insn) e = absurd (cc)
names-is l (Branch op ra m) e = absurd (cc)
names-is l (TextAddress ra m) e = absurd (cc)
names-is l (DataAddress ra offset) e = absurd (cc)

named-once : (front back : List AsmItem) (l : ℕ) → AllPairs (λ m n. m ≢ n) (labels (front ++ Label l ∷ back)) → (k : ℕ) (d : AsmItem) → k < length front → names_label l (slice_index_or front k d) ≡ false
named-once front back l once k d lt = false_from_ne_true (names_label l (slice_index_or front k d)) (λ e. clash e)
  where
    clash : names_label l (slice_index_or front k d) ≡ true → ⊥
    clash e =
        let is : slice_get front k ≡ Some (Label l) = slice_get-get_or front k d lt ∙ ap (λ x. Some x) (names-is l (slice_index_or front k d) e) in
        let r = label-before front (Label l ∷ back) k l is in
        let f = label-first front back l in
        let all = labels (front ++ Label l ∷ back) in
        once r.0 (length (labels front)) 0 r.1 (got-within all (length (labels front)) l f) (get_or_from_slice_get all r.0 l 0 r.2 ∙ sym (get_or_from_slice_get all (length (labels front)) l 0 f))

-- a list before and behind its k-th element
record Cut {X : Type 0} (xs : List X) (k : ℕ) (x : X) : Type 0 where
  front : List X
  back : List X
  is : xs ≡ front ++ x ∷ back
  count : length front ≡ k

cut : {X : Type 0} (xs : List X) (k : ℕ) (x : X) → slice_get xs k ≡ Some x → Cut xs k x
cut [] k x e = absurd (cc)
cut (y ∷ xs) zero x e = let is : y ≡ x = cc in record { front = []; back = xs; is = ap (λ z. z ∷ xs) is; count = refl }
cut (y ∷ xs) (suc k) x e = let z = cut xs k x e in record { front = y ∷ z.front; back = z.back; is = ap (λ l. y ∷ l) z.is; count = ap suc z.count }

-- ---- labels ahead

pub within : (p : Program) (there : Labels) (items : List AsmItem) (w end : ℕ) → ItemsAt p there w items end → w ≤ end
within p there [] w end h = omega (arith, h)
within p there (i ∷ items) w end h = let le = within p there items (w + item_words h.0 i) end h.2 in omega (arith, le)

pub ahead : (p : Program) (there : Labels) (l : ℕ) (items : List AsmItem) (w end : ℕ) → ItemsAt p there w items end → HasLabel l items → w ≤ there l
ahead p there l [] w end h has = absurd has
ahead p there l (i ∷ items) w end h (inl is) =
    let at : there l ≡ w = subst (λ z. ItemStands p there w h.0 z) is h.1 in
    omega (arith, at)
ahead p there l (i ∷ items) w end h (inr has) = let le = ahead p there l items (w + item_words h.0 i) end h.2 has in omega (arith, le)

-- ---- the assembly

module _ (a : Assembly) (p : Program) (lawful_image : IsLawful p) (whole : IsWhole a) (w : Words a p) where
  abbrev there : Labels
  there = label_place a.items w.far

  bounds : Bounds (label_place a.items w.far) (data_start p) (length a.bytes)
  bounds = record {
    label = λ l. let h = labels_are_words a p w l in let n = lawful_image.words in omega (arith, h, n);
    offset = let n = lawful_image.words in let b = whole.bytes in omega (arith, n, b);
  }

  reaches : Reaches (label_place a.items w.far) (data_start p) (length a.bytes) bounds 0 a.items w.far
  reaches = record {
    are = whole.items;
    reach = λ k d lt e. let none : item_place a.items w.far k ≡ 0 + item_place a.items w.far k = omega arith in
        subst (λ h. ItemReaches (label_place a.items w.far) h (slice_index_or a.items k d)) none (w.least.others_reach k d lt e);
  }

  insns-at : InsnsAt p 0 (text_insns (label_place a.items w.far) (data_start p) 0 a.items w.far)
  insns-at = words-at p (text_insns (label_place a.items w.far) (data_start p) 0 a.items w.far) w.words
      (text-lawful (label_place a.items w.far) (data_start p) (length a.bytes) bounds 0 a.items w.far reaches)

  all-labels : LabelsHere (label_place a.items w.far) 0 a.items w.far
  all-labels = record {
    at = λ k l is.
        let z = cut a.items k (Label l) is in
        let once : AllPairs (λ m n. m ≢ n) (labels (z.front ++ Label l ∷ z.back)) = subst (λ items. AllPairs (λ m n. m ≢ n) (labels items)) z.is whole.labels_once in
        let index : label_index a.items l ≡ k = ap (λ items. label_index items l) z.is ∙ named-where z.front z.back l (named-once z.front z.back l once) ∙ z.count in
        let e = ap (item_place a.items w.far) index in omega (arith, e);
  }

  pub items_stand : ItemsAt p (label_place a.items w.far) 0 a.items (text_words a.items w.far)
  items_stand =
      let none : 0 + text_words a.items w.far ≡ text_words a.items w.far = omega arith in
      subst (ItemsAt p (label_place a.items w.far) 0 a.items) none (items-at p (label_place a.items w.far) 0 a.items w.far w.least.one_each all-labels insns-at)

  pub labels_stand : (front back : List AsmItem) (l : ℕ) → a.items ≡ front ++ Label l ∷ back → ItemsAt p (label_place a.items w.far) (label_place a.items w.far l) back (text_words a.items w.far)
  labels_stand front back l is =
      let k = length front in
      let once : AllPairs (λ m n. m ≢ n) (labels (front ++ Label l ∷ back)) = subst (λ items. AllPairs (λ m n. m ≢ n) (labels items)) is whole.labels_once in
      let index : label_index a.items l ≡ k = ap (λ items. label_index items l) is ∙ named-where front back l (named-once front back l once) in
      let len : length a.items ≡ length front + length (Label l ∷ back) = ap length is ∙ length-append front (Label l ∷ back) in
      let dropped : drop k a.items ≡ Label l ∷ back = ap (drop k) is ∙ drop-front front (Label l ∷ back) in
      let s = suffix-at p (label_place a.items w.far) 0 k a.items w.far w.least.one_each all-labels (omega (arith, len)) insns-at in
      let end : 0 + text_words a.items w.far ≡ text_words a.items w.far = omega arith in
      let from : 0 + item_place a.items w.far k ≡ label_place a.items w.far l = let e = ap (item_place a.items w.far) index in omega (arith, e) in
      let t : ItemsAt p (label_place a.items w.far) (label_place a.items w.far l) (Label l ∷ back) (text_words a.items w.far) =
      subst (λ n. ItemsAt p (label_place a.items w.far) (label_place a.items w.far l) (Label l ∷ back) n) end
      (subst (λ n. ItemsAt p (label_place a.items w.far) n (Label l ∷ back) (0 + text_words a.items w.far)) from
      (subst (λ items. ItemsAt p (label_place a.items w.far) (0 + item_place a.items w.far k) items (0 + text_words a.items w.far)) dropped s)) in
      let none : label_place a.items w.far l + 0 ≡ label_place a.items w.far l = omega arith in
      subst (λ n. ItemsAt p (label_place a.items w.far) n back (text_words a.items w.far)) none t.2
    where
      drop-front : (xs ys : List AsmItem) → drop (length xs) (xs ++ ys) ≡ ys
      drop-front [] ys = refl
      drop-front (x ∷ xs) ys = drop-front xs ys
