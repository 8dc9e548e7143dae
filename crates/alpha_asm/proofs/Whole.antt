-- What a whole assembly gives its image.
use Rattle.std.proofs.Common.{◌≡◌, ◌≢◌, ℕ, zero, suc, ◌+◌, ◌*◌, ◌<◌, ◌≤◌, Bool, true, false, not, cond, ◌||◌, List, [], ◌∷◌, length, map, drop, get_or, Option, Some, refl, sym, ◌∙◌, ap, subst, ⊎_elim, arith}
use Rattle.std.specs.Prelude.{unwrap_or}
use Rattle.std.specs.List.{sum, list_any, position_from}
use Rattle.std.proofs.lemmas.Bool.{cases_lt}
use Rattle.std.proofs.lemmas.List.{drop_all, take_all, length-map}
use Rattle.alpha_isa.specs.declared.insn.BranchOp.TheVariants.{Br, Bsr, Blbc, Beq, Blt, Ble, Blbs, Bne, Bge, Bgt}
use Rattle.alpha_isa.specs.Program.{Program, data_of, last_byte, most_bytes, most_words, next_part, text_start, data_start}
use Rattle.alpha_isa.specs.Words.{insn_word}
use Rattle.alpha_items.specs.declared.item.AsmItem.{AsmItem}
use Rattle.alpha_items.specs.declared.item.AsmItem.TheVariants.{Label, Name, Plain, Branch, TextAddress, DataAddress}
use Rattle.alpha_items.specs.Items.{IsItem, names_label, gives_word}
use Rattle.alpha_items.specs.Assembly.{Assembly, IsWhole, label_index}
use Rattle.alpha_items.specs.Layout.{item_words, sizes, item_place, label_place, text_words, IsLeastFar}
use Rattle.alpha_items.specs.Words.{text_insns, fixed_data, Words}
use Rattle.alpha_items.proofs.Sums.{sum-cons}
use Rattle.alpha_items.proofs.Far.{length-sizes}
use Rattle.alpha_items.proofs.Unique.{far_unique, length-text_insns}
use Rattle.alpha_asm.specs.Fault.{HasWords}
use Rattle.alpha_asm.specs.model.Sweeps.{AreTargets, ArePlaces, label_target, target_of}
use Rattle.alpha_asm.specs.model.Text.{IsLaidOut, AreSound, IsPlan}
use Rattle.alpha_asm.proofs.Targets.{are_targets}
use Rattle.alpha_asm.proofs.Steps.{whole_text}

-- ---- the entry

item_some : (f : Bool) (i : AsmItem) → gives_word i ≡ true → 1 ≤ item_words f i
item_some f (Label l) h = let clash : ⊥ = cc in absurd clash
item_some f (Name bytes) h = let clash : ⊥ = cc in absurd clash
item_some f (Plain insn) h = omega arith
item_some false (Branch op ra l) h = omega arith
item_some true (Branch Br ra l) h = omega arith
item_some true (Branch Bsr ra l) h = omega arith
item_some true (Branch Blbc ra l) h = omega arith
item_some true (Branch Beq ra l) h = omega arith
item_some true (Branch Blt ra l) h = omega arith
item_some true (Branch Ble ra l) h = omega arith
item_some true (Branch Blbs ra l) h = omega arith
item_some true (Branch Bne ra l) h = omega arith
item_some true (Branch Bge ra l) h = omega arith
item_some true (Branch Bgt ra l) h = omega arith
item_some f (TextAddress ra l) h = omega arith
item_some f (DataAddress ra offset) h = omega arith

some_of : (b c : Bool) (n m : ℕ) → (b ≡ true → 1 ≤ n) → (c ≡ true → 1 ≤ m) → (b || c) ≡ true → 1 ≤ n + m
some_of true c n m f g h = let some = f refl in omega (arith, some)
some_of false c n m f g h = let some = g h in omega (arith, some)

text_some : (items : List AsmItem) (far : List Bool) → length far ≡ length items → list_any gives_word items ≡ true → 1 ≤ sum (sizes items far)
text_some [] far e h = let clash : ⊥ = cc in absurd clash
text_some (i ∷ items) [] e h = absurd (omega (arith, e))
text_some (i ∷ items) (f ∷ far) e h =
    let both = some_of (gives_word i) (list_any gives_word items) (item_words f i) (sum (sizes items far)) (item_some f i) (text_some items far (omega (arith, e))) h in
    let whole = sum-cons (item_words f i) (sizes items far) in
    omega (arith, both, whole)

rest_some : (items : List AsmItem) (far : List Bool) (k : ℕ) → length far ≡ length items → list_any gives_word (drop k items) ≡ true → 1 ≤ sum (drop k (sizes items far))
rest_some items far zero e h = text_some items far e h
rest_some [] far (suc k) e h = let clash : ⊥ = cc in absurd clash
rest_some (i ∷ items) [] (suc k) e h = absurd (omega (arith, e))
rest_some (i ∷ items) (f ∷ far) (suc k) e h = rest_some items far k (omega (arith, e)) h

pub entry_inside : (items : List AsmItem) (far : List Bool) (k : ℕ) → length far ≡ length items → list_any gives_word (drop k items) ≡ true →
    item_place items far k < text_words items far
entry_inside items far k e h =
    let some = rest_some items far k e h in
    let whole = whole_text items far k in
    omega (arith, some, whole)

-- a label whose item is there is found
index_step : (b : Bool) (n k size : ℕ) (r : Option ℕ) → cond (not b) (1 + k) 0 < suc size →
    (k < size → r ≡ Some (n + 1 + k)) → cond b (Some n) r ≡ Some (n + cond (not b) (1 + k) 0)
index_step true n k size r h rest = ap Some (omega arith)
index_step false n k size r h rest = rest (omega (arith, h)) ∙ ap Some (omega arith)

index_found : (l : ℕ) (items : List AsmItem) (n : ℕ) → label_index items l < length items → position_from (names_label l) n items ≡ Some (n + label_index items l)
index_found l [] n h = absurd (omega (arith, h))
index_found l (i ∷ items) n h =
    index_step (names_label l i) n (label_index items l) (length items) (position_from (names_label l) (n + 1) items) h (index_found l items (n + 1))

any_inside : (items : List AsmItem) (k : ℕ) → list_any gives_word (drop k items) ≡ true → k < length items
any_inside items k h = ⊎_elim (λ (inside : k < length items). inside)
    (λ (past : length items ≤ k).
    let none : list_any gives_word (drop k items) ≡ false = ap (list_any gives_word) (drop_all k items past) in
    let clash : true ≡ false = sym h ∙ none in
    let nothing : ⊥ = cc in absurd nothing) (cases_lt k (length items))

pub entry_found : (a : Assembly) → IsWhole a → label_target a.items (Some 0) ≡ label_index a.items 0
entry_found a whole =
    let inside = any_inside a.items (label_index a.items 0) whole.entry in
    let found = index_found 0 a.items 0 inside in
    ap (λ (o : Option ℕ). unwrap_or o 0) found ∙ omega arith

-- ---- a text that is laid out

item_mono : (size : ℕ) (i : AsmItem) → size ≤ most_bytes → IsItem size i → IsItem most_bytes i
item_mono size (Label l) h is = tt
item_mono size (Name bytes) h is = is
item_mono size (Plain insn) h is = is
item_mono size (Branch op ra l) h is = is
item_mono size (TextAddress ra l) h is = is
item_mono size (DataAddress ra offset) h is = (is.0, omega (arith, h, is.1))

pub sound_items : (a : Assembly) → IsWhole a → AreSound a.items
sound_items a whole = record {
  are_items = λ k d h. item_mono (length a.bytes) (get_or a.items k d) whole.bytes (whole.items k d h);
  are_targets = are_targets a whole;
  entry_found = entry_found a whole;
  entry_inside = any_inside a.items (label_index a.items 0) whole.entry;
  some_words = whole.entry;
}

pub plan_made : (items : List AsmItem) (targets : List ℕ) (entry : ℕ) (far : List Bool) (places : List ℕ) → AreSound items →
    targets ≡ map (target_of items) items → entry ≡ label_target items (Some 0) → IsLeastFar items far → ArePlaces items far places →
    IsPlan items targets entry far places
plan_made items targets entry far places sound are is least places_are =
    let at : entry ≡ label_index items 0 = is ∙ sound.entry_found in
    let word = entry_inside items far (label_index items 0) least.one_each sound.some_words in
    let P : List ℕ → Type 0 = λ ts. AreTargets items ts in
    let Q : ℕ → Type 0 = λ k. item_place items far k < text_words items far in
    record {
      are_items = sound.are_items;
      are_targets = subst P (sym are) sound.are_targets;
      entry_is = at;
      entry_inside = omega (arith, at, sound.entry_inside);
      entry_word = subst Q (sym at) word;
      least = least;
      are_places = places_are;
    }

pub targets_made : (items : List AsmItem) (targets : List ℕ) → AreSound items → targets ≡ map (target_of items) items → AreTargets items targets
targets_made items targets sound are = let P : List ℕ → Type 0 = λ ts. AreTargets items ts in subst P (sym are) sound.are_targets

-- what a plan gives
pub plan_laid_out : (items : List AsmItem) (targets : List ℕ) (entry : ℕ) (far : List Bool) (places : List ℕ) → IsPlan items targets entry far places →
    text_words items far ≤ most_words → IsLaidOut items targets far places
plan_laid_out items targets entry far places plan few = record {
  one_each = plan.least.one_each;
  are_items = plan.are_items;
  are_targets = plan.are_targets;
  all_reach = plan.least.others_reach;
  are_places = plan.are_places;
  few = few;
}

pub plan_count : (items : List AsmItem) (targets : List ℕ) (entry : ℕ) (far : List Bool) (places : List ℕ) → IsPlan items targets entry far places →
    get_or places (length items) 0 ≡ text_words items far
plan_count items targets entry far places plan =
    let long = length-sizes items far plan.least.one_each in
    plan.are_places.at (length items) (omega arith) ∙ ap sum (take_all (length items) (sizes items far) (omega (arith, long)))

pub plan_entry : (items : List AsmItem) (targets : List ℕ) (entry : ℕ) (far : List Bool) (places : List ℕ) → IsPlan items targets entry far places →
    (get_or places entry 0 ≡ label_place items far 0) × (get_or places entry 0 < text_words items far)
plan_entry items targets entry far places plan =
    let at = plan.are_places.at entry (omega (arith, plan.entry_inside)) in
    (at ∙ ap (item_place items far) plan.entry_is, omega (arith, at, plan.entry_word))

-- ---- the image

text_length : (items : List AsmItem) (far : List Bool) (start : ℕ) →
    length (map insn_word (text_insns (label_place items far) start 0 items far)) ≡ text_words items far
text_length items far start =
    length-map (text_insns (label_place items far) start 0 items far) insn_word ∙ length-text_insns (label_place items far) start 0 items far

pub assembled_items : (a : Assembly) (far : List Bool) (start : ℕ) (p : Program) → IsLeastFar a.items far →
    start ≡ next_part (text_start + 4 * text_words a.items far) →
    p.words ≡ map insn_word (text_insns (label_place a.items far) start 0 a.items far) →
    data_of p ≡ fixed_data start a.bytes a.fixes → last_byte p.bytes ≢ Some 0 → p.entry ≡ label_place a.items far 0 → Words a p
assembled_items a far start p least begins words bytes last entry =
    let count : length p.words ≡ text_words a.items far = ap length words ∙ text_length a.items far start in
    let same : start ≡ data_start p = begins ∙ ap (λ n. next_part (text_start + 4 * n)) (sym count) in
    record {
      far = far;
      least = least;
      words = words ∙ ap (λ s. map insn_word (text_insns (label_place a.items far) s 0 a.items far)) same;
      data_bytes = bytes ∙ ap (λ s. fixed_data s a.bytes a.fixes) same;
      last = last;
      entry = entry;
    }

pub count_of : (items : List AsmItem) (far : List Bool) (start : ℕ) (ws : List ℕ) →
    ws ≡ map insn_word (text_insns (label_place items far) start 0 items far) → length ws ≡ text_words items far
count_of items far start ws is = ap length is ∙ text_length items far start

-- how many words a text has is one number
pub words_few : (a : Assembly) (far : List Bool) → IsLeastFar a.items far → text_words a.items far ≤ most_words → (n : ℕ) → HasWords a n → n ≤ most_words
words_few a far least few n has =
    let same = ap (text_words a.items) (far_unique a.items far has.far least has.least) in
    omega (arith, same, few, has.words)
