-- Blocks whose last instruction is changed, and lists of marked blocks.
use Rattle.std.proofs.Common.{◌≡◌, ℕ, zero, suc, ◌+◌, ◌-◌, ◌<◌, ◌≤◌, Bool, true, false, List, [], ◌∷◌, ◌++◌, map, length, take, drop, get_or, Some, None, refl, sym, ap, subst, ◌∙◌, arith, length-append, add-one, append_assoc, append-nil, slice_index_or, if◌then◌else◌}
use Rattle.std.specs.Prelude.{All}
use Rattle.std.specs.List.{range_with_len}
use Rattle.std.proofs.lemmas.List.{map_push}
use Rattle.std.proofs.lemmas.List.Elements.{All-head, All-tail, All-contains, All-drop, Contains-push}
use Rattle.std.proofs.lemmas.Option.{none-some}
use Rattle.pass_core.specs.Functions.{IsStraight, EndsLate, front_of}
use Rattle.bk_ilist.specs.Listing.{items, last_or, last_id, AtId, HasId}
use Rattle.cfg.specs.model.Search.{marked_count}
use Rattle.cfg.specs.Renumber.{with_targets, renumber}
use Rattle.cfg.specs.model.Marked.{number_in, marked_of}
use Rattle.cfg.proofs.Lists.{found_last, range_push}

-- numbers of marked blocks
count_more : (marks : List Bool) (at : ℕ) (mark : Bool) → at < length marks → mark ≡ get_or marks at false → marked_count (take (suc at) marks) ≡ (if mark then marked_count (take at marks) + 1 else marked_count (take at marks))
count_more [] at mark below is = absurd (omega arith)
count_more (true ∷ marks) zero mark below is = rw is (omega arith)
count_more (false ∷ marks) zero mark below is = rw is refl
count_more (true ∷ marks) (suc at) true below is = ap suc (count_more marks at true (omega arith) is) ∙ (let moved : suc (marked_count (take at marks) + 1) ≡ suc (marked_count (take at marks)) + 1 = omega arith in moved)
count_more (true ∷ marks) (suc at) false below is = ap suc (count_more marks at false (omega arith) is)
count_more (false ∷ marks) (suc at) mark below is = count_more marks at mark (omega arith) is

-- how the numbers are counted
pub record IsCounted (marks : List Bool) (numbers : List ℕ) (next at : ℕ) : Type 0 where
  pub numbers_are : numbers ≡ map (number_in marks) (range_with_len 0 at)
  pub next_is : next ≡ number_in marks at
  pub bound : next ≤ at

pub counted_first : (marks : List Bool) (numbers : List ℕ) → numbers ≡ [] → IsCounted marks numbers 0 0
counted_first marks numbers is = record { numbers_are = is; next_is = refl; bound = omega arith }

pub counted_more : (marks : List Bool) (numbers new : List ℕ) (next after at : ℕ) (mark : Bool) → IsCounted marks numbers next at → at < length marks → mark ≡ get_or marks at false → new ≡ numbers ++ next ∷ [] → after ≡ (if mark then next + 1 else next) → IsCounted marks new after (at + 1)
counted_more marks numbers new next after at mark so below mark_is new_is after_is =
    let counted : (if mark then next + 1 else next) ≡ number_in marks (at + 1) =
    ap (λ n. if mark then n + 1 else n) so.next_is ∙ sym (count_more marks at mark below mark_is) ∙ ap (λ n. number_in marks n) (sym (add-one at)) in
    record {
      numbers_are =
          new_is ∙ ap (λ ns. ns ++ next ∷ []) so.numbers_are ∙ ap (λ n. map (number_in marks) (range_with_len 0 at) ++ n ∷ []) so.next_is
          ∙ sym (map_push (number_in marks) (range_with_len 0 at) at) ∙ ap (map (number_in marks)) (sym (range_push at));
      next_is = after_is ∙ counted;
      bound = at_most mark after next at after_is so.bound;
    } where
      at_most : (mark : Bool) (after next at : ℕ) → after ≡ (if mark then next + 1 else next) → next ≤ at → after ≤ at + 1
      at_most true after next at is bound = omega arith
      at_most false after next at is bound = omega arith

pub counted_all : (marks : List Bool) (numbers : List ℕ) (next at : ℕ) → IsCounted marks numbers next at → length marks ≤ at → at ≤ length marks → numbers ≡ map (number_in marks) (range_with_len 0 (length marks))
counted_all marks numbers next at so past reached =
    let same : at ≡ length marks = omega arith in
    so.numbers_are ∙ ap (λ n. map (number_in marks) (range_with_len 0 n)) same

pub never_none : {I : Type 0} (pairs : List (ℕ × I)) (k : ℕ) → None ≡ last_or pairs (Some k) → ⊥
never_none [] k none = none-some k none
never_none (p ∷ pairs) k none = never_none pairs p.0 none

module _ {I : Type 0} (targets : I → List ℕ) (with_target : I → ℕ → ℕ → I) (flows_on : I → Bool) (numbers : List ℕ) where
  -- an instruction without targets stays
  none_replaced : (i : I) (ts : List ℕ) → ts ≡ targets i → length ts ≡ 0 → renumber targets with_target numbers i ≡ i
  none_replaced i [] is none = ap (λ ts. with_targets with_target i 0 (map (λ block. slice_index_or numbers block 0) ts)) (sym is)
  none_replaced i (t ∷ ts) is none = absurd (omega arith)

  straight_stay : (xs : List I) → All (IsStraight targets flows_on) xs → map (renumber targets with_target numbers) xs ≡ xs
  straight_stay [] all = refl
  straight_stay (x ∷ xs) all =
      let first = All-head (IsStraight targets flows_on) x xs all in
      ap (λ y. y ∷ map (renumber targets with_target numbers) xs) (none_replaced x (targets x) refl first.0)
      ∙ ap (λ ys. x ∷ ys) (straight_stay xs (All-tail (IsStraight targets flows_on) x xs all))

  take_front : (xs : List I) (x : I) → take (length xs) (xs ++ x ∷ []) ≡ xs
  take_front [] x = refl
  take_front (y ∷ xs) x = ap (λ ys. y ∷ ys) (take_front xs x)

  front_push : (xs : List I) (x : I) → front_of (xs ++ x ∷ []) ≡ xs
  front_push xs x =
      let at : length (xs ++ x ∷ []) - 1 ≡ length xs = omega (arith, length-append xs (x ∷ [])) in
      ap (λ n. take n (xs ++ x ∷ [])) at ∙ take_front xs x

  -- a block of which the last instruction is replaced
  pub last_replaced : (xs : List I) (pairs one two : List (ℕ × I)) (id : ℕ) (jump item new : I) → items pairs ≡ xs → Some id ≡ last_id pairs → AtId pairs id (λ before old after. item ≡ old) → AtId pairs id (λ before old after. one ≡ before ++ (id, jump) ∷ after) → AtId one id (λ before old after. two ≡ before ++ (id, new) ∷ after) → new ≡ renumber targets with_target numbers item → EndsLate targets flows_on xs → items two ≡ map (renumber targets with_target numbers) xs
  last_replaced xs pairs one two id jump item new view is old_is one_is two_is new_is late =
      let last = found_last pairs id is in
      let item_is : item ≡ last.item = old_is last.before [] last.item last.split in
      let two_now : two ≡ last.before ++ (id, new) ∷ [] = two_is last.before [] jump (one_is last.before [] last.item last.split) in
      let all : xs ≡ items last.before ++ last.item ∷ [] = sym view ∙ ap items last.split ∙ map_push (λ p. p.1) last.before (id, last.item) in
      let front : All (IsStraight targets flows_on) (items last.before) = subst (λ ys. All (IsStraight targets flows_on) ys) (ap front_of all ∙ front_push (items last.before) last.item) late in
      ap items two_now
      ∙ map_push (λ p. p.1) last.before (id, new)
      ∙ ap (λ y. items last.before ++ y ∷ []) (new_is ∙ ap (renumber targets with_target numbers) item_is)
      ∙ ap (λ ys. ys ++ renumber targets with_target numbers last.item ∷ []) (sym (straight_stay (items last.before) front))
      ∙ sym (map_push (renumber targets with_target numbers) (items last.before) last.item)
      ∙ ap (map (renumber targets with_target numbers)) (sym all)

  -- the last instruction is one of the block
  pub last_holds : (P : I → Type 0) (xs : List I) (pairs : List (ℕ × I)) (id : ℕ) (item : I) → items pairs ≡ xs → Some id ≡ last_id pairs → AtId pairs id (λ before old after. item ≡ old) → All P xs → P item
  last_holds P xs pairs id item view is old_is all =
      let last = found_last pairs id is in
      let item_is : item ≡ last.item = old_is last.before [] last.item last.split in
      let whole : xs ≡ items last.before ++ last.item ∷ [] = sym view ∙ ap items last.split ∙ map_push (λ p. p.1) last.before (id, last.item) in
      subst P (sym item_is) (All-contains P (items last.before ++ last.item ∷ []) last.item (subst (All P) whole all) (Contains-push (items last.before) last.item))

  -- the id is still there after the first write
  pub id_stays : (pairs one : List (ℕ × I)) (id : ℕ) (jump : I) → Some id ≡ last_id pairs → AtId pairs id (λ before old after. one ≡ before ++ (id, jump) ∷ after) → HasId one id
  id_stays pairs one id jump is one_is =
      let last = found_last pairs id is in
      record { before = last.before; item = jump; after = []; split = one_is last.before [] last.item last.split }

  -- a block without instructions stays
  pub none_to_replace : (xs : List I) (pairs : List (ℕ × I)) → items pairs ≡ xs → None ≡ last_id pairs → xs ≡ map (renumber targets with_target numbers) xs
  none_to_replace xs [] view none = sym view ∙ ap (map (renumber targets with_target numbers)) view
  none_to_replace xs (p ∷ pairs) view none = absurd (never_none pairs p.0 none)

-- a change that keeps instructions without targets
module _ {I : Type 0} (targets : I → List ℕ) (flows_on : I → Bool) (change : I → I) (stays : (i : I) → length (targets i) ≡ 0 → change i ≡ i) where
  front_stays : (xs : List I) → All (IsStraight targets flows_on) xs → map change xs ≡ xs
  front_stays [] all = refl
  front_stays (x ∷ xs) all =
      let first = All-head (IsStraight targets flows_on) x xs all in
      ap (λ y. y ∷ map change xs) (stays x first.0) ∙ ap (λ ys. x ∷ ys) (front_stays xs (All-tail (IsStraight targets flows_on) x xs all))

  take_before : (xs : List I) (x : I) → take (length xs) (xs ++ x ∷ []) ≡ xs
  take_before [] x = refl
  take_before (y ∷ xs) x = ap (λ ys. y ∷ ys) (take_before xs x)

  front_before : (xs : List I) (x : I) → front_of (xs ++ x ∷ []) ≡ xs
  front_before xs x =
      let at : length (xs ++ x ∷ []) - 1 ≡ length xs = omega (arith, length-append xs (x ∷ [])) in
      ap (λ n. take n (xs ++ x ∷ [])) at ∙ take_before xs x

  -- a block of which the last instruction is changed
  pub last_changed : (xs : List I) (pairs one two : List (ℕ × I)) (id : ℕ) (jump item new : I) → items pairs ≡ xs → Some id ≡ last_id pairs → AtId pairs id (λ before old after. item ≡ old) → AtId pairs id (λ before old after. one ≡ before ++ (id, jump) ∷ after) → AtId one id (λ before old after. two ≡ before ++ (id, new) ∷ after) → new ≡ change item → EndsLate targets flows_on xs → items two ≡ map change xs
  last_changed xs pairs one two id jump item new view is old_is one_is two_is new_is late =
      let last = found_last pairs id is in
      let item_is : item ≡ last.item = old_is last.before [] last.item last.split in
      let two_now : two ≡ last.before ++ (id, new) ∷ [] = two_is last.before [] jump (one_is last.before [] last.item last.split) in
      let all : xs ≡ items last.before ++ last.item ∷ [] = sym view ∙ ap items last.split ∙ map_push (λ p. p.1) last.before (id, last.item) in
      let front : All (IsStraight targets flows_on) (items last.before) = subst (λ ys. All (IsStraight targets flows_on) ys) (ap front_of all ∙ front_before (items last.before) last.item) late in
      ap items two_now
      ∙ map_push (λ p. p.1) last.before (id, new)
      ∙ ap (λ y. items last.before ++ y ∷ []) (new_is ∙ ap change item_is)
      ∙ ap (λ ys. ys ++ change last.item ∷ []) (sym (front_stays (items last.before) front))
      ∙ sym (map_push change (items last.before) last.item)
      ∙ ap (map change) (sym all)

-- the marked ones of what is left
pub record IsKept {A B : Type 0} (change : A → B) (marks : List Bool) (all rest : List A) (kept : List B) (at : ℕ) : Type 0 where
  pub split : kept ++ map change (marked_of (drop at marks) rest) ≡ map change (marked_of marks all)
  pub place : rest ≡ drop at all
  pub bound : at + length rest ≡ length all

pub kept_first : {A B : Type 0} (change : A → B) (marks : List Bool) (all rest : List A) (kept : List B) → kept ≡ [] → rest ≡ all → IsKept change marks all rest kept 0
kept_first change marks all rest kept none is = record {
  split = ap (λ ks. ks ++ map change (marked_of marks rest)) none ∙ ap (λ xs. map change (marked_of marks xs)) is;
  place = is;
  bound = let same : 0 + length rest ≡ length all = omega (arith, ap length is) in same;
}

pub drop_one : {A : Type 0} (xs ys : List A) (x : A) (at : ℕ) → x ∷ ys ≡ drop at xs → ys ≡ drop (at + 1) xs
drop_one {A = A} xs ys x zero is = rest_is xs is
  where
    rest_is : (zs : List A) → x ∷ ys ≡ zs → ys ≡ drop 1 zs
    rest_is [] same = let clash : ⊥ = cc in absurd clash
    rest_is (z ∷ zs) same = cc
drop_one [] ys x (suc at) is = let clash : ⊥ = cc in absurd clash
drop_one (z ∷ xs) ys x (suc at) is = drop_one xs ys x at is ∙ ap (λ n. drop n (z ∷ xs)) (let moved : suc (at + 1) ≡ suc at + 1 = omega arith in moved)

pub drop_marks : (marks : List Bool) (at : ℕ) (mark : Bool) → at < length marks → mark ≡ get_or marks at false → drop at marks ≡ mark ∷ drop (at + 1) marks
drop_marks [] at mark below is = absurd (omega arith)
drop_marks (m ∷ marks) zero mark below is = ap (λ x. x ∷ marks) (sym is)
drop_marks (m ∷ marks) (suc at) mark below is =
    drop_marks marks at mark (omega arith) is ∙ ap (λ n. mark ∷ drop n (m ∷ marks)) (let moved : suc (at + 1) ≡ suc at + 1 = omega arith in moved)

marked_first : {A B : Type 0} (change : A → B) (marks : List Bool) (mark : Bool) (x : A) (rest : List A) (kept : List B) → (kept ++ (if mark then change x ∷ [] else [])) ++ map change (marked_of marks rest) ≡ kept ++ map change (marked_of (mark ∷ marks) (x ∷ rest))
marked_first change marks true x rest kept = append_assoc kept (change x ∷ []) (map change (marked_of marks rest))
marked_first change marks false x rest kept = ap (λ ks. ks ++ map change (marked_of marks rest)) (append-nil kept)

pub kept_more : {A B : Type 0} (change : A → B) (marks : List Bool) (all left rest : List A) (kept new : List B) (at : ℕ) (mark : Bool) (x : A) → IsKept change marks all left kept at → left ≡ x ∷ rest → length marks ≡ length all → mark ≡ get_or marks at false → new ≡ kept ++ (if mark then change x ∷ [] else []) → IsKept change marks all rest new (at + 1)
kept_more change marks all left rest kept new at mark x so left_is same mark_is new_is =
    let below : at < length marks = omega (arith, so.bound, ap length left_is) in
    record {
      split =
          ap (λ ks. ks ++ map change (marked_of (drop (at + 1) marks) rest)) new_is
          ∙ marked_first change (drop (at + 1) marks) mark x rest kept
          ∙ ap (λ ms. kept ++ map change (marked_of ms (x ∷ rest))) (sym (drop_marks marks at mark below mark_is))
          ∙ ap (λ xs. kept ++ map change (marked_of (drop at marks) xs)) (sym left_is)
          ∙ so.split;
      place = drop_one all rest x at (sym left_is ∙ so.place);
      bound = omega (arith, so.bound, ap length left_is);
    }

pub kept_within : {A B : Type 0} (change : A → B) (marks : List Bool) (all left rest : List A) (kept : List B) (at : ℕ) (x : A) → IsKept change marks all left kept at → left ≡ x ∷ rest → length marks ≡ length all → at < length marks
kept_within change marks all left rest kept at x so left_is same = omega (arith, so.bound, ap length left_is)

kept_done : {A B : Type 0} (change : A → B) (marks : List Bool) (left : List A) (kept : List B) (at : ℕ) → left ≡ [] → kept ≡ kept ++ map change (marked_of (drop at marks) left)
kept_done change marks left kept at none = sym (append-nil kept) ∙ ap (λ ys. kept ++ map change ys) (sym (ap (λ xs. marked_of (drop at marks) xs) none ∙ none_left (drop at marks)))
  where
    none_left : {A : Type 0} (ms : List Bool) → marked_of {A = A} ms [] ≡ []
    none_left [] = refl
    none_left (m ∷ ms) = refl

pub kept_all : {A B : Type 0} (change : A → B) (marks : List Bool) (all left : List A) (kept : List B) (at : ℕ) → IsKept change marks all left kept at → left ≡ [] → kept ≡ map change (marked_of marks all)
kept_all change marks all left kept at so none = kept_done change marks left kept at none ∙ so.split

pub drop_holds : {A : Type 0} (P : A → Type 0) (xs ys : List A) (x : A) (at : ℕ) → x ∷ ys ≡ drop at xs → All P xs → P x
drop_holds P xs ys x at is all = All-head P x ys (subst (All P) (sym is) (All-drop P at xs all))

pub kept_holds : {A B : Type 0} (P : A → Type 0) (change : A → B) (marks : List Bool) (all left rest : List A) (kept : List B) (at : ℕ) (x : A) → IsKept change marks all left kept at → left ≡ x ∷ rest → All P all → P x
kept_holds P change marks all left rest kept at x so left_is holds = drop_holds P all rest x at (sym left_is ∙ so.place) holds
