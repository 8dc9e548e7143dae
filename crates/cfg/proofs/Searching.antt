-- The search for the blocks to which a path leads.
use Rattle.std.proofs.Common.{◌≡◌, ℕ, zero, suc, ◌+◌, ◌<◌, ◌≤◌, Bool, true, false, ◌⊎◌, List, [], ◌∷◌, ◌++◌, length, get_or, set, take, replicate, Option, Some, None, slice_get, refl, sym, ap, subst, ◌∙◌, inl, inr, arith, length-append, length-set, if◌then◌else◌}
use Rattle.std.specs.List.{Contains}
use Rattle.std.proofs.lemmas.Bool.{cases_lt}
use Rattle.std.proofs.lemmas.Option.{slice_get_within, get_or_from_slice_get, slice_get-get_or}
use Rattle.std.proofs.lemmas.List.{get_or_append_left, get_or_default, take_more}
use Rattle.std.proofs.lemmas.List.Elements.{Contains-append_left, Contains-push}
use Rattle.std.proofs.Math.Seq.{get_or-append_seam}
use Rattle.cfg.specs.Paths.{IsReachable, IsEntry, Follows}
use Rattle.cfg.specs.model.Search.{Search, search_of, marked_count, is_unmarked, marked_too, visit, visit_all}

unmarked_is : (o : Option Bool) → is_unmarked o ≡ true → o ≡ Some false
unmarked_is None h = let clash : ⊥ = cc in absurd clash
unmarked_is (Some true) h = let clash : ⊥ = cc in absurd clash
unmarked_is (Some false) h = refl

-- one mark more
set_same : (ms : List Bool) (b : ℕ) → slice_get ms b ≡ Some false → slice_get (set ms b true) b ≡ Some true
set_same [] b h = let clash : ⊥ = cc in absurd clash
set_same (m ∷ ms) zero h = refl
set_same (m ∷ ms) (suc b) h = set_same ms b h

set_keeps : (ms : List Bool) (b k : ℕ) → slice_get ms k ≡ Some true → slice_get (set ms b true) k ≡ Some true
set_keeps [] b k h = h
set_keeps (m ∷ ms) zero zero h = refl
set_keeps (m ∷ ms) zero (suc k) h = h
set_keeps (m ∷ ms) (suc b) zero h = h
set_keeps (m ∷ ms) (suc b) (suc k) h = set_keeps ms b k h

set_only : (ms : List Bool) (b k : ℕ) → slice_get (set ms b true) k ≡ Some true → (b ≡ k) ⊎ (slice_get ms k ≡ Some true)
set_only [] b k h = inr h
set_only (m ∷ ms) zero zero h = inl refl
set_only (m ∷ ms) zero (suc k) h = inr h
set_only (m ∷ ms) (suc b) zero h = inr h
set_only (m ∷ ms) (suc b) (suc k) h = elim (set_only ms b k h) [
  | inl e ↦ inl (ap suc e)
  | inr r ↦ inr r
]

set_count : (ms : List Bool) (b : ℕ) → slice_get ms b ≡ Some false → marked_count (set ms b true) ≡ suc (marked_count ms)
set_count [] b h = let clash : ⊥ = cc in absurd clash
set_count (true ∷ ms) zero h = let clash : ⊥ = cc in absurd clash
set_count (false ∷ ms) zero h = refl
set_count (true ∷ ms) (suc b) h = ap suc (set_count ms b h)
set_count (false ∷ ms) (suc b) h = set_count ms b h

pub count_most : (ms : List Bool) → marked_count ms ≤ length ms
count_most [] = omega arith
count_most (true ∷ ms) = omega (arith, count_most ms)
count_most (false ∷ ms) = omega (arith, count_most ms)

is_marked : (ms : List Bool) (b : ℕ) → b < length ms → is_unmarked (slice_get ms b) ≡ false → slice_get ms b ≡ Some true
is_marked [] b below h = absurd (omega arith)
is_marked (true ∷ ms) zero below h = refl
is_marked (false ∷ ms) zero below h = let clash : ⊥ = cc in absurd clash
is_marked (m ∷ ms) (suc b) below h = is_marked ms b (omega arith) h

none_marked : (n b : ℕ) → slice_get (replicate n false) b ≡ Some true → ⊥
none_marked zero b h = cc
none_marked (suc n) zero h = cc
none_marked (suc n) (suc b) h = none_marked n b h

count_none : (n : ℕ) → marked_count (replicate n false) ≡ 0
count_none zero = refl
count_none (suc n) = count_none n

length_none : (n : ℕ) → length (replicate n false) ≡ n
length_none zero = refl
length_none (suc n) = ap suc (length_none n)

abbrev pub IsMarkedIn : Search → ℕ → Type 0
IsMarkedIn s b = slice_get s.marks b ≡ Some true

-- what a visit leaves of what was so before
record Grows (s t : Search) : Type 0 where
  marks : (b : ℕ) → IsMarkedIn s b → IsMarkedIn t b
  found : (k : ℕ) → k < length s.found → get_or t.found k 0 ≡ get_or s.found k 0
  longer : length s.found ≤ length t.found
  count : length t.marks ≡ length s.marks

grows_same : (s : Search) → Grows s s
grows_same s = record { marks = λ b h. h; found = λ k below. refl; longer = omega arith; count = refl }

grows_on : (s t u : Search) → Grows s t → Grows t u → Grows s u
grows_on s t u g h = record {
  marks = λ b m. h.marks b (g.marks b m);
  found = λ k below. h.found k (omega (arith, g.longer)) ∙ g.found k below;
  longer = omega (arith, g.longer, h.longer);
  count = h.count ∙ g.count;
}

choose : (o : Bool) (P : Search → Type 0) (x y : Search) → (o ≡ true → P x) → (o ≡ false → P y) → P (if o then x else y)
choose true P x y if_true if_false = if_true refl
choose false P x y if_true if_false = if_false refl

by_visit : (s : Search) (b : ℕ) (P : Search → Type 0) → (slice_get s.marks b ≡ Some false → P (marked_too s b)) → (is_unmarked (slice_get s.marks b) ≡ false → P s) → P (visit s b)
by_visit s b P if_new if_old = choose (is_unmarked (slice_get s.marks b)) P (marked_too s b) s (λ h. if_new (unmarked_is (slice_get s.marks b) h)) if_old

visit_grows : (s : Search) (b : ℕ) → Grows s (visit s b)
visit_grows s b = by_visit s b (Grows s)
    (λ new. record {
      marks = λ k m. set_keeps s.marks b k m;
      found = λ k below. get_or_append_left s.found (b ∷ []) 0 k below;
      longer = omega (arith, length-append s.found (b ∷ []));
      count = length-set s.marks b true;
    })
    (λ old. grows_same s)

visit_marks : (s : Search) (b : ℕ) → b < length s.marks → IsMarkedIn (visit s b) b
visit_marks s b below = by_visit s b (λ t. IsMarkedIn t b) (λ new. set_same s.marks b new) (λ old. is_marked s.marks b below old)

-- what is found is what is marked, and a path leads to it
pub record IsSound (followers : List (List ℕ)) (s : Search) : Type 0 where
  pub count : length s.marks ≡ length followers
  pub total : marked_count s.marks ≡ length s.found
  pub listed : (b : ℕ) → IsMarkedIn s b → Contains s.found b
  pub marked : (k : ℕ) → k < length s.found → IsMarkedIn s (get_or s.found k 0)
  pub reached : (b : ℕ) → IsMarkedIn s b → IsReachable followers b

found_marked : (s : Search) (b k : ℕ) → slice_get s.marks b ≡ Some false → ((j : ℕ) → j < length s.found → IsMarkedIn s (get_or s.found j 0)) → k < length (s.found ++ b ∷ []) → IsMarkedIn (marked_too s b) (get_or (s.found ++ b ∷ []) k 0)
found_marked s b k new before below = elim (cases_lt k (length s.found)) [
  | inl low ↦ subst (λ x. IsMarkedIn (marked_too s b) x) (sym (get_or_append_left s.found (b ∷ []) 0 k low)) (set_keeps s.marks b (get_or s.found k 0) (before k low))
  | inr high ↦
      let last : length s.found ≡ k = omega (arith, length-append s.found (b ∷ [])) in
      let is : get_or (s.found ++ b ∷ []) k 0 ≡ b = ap (λ j. get_or (s.found ++ b ∷ []) j 0) (sym last) ∙ get_or-append_seam s.found b [] 0 in
      subst (λ x. IsMarkedIn (marked_too s b) x) (sym is) (set_same s.marks b new)
]

visit_sound : (followers : List (List ℕ)) (s : Search) (b : ℕ) → IsSound followers s → (b < length followers → IsReachable followers b) → IsSound followers (visit s b)
visit_sound followers s b sound leads = by_visit s b (IsSound followers)
    (λ new. record {
      count = length-set s.marks b true ∙ sound.count;
      total = set_count s.marks b new ∙ ap suc sound.total ∙ (let longer : suc (length s.found) ≡ length (s.found ++ b ∷ []) = omega (arith, length-append s.found (b ∷ [])) in longer);
      listed = λ k m. elim (set_only s.marks b k m) [
        | inl same ↦ subst (λ x. Contains (s.found ++ b ∷ []) x) same (Contains-push s.found b)
        | inr before ↦ Contains-append_left s.found (b ∷ []) k (sound.listed k before)
      ];
      marked = λ k below. found_marked s b k new sound.marked below;
      reached = λ k m. elim (set_only s.marks b k m) [
        | inl same ↦ subst (λ x. IsReachable followers x) same (leads (omega (arith, slice_get_within s.marks b false new, sound.count)))
        | inr before ↦ sound.reached k before
      ];
    })
    (λ old. sound)

head_in : (b : ℕ) (bs : List ℕ) → Contains (b ∷ bs) b
head_in b bs = (0, omega arith, refl)

tail_in : (b : ℕ) (bs : List ℕ) (x : ℕ) → Contains bs x → Contains (b ∷ bs) x
tail_in b bs x c = (suc c.0, omega (arith, c.1), c.2)

all_grows : (bs : List ℕ) (s : Search) → Grows s (visit_all s bs)
all_grows [] s = grows_same s
all_grows (b ∷ bs) s = grows_on s (visit s b) (visit_all (visit s b) bs) (visit_grows s b) (all_grows bs (visit s b))

all_sound : (followers : List (List ℕ)) (bs : List ℕ) (s : Search) → IsSound followers s → ((b : ℕ) → Contains bs b → b < length followers → IsReachable followers b) → IsSound followers (visit_all s bs)
all_sound followers [] s sound leads = sound
all_sound followers (b ∷ bs) s sound leads =
    all_sound followers bs (visit s b) (visit_sound followers s b sound (leads b (head_in b bs))) (λ x c. leads x (tail_in b bs x c))

all_marks : (bs : List ℕ) (s : Search) (k x : ℕ) → k < length bs → get_or bs k x ≡ x → x < length s.marks → IsMarkedIn (visit_all s bs) x
all_marks [] s k x below is within = absurd (omega arith)
all_marks (b ∷ bs) s zero x below is within =
    (all_grows bs (visit s b)).marks x (subst (λ y. IsMarkedIn (visit s b) y) is (visit_marks s b (subst (λ y. y < length s.marks) (sym is) within)))
all_marks (b ∷ bs) s (suc k) x below is within =
    all_marks bs (visit s b) k x (omega arith) is (omega (arith, (visit_grows s b).count))

-- what follows the blocks that were found first, so many of them, is marked
abbrev pub FollowersAreMarked : List (List ℕ) → Search → ℕ → Type 0
FollowersAreMarked followers s at =
    (k : ℕ) → k < at → (b : ℕ) → Contains (get_or followers (get_or s.found k 0) []) b → b < length followers → IsMarkedIn s b

-- the search so far: what follows these blocks has been visited
pub record IsSearched (followers : List (List ℕ)) (s : Search) (at : ℕ) : Type 0 where
  pub sound : IsSound followers s
  pub followed : FollowersAreMarked followers s at
  pub reached : at ≤ length s.found
  pub entry : 0 < length followers → IsMarkedIn s 0

-- its begin
pub search_first : (followers : List (List ℕ)) (s : Search) → s ≡ visit (search_of (replicate (length followers) false) []) 0 → IsSearched followers s 0
search_first followers s is =
    let start : Search = search_of (replicate (length followers) false) [] in
    let begin : IsSound followers start = record {
      count = length_none (length followers);
      total = count_none (length followers);
      listed = λ b m. absurd (none_marked (length followers) b m);
      marked = λ k below. absurd (omega arith);
      reached = λ b m. absurd (none_marked (length followers) b m);
    } in
    subst (λ t. IsSearched followers t 0) (sym is) (record {
      sound = visit_sound followers start 0 begin (λ below. IsEntry);
      followed = λ k below. absurd (omega arith);
      reached = omega arith;
      entry = λ below. visit_marks start 0 (omega (arith, length_none (length followers)));
    })

-- a block that was found is there
pub found_within : (followers : List (List ℕ)) (s : Search) (at : ℕ) → IsSearched followers s at → at < length s.found → get_or s.found at 0 < length followers
found_within followers s at so below =
    omega (arith, slice_get_within s.marks (get_or s.found at 0) true (so.sound.marked at below), so.sound.count)

-- one block more
pub search_more : (followers : List (List ℕ)) (s t : Search) (at : ℕ) (nexts : List ℕ) → IsSearched followers s at → at < length s.found → nexts ≡ get_or followers (get_or s.found at 0) [] → t ≡ visit_all s nexts → IsSearched followers t (at + 1)
search_more followers s t at nexts so below nexts_is is =
    let block : ℕ = get_or s.found at 0 in
    let within : block < length followers = found_within followers s at so below in
    let grows : Grows s (visit_all s nexts) = all_grows nexts s in
    let leads : (b : ℕ) → Contains nexts b → b < length followers → IsReachable followers b =
    λ b c low. Follows b nexts (so.sound.reached block (so.sound.marked at below)) (slice_get-get_or followers block [] within ∙ ap Some (sym nexts_is)) c in
    subst (λ u. IsSearched followers u (at + 1)) (sym is) (record {
      sound = all_sound followers nexts s so.sound leads;
      followed = λ k low b c inside. elim (cases_lt k at) [
        | inl early ↦ grows.marks b (so.followed k early b (subst (λ x. Contains (get_or followers x []) b) (grows.found k (omega arith)) c) inside)
        | inr late ↦
            let same : k ≡ at = omega arith in
            let place : get_or (visit_all s nexts).found k 0 ≡ block = ap (λ j. get_or (visit_all s nexts).found j 0) same ∙ grows.found at below in
            let among : Contains nexts b = subst (λ ns. Contains ns b) (sym nexts_is) (subst (λ x. Contains (get_or followers x []) b) place c) in
            all_marks nexts s among.0 b among.1 among.2 (omega (arith, so.sound.count))
      ];
      reached = omega (arith, grows.longer);
      entry = λ some. grows.marks 0 (so.entry some);
    })

-- its end: no block was found that was not followed
pub search_all : (followers : List (List ℕ)) (s : Search) (at : ℕ) → IsSearched followers s at → length s.found ≤ at → (b : ℕ) → b < length followers → IsReachable followers b → IsMarkedIn s b
search_all followers s at so past b within IsEntry = so.entry within
search_all followers s at so past b within (Follows next nexts before get among) =
    let inside : _ < length followers = slice_get_within followers _ nexts get in
    let found = so.sound.listed _ (search_all followers s at so past _ inside before) in
    let read : get_or s.found found.0 0 ≡ _ = get_or_default s.found found.0 0 _ found.1 ∙ found.2 in
    let is : get_or followers (get_or s.found found.0 0) [] ≡ nexts = ap (λ x. get_or followers x []) read ∙ get_or_from_slice_get followers _ nexts [] get in
    so.followed found.0 (omega (arith, found.1)) b (subst (λ ns. Contains ns b) (sym is) among) within

-- as many blocks were found as there are at most
pub found_most : (followers : List (List ℕ)) (s : Search) (at : ℕ) → IsSearched followers s at → length s.found ≤ length followers
found_most followers s at so = omega (arith, count_most s.marks, so.sound.total, so.sound.count)

pub search_only : (followers : List (List ℕ)) (s : Search) (at : ℕ) → IsSearched followers s at → (b : ℕ) → IsMarkedIn s b → IsReachable followers b
search_only followers s at so b m = so.sound.reached b m

-- one visit more
pub visits_push : (bs : List ℕ) (s : Search) (b : ℕ) → visit_all s (bs ++ b ∷ []) ≡ visit (visit_all s bs) b
visits_push [] s b = refl
visits_push (x ∷ bs) s b = visits_push bs (visit s x) b

pub visits_more : (s t u : Search) (bs : List ℕ) (at : ℕ) → t ≡ visit_all s (take at bs) → at < length bs → u ≡ visit t (get_or bs at 0) → u ≡ visit_all s (take (at + 1) bs)
visits_more s t u bs at before below is =
    is ∙ ap (λ x. visit x (get_or bs at 0)) before ∙ sym (visits_push (take at bs) s (get_or bs at 0)) ∙ ap (visit_all s) (sym (take_more bs at 0 below))

-- the same in the words of the code
pub search_begin : (followers : List (List ℕ)) (marks : List Bool) (found : List ℕ) (s : Search) → marks ≡ replicate (length followers) false → found ≡ [] → s ≡ visit (search_of marks found) 0 → IsSearched followers s 0
search_begin followers marks found s marks_are none is =
    search_first followers s (is ∙ ap (λ ms. visit (search_of ms found) 0) marks_are ∙ ap (λ bs. visit (search_of (replicate (length followers) false) bs) 0) none)

pub next_within : (followers : List (List ℕ)) (s : Search) (at block : ℕ) → IsSearched followers s at → at < length s.found → block ≡ get_or s.found at 0 → block < length followers
next_within followers s at block so below is =
    subst (λ b. b < length followers) (sym is) (found_within followers s at so below)

pub search_turn : (followers : List (List ℕ)) (s t : Search) (at block : ℕ) (row nexts : List ℕ) → IsSearched followers s at → at < length s.found → block ≡ get_or s.found at 0 → row ≡ get_or followers block row → nexts ≡ row → t ≡ visit_all s nexts → IsSearched followers t (at + 1)
search_turn followers s t at block row nexts so below block_is row_is nexts_is is =
    let read : row ≡ get_or followers (get_or s.found at 0) [] =
    row_is ∙ get_or_default followers block row [] (next_within followers s at block so below block_is) ∙ ap (λ b. get_or followers b []) block_is in
    search_more followers s t at nexts so below (nexts_is ∙ read) is
