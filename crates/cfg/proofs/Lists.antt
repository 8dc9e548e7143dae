-- Lists that loops make.
use Rattle.std.proofs.Common.{◌≡◌, ℕ, zero, suc, ◌+◌, ◌-◌, ◌<◌, ◌≤◌, Bool, List, [], ◌∷◌, ◌++◌, length, take, get_or, Some, None, slice_get, refl, sym, ap, ◌∙◌, arith, add-one, add-zero, length-take, length-append}
use Rattle.std.proofs.lemmas.List.{take_more, map_push}
use Rattle.std.proofs.lemmas.Option.{slice_get_within, get_or_from_slice_get, none-some}
use Rattle.std.specs.List.{range_with_len}
use Rattle.pass_core.specs.Functions.{last_of, successors_after, successors_of}
use Rattle.bk_ilist.specs.Listing.{items, last_or, last_id, HasId}
use Rattle.cfg.specs.Edges.{successors_from}

range_suc : (a n : ℕ) → range_with_len a (suc n) ≡ range_with_len a n ++ (a + n) ∷ []
range_suc a zero = ap (λ m. m ∷ []) (sym (add-zero a))
range_suc a (suc n) =
    let moved : (a + 1) + n ≡ a + suc n = omega arith in
    ap (λ ms. a ∷ ms) (range_suc (a + 1) n ∙ ap (λ m. range_with_len (a + 1) n ++ m ∷ []) moved)

-- one more number
pub range_push : (n : ℕ) → range_with_len 0 (n + 1) ≡ range_with_len 0 n ++ n ∷ []
range_push n =
    let from_zero : 0 + n ≡ n = omega arith in
    ap (range_with_len 0) (add-one n) ∙ range_suc 0 n ∙ ap (λ m. range_with_len 0 n ++ m ∷ []) from_zero

module _ {A : Type 0} where
  -- one more element
  pub take_found : (xs : List A) (k : ℕ) (x : A) → slice_get xs k ≡ Some x → take (k + 1) xs ≡ take k xs ++ x ∷ []
  take_found xs k x found =
      take_more xs k x (slice_get_within xs k x found) ∙ ap (λ y. take k xs ++ y ∷ []) (get_or_from_slice_get xs k x x found)

  -- past the end
  pub take_past : (xs : List A) (k : ℕ) → None ≡ slice_get xs k → take k xs ≡ xs
  take_past [] zero none = refl
  take_past [] (suc k) none = refl
  take_past (x ∷ xs) zero none = absurd (none-some x none)
  take_past (x ∷ xs) (suc k) none = ap (λ ys. x ∷ ys) (take_past xs k none)

  pub take_all : (xs : List A) (k : ℕ) → length xs ≤ k → take k xs ≡ xs
  take_all [] zero past = refl
  take_all [] (suc k) past = refl
  take_all (x ∷ xs) zero past = absurd (omega arith)
  take_all (x ∷ xs) (suc k) past = ap (λ ys. x ∷ ys) (take_all xs k (omega arith))

  pub take_whole : (xs : List A) → take (length xs) xs ≡ xs
  take_whole [] = refl
  take_whole (x ∷ xs) = ap (λ ys. x ∷ ys) (take_whole xs)

module _ {I : Type 0} (targets : I → List ℕ) (flows_on : I → Bool) where
  successors_push : (number : ℕ) (blocks : List (List I)) (block : List I) → successors_from targets flows_on number (blocks ++ block ∷ []) ≡ successors_from targets flows_on number blocks ++ successors_of targets flows_on (number + length blocks) block ∷ []
  successors_push number [] block = ap (λ n. successors_of targets flows_on n block ∷ []) (sym (add-zero number))
  successors_push number (b ∷ blocks) block =
      let moved : suc number + length blocks ≡ number + suc (length blocks) = omega arith in
      ap (λ rest. successors_of targets flows_on number b ∷ rest)
      (successors_push (suc number) blocks block
      ∙ ap (λ n. successors_from targets flows_on (suc number) blocks ++ successors_of targets flows_on n block ∷ []) moved)

  -- the successors of one block more
  pub successors_more : (blocks : List (List I)) (at : ℕ) (block : List I) → at < length blocks → block ≡ get_or blocks at block → successors_from targets flows_on 0 (take (at + 1) blocks) ≡ successors_from targets flows_on 0 (take at blocks) ++ successors_of targets flows_on at block ∷ []
  successors_more blocks at block within is =
      let reached : 0 + length (take at blocks) ≡ at = omega (arith, length-take at blocks) in
      ap (successors_from targets flows_on 0) (take_more blocks at block within)
      ∙ ap (λ b. successors_from targets flows_on 0 (take at blocks ++ b ∷ [])) (sym is)
      ∙ successors_push 0 (take at blocks) block
      ∙ ap (λ n. successors_from targets flows_on 0 (take at blocks) ++ successors_of targets flows_on n block ∷ []) reached

  -- a step of the loop over the blocks
  pub lists_step : (lists new : List (List ℕ)) (followers : List ℕ) (blocks : List (List I)) (at : ℕ) (block : List I) → new ≡ lists ++ followers ∷ [] → lists ≡ successors_from targets flows_on 0 (take at blocks) → followers ≡ successors_of targets flows_on at block → at < length blocks → block ≡ get_or blocks at block → new ≡ successors_from targets flows_on 0 (take (at + 1) blocks)
  lists_step lists new followers blocks at block new_is lists_is followers_is within block_is =
      new_is
      ∙ ap (λ ls. ls ++ followers ∷ []) lists_is
      ∙ ap (λ fs. successors_from targets flows_on 0 (take at blocks) ++ fs ∷ []) followers_is
      ∙ sym (successors_more blocks at block within block_is)

  pub length-successors : (number : ℕ) (blocks : List (List I)) → length (successors_from targets flows_on number blocks) ≡ length blocks
  length-successors number [] = refl
  length-successors number (b ∷ blocks) = ap suc (length-successors (suc number) blocks)

module _ {A : Type 0} where
  get_push : (xs : List A) (x : A) → slice_get (xs ++ x ∷ []) (length xs) ≡ Some x
  get_push [] x = refl
  get_push (y ∷ xs) x = get_push xs x

  last_push : (xs : List A) (x : A) → last_of (xs ++ x ∷ []) ≡ Some x
  last_push xs x =
      let at : length (xs ++ x ∷ []) - 1 ≡ length xs = omega (arith, length-append xs (x ∷ [])) in
      ap (slice_get (xs ++ x ∷ [])) at ∙ get_push xs x

module _ {I : Type 0} where
  -- the pair of the last id stands at the end
  pub record Last (pairs : List (ℕ × I)) (id : ℕ) : Type 0 where
    pub before : List (ℕ × I)
    pub item : I
    pub split : pairs ≡ before ++ (id, item) ∷ []

  last_pair : (first : ℕ × I) (pairs : List (ℕ × I)) (id : ℕ) → Some id ≡ last_or pairs (Some first.0) → Last (first ∷ pairs) id
  last_pair first [] id is =
      let same : first.0 ≡ id = cc in
      record { before = []; item = first.1; split = ap (λ k. (k, first.1) ∷ []) same }
  last_pair first (p ∷ pairs) id is =
      let rest = last_pair p pairs id is in
      record { before = first ∷ rest.before; item = rest.item; split = ap (λ ps. first ∷ ps) rest.split }

  pub found_last : (pairs : List (ℕ × I)) (id : ℕ) → Some id ≡ last_id pairs → Last pairs id
  found_last [] id is = absurd (none-some id (sym is))
  found_last (p ∷ pairs) id is = last_pair p pairs id is

  pub last_has_id : (pairs : List (ℕ × I)) (id : ℕ) → Some id ≡ last_id pairs → HasId pairs id
  last_has_id pairs id is =
      let last = found_last pairs id is in
      record { before = last.before; item = last.item; after = []; split = last.split }

  last_of_push : (before : List (ℕ × I)) (p : ℕ × I) → last_of (items (before ++ p ∷ [])) ≡ Some p.1
  last_of_push before p = ap last_of (map_push (λ q. q.1) before p) ∙ last_push (items before) p.1

  -- the item of the last id is the last item
  pub last_item : (pairs : List (ℕ × I)) (id : ℕ) (got : I) → Some id ≡ last_id pairs → ((before after : List (ℕ × I)) (item : I) → pairs ≡ before ++ (id, item) ∷ after → got ≡ item) → last_of (items pairs) ≡ Some got
  last_item pairs id got is reads =
      let last = found_last pairs id is in
      ap (λ ps. last_of (items ps)) last.split ∙ last_of_push last.before (id, last.item) ∙ ap Some (sym (reads last.before [] last.item last.split))

  pub no_last : (pairs : List (ℕ × I)) → None ≡ last_id pairs → last_of (items pairs) ≡ None
  no_last [] is = refl
  no_last (p ∷ pairs) is = absurd (no_last_pair p pairs is)
    where
      no_last_pair : (first : ℕ × I) (pairs : List (ℕ × I)) → None ≡ last_or pairs (Some first.0) → ⊥
      no_last_pair first [] is = none-some first.0 is
      no_last_pair first (p ∷ pairs) is = no_last_pair p pairs is

module _ {I : Type 0} (targets : I → List ℕ) (flows_on : I → Bool) where
  -- a block without instructions goes on with the next one
  pub no_insn : (number : ℕ) (insns : List I) (pairs : List (ℕ × I)) → items pairs ≡ insns → None ≡ last_id pairs → (number + 1) ∷ [] ≡ successors_of targets flows_on number insns
  no_insn number insns pairs view is =
      ap (λ n. n ∷ []) (add-one number)
      ∙ sym (ap (successors_after targets flows_on number) (no_last pairs is))
      ∙ ap (λ is. successors_of targets flows_on number is) view

  -- another one goes on where its last instruction does
  pub some_insn : (number : ℕ) (insns : List I) (pairs : List (ℕ × I)) (id : ℕ) (got : I) → items pairs ≡ insns → Some id ≡ last_id pairs → ((before after : List (ℕ × I)) (item : I) → pairs ≡ before ++ (id, item) ∷ after → got ≡ item) → successors_after targets flows_on number (Some got) ≡ successors_of targets flows_on number insns
  some_insn number insns pairs id got view is reads =
      sym (ap (successors_after targets flows_on number) (last_item pairs id got is reads))
      ∙ ap (λ is. successors_of targets flows_on number is) view
