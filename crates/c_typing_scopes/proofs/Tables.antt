-- A table's map beside its list.
use Rattle.std.proofs.Common.{◌≡◌, ℕ, suc, ◌<◌, Bool, true, false, cond, List, [], ◌∷◌, ◌++◌, Option, Some, None, refl, sym, ap, ◌∙◌, subst, bytes_eq, reverse, length, slice_get, arith, true≢false, length-append}
use Rattle.std.specs.Option.{option_map}
use Rattle.std.specs.Map.{lookup, set_value}
use Rattle.std.specs.HashMap.{HashMap}
use Rattle.std.specs.Borrow.{Bor}
use Rattle.std.proofs.lemmas.List.{reverse-append, reverse-reverse, length-reverse}
use Rattle.std.proofs.lemmas.List.{get_or_append_left}
use Rattle.std.proofs.Math.Seq.{get_or-append_seam}
use Rattle.std.proofs.lemmas.Option.{slice_get-get_or}
use Rattle.std.proofs.lemmas.Slice.Eq.{bytes_eq-Decides}
use Rattle.indexmap.specs.IndexMap.{insert_entry}
use Rattle.c_typing_scopes.specs.Names.{Entry, find}
use Rattle.c_typing_scopes.specs.declared.table.Declaration.{Declaration}
use Rattle.c_typing_scopes.specs.model.Shadows.{place_of, flatten, IsNewest, entry_of, entries_of, IsChained}

same : (x y : List ℕ) → bytes_eq x y ≡ true → x ≡ y
same x y e = (bytes_eq-Decides x y).0 e

is_itself : (x : List ℕ) → bytes_eq x x ≡ true
is_itself x = (bytes_eq-Decides x x).1 refl

swapped : {R : Type 0} (a b : Bool) (u v r : R) → (a ≡ true → b ≡ true → ⊥) → cond b v (cond a u r) ≡ cond a u (cond b v r)
swapped true true u v r h = absurd (h refl refl)
swapped true false u v r h = refl
swapped false true u v r h = refl
swapped false false u v r h = refl

twice : {R : Type 0} (a b : Bool) (u v r : R) → a ≡ b → cond b u r ≡ cond a u (cond b v r)
twice true true u v r e = refl
twice false false u v r e = refl
twice true false u v r e = absurd (true≢false e)
twice false true u v r e = absurd (true≢false (sym e))

apart : (x y q : List ℕ) → bytes_eq x y ≡ false → bytes_eq q x ≡ true → bytes_eq q y ≡ true → ⊥
apart x y q h f g = true≢false (sym (ap (λ z. bytes_eq z y) (sym (same q x f)) ∙ g) ∙ h)

module _ {V : Type 0} where
  -- one key and one test for each name
  lookup-insert : (eq : Bor (List ℕ) → Bor (List ℕ) → Bool) → ((k l : Bor (List ℕ)) → eq k l ≡ bytes_eq k.now l.now) → (es : List (Bor (List ℕ) × V)) (k : Bor (List ℕ)) (v : V) (q : List ℕ)
      → lookup (λ l. bytes_eq q l.now) (insert_entry eq es k v) ≡ cond (bytes_eq q k.now) (Some v) (lookup (λ l. bytes_eq q l.now) es)
  lookup-insert eq is [] k v q = refl
  lookup-insert eq is (e ∷ es) k v q = by (lookup-insert eq is es k v q) (eq k e.0) refl
    where
      by : lookup (λ l. bytes_eq q l.now) (insert_entry eq es k v) ≡ cond (bytes_eq q k.now) (Some v) (lookup (λ l. bytes_eq q l.now) es) → (b : Bool) → eq k e.0 ≡ b → lookup (λ l. bytes_eq q l.now) (cond b ((e.0, v) ∷ es) (e ∷ insert_entry eq es k v)) ≡ cond (bytes_eq q k.now) (Some v) (lookup (λ l. bytes_eq q l.now) (e ∷ es))
      by rest true h = twice (bytes_eq q k.now) (bytes_eq q e.0.now) (Some v) (Some e.1) (lookup (λ l. bytes_eq q l.now) es) (ap (bytes_eq q) (same _ _ (sym (is k e.0) ∙ h)))
      by rest false h =
          ap (cond (bytes_eq q e.0.now) (Some e.1)) rest
          ∙ swapped (bytes_eq q k.now) (bytes_eq q e.0.now) (Some v) (Some e.1) _ (λ f g. apart k.now e.0.now q (sym (is k e.0) ∙ h) f g)

  lookup-set : (es : List (Bor (List ℕ) × V)) (x : List ℕ) (v w : V) (q : List ℕ) → lookup (λ l. bytes_eq x l.now) es ≡ Some w
      → lookup (λ l. bytes_eq q l.now) (set_value (λ l. bytes_eq x l.now) es v) ≡ cond (bytes_eq q x) (Some v) (lookup (λ l. bytes_eq q l.now) es)
  lookup-set [] x v w q there = let clash : ⊥ = cc in absurd clash
  lookup-set (e ∷ es) x v w q there = by (λ h. lookup-set es x v w q h) (bytes_eq x e.0.now) refl there
    where
      by : (lookup (λ l. bytes_eq x l.now) es ≡ Some w → lookup (λ l. bytes_eq q l.now) (set_value (λ l. bytes_eq x l.now) es v) ≡ cond (bytes_eq q x) (Some v) (lookup (λ l. bytes_eq q l.now) es))
          → (b : Bool) → bytes_eq x e.0.now ≡ b → cond b (Some e.1) (lookup (λ l. bytes_eq x l.now) es) ≡ Some w
          → lookup (λ l. bytes_eq q l.now) (cond b ((e.0, v) ∷ es) (e ∷ set_value (λ l. bytes_eq x l.now) es v)) ≡ cond (bytes_eq q x) (Some v) (lookup (λ l. bytes_eq q l.now) (e ∷ es))
      by rest true h there = twice (bytes_eq q x) (bytes_eq q e.0.now) (Some v) (Some e.1) (lookup (λ l. bytes_eq q l.now) es) (ap (bytes_eq q) (same _ _ h))
      by rest false h there =
          ap (cond (bytes_eq q e.0.now) (Some e.1)) (rest there) ∙ swapped (bytes_eq q x) (bytes_eq q e.0.now) (Some v) (Some e.1) _ (λ f g. apart x e.0.now q h f g)

  -- a place is set in vain where the name is not there
  pub set_absent : (es : List (Bor (List ℕ) × V)) (x : List ℕ) (v : V) → lookup (λ l. bytes_eq x l.now) es ≡ None → set_value (λ l. bytes_eq x l.now) es v ≡ es
  set_absent [] x v none = refl
  set_absent (e ∷ es) x v none = by (λ h. set_absent es x v h) (bytes_eq x e.0.now) none
    where
      by : (lookup (λ l. bytes_eq x l.now) es ≡ None → set_value (λ l. bytes_eq x l.now) es v ≡ es) → (b : Bool)
          → cond b (Some e.1) (lookup (λ l. bytes_eq x l.now) es) ≡ None → cond b ((e.0, v) ∷ es) (e ∷ set_value (λ l. bytes_eq x l.now) es v) ≡ e ∷ es
      by rest true h = let clash : ⊥ = cc in absurd clash
      by rest false h = ap (λ r. e ∷ r) (rest h)

-- the newest name more, and the newest name less
more : {X : Type 0} (b : Bool) (p : ℕ) (v : X) (r : Option (Option ℕ)) (f : Option (ℕ × X)) → flatten r ≡ place_of f → flatten (cond b (Some (Some p)) r) ≡ place_of (cond b (Some (p, v)) f)
more true p v r f h = refl
more false p v r f h = h

is_there : (r : Option (Option ℕ)) (p : ℕ) → flatten r ≡ Some p → (w : Option ℕ) × (r ≡ Some w)
is_there None p h = let clash : ⊥ = cc in absurd clash
is_there (Some w) p h = (w, refl)

module _ {X S : Type 0} where
  pub push-IsNewest : (m n : HashMap (Bor (List ℕ)) (Option ℕ) S) (eq : Bor (List ℕ) → Bor (List ℕ) → Bool) → ((k l : Bor (List ℕ)) → eq k l ≡ bytes_eq k.now l.now) → (k : Bor (List ℕ)) (p : ℕ) (x : Entry X) (xs : List (Entry X))
      → n.entries ≡ insert_entry eq m.entries k (Some p) → k.now ≡ x.name → p ≡ length xs → IsNewest m xs → IsNewest n (x ∷ xs)
  push-IsNewest m n eq is k p x xs entries name place old q =
      ap flatten (ap (lookup (λ l. bytes_eq q l.now)) entries ∙ lookup-insert eq is m.entries k (Some p) q ∙ ap (λ y. cond (bytes_eq q y) (Some (Some p)) (lookup (λ l. bytes_eq q l.now) m.entries)) name)
      ∙ more (bytes_eq q x.name) p x.value _ (find q xs) (old q) ∙ ap (λ i. place_of (cond (bytes_eq q x.name) (Some (i, x.value)) (find q xs))) place

  pub pop-IsNewest : (m n : HashMap (Bor (List ℕ)) (Option ℕ) S) (name : List ℕ) (shadows : Option ℕ) (x : Entry X) (xs : List (Entry X))
      → n.entries ≡ set_value (λ l. bytes_eq name l.now) m.entries shadows → name ≡ x.name → shadows ≡ place_of (find x.name xs) → IsNewest m (x ∷ xs) → IsNewest n xs
  pop-IsNewest m n name shadows x xs entries is_name is_shadows old q =
      ap flatten (ap (lookup (λ l. bytes_eq q l.now)) entries ∙ lookup-set m.entries name shadows there.0 q there.1) ∙ by (bytes_eq q name) refl
    where
      there : (w : Option ℕ) × (lookup (λ l. bytes_eq name l.now) m.entries ≡ Some w)
      there = is_there _ (length xs) (old name ∙ ap (λ b. place_of (cond b (Some (length xs, x.value)) (find name xs))) (ap (bytes_eq name) (sym is_name) ∙ is_itself name))

      by : (b : Bool) → bytes_eq q name ≡ b → flatten (cond b (Some shadows) (lookup (λ l. bytes_eq q l.now) m.entries)) ≡ place_of (find q xs)
      by true h = is_shadows ∙ ap (λ y. place_of (find y xs)) (sym is_name ∙ sym (same q name h))
      by false h = old q ∙ ap (λ b. place_of (cond b (Some (length xs, x.value)) (find q xs))) (ap (bytes_eq q) (sym is_name) ∙ h)

-- what stands at the place of a name
front : {X : Type 0} (xs : List X) (y : X) (i : ℕ) → i < length xs → slice_get (xs ++ y ∷ []) i ≡ slice_get xs i
front xs y i h =
    let whole : i < length (xs ++ y ∷ []) = omega (arith, length-append xs (y ∷ [])) in
    slice_get-get_or (xs ++ y ∷ []) i y whole ∙ ap Some (get_or_append_left xs (y ∷ []) y i h) ∙ sym (slice_get-get_or xs i y h)

back : {X : Type 0} (xs : List X) (y : X) → slice_get (xs ++ y ∷ []) (length xs) ≡ Some y
back xs y = let whole : length xs < length (xs ++ y ∷ []) = omega (arith, length-append xs (y ∷ [])) in slice_get-get_or (xs ++ y ∷ []) (length xs) y whole ∙ ap Some (get_or-append_seam xs y [] y)

reversed : {X : Type 0} (x : X) (xs : List X) → reverse (x ∷ xs) ≡ reverse xs ++ x ∷ []
reversed x xs = reverse-append (x ∷ []) xs

entries_length : {X : Type 0} (ds : List (Declaration X)) → length (entries_of ds) ≡ length ds
entries_length [] = refl
entries_length (d ∷ ds) = ap suc (entries_length ds)

record Stands {X : Type 0} (q : List ℕ) (rs : List (Declaration X)) (p : ℕ) : Type 0 where
  pub below : p < length rs
  pub at : find q (entries_of rs) ≡ option_map (λ (d : Declaration X). (p, d.value)) (slice_get (reverse rs) p)

stands : {X : Type 0} (rs : List (Declaration X)) (q : List ℕ) (p : ℕ) → place_of (find q (entries_of rs)) ≡ Some p → Stands q rs p
stands {X} [] q p h = let clash : ⊥ = cc in absurd clash
stands {X} (r ∷ rs) q p h = by (λ g. stands rs q p g) (bytes_eq q r.name.now) refl h
  where
    by : (place_of (find q (entries_of rs)) ≡ Some p → Stands q rs p) → (b : Bool) → bytes_eq q r.name.now ≡ b → place_of (cond b (Some (length (entries_of rs), r.value)) (find q (entries_of rs))) ≡ Some p → Stands q (r ∷ rs) p
    by rest true e h =
        let is : p ≡ length rs = let f : length (entries_of rs) ≡ p = cc in sym f ∙ entries_length rs in
        record {
          below = omega arith;
          at = ap (λ b. cond b (Some (length (entries_of rs), r.value)) (find q (entries_of rs))) e
              ∙ (ap (λ i. Some (i, r.value)) (entries_length rs ∙ sym is) ∙ sym (ap (option_map (λ (d : Declaration X). (p, d.value))) (ap (λ l. slice_get l p) (reversed r rs) ∙ ap (slice_get (reverse rs ++ r ∷ [])) (is ∙ sym (length-reverse rs)) ∙ back (reverse rs) r)));
        }
    by rest false e h =
        let s = rest h in
        record {
          below = omega (arith, s.below);
          at = ap (λ b. cond b (Some (length (entries_of rs), r.value)) (find q (entries_of rs))) e
              ∙ (s.at ∙ sym (ap (option_map (λ (d : Declaration X). (p, d.value))) (ap (λ l. slice_get l p) (reversed r rs) ∙ front (reverse rs) r p (omega (arith, s.below, length-reverse rs)))));
        }

-- The list and the map of a table.
module _ {X S : Type 0} (m : HashMap (Bor (List ℕ)) (Option ℕ) S) (list : List (Declaration X)) where
  abbrev pub Keeps : Type 0
  Keeps = IsChained (reverse list) × IsNewest m (entries_of (reverse list))

module _ {X S : Type 0} (m : HashMap (Bor (List ℕ)) (Option ℕ) S) (list : List (Declaration X)) (keeps : Keeps m list) where
  pub found_entry : (q : List ℕ) (p : ℕ) → place_of (find q (entries_of (reverse list))) ≡ Some p → find q (entries_of (reverse list)) ≡ option_map (λ (d : Declaration X). (p, d.value)) (slice_get list p)
  found_entry q p h = (stands (reverse list) q p h).at ∙ ap (λ l. option_map (λ (d : Declaration X). (p, d.value)) (slice_get l p)) (reverse-reverse list)

  pub within : (q : List ℕ) (p : ℕ) → place_of (find q (entries_of (reverse list))) ≡ Some p → p < length list
  within q p h = omega (arith, (stands (reverse list) q p h).below, length-reverse list)

  pub pushed_entry : (n : HashMap (Bor (List ℕ)) (Option ℕ) S) (new : List (Declaration X)) (d : Declaration X) (eq : Bor (List ℕ) → Bor (List ℕ) → Bool) → ((k l : Bor (List ℕ)) → eq k l ≡ bytes_eq k.now l.now) → (k : Bor (List ℕ)) (p : ℕ)
      → n.entries ≡ insert_entry eq m.entries k (Some p) → k.now ≡ d.name.now → p ≡ length list → d.shadows ≡ place_of (find d.name.now (entries_of (reverse list))) → new ≡ list ++ d ∷ [] → Keeps n new
  pushed_entry n new d eq is k p entries name place shadows push =
      subst (λ l. IsChained l × IsNewest n (entries_of l)) (sym (ap reverse push ∙ reverse-append list (d ∷ [])))
      ((shadows, keeps.0), push-IsNewest m n eq is k p (entry_of d) (entries_of (reverse list)) entries name (place ∙ sym (entries_length (reverse list) ∙ length-reverse list)) keeps.1)

  pub popped_entry : (n : HashMap (Bor (List ℕ)) (Option ℕ) S) (new : List (Declaration X)) (d : Declaration X) (name : List ℕ) → n.entries ≡ set_value (λ l. bytes_eq name l.now) m.entries d.shadows → name ≡ d.name.now → list ≡ new ++ d ∷ [] → Keeps n new
  popped_entry n new d name entries is pop =
      let old : Keeps m (new ++ d ∷ []) = subst (Keeps m) pop keeps in
      let all : IsChained (d ∷ reverse new) × IsNewest m (entries_of (d ∷ reverse new)) = subst (λ l. IsChained l × IsNewest m (entries_of l)) (reverse-append new (d ∷ [])) old in
      (all.0.1, pop-IsNewest m n name d.shadows (entry_of d) (entries_of (reverse new)) entries is all.0.0 all.1)

pub no_place : {X : Type 0} (f : Option (ℕ × X)) → None ≡ place_of f → None ≡ f
no_place None h = refl
no_place (Some x) h = let clash : ⊥ = cc in absurd clash
