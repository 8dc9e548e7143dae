-- What is made of a tree by its children, and the turns of the walk over the children of a node.
use Rattle.std.proofs.Common.{◌≡◌, ℕ, zero, suc, ◌+◌, ◌*◌, ◌<◌, ◌≤◌, max, List, [], ◌∷◌, length, map, drop, Some, Result, Ok, Err, IfOk, refl, ap, subst, sym, ◌∙◌, add-one, arith}
use Rattle.std.specs.Prelude.{slice_get, slice_set}
use Rattle.std.proofs.lemmas.List.{length-set}
use Rattle.std.proofs.lemmas.Option.{slice_get_within}
use Rattle.std.proofs.Math.Nat.{mul-le-mul_left}
use Rattle.pass_trees.specs.Trees.{TreeLaws}
use Rattle.pass_trees.specs.Up.{with_children_from, up_within, up}
use Rattle.pass_trees.proofs.Lists.{same_map, drop_here, drop_all, set_before, first_of_rest, next_rest}

-- what follows of an answer
on_ok : {A E : Type 0} (r : Result A E) (P Q : A → Type 0) → ((a : A) → P a → Q a) → IfOk r P → IfOk r Q
on_ok (Ok a) P Q h p = h a p
on_ok (Err e) P Q h p = tt

module _ {T : Type 0} (children : T → List T) (with_child : T → ℕ → T → T) (leaf : T) (height : T → ℕ) (Refines : T → T → Type 0) (laws : TreeLaws children with_child leaf height Refines) where
  -- as many levels as a tree is high give what more of them give
  pub enough_levels : (turned : T → T) (l m : ℕ) (n : T) → height n < l → height n < m →
      up_within children with_child height turned l n ≡ up_within children with_child height turned m n
  enough_levels turned zero m n p q = absurd (omega arith)
  enough_levels turned (suc l) zero n p q = absurd (omega arith)
  enough_levels turned (suc l) (suc m) n p q =
      ap (λ cs. turned (with_children_from with_child 0 n cs))
      (same_map (λ c. up_within children with_child height turned l c) (λ c. up_within children with_child height turned m c) (children n)
      (λ k c is. let below : height c < height n = laws.lower n k c is in
      enough_levels turned l m c (omega arith) (omega arith)))

  -- a node in which each child has been replaced by what is made of it, turned
  pub up_is : (turned : T → T) (n : T) →
      up children with_child height turned n
      ≡ turned (with_children_from with_child 0 n (map (λ c. up children with_child height turned c) (children n)))
  up_is turned n =
      ap (λ cs. turned (with_children_from with_child 0 n cs))
      (same_map (λ c. up_within children with_child height turned (height n) c) (λ c. up children with_child height turned c) (children n)
      (λ k c is. let below : height c < height n = laws.lower n k c is in
      enough_levels turned (height n) (suc (height c)) c below (omega arith)))

  -- the node n has come to a node in which the children below a number have been replaced
  pub record Reached (f : T → T) (growth : ℕ) (n : T) (k : ℕ) (node : T) : Type 0 where
    pub made : with_children_from with_child k node (map f (drop k (children n)))
        ≡ with_children_from with_child 0 n (map f (children n))
    pub as_many : length (children node) ≡ length (children n)
    pub left : (j : ℕ) → k ≤ j → slice_get (children node) j ≡ slice_get (children n) j
    pub refined : Refines node n
    pub short : height node + growth ≤ suc growth * height n

  -- a child is lower than its node by a level
  pub level_below : (growth h c m : ℕ) → c < h → m ≤ suc growth * c → m + suc growth ≤ suc growth * h
  level_below growth h c m p q =
      let next : suc c ≤ h = omega arith in
      let more : suc growth * suc c ≤ suc growth * h = mul-le-mul_left (suc growth) next in
      omega arith

  pub grown : (growth n : ℕ) → 1 ≤ n → n + growth ≤ suc growth * n
  grown growth n p =
      let more : growth * 1 ≤ growth * n = mul-le-mul_left growth p in
      omega arith

  pub at_start : (f : T → T) (growth : ℕ) (n : T) → Reached f growth n 0 n
  at_start f growth n = record {
    made = refl;
    as_many = refl;
    left = λ j p. refl;
    refined = laws.itself n;
    short = grown growth (height n) (laws.tall n);
  }

  module _ (f : T → T) (growth : ℕ) (n : T) (k : ℕ) (node : T) (so : Reached f growth n k node) (child : T) (here : slice_get (children node) k ≡ Some child) where
    -- the child that is taken is one of n
    pub of_the_first : slice_get (children n) k ≡ Some child
    of_the_first = sym (so.left k (omega arith)) ∙ here

    pub child_lower : height child < height n
    child_lower = laws.lower n k child of_the_first

    module _ (made end : T) (within : k < length (children node)) (is : made ≡ f child) (refined : Refines made child) (small : height made ≤ suc growth * height child) (put : end ≡ with_child node k made) where
      set : children end ≡ slice_set (children node) k made
      set = ap children put ∙ laws.sets node k made within

      others : with_children_from with_child k node (map f (drop k (children n)))
          ≡ with_children_from with_child (suc k) end (map f (drop (suc k) (children n)))
      others =
          ap (λ xs. with_children_from with_child k node (map f xs)) (drop_here (children n) k child of_the_first)
          ∙ ap (λ m. with_children_from with_child (suc k) m (map f (drop (suc k) (children n)))) (ap (with_child node k) (sym is) ∙ sym put)

      pub one_more : Reached f growth n (suc k) end
      one_more = record {
        made = sym others ∙ so.made;
        as_many = ap length set ∙ length-set (children node) k made ∙ so.as_many;
        left = λ j p. ap (λ xs. slice_get xs j) set ∙ set_before (children node) k j made p ∙ so.left j (omega arith);
        refined = subst (λ m. Refines m n) (sym put)
            (laws.onwards (with_child node k made) node n (laws.through node k child made here refined) so.refined);
        short =
            let top : height end ≤ max (height node) (suc (height made)) =
            subst (λ m. height m ≤ max (height node) (suc (height made))) (sym put) (laws.raised node k made) in
            let level : height made + suc growth ≤ suc growth * height n =
            level_below growth (height n) (height child) (height made) child_lower small in
            omega (arith, so.short);
      }

  -- all children have been replaced
  pub whole : (f : T → T) (growth : ℕ) (n : T) (k : ℕ) (node : T) → Reached f growth n k node → length (children n) ≤ k →
      node ≡ with_children_from with_child 0 n (map f (children n))
  whole f growth n k node so all =
      ap (λ xs. with_children_from with_child k node (map f xs)) (sym (drop_all (children n) k all)) ∙ so.made

  -- a child that is taken leaves as many
  pub kept_length : (node left : T) (k : ℕ) (child : T) → slice_get (children node) k ≡ Some child → left ≡ with_child node k leaf →
      length (children left) ≡ length (children node)
  kept_length node left k child here is =
      let within : k < length (children node) = slice_get_within (children node) k child here in
      ap (λ m. length (children m)) is ∙ ap length (laws.sets node k leaf within) ∙ length-set (children node) k leaf

  pub next_reached : (f : T → T) (growth : ℕ) (n : T) (k : ℕ) (node : T) → Reached f growth n k node →
      (child left made end : T) → slice_get (children node) k ≡ Some child → left ≡ with_child node k leaf → made ≡ f child →
      Refines made child → height made ≤ (1 + growth) * height child → end ≡ with_child left k made →
      Reached f growth n (k + 1) end
  next_reached f growth n k node so child left made end here taken is refined small put =
      let within : k < length (children node) = slice_get_within (children node) k child here in
      let placed : end ≡ with_child node k made =
      put ∙ ap (λ m. with_child m k made) taken ∙ laws.sets_again node k leaf made in
      let lower : height made ≤ suc growth * height child = omega (arith, small) in
      subst (λ j. Reached f growth n j end) (sym (add-one k))
      (one_more f growth n k node so child here made end within is refined lower placed)

  -- what the walk answers
  module _ {E : Type 0} (turned : T → T) (growth : ℕ) (n : T) (k : ℕ) (node : T) (so : Reached (λ c. up children with_child height turned c) growth n k node) (answer : Result T E) (is : IfOk answer (λ made. made ≡ turned node)) where
    pub is_up : length (children n) ≤ k → IfOk answer (λ made. made ≡ up children with_child height turned n)
    is_up all =
        on_ok answer _ _ (λ made e. e ∙ ap turned (whole (λ c. up children with_child height turned c) growth n k node so all)
        ∙ sym (up_is turned n)) is

    pub refines_first : ((m : T) → Refines (turned m) m) → IfOk answer (λ made. Refines made n)
    refines_first law =
        on_ok answer _ _ (λ made e. subst (λ m. Refines m n) (sym e) (laws.onwards (turned node) node n (law node) so.refined)) is

    pub height_kept : ((m : T) → height (turned m) ≤ height m + growth) → IfOk answer (λ made. height made ≤ (1 + growth) * height n)
    height_kept law =
        on_ok answer _ _ (λ made e.
        let higher : height (turned node) ≤ height node + growth = law node in
        let low : height node + growth ≤ suc growth * height n = so.short in
        let same : height made ≡ height (turned node) = ap height e in
        omega arith) is

  -- ---- what a rule makes refines the tree, and is no higher than the rule makes it

  pub record IsFrom (growth : ℕ) (made n : T) : Type 0 where
    pub refined : Refines made n
    pub low : height made ≤ suc growth * height n

  module _ (f : T → T) (growth : ℕ) (n : T) (each : (k : ℕ) (c : T) → slice_get (children n) k ≡ Some c → IsFrom growth (f c) c) where
    pub replaced : (xs : List T) (k : ℕ) (node : T) → drop k (children n) ≡ xs → Reached f growth n k node →
        (Refines (with_children_from with_child k node (map f xs)) n)
        × (height (with_children_from with_child k node (map f xs)) + growth ≤ suc growth * height n)
    replaced [] k node e so = (so.refined, so.short)
    replaced (x ∷ xs) k node e so =
        let at = first_of_rest (children n) k x xs e in
        let here : slice_get (children node) k ≡ Some x = so.left k (omega arith) ∙ at in
        let within : k < length (children node) = slice_get_within (children node) k x here in
        let good = each k x at in
        replaced xs (suc k) (with_child node k (f x)) (next_rest (children n) k x xs e)
        (one_more f growth n k node so x here (f x) (with_child node k (f x)) within refl good.refined good.low refl)

  module _ (turned : T → T) (growth : ℕ) (refines : (m : T) → Refines (turned m) m) (grows : (m : T) → height (turned m) ≤ height m + growth) where
    pub within_is_from : (l : ℕ) (n : T) → height n < l → IsFrom growth (up_within children with_child height turned l n) n
    within_is_from zero n p = absurd (omega arith)
    within_is_from (suc l) n p =
        let f = λ (c : T). up_within children with_child height turned l c in
        let m = with_children_from with_child 0 n (map f (children n)) in
        let all = replaced f growth n (λ k c is. let below : height c < height n = laws.lower n k c is in within_is_from l c (omega arith))
        (children n) 0 n refl (at_start f growth n) in
        let higher : height (turned m) ≤ height m + growth = grows m in
        record { refined = laws.onwards (turned m) m n (refines m) all.0; low = omega (arith, all.1) }

    pub up_is_from : (n : T) → IsFrom growth (up children with_child height turned n) n
    up_is_from n = within_is_from (suc (height n)) n (omega arith)
