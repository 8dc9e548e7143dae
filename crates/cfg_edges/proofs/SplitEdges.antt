-- What the blocks are after each block with a critical edge was split.
use Rattle.std.proofs.Common.{◌≡◌, ℕ, zero, suc, ◌+◌, ◌*◌, ◌<◌, ◌≤◌, ◌⊎◌, ◌&&◌, ◌||◌, Bool, true, false, cond, List, [], ◌∷◌, ◌++◌, map, length, get_or, Option, Some, None, slice_index_or, if◌then◌else◌, refl, sym, ap, subst, ◌∙◌, inl, inr, arith, length-append}
use Rattle.std.specs.Prelude.{All, IsTrue, filter, nat_lt}
use Rattle.std.specs.List.{Contains, list_any}
use Rattle.std.proofs.lemmas.Bool.Decides.{leb_tells}
use Rattle.std.proofs.lemmas.List.Sums.{sum_by-cons}
use Rattle.std.proofs.lemmas.Option.{slice_get_within, get_or_from_slice_get, same_Some}
use Rattle.std.proofs.lemmas.List.{get_or-map}
use Rattle.std.proofs.lemmas.List.Elements.{All-head, All-tail, All-contains, Contains-get_or, filter-append}
use Rattle.std.proofs.lemmas.List.FromFn.{get_or-map-range_with_len}
use Rattle.pass_core.specs.Insns.{InsnLaws}
use Rattle.pass_core.specs.Functions.{AllInsns, GoesToBlocks, EndsLate, last_of, stops, successors_after, successors_of}
use Rattle.cfg.specs.Edges.{successors_from, edges_to, edges_from, sources_of, predecessors, edge_count}
use Rattle.cfg.specs.Walks.{block_at}
use Rattle.cfg.specs.Renumber.{renumber}
use Rattle.cfg.specs.model.Search.{marked_count}
use Rattle.cfg.proofs.Bare.{length-map}
use Rattle.cfg.proofs.Kept.{followers_of, successor_within}
use Rattle.cfg.proofs.Lists.{length-successors}
use Rattle.cfg_edges.specs.Critical.{count_to, NoneCritical, is_critical, critical_count}
use Rattle.cfg_edges.specs.model.Split.{is_join, is_split, numbers_from, split_from, to_one}
use Rattle.cfg_edges.specs.model.SplitPart.{IsSplitPart}
use Rattle.cfg_edges.proofs.Counts.{count_is}
use Rattle.cfg_edges.proofs.Spreads.{kept_most, new_once}
use Rattle.cfg_edges.proofs.Added.{marked_most, added_blocks, added_insns, adds_jumps}
use Rattle.cfg_edges.proofs.SplitWalks.{IsBranch, Kind, Whole, Branch, Fall, Target, kind_of, split_walks, split_reached, split_goes, split_straight, split_registers, split_contents, split_stops, split_back, spreads, rises, gap, whole_followers, branch_followers, jump_followers}

and_left : (a b : Bool) → (a && b) ≡ true → a ≡ true
and_left true b is = refl
and_left false b is = is

and_right : (a b : Bool) → (a && b) ≡ true → b ≡ true
and_right true b is = is
and_right false b is = let clash : ⊥ = cc in absurd clash

and_true : (a b : Bool) → a ≡ true → b ≡ true → (a && b) ≡ true
and_true a b one two = ap (λ x. x && b) one ∙ two

or_left : (a b : Bool) → (a || b) ≡ false → a ≡ false
or_left true b is = is
or_left false b is = refl

or_right : (a b : Bool) → (a || b) ≡ false → b ≡ false
or_right true b is = let clash : ⊥ = cc in absurd clash
or_right false b is = is

more_true : (n : ℕ) → nat_lt 1 n ≡ true → 1 < n
more_true n is = elim (leb_tells 2 n) [
  | inl holds ↦ omega (arith, holds.1)
  | inr fails ↦ let clash : true ≡ false = sym is ∙ fails.0 in let never : ⊥ = cc in absurd never
]

more_false : (n : ℕ) → nat_lt 1 n ≡ false → n ≤ 1
more_false n is = elim (leb_tells 2 n) [
  | inl holds ↦ let clash : true ≡ false = sym holds.0 ∙ is in let never : ⊥ = cc in absurd never
  | inr fails ↦ omega (arith, fails.1)
]

-- a block that is split has two edges, and twice as many blocks come in for it
few_by : (sources : List (List ℕ)) (nexts : List ℕ) (lists : List (List ℕ)) (split : Bool) (marks : List Bool) → is_split sources nexts ≡ split → 2 * marked_count marks ≤ edge_count lists → 2 * marked_count (split ∷ marks) ≤ length nexts + edge_count lists
few_by sources nexts lists false marks is most = omega (arith, most)
few_by sources nexts lists true marks is most = omega (arith, most, more_true (length nexts) (and_left (nat_lt 1 (length nexts)) (list_any (is_join sources) nexts) is))

splits_few : (sources lists : List (List ℕ)) → 2 * marked_count (map (is_split sources) lists) ≤ edge_count lists
splits_few sources [] = omega arith
splits_few sources (nexts ∷ lists) =
    omega (arith, few_by sources nexts lists (is_split sources nexts) (map (is_split sources) lists) refl (splits_few sources lists), sum_by-cons (λ (ns : List ℕ). length ns) nexts lists)

get_true : (marks : List Bool) (b : ℕ) → get_or marks b false ≡ true → b < length marks
get_true [] b is = let clash : ⊥ = cc in absurd clash
get_true (m ∷ marks) zero is = omega arith
get_true (m ∷ marks) (suc b) is = omega (arith, get_true marks b is)

none_of : (p : ℕ → Bool) (ns : List ℕ) → list_any p ns ≡ false → All (λ n. p n ≡ false) ns
none_of p [] is k d below = absurd (omega arith)
none_of p (n ∷ ns) is zero d below = or_left (p n) (list_any p ns) is
none_of p (n ∷ ns) is (suc k) d below = none_of p ns (or_right (p n) (list_any p ns) is) k d (omega arith)

contains_map : (h : ℕ → ℕ) (ns : List ℕ) (to : ℕ) → Contains (map h ns) to → (t : ℕ) × Contains ns t × (h t ≡ to)
contains_map h ns to c =
    let k : ℕ = c.0 in
    let inside : k < length ns = omega (arith, c.1, length-map h ns) in
    let t : ℕ = get_or ns k 0 in
    (t, Contains-get_or ns k 0 inside, sym (get_or-map h ns k 0 to inside) ∙ c.2)

-- an edge that is one to split makes the list of them longer
one_critical : (p : ℕ → Bool) (crit : ℕ × ℕ → Bool) (n t : ℕ) (ns : List ℕ) → (p t ≡ true → crit (n, t) ≡ true) → (p t || list_any p ns) ≡ true → (list_any p ns ≡ true → 1 ≤ length (filter crit (edges_to n ns))) → 1 ≤ length (cond (crit (n, t)) ((n, t) ∷ filter crit (edges_to n ns)) (filter crit (edges_to n ns)))
one_critical p crit n t ns tells is rest = by (p t) refl (crit (n, t)) refl
  where
    by : (b : Bool) → p t ≡ b → (c : Bool) → crit (n, t) ≡ c → 1 ≤ length (cond (crit (n, t)) ((n, t) ∷ filter crit (edges_to n ns)) (filter crit (edges_to n ns)))
    by b p_is true c_is = subst (λ (x : Bool). 1 ≤ length (cond x ((n, t) ∷ filter crit (edges_to n ns)) (filter crit (edges_to n ns)))) (sym c_is) (omega arith)
    by true p_is false c_is =
        let clash : true ≡ false = sym (tells p_is) ∙ c_is in
        let never : ⊥ = cc in
        absurd never
    by false p_is false c_is =
        subst (λ (x : Bool). 1 ≤ length (cond x ((n, t) ∷ filter crit (edges_to n ns)) (filter crit (edges_to n ns)))) (sym c_is)
        (rest (sym (ap (λ (x : Bool). x || list_any p ns) p_is) ∙ is))

some_critical : (p : ℕ → Bool) (crit : ℕ × ℕ → Bool) (n : ℕ) (ns : List ℕ) → All (λ t. p t ≡ true → crit (n, t) ≡ true) ns → list_any p ns ≡ true → 1 ≤ length (filter crit (edges_to n ns))
some_critical p crit n [] tells is = let clash : ⊥ = cc in absurd clash
some_critical p crit n (t ∷ ns) tells is =
    one_critical p crit n t ns (All-head (λ x. p x ≡ true → crit (n, x) ≡ true) t ns tells) is
    (λ more. some_critical p crit n ns (All-tail (λ x. p x ≡ true → crit (n, x) ≡ true) t ns tells) more)

module _ {I : Type 0} (reads writes targets : I → List ℕ) (with_target : I → ℕ → ℕ → I) (jump_to : ℕ → I) (flows_on traps : I → Bool) (laws : InsnLaws reads writes targets with_target jump_to flows_on traps) (f : List (List I)) (goes : AllInsns (GoesToBlocks targets (length f)) f) (straight : All (EndsLate targets flows_on) f) (ends : IsTrue (stops flows_on f)) where
  abbrev followers : List (List ℕ)
  followers = successors_from targets flows_on 0 f

  abbrev sources : List (List ℕ)
  sources = predecessors followers (length f)

  abbrev splits : List Bool
  splits = map (is_split sources) followers

  abbrev numbers : List ℕ
  numbers = numbers_from 0 splits

  abbrev number : ℕ → ℕ
  number b = slice_index_or numbers b 0

  abbrev g : List (List I)
  g = split_from targets with_target jump_to numbers 0 splits f

  pub count : length splits ≡ length f
  count = length-map (is_split sources) followers ∙ length-successors targets flows_on 0 f

  nexts_at : (b : ℕ) → b < length f → get_or followers b [] ≡ successors_of targets flows_on b (block_at f b)
  nexts_at b below = get_or_from_slice_get followers b (successors_of targets flows_on b (block_at f b)) [] (followers_of targets flows_on f b below)

  split_at : (b : ℕ) → b < length f → get_or splits b false ≡ is_split sources (successors_of targets flows_on b (block_at f b))
  split_at b below =
      get_or-map (is_split sources) followers b [] false (omega (arith, below, length-successors targets flows_on 0 f)) ∙ ap (is_split sources) (nexts_at b below)

  -- what goes on and has two followers has a target
  branch_by : (b : ℕ) (i : I) (flow : Bool) (ts : List ℕ) → last_of (block_at f b) ≡ Some i → flows_on i ≡ flow → targets i ≡ ts → length ts ≤ 1 → 1 < length (ts ++ (if flow then suc b ∷ [] else [])) → IsBranch targets flows_on (block_at f b)
  branch_by b i true (t ∷ []) last flow_is ts_is most more = record { insn = i; target = t; last = last; flows = flow_is; one = ts_is }
  branch_by b i true [] last flow_is ts_is most more = absurd (omega arith)
  branch_by b i flow (t ∷ u ∷ ts) last flow_is ts_is most more = absurd (omega arith)
  branch_by b i false [] last flow_is ts_is most more = absurd (omega arith)
  branch_by b i false (t ∷ []) last flow_is ts_is most more = absurd (omega arith)

  branch_of : (b : ℕ) (o : Option I) → last_of (block_at f b) ≡ o → 1 < length (successors_after targets flows_on b o) → IsBranch targets flows_on (block_at f b)
  branch_of b None last more = absurd (omega arith)
  branch_of b (Some i) last more = branch_by b i (flows_on i) (targets i) last refl refl (laws.one_target i) more

  pub branches : (b : ℕ) → get_or splits b false ≡ true → IsBranch targets flows_on (block_at f b)
  branches b is =
      let below : b < length f = omega (arith, get_true splits b is, count) in
      let nexts : List ℕ = successors_of targets flows_on b (block_at f b) in
      let split : is_split sources nexts ≡ true = sym (split_at b below) ∙ is in
      branch_of b (last_of (block_at f b)) refl (more_true (length nexts) (and_left (nat_lt 1 (length nexts)) (list_any (is_join sources) nexts) split))

  source_is : (t : ℕ) → t < length f → is_join sources t ≡ nat_lt 1 (count_to followers t)
  source_is t below =
      ap (λ ns. nat_lt 1 (length ns)) (get_or-map-range_with_len (sources_of (edges_from 0 followers)) 0 (length f) t t [] below (omega arith))

  within : (b : ℕ) → b < length f → All (λ t. t < length f) (successors_of targets flows_on b (block_at f b))
  within b below k d inside =
      let nexts : List ℕ = successors_of targets flows_on b (block_at f b) in
      successor_within targets flows_on f goes ends b (get_or nexts k d) below (Contains-get_or nexts k d inside)

  -- a block that is split has a critical edge
  abbrev crit : ℕ × ℕ → Bool
  crit e = is_critical followers e

  one_more : (n : ℕ) (nexts : List ℕ) (split : Bool) (marks : List Bool) (m : ℕ) → n < length f → get_or followers n [] ≡ nexts → All (λ t. t < length f) nexts → is_split sources nexts ≡ split → marked_count marks ≤ m → marked_count (split ∷ marks) ≤ length (filter crit (edges_to n nexts)) + m
  one_more n nexts false marks m below nexts_is inside is most = omega arith
  one_more n nexts true marks m below nexts_is inside is most =
      let two : nat_lt 1 (length nexts) ≡ true = and_left (nat_lt 1 (length nexts)) (list_any (is_join sources) nexts) is in
      let leaves : nat_lt 1 (length (slice_index_or followers n [])) ≡ true = ap (λ ns. nat_lt 1 (length ns)) nexts_is ∙ two in
      omega (
        arith,
        some_critical (is_join sources) crit n nexts
            (λ k d here join. and_true (nat_lt 1 (length (slice_index_or followers n []))) (nat_lt 1 (count_to followers (get_or nexts k d))) leaves (sym (source_is (get_or nexts k d) (inside k d here)) ∙ join))
            (and_right (nat_lt 1 (length nexts)) (list_any (is_join sources) nexts) is),
      )

  splits_from : (n : ℕ) (rest : List (List ℕ)) → n + length rest ≡ length f → ((j : ℕ) → get_or rest j [] ≡ get_or followers (n + j) []) → marked_count (map (is_split sources) rest) ≤ length (filter crit (edges_from n rest))
  splits_from n [] long at = omega arith
  splits_from n (nexts ∷ rest) long at =
      let here : n + 0 ≡ n = omega arith in
      let below : n < length f = omega arith in
      let is : get_or followers n [] ≡ nexts = sym (at 0 ∙ ap (λ m. get_or followers m []) here) in
      let inside : All (λ t. t < length f) nexts = subst (All (λ t. t < length f)) (sym (nexts_at n below) ∙ is) (within n below) in
      let most = splits_from (suc n) rest (omega arith) (λ j. at (suc j) ∙ ap (λ m. get_or followers m []) (let moved : n + suc j ≡ suc n + j = omega arith in moved)) in
      omega (
        arith,
        one_more n nexts (is_split sources nexts) (map (is_split sources) rest) (length (filter crit (edges_from (suc n) rest))) below is inside refl most,
        ap length (filter-append crit (edges_to n nexts) (edges_from (suc n) rest)),
        length-append (filter crit (edges_to n nexts)) (filter crit (edges_from (suc n) rest)),
      )

  splits_most : marked_count splits ≤ critical_count targets flows_on f
  splits_most = splits_from 0 followers (let long : 0 + length followers ≡ length f = omega (arith, length-successors targets flows_on 0 f) in long) (λ j. ap (λ m. get_or followers m []) (let same : j ≡ 0 + j = omega arith in same))

  abbrev after : List (List ℕ)
  after = successors_from targets flows_on 0 g

  -- an edge to a block that was there, from one that is not split
  kept_by : (b to : ℕ) (nexts : List ℕ) (two : Bool) → All (λ t. t < length f) nexts → is_split sources nexts ≡ false → Contains (map number nexts) to → nat_lt 1 (length nexts) ≡ two → (length nexts ≤ 1) ⊎ (count_to after to ≤ 1)
  kept_by b to nexts false inside is c less = inl (more_false (length nexts) less)
  kept_by b to nexts true inside is c more =
      let from = contains_map number nexts to c in
      let t : ℕ = from.0 in
      let there : t < length f = All-contains (λ x. x < length f) nexts t inside from.1 in
      let none : list_any (is_join sources) nexts ≡ false = sym (ap (λ x. x && list_any (is_join sources) nexts) more) ∙ is in
      let alone : is_join sources t ≡ false = All-contains (λ x. is_join sources x ≡ false) nexts t (none_of (is_join sources) nexts none) from.1 in
      let before : count_to followers t ≤ 1 = more_false (count_to followers t) (sym (source_is t there) ∙ alone) in
      let most = kept_most number (length f) (rises reads writes targets with_target jump_to flows_on traps laws f goes straight ends splits count branches) t (spreads reads writes targets with_target jump_to flows_on traps laws f goes straight ends splits count branches) there in
      inr (omega (arith, before, most, count_is followers t, count_is after (number t), ap (count_to after) from.2))

  kept_edge : (b to : ℕ) → get_or splits b false ≡ false → b < length f → Contains (map number (successors_of targets flows_on b (block_at f b))) to → (length (successors_of targets flows_on b (block_at f b)) ≤ 1) ⊎ (count_to after to ≤ 1)
  kept_edge b to is below c =
      let nexts : List ℕ = successors_of targets flows_on b (block_at f b) in
      kept_by b to nexts (nat_lt 1 (length nexts)) (within b below) (sym (split_at b below) ∙ is) c refl

  -- an edge to a new block
  new_edge : (b at : ℕ) → get_or splits b false ≡ true → b < length f → 0 < at → at < 3 → count_to after (number b + at) ≤ 1
  new_edge b at is below some most =
      omega (
        arith,
        new_once number (length f) (rises reads writes targets with_target jump_to flows_on traps laws f goes straight ends splits count branches) b (number b + at) below (omega arith) (omega (arith, gap reads writes targets with_target jump_to flows_on traps laws f goes straight ends splits count branches b is below)) (spreads reads writes targets with_target jump_to flows_on traps laws f goes straight ends splits count branches) (omega arith),
        count_is after (number b + at),
      )

  pair_cases : (x y to : ℕ) → Contains (x ∷ y ∷ []) to → (to ≡ x) ⊎ (to ≡ y)
  pair_cases x y to (zero, below, is) = inl (sym is)
  pair_cases x y to (suc zero, below, is) = inr (sym is)
  pair_cases x y to (suc (suc k), below, is) = absurd (omega arith)

  branch_edge : (b to : ℕ) → get_or splits b false ≡ true → b < length f → Contains ((number b + 2) ∷ suc (number b) ∷ []) to → count_to after to ≤ 1
  branch_edge b to is below c = elim (pair_cases (number b + 2) (suc (number b)) to c) [
    | inl jump ↦ subst (λ x. count_to after x ≤ 1) (sym jump) (new_edge b 2 is below (omega arith) (omega arith))
    | inr fall ↦ subst (λ x. count_to after x ≤ 1) (let same : number b + 1 ≡ to = omega (arith, fall) in same) (new_edge b 1 is below (omega arith) (omega arith))
  ]

  edge_fine : (c to : ℕ) → Kind reads writes targets with_target jump_to flows_on traps laws f goes straight ends splits count branches c → Contains (successors_of targets flows_on c (block_at g c)) to → (length (successors_of targets flows_on c (block_at g c)) ≤ 1) ⊎ (count_to after to ≤ 1)
  edge_fine c to (Whole b is below at stands) among =
      let nexts : successors_of targets flows_on c (block_at g c) ≡ map number (successors_of targets flows_on b (block_at f b)) =
      ap (successors_of targets flows_on c) stands ∙ ap (λ m. successors_of targets flows_on m (map (renumber targets with_target numbers) (block_at f b))) at ∙ whole_followers reads writes targets with_target jump_to flows_on traps laws f goes straight ends splits count branches b is below in
      elim (kept_edge b to is below (subst (λ ns. Contains ns to) nexts among)) [
        | inl one ↦ inl (omega (arith, one, ap length nexts, length-map number (successors_of targets flows_on b (block_at f b))))
        | inr fine ↦ inr fine
      ]
  edge_fine c to (Branch b is below at stands) among =
      let nexts : successors_of targets flows_on c (block_at g c) ≡ (number b + 2) ∷ suc (number b) ∷ [] =
      ap (successors_of targets flows_on c) stands ∙ ap (λ m. successors_of targets flows_on m (map (to_one targets with_target (number b + 2)) (block_at f b))) at ∙ branch_followers reads writes targets with_target jump_to flows_on traps laws f goes straight ends splits count branches b is in
      inr (branch_edge b to is below (subst (λ ns. Contains ns to) nexts among))
  edge_fine c to (Fall b is below at stands) among =
      inl (omega (arith, ap length (ap (successors_of targets flows_on c) stands ∙ jump_followers reads writes targets with_target jump_to flows_on traps laws f goes straight ends splits count branches c (number (b + 1)))))
  edge_fine c to (Target b is below at stands) among =
      inl (omega (arith, ap length (ap (successors_of targets flows_on c) stands ∙ jump_followers reads writes targets with_target jump_to flows_on traps laws f goes straight ends splits count branches c (number (branches b is).target))))

  none_critical : NoneCritical targets flows_on g
  none_critical c to nexts get among =
      let below : c < length g = omega (arith, slice_get_within after c nexts get, length-successors targets flows_on 0 g) in
      let is : nexts ≡ successors_of targets flows_on c (block_at g c) = same_Some nexts (successors_of targets flows_on c (block_at g c)) (sym get ∙ followers_of targets flows_on g c below) in
      subst (λ ns. (length ns ≤ 1) ⊎ (count_to after to ≤ 1)) (sym is)
      (edge_fine c to (kind_of reads writes targets with_target jump_to flows_on traps laws f goes straight ends splits count branches c below) (subst (λ ns. Contains ns to) is among))

  pub part : IsSplitPart reads writes targets with_target jump_to flows_on f g
  part =
      let long = added_blocks targets with_target jump_to numbers 0 splits f count in
      let insns = added_insns targets with_target jump_to numbers 0 splits f count in
      let most = marked_most splits in
      record {
        targets_there = split_goes reads writes targets with_target jump_to flows_on traps laws f goes straight ends splits count branches;
        straight = split_straight reads writes targets with_target jump_to flows_on traps laws f goes straight ends splits count branches;
        stopped = split_stops reads writes targets with_target jump_to flows_on traps laws f goes straight ends splits count branches;
        registers = split_registers reads writes targets with_target jump_to flows_on traps laws f goes straight ends splits count branches;
        split = none_critical;
        walks = split_walks reads writes targets with_target jump_to flows_on traps laws f goes straight ends splits count branches;
        contents_kept = split_contents reads writes targets with_target jump_to flows_on traps laws f goes straight ends splits count branches;
        back = split_back reads writes targets with_target jump_to flows_on traps laws f goes straight ends splits count branches;
        reached = split_reached reads writes targets with_target jump_to flows_on traps laws f goes straight ends splits count branches;
        added = adds_jumps reads writes targets with_target jump_to flows_on traps laws numbers 0 splits f count;
        most_blocks = omega (arith, long, most, count);
        most_insns = omega (arith, insns, most, count);
        blocks = omega (arith, long, splits_most);
        insns = omega (arith, insns, splits_most);
        edges = omega (arith, long, splits_few sources followers);
      }

  -- what the code made of lists that are these
  pub made_blocks : (succ pred : List (List ℕ)) (marks shown : List Bool) (made_numbers shown_numbers : List ℕ) (result : List (List I)) → succ ≡ followers → pred ≡ predecessors succ (length f) → marks ≡ map (is_split pred) succ → shown ≡ marks → made_numbers ≡ numbers_from 0 shown → shown_numbers ≡ made_numbers → result ≡ split_from targets with_target jump_to shown_numbers 0 shown f → IsSplitPart reads writes targets with_target jump_to flows_on f result
  made_blocks succ pred marks shown made_numbers shown_numbers result succ_is pred_is marks_is shown_is numbers_are shown_numbers_are result_is =
      let marked : shown ≡ splits =
      shown_is ∙ marks_is ∙ ap (λ p. map (is_split p) succ) pred_is ∙ ap (λ s. map (is_split (predecessors s (length f))) s) succ_is in
      let is : result ≡ g =
      result_is
      ∙ ap (λ ns. split_from targets with_target jump_to ns 0 shown f) (shown_numbers_are ∙ numbers_are)
      ∙ ap (λ s. split_from targets with_target jump_to (numbers_from 0 s) 0 s f) marked in
      subst (IsSplitPart reads writes targets with_target jump_to flows_on f) (sym is) part

module _ {I : Type 0} (targets : I → List ℕ) (flows_on : I → Bool) (f : List (List I)) where
  pub marks_length : (succ pred : List (List ℕ)) (marks shown : List Bool) → succ ≡ successors_from targets flows_on 0 f → marks ≡ map (is_split pred) succ → shown ≡ marks → length shown ≡ length f
  marks_length succ pred marks shown succ_is marks_is shown_is =
      ap length (shown_is ∙ marks_is) ∙ length-map (is_split pred) succ ∙ ap length succ_is ∙ length-successors targets flows_on 0 f
