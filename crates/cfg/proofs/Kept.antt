-- The marked blocks of a function, with other numbers, go as they went.
use Rattle.std.proofs.Common.{◌≡◌, ℕ, zero, suc, ◌+◌, ◌-◌, ◌<◌, ◌≤◌, Bool, true, false, cond, List, [], ◌∷◌, map, length, take, get_or, option_map, Option, Some, None, slice_get, refl, sym, ap, subst, ◌∙◌, inl, inr, arith, length-append, add-zero, slice_index_or, if◌then◌else◌}
use Rattle.std.specs.Prelude.{All, IsTrue, filter, nat_lt, sum_by}
use Rattle.std.specs.List.{Contains, range_with_len}
use Rattle.std.proofs.lemmas.Bool.{cases_lt}
use Rattle.std.proofs.lemmas.List.{get_or_default}
use Rattle.std.proofs.lemmas.List.Elements.{All-head, All-tail, All-contains, All-map, Contains-append_left, Contains-append_right, Contains-append_cases}
use Rattle.std.proofs.lemmas.List.FromFn.{get_or-map-range_with_len}
use Rattle.std.proofs.lemmas.Option.{slice_get_within, get_or_from_slice_get, slice_get-get_or, slice_get-map, same_Some, none-some}
use Rattle.std.proofs.Math.ListN.{get_or-map}
use Rattle.std.proofs.lemmas.List.{get_or-map as get_or_map, take-map}
use Rattle.std.proofs.lemmas.List.Sums.{sum_by-cons}
use Rattle.pass_core.specs.Insns.{InsnLaws}
use Rattle.pass_core.specs.Functions.{AllInsns, GoesToBlocks, IsStraight, EndsLate, front_of, last_of, stops, block_stops, insn_stops, successors_after, successors_of, count_of, insn_in, UsesRegisters}
use Rattle.cfg.specs.Edges.{successors_from, edge_count}
use Rattle.cfg.specs.Walks.{zero_targets, block_at, SameWalks}
use Rattle.cfg.specs.Paths.{IsReachable, IsEntry, Follows, AllReached}
use Rattle.cfg.specs.Contents.{is_no_jump, contents, KeepsBlocks, KeepsBack}
use Rattle.cfg.specs.Measures.{measure_of, NoMeasureGrows}
use Rattle.cfg.specs.model.Search.{marked_count}
use Rattle.cfg.specs.model.ReachedPart.{IsReachedPart}
use Rattle.cfg.specs.Renumber.{renumber}
use Rattle.cfg.specs.model.Marked.{number_in, marked_of}
use Rattle.cfg.proofs.Bare.{length-map, renumber_bare, renumber_flows, renumber_targets, renumber_reads, renumber_writes}
use Rattle.cfg.proofs.Lists.{length-successors}
use Rattle.cfg.proofs.Searching.{count_most}
use Rattle.cfg.proofs.Simulation.{AreAlike, Alike, AtEnd, More, same_walks}

abbrev IsMarkedAt : List Bool → ℕ → Type 0
IsMarkedAt marks b = slice_get marks b ≡ Some true

-- numbers
number_next : (marks : List Bool) (b : ℕ) → IsMarkedAt marks b → number_in marks (suc b) ≡ suc (number_in marks b)
number_next [] b m = let clash : ⊥ = cc in absurd clash
number_next (true ∷ marks) zero m = refl
number_next (false ∷ marks) zero m = let clash : ⊥ = cc in absurd clash
number_next (true ∷ marks) (suc b) m = ap suc (number_next marks b m)
number_next (false ∷ marks) (suc b) m = number_next marks b m

pub number_most : (marks : List Bool) (b : ℕ) → IsMarkedAt marks b → number_in marks b < marked_count marks
number_most [] b m = let clash : ⊥ = cc in absurd clash
number_most (true ∷ marks) zero m = omega arith
number_most (false ∷ marks) zero m = let clash : ⊥ = cc in absurd clash
number_most (true ∷ marks) (suc b) m = omega (arith, number_most marks b m)
number_most (false ∷ marks) (suc b) m = number_most marks b m

pub number_later : (marks : List Bool) (b : ℕ) → IsMarkedAt marks 0 → 0 < b → 0 < number_in marks b
number_later [] b m later = let clash : ⊥ = cc in absurd clash
number_later (true ∷ marks) zero m later = absurd (omega arith)
number_later (true ∷ marks) (suc b) m later = omega arith
number_later (false ∷ marks) b m later = let clash : ⊥ = cc in absurd clash

pub number_grows : (marks : List Bool) (b t : ℕ) → IsMarkedAt marks b → b < t → number_in marks b < number_in marks t
number_grows [] b t m later = let clash : ⊥ = cc in absurd clash
number_grows (mark ∷ marks) b zero m later = absurd (omega arith)
number_grows (true ∷ marks) zero (suc t) m later = omega arith
number_grows (false ∷ marks) zero (suc t) m later = let clash : ⊥ = cc in absurd clash
number_grows (true ∷ marks) (suc b) (suc t) m later = omega (arith, number_grows marks b t m (omega arith))
number_grows (false ∷ marks) (suc b) (suc t) m later = number_grows marks b t m (omega arith)

pub kept_at : {A : Type 0} (marks : List Bool) (xs : List A) (b : ℕ) (d : A) → length marks ≡ length xs → IsMarkedAt marks b → get_or (marked_of marks xs) (number_in marks b) d ≡ get_or xs b d
kept_at [] xs b d same m = let clash : ⊥ = cc in absurd clash
kept_at (mark ∷ marks) [] b d same m = absurd (omega arith)
kept_at (true ∷ marks) (x ∷ xs) zero d same m = refl
kept_at (false ∷ marks) (x ∷ xs) zero d same m = let clash : ⊥ = cc in absurd clash
kept_at (true ∷ marks) (x ∷ xs) (suc b) d same m = kept_at marks xs b d (omega arith) m
kept_at (false ∷ marks) (x ∷ xs) (suc b) d same m = kept_at marks xs b d (omega arith) m

pub kept_length : {A : Type 0} (marks : List Bool) (xs : List A) → length marks ≡ length xs → length (marked_of marks xs) ≡ marked_count marks
kept_length [] xs same = refl
kept_length (mark ∷ marks) [] same = absurd (omega arith)
kept_length (true ∷ marks) (x ∷ xs) same = ap suc (kept_length marks xs (omega arith))
kept_length (false ∷ marks) (x ∷ xs) same = kept_length marks xs (omega arith)

-- the block of before that has a number now
pub record Was (marks : List Bool) (number : ℕ) : Type 0 where
  pub block : ℕ
  pub marked : IsMarkedAt marks block
  pub is : number_in marks block ≡ number

pub kept_was : (marks : List Bool) (number : ℕ) → number < marked_count marks → Was marks number
kept_was [] number below = absurd (omega arith)
kept_was (true ∷ marks) zero below = record { block = 0; marked = refl; is = refl }
kept_was (true ∷ marks) (suc number) below =
    let was = kept_was marks number (omega arith) in
    record { block = suc was.block; marked = was.marked; is = ap suc was.is }
kept_was (false ∷ marks) number below =
    let was = kept_was marks number below in
    record { block = suc was.block; marked = was.marked; is = was.is }

module _ {I : Type 0} (targets : I → List ℕ) (flows_on : I → Bool) where
  -- the blocks that may follow one
  pub followers_at : (n : ℕ) (blocks : List (List I)) (b : ℕ) → b < length blocks → slice_get (successors_from targets flows_on n blocks) b ≡ Some (successors_of targets flows_on (n + b) (block_at blocks b))
  followers_at n [] b below = absurd (omega arith)
  followers_at n (x ∷ blocks) zero below = ap (λ m. Some (successors_of targets flows_on m x)) (sym (add-zero n))
  followers_at n (x ∷ blocks) (suc b) below =
      followers_at (suc n) blocks b (omega arith)
      ∙ ap (λ m. Some (successors_of targets flows_on m (block_at blocks b))) (let moved : suc n + b ≡ n + suc b = omega arith in moved)

  pub followers_of : (blocks : List (List I)) (b : ℕ) → b < length blocks → slice_get (successors_from targets flows_on 0 blocks) b ≡ Some (successors_of targets flows_on b (block_at blocks b))
  followers_of blocks b below =
      followers_at 0 blocks b below ∙ ap (λ m. Some (successors_of targets flows_on m (block_at blocks b))) (let none : 0 + b ≡ b = omega arith in none)

  pub last_more : (i x : I) (xs : List I) → last_of (i ∷ x ∷ xs) ≡ last_of (x ∷ xs)
  last_more i x xs =
      let one : length (i ∷ x ∷ xs) - 1 ≡ suc (length xs) = omega arith in
      let two : length (x ∷ xs) - 1 ≡ length xs = omega arith in
      ap (slice_get (i ∷ x ∷ xs)) one ∙ ap (slice_get (x ∷ xs)) (sym two)

  front_more : (i x : I) (xs : List I) → front_of (i ∷ x ∷ xs) ≡ i ∷ front_of (x ∷ xs)
  front_more i x xs =
      let one : length (i ∷ x ∷ xs) - 1 ≡ suc (length xs) = omega arith in
      let two : length (x ∷ xs) - 1 ≡ length xs = omega arith in
      ap (λ n. take n (i ∷ x ∷ xs)) one ∙ ap (λ n. i ∷ take n (x ∷ xs)) (sym two)

  pub late_head : (i x : I) (xs : List I) → EndsLate targets flows_on (i ∷ x ∷ xs) → IsStraight targets flows_on i
  late_head i x xs late = All-head (IsStraight targets flows_on) i (front_of (x ∷ xs)) (subst (λ ys. All (IsStraight targets flows_on) ys) (front_more i x xs) late)

  pub late_tail : (i x : I) (xs : List I) → EndsLate targets flows_on (i ∷ x ∷ xs) → EndsLate targets flows_on (x ∷ xs)
  late_tail i x xs late = All-tail (IsStraight targets flows_on) i (front_of (x ∷ xs)) (subst (λ ys. All (IsStraight targets flows_on) ys) (front_more i x xs) late)

  pub none_stop : (g : List (List I)) → IsTrue (stops flows_on g) → 0 < length g
  none_stop [] stop = let clash : ⊥ = cc in absurd clash
  none_stop (x ∷ g) stop = omega arith

  pub one_only : (x y k : ℕ) → k < 1 → get_or (x ∷ []) k y ≡ y → y ≡ x
  one_only x y zero below is = sym is
  one_only x y (suc k) below is = absurd (omega arith)

  -- each block that may follow is there
  module _ (f : List (List I)) (goes : AllInsns (GoesToBlocks targets (length f)) f) (ends : IsTrue (stops flows_on f)) where
    pub target_goes : (b k : ℕ) (i : I) → b < length f → slice_get (block_at f b) k ≡ Some i → (t : ℕ) → Contains (targets i) t → (0 < t) × (t < length f)
    target_goes b k i below has t c =
        let all : GoesToBlocks targets (length f) i = subst (λ j. GoesToBlocks targets (length f) j) (get_or_from_slice_get (block_at f b) k i i has) (goes b [] below k i (slice_get_within (block_at f b) k i has)) in
        All-contains (λ target. (0 < target) × (target < length f)) (targets i) t all c

    last_stops : (b : ℕ) → length f ≡ suc b → IsTrue (insn_stops flows_on (last_of (block_at f b)))
    last_stops b is =
        let at : length f - 1 ≡ b = omega arith in
        let last : last_of f ≡ Some (block_at f b) = ap (slice_get f) at ∙ slice_get-get_or f b [] (omega arith) in
        subst (λ o. IsTrue (block_stops flows_on o)) last ends

    behind_within : (b next : ℕ) (o : Option I) → b < length f → last_of (block_at f b) ≡ o → (IsTrue (insn_stops flows_on o) → ⊥) → next ≡ suc b → next < length f
    behind_within b next o below last goes_on same = elim (cases_lt (suc b) (length f)) [
      | inl inside ↦ omega arith
      | inr past ↦ absurd (goes_on (subst (λ p. IsTrue (insn_stops flows_on p)) last (last_stops b (omega arith))))
    ]

    flows_within : (b next : ℕ) (flows : Bool) (i : I) → flows_on i ≡ flows → b < length f → last_of (block_at f b) ≡ Some i → Contains (if flows then suc b ∷ [] else []) next → next < length f
    flows_within b next true i is below last c =
        behind_within b next (Some i) below last (λ stop. let no : IsTrue false = subst (λ flows. IsTrue (if flows then false else true)) is stop in let clash : ⊥ = cc in clash) (one_only (suc b) next c.0 c.1 c.2)
    flows_within b next false i is below last c = absurd (omega (arith, c.1))

    after_within : (b next : ℕ) (o : Option I) → b < length f → last_of (block_at f b) ≡ o → Contains (successors_after targets flows_on b o) next → next < length f
    after_within b next None below last c = behind_within b next None below last (λ stop. let clash : ⊥ = cc in clash) (one_only (suc b) next c.0 c.1 c.2)
    after_within b next (Some i) below last c = elim (Contains-append_cases (targets i) (if flows_on i then suc b ∷ [] else []) next c) [
      | inl target ↦ (target_goes b (length (block_at f b) - 1) i below last next target).1
      | inr behind ↦ flows_within b next (flows_on i) i refl below last behind
    ]

    pub successor_within : (b next : ℕ) → b < length f → Contains (successors_of targets flows_on b (block_at f b)) next → next < length f
    successor_within b next below c = after_within b next (last_of (block_at f b)) below refl c

-- the marks of a function's blocks tell to which a path leads
pub record Tells {I : Type 0} (targets : I → List ℕ) (flows_on : I → Bool) (f : List (List I)) (marks : List Bool) : Type 0 where
  pub count : length marks ≡ length f
  pub only : (b : ℕ) → IsMarkedAt marks b → IsReachable (successors_from targets flows_on 0 f) b
  pub all : (b : ℕ) → b < length f → IsReachable (successors_from targets flows_on 0 f) b → IsMarkedAt marks b

module _ {I : Type 0} (reads writes targets : I → List ℕ) (with_target : I → ℕ → ℕ → I) (jump_to : ℕ → I) (flows_on traps : I → Bool) (laws : InsnLaws reads writes targets with_target jump_to flows_on traps) (f : List (List I)) (goes : AllInsns (GoesToBlocks targets (length f)) f) (straight : All (EndsLate targets flows_on) f) (ends : IsTrue (stops flows_on f)) (marks : List Bool) (tells : Tells targets flows_on f marks) (numbers : List ℕ) (numbers_are : numbers ≡ map (number_in marks) (range_with_len 0 (length marks))) where
  abbrev M : ℕ → Type 0
  M b = IsMarkedAt marks b

  abbrev ren : I → I
  ren i = renumber targets with_target numbers i

  abbrev g : List (List I)
  g = map (map ren) (marked_of marks f)

  marked_within : (b : ℕ) → M b → b < length f
  marked_within b m = omega (arith, slice_get_within marks b true m, tells.count)

  -- what may follow a marked block is marked
  closed : (b next : ℕ) → M b → Contains (successors_of targets flows_on b (block_at f b)) next → M next
  closed b next m c =
      let below = marked_within b m in
      tells.all next (successor_within targets flows_on f goes ends b next below c)
      (Follows next (successors_of targets flows_on b (block_at f b)) (tells.only b m) (followers_of targets flows_on f b below) c)

  number_is : (b : ℕ) → M b → slice_index_or numbers b 0 ≡ number_in marks b
  number_is b m =
      ap (λ ns. slice_index_or ns b 0) numbers_are
      ∙ get_or-map-range_with_len (number_in marks) 0 (length marks) b b 0 (slice_get_within marks b true m) (let same : 0 + b ≡ b = omega arith in same)

  -- a marked block and its number
  abbrev R : ℕ → ℕ → Type 0
  R b c = M b × (c ≡ number_in marks b)

  insn_alike : (i : I) → ((t : ℕ) → Contains (targets i) t → M t) → AreAlike targets with_target flows_on R i (ren i)
  insn_alike i marked = record {
    same = sym (renumber_bare reads writes targets with_target jump_to flows_on traps laws numbers i);
    flows = sym (renumber_flows reads writes targets with_target jump_to flows_on traps laws numbers i);
    count = sym (ap length (renumber_targets reads writes targets with_target jump_to flows_on traps laws numbers i) ∙ length-map (λ (block : ℕ). slice_index_or numbers block 0) (targets i));
    leads = λ k t has.
        let m : M t = marked t (k, slice_get_within (targets i) k t has, get_or_from_slice_get (targets i) k t t has) in
        record {
          to = slice_index_or numbers t 0;
          has =
              ap (λ ts. slice_get ts k) (renumber_targets reads writes targets with_target jump_to flows_on traps laws numbers i)
              ∙ slice_get-map (λ (block : ℕ). slice_index_or numbers block 0) (targets i) k
              ∙ ap (option_map (λ block. slice_index_or numbers block 0)) has;
          related = (m, number_is t m);
        };
  }

  next_related : (b : ℕ) → M b → M (suc b) → R (suc b) (suc (number_in marks b))
  next_related b m next = (next, sym (number_next marks b m))

  rest_alike : (b : ℕ) (xs : List I) → M b → EndsLate targets flows_on xs → ((next : ℕ) → Contains (successors_of targets flows_on b xs) next → M next) → Alike targets with_target flows_on R b (number_in marks b) xs (map ren xs)
  rest_alike b [] m late follow = AtEnd (next_related b m (follow (suc b) (0, omega arith, refl)))
  rest_alike b (i ∷ []) m late follow =
      More (insn_alike i (λ t c. follow t (Contains-append_left (targets i) (if flows_on i then suc b ∷ [] else []) t c)))
      (λ flows. AtEnd (next_related b m (follow (suc b) (Contains-append_right (targets i) (if flows_on i then suc b ∷ [] else []) (suc b) (subst (λ goes_on. Contains (if goes_on then suc b ∷ [] else []) (suc b)) (sym flows) (0, omega arith, refl))))))
  rest_alike b (i ∷ x ∷ xs) m late follow =
      let plain = late_head targets flows_on i x xs late in
      More (insn_alike i (λ t c. absurd (omega (arith, c.1, plain.0))))
      (λ flows. rest_alike b (x ∷ xs) m (late_tail targets flows_on i x xs late)
      (λ next c. follow next (subst (λ o. Contains (successors_after targets flows_on b o) next) (sym (last_more targets flows_on i x xs)) c)))

  -- a marked block stands at its number
  kept_block : (b : ℕ) → M b → block_at g (number_in marks b) ≡ map ren (block_at f b)
  kept_block b m = get_or-map (map ren) (marked_of marks f) (number_in marks b) [] ∙ ap (map ren) (kept_at marks f b [] tells.count m)

  blocks_alike : (b c : ℕ) → R b c → Alike targets with_target flows_on R b c (block_at f b) (block_at g c)
  blocks_alike b c related =
      subst (λ n. Alike targets with_target flows_on R b n (block_at f b) (block_at g n)) (sym related.1)
      (subst (λ xs. Alike targets with_target flows_on R b (number_in marks b) (block_at f b) xs) (sym (kept_block b related.0))
      (rest_alike b (block_at f b) related.0 (straight b [] (marked_within b related.0)) (λ next c. closed b next related.0 c)))

  entry_marked : M 0
  entry_marked = tells.all 0 (none_stop targets flows_on f ends) IsEntry

  pub kept_walks : SameWalks targets with_target flows_on f g
  kept_walks = same_walks targets with_target flows_on f g R blocks_alike (entry_marked, refl)

  -- paths
  length_g : length g ≡ marked_count marks
  length_g = length-map (map ren) (marked_of marks f) ∙ kept_length marks f tells.count

  last_map : (xs : List I) → last_of (map ren xs) ≡ option_map ren (last_of xs)
  last_map xs = ap (λ n. slice_get (map ren xs) (n - 1)) (length-map ren xs) ∙ slice_get-map ren xs (length xs - 1)

  target_kept : (i : I) (t : ℕ) → M t → Contains (targets i) t → Contains (targets (ren i)) (number_in marks t)
  target_kept i t m c =
      let renumbered = renumber_targets reads writes targets with_target jump_to flows_on traps laws numbers i in
      let below : c.0 < length (targets (ren i)) = omega (arith, c.1, ap length renumbered, length-map (λ (block : ℕ). slice_index_or numbers block 0) (targets i)) in (
        c.0,
        below,
        ap (λ ts. get_or ts c.0 (number_in marks t)) renumbered
            ∙ get_or_map (λ (block : ℕ). slice_index_or numbers block 0) (targets i) c.0 t (number_in marks t) c.1
            ∙ ap (λ b. slice_index_or numbers b 0) c.2
            ∙ number_is t m,
      )

  flow_kept : (b next : ℕ) (flows : Bool) → M b → Contains (if flows then suc b ∷ [] else []) next → Contains (if flows then suc (number_in marks b) ∷ [] else []) (number_in marks next)
  flow_kept b next true m c =
      let is : next ≡ suc b = one_only targets flows_on (suc b) next c.0 c.1 c.2 in
      subst (λ n. Contains (suc (number_in marks b) ∷ []) n) (sym (ap (number_in marks) is ∙ number_next marks b m)) (0, omega arith, refl)
  flow_kept b next false m c = absurd (omega (arith, c.1))

  after_kept : (b next : ℕ) (o : Option I) → M b → M next → Contains (successors_after targets flows_on b o) next → Contains (successors_after targets flows_on (number_in marks b) (option_map ren o)) (number_in marks next)
  after_kept b next None m n c = flow_kept b next true m c
  after_kept b next (Some i) m n c =
      let behind : ℕ → Bool → List ℕ = λ at flows. if flows then suc at ∷ [] else [] in
      elim (Contains-append_cases (targets i) (behind b (flows_on i)) next c) [
        | inl target ↦ Contains-append_left (targets (ren i)) (behind (number_in marks b) (flows_on (ren i))) (number_in marks next) (target_kept i next n target)
        | inr flow ↦ Contains-append_right (targets (ren i)) (behind (number_in marks b) (flows_on (ren i))) (number_in marks next)
            (subst (λ flows. Contains (behind (number_in marks b) flows) (number_in marks next)) (sym (renumber_flows reads writes targets with_target jump_to flows_on traps laws numbers i)) (flow_kept b next (flows_on i) m flow))
      ]

  successor_kept : (b next : ℕ) → M b → Contains (successors_of targets flows_on b (block_at f b)) next → Contains (successors_of targets flows_on (number_in marks b) (block_at g (number_in marks b))) (number_in marks next)
  successor_kept b next m c =
      subst (λ o. Contains (successors_after targets flows_on (number_in marks b) o) (number_in marks next))
      (sym (ap last_of (kept_block b m) ∙ last_map (block_at f b)))
      (after_kept b next (last_of (block_at f b)) m (closed b next m c) c)

  reached_kept : (b : ℕ) → IsReachable (successors_from targets flows_on 0 f) b → IsReachable (successors_from targets flows_on 0 g) (number_in marks b)
  reached_kept _ IsEntry = IsEntry
  reached_kept _ (Follows {block = block} next nexts before get c) =
      let below : block < length f = omega (arith, slice_get_within (successors_from targets flows_on 0 f) block nexts get, length-successors targets flows_on 0 f) in
      let m : M block = tells.all block below before in
      let is : nexts ≡ successors_of targets flows_on block (block_at f block) = same_Some nexts (successors_of targets flows_on block (block_at f block)) (sym get ∙ followers_of targets flows_on f block below) in
      let inside : number_in marks block < length g = omega (arith, number_most marks block m, length_g) in
      Follows (number_in marks next) (successors_of targets flows_on (number_in marks block) (block_at g (number_in marks block)))
      (reached_kept block before)
      (followers_of targets flows_on g (number_in marks block) inside)
      (successor_kept block next m (subst (λ ns. Contains ns next) is c))

  pub kept_reached : AllReached targets flows_on g
  kept_reached c below =
      let was = kept_was marks c (omega (arith, length_g)) in
      subst (λ n. IsReachable (successors_from targets flows_on 0 g) n) was.is (reached_kept was.block (tells.only was.block was.marked))

  -- what holds of the marked blocks with other numbers holds of all that are left
  each_block : (P : List I → Type 0) → ((b : ℕ) → M b → P (map ren (block_at f b))) → All P g
  each_block P holds c d below =
      let was = kept_was marks c (omega (arith, length_g)) in
      let is : slice_index_or g c d ≡ map ren (block_at f was.block) =
      get_or_default g c d [] below ∙ ap (block_at g) (sym was.is) ∙ kept_block was.block was.marked in
      subst P (sym is) (holds was.block was.marked)

  all_cons : {A : Type 0} (P : A → Type 0) (x : A) (xs : List A) → P x → All P xs → All P (x ∷ xs)
  all_cons P x xs p all zero d below = p
  all_cons P x xs p all (suc k) d below = all k d (omega arith)

  -- each target of a marked block is marked
  rest_marked : (b : ℕ) (xs : List I) → EndsLate targets flows_on xs → ((next : ℕ) → Contains (successors_of targets flows_on b xs) next → M next) → All (λ i. (t : ℕ) → Contains (targets i) t → M t) xs
  rest_marked b [] late follow = λ k d below. absurd (omega arith)
  rest_marked b (i ∷ []) late follow =
      all_cons (λ j. (t : ℕ) → Contains (targets j) t → M t) i [] (λ t c. follow t (Contains-append_left (targets i) (if flows_on i then suc b ∷ [] else []) t c)) (λ k d below. absurd (omega arith))
  rest_marked b (i ∷ x ∷ xs) late follow =
      let plain = late_head targets flows_on i x xs late in
      all_cons (λ j. (t : ℕ) → Contains (targets j) t → M t) i (x ∷ xs) (λ t c. absurd (omega (arith, c.1, plain.0)))
      (rest_marked b (x ∷ xs) (late_tail targets flows_on i x xs late) (λ next c. follow next (subst (λ o. Contains (successors_after targets flows_on b o) next) (sym (last_more targets flows_on i x xs)) c)))

  targets_marked : (b : ℕ) → M b → All (λ i. (t : ℕ) → Contains (targets i) t → M t) (block_at f b)
  targets_marked b m = rest_marked b (block_at f b) (straight b [] (marked_within b m)) (λ next c. closed b next m c)

  pub kept_goes : AllInsns (GoesToBlocks targets (length g)) g
  kept_goes = each_block (All (GoesToBlocks targets (length g))) (λ b m. All-map (GoesToBlocks targets (length g)) ren (block_at f b) (λ k d below. goes_one b m k d below)) where
    goes_one : (b : ℕ) → M b → (k : ℕ) (d : I) → k < length (block_at f b) → GoesToBlocks targets (length g) (ren (slice_index_or (block_at f b) k d))
    goes_one b m k d below =
        let i : I = slice_index_or (block_at f b) k d in
        let old = goes b [] (marked_within b m) k d below in
        subst (All (λ target. (0 < target) × (target < length g))) (sym (renumber_targets reads writes targets with_target jump_to flows_on traps laws numbers i))
        (All-map (λ target. (0 < target) × (target < length g)) (λ (block : ℕ). slice_index_or numbers block 0) (targets i)
        (λ at e inside.
        let t : ℕ = slice_index_or (targets i) at e in
        let marked : M t = targets_marked b m k d below t (at, inside, get_or_default (targets i) at t e inside) in
        let is = number_is t marked in
        let later = number_later marks t entry_marked (old at e inside).0 in
        let most = number_most marks t marked in
        (omega arith, omega (arith, length_g))))

  straight_kept : (i : I) → IsStraight targets flows_on i → IsStraight targets flows_on (ren i)
  straight_kept i plain = (
    ap length (renumber_targets reads writes targets with_target jump_to flows_on traps laws numbers i) ∙ length-map (λ (block : ℕ). slice_index_or numbers block 0) (targets i) ∙ plain.0,
    renumber_flows reads writes targets with_target jump_to flows_on traps laws numbers i ∙ plain.1,
  )

  pub kept_straight : All (EndsLate targets flows_on) g
  kept_straight = each_block (EndsLate targets flows_on) (λ b m.
      let front : front_of (map ren (block_at f b)) ≡ map ren (front_of (block_at f b)) =
      ap (λ n. take (n - 1) (map ren (block_at f b))) (length-map ren (block_at f b)) ∙ take-map ren (length (block_at f b) - 1) (block_at f b) in
      subst (All (IsStraight targets flows_on)) (sym front)
      (All-map (IsStraight targets flows_on) ren (front_of (block_at f b)) (λ k d below. straight_kept (slice_index_or (front_of (block_at f b)) k d) (straight b [] (marked_within b m) k d below))))

  flow_stops : (flows : Bool) → (flows ≡ true → ⊥) → IsTrue (if flows then false else true)
  flow_stops true never = absurd (never refl)
  flow_stops false never = refl

  last_kept : (b : ℕ) (o : Option I) → M b → last_of (block_at f b) ≡ o → (M (suc b) → ⊥) → IsTrue (insn_stops flows_on (option_map ren o))
  last_kept b None m is last =
      absurd (last (closed b (suc b) m (subst (λ o. Contains (successors_after targets flows_on b o) (suc b)) (sym is) (0, omega arith, refl))))
  last_kept b (Some i) m is last = flow_stops (flows_on (ren i)) (λ flows.
      let on : flows_on i ≡ true = sym (renumber_flows reads writes targets with_target jump_to flows_on traps laws numbers i) ∙ flows in
      let behind : Contains (successors_after targets flows_on b (Some i)) (suc b) =
      Contains-append_right (targets i) (if flows_on i then suc b ∷ [] else []) (suc b) (subst (λ goes_on. Contains (if goes_on then suc b ∷ [] else []) (suc b)) (sym on) (0, omega arith, refl)) in
      last (closed b (suc b) m (subst (λ o. Contains (successors_after targets flows_on b o) (suc b)) (sym is) behind)))

  pub kept_stops : IsTrue (stops flows_on g)
  kept_stops =
      let some : 0 < length g = omega (arith, number_most marks 0 entry_marked, length_g) in
      let c : ℕ = length g - 1 in
      let below : c < length g = omega arith in
      let was = kept_was marks c (omega (arith, length_g)) in
      let block_is : block_at g c ≡ map ren (block_at f was.block) = ap (block_at g) (sym was.is) ∙ kept_block was.block was.marked in
      let last_is : last_of g ≡ Some (block_at g c) = slice_get-get_or g c [] below in
      let stop : IsTrue (insn_stops flows_on (option_map ren (last_of (block_at f was.block)))) =
      last_kept was.block (last_of (block_at f was.block)) was.marked refl
      (λ next. omega (arith, number_next marks was.block was.marked, number_most marks (suc was.block) next, was.is, length_g)) in
      subst (λ o. IsTrue (block_stops flows_on o)) (sym last_is)
      (subst (λ o. IsTrue (insn_stops flows_on o)) (sym (ap last_of block_is ∙ last_map (block_at f was.block))) stop)

  pub kept_fewer : length g ≤ length f
  kept_fewer = omega (arith, length_g, count_most marks, tells.count)

  pub kept_count : count_of g ≤ count_of f
  kept_count = fewer marks f where
    fewer : (ms : List Bool) (h : List (List I)) → count_of (map (map ren) (marked_of ms h)) ≤ count_of h
    fewer [] h = omega arith
    fewer (m ∷ ms) [] = omega arith
    fewer (true ∷ ms) (x ∷ h) =
        omega (arith, fewer ms h, length-map ren x, sum_by-cons (λ (block : List I). length block) (map ren x) (map (map ren) (marked_of ms h)), sum_by-cons (λ (block : List I). length block) x h)
    fewer (false ∷ ms) (x ∷ h) = omega (arith, fewer ms h, sum_by-cons (λ (block : List I). length block) x h)

  pub kept_measures : NoMeasureGrows targets with_target f g
  kept_measures measure unseen = no_more marks f where
    one : (i : I) → measure (ren i) ≡ measure i
    one i =
        sym (unseen (ren i)) ∙ ap measure (renumber_bare reads writes targets with_target jump_to flows_on traps laws numbers i) ∙ unseen i

    block : (xs : List I) → sum_by measure (map ren xs) ≡ sum_by measure xs
    block [] = refl
    block (x ∷ xs) = omega (arith, one x, block xs, sum_by-cons measure (ren x) (map ren xs), sum_by-cons measure x xs)

    no_more : (ms : List Bool) (h : List (List I)) → measure_of measure (map (map ren) (marked_of ms h)) ≤ measure_of measure h
    no_more [] h = omega arith
    no_more (m ∷ ms) [] = omega arith
    no_more (true ∷ ms) (x ∷ h) =
        omega (arith, no_more ms h, block x, sum_by-cons (λ (xs : List I). sum_by measure xs) (map ren x) (map (map ren) (marked_of ms h)), sum_by-cons (λ (xs : List I). sum_by measure xs) x h)
    no_more (false ∷ ms) (x ∷ h) = omega (arith, no_more ms h, sum_by-cons (λ (xs : List I). sum_by measure xs) x h)

  pub kept_registers : (temps : ℕ) → AllInsns (UsesRegisters reads writes temps) f → AllInsns (UsesRegisters reads writes temps) g
  kept_registers temps all = each_block (All (UsesRegisters reads writes temps)) (λ b m.
      All-map (UsesRegisters reads writes temps) ren (block_at f b) (λ k d below.
      let i : I = slice_index_or (block_at f b) k d in
      let old = all b [] (marked_within b m) k d below in (
        subst (All (λ register. register < temps)) (sym (renumber_reads reads writes targets with_target jump_to flows_on traps laws numbers i)) old.0,
        subst (All (λ register. register < temps)) (sym (renumber_writes reads writes targets with_target jump_to flows_on traps laws numbers i)) old.1,
      )))

  -- contents
  no_jump_kept : (i : I) → is_no_jump targets flows_on (ren i) ≡ is_no_jump targets flows_on i
  no_jump_kept i =
      let count : length (targets (ren i)) ≡ length (targets i) = ap length (renumber_targets reads writes targets with_target jump_to flows_on traps laws numbers i) ∙ length-map (λ (block : ℕ). slice_index_or numbers block 0) (targets i) in
      ap (λ flows. if flows then true else (if nat_lt 0 (length (targets (ren i))) then false else true)) (renumber_flows reads writes targets with_target jump_to flows_on traps laws numbers i)
      ∙ ap (λ n. if flows_on i then true else (if nat_lt 0 n then false else true)) count

  same_or_not : (no_jump : Bool) (i j : I) (is js : List I) → zero_targets targets with_target i ≡ zero_targets targets with_target j → map (zero_targets targets with_target) is ≡ map (zero_targets targets with_target) js → map (zero_targets targets with_target) (cond no_jump (i ∷ is) is) ≡ map (zero_targets targets with_target) (cond no_jump (j ∷ js) js)
  same_or_not true i j is js first rest = ap (λ x. x ∷ map (zero_targets targets with_target) is) first ∙ ap (λ xs. zero_targets targets with_target j ∷ xs) rest
  same_or_not false i j is js first rest = rest

  contents_kept : (xs : List I) → contents targets with_target flows_on (map ren xs) ≡ contents targets with_target flows_on xs
  contents_kept [] = refl
  contents_kept (x ∷ xs) =
      let rest : List I = filter (is_no_jump targets flows_on) (map ren xs) in
      ap (λ no_jump. map (zero_targets targets with_target) (cond no_jump (ren x ∷ rest) rest)) (no_jump_kept x)
      ∙ same_or_not (is_no_jump targets flows_on x) (ren x) x rest (filter (is_no_jump targets flows_on) xs) (renumber_bare reads writes targets with_target jump_to flows_on traps laws numbers x) (contents_kept xs)

  block_contents : (b : ℕ) → M b → contents targets with_target flows_on (block_at g (number_in marks b)) ≡ contents targets with_target flows_on (block_at f b)
  block_contents b m = ap (contents targets with_target flows_on) (kept_block b m) ∙ contents_kept (block_at f b)

  not_entry : (b c : ℕ) → number_in marks b ≡ c → 0 < c → 0 < b
  not_entry zero c is later = absurd (omega arith)
  not_entry (suc b) c is later = omega arith

  pub kept_contents : KeepsBlocks targets with_target flows_on f g
  kept_contents = record {
    entry = block_contents 0 entry_marked;
    others = λ c later below.
        let was = kept_was marks c (omega (arith, length_g)) in
        inr (record {
          number = was.block;
          later = not_entry was.block c was.is later;
          within = marked_within was.block was.marked;
          same = subst (λ n. contents targets with_target flows_on (block_at g n) ≡ contents targets with_target flows_on (block_at f was.block)) was.is (block_contents was.block was.marked);
        });
  }

  -- jumps back
  record InBlock (o : Option (List I)) (at : ℕ) (i : I) : Type 0 where
    insns : List I
    is : o ≡ Some insns
    has : slice_get insns at ≡ Some i

  in_block : (o : Option (List I)) (at : ℕ) (i : I) → insn_in o at ≡ Some i → InBlock o at i
  in_block None at i has = absurd (none-some i has)
  in_block (Some insns) at i has = record { insns = insns; is = refl; has = has }

  record Before (o : Option I) (j : I) : Type 0 where
    insn : I
    is : o ≡ Some insn
    same : ren insn ≡ j

  before_map : (o : Option I) (j : I) → option_map ren o ≡ Some j → Before o j
  before_map None j has = absurd (none-some j has)
  before_map (Some i) j has = record { insn = i; is = refl; same = same_Some (ren i) j has }

  pub kept_back : KeepsBack targets with_target flows_on f g
  kept_back to back =
      let stands = in_block (slice_get g back.block) back.at back.insn back.stands in
      let below : back.block < length g = slice_get_within g back.block stands.insns stands.is in
      let was = kept_was marks back.block (omega (arith, length_g)) in
      let b : ℕ = was.block in
      let insns_are : stands.insns ≡ map ren (block_at f b) =
      sym (get_or_from_slice_get g back.block stands.insns [] stands.is) ∙ ap (block_at g) (sym was.is) ∙ kept_block b was.marked in
      let before = before_map (slice_get (block_at f b) back.at) back.insn
      (sym (slice_get-map ren (block_at f b) back.at) ∙ ap (λ xs. slice_get xs back.at) (sym insns_are) ∙ stands.has) in
      let i : I = before.insn in
      let targets_are : targets back.insn ≡ map (λ (block : ℕ). slice_index_or numbers block 0) (targets i) =
      ap targets (sym before.same) ∙ renumber_targets reads writes targets with_target jump_to flows_on traps laws numbers i in
      let k : ℕ = back.leads.0 in
      let inside : k < length (targets i) = omega (arith, back.leads.1, ap length targets_are, length-map (λ (block : ℕ). slice_index_or numbers block 0) (targets i)) in
      let t : ℕ = get_or (targets i) k 0 in
      let among : Contains (targets i) t = (k, inside, get_or_default (targets i) k t 0 inside) in
      let there : back.at < length (block_at f b) = slice_get_within (block_at f b) back.at i before.is in
      let marked : M t = subst (λ j. Contains (targets j) t → M t) (get_or_from_slice_get (block_at f b) back.at i i before.is) (targets_marked b was.marked back.at i there t) among in
      let number_t : number_in marks t ≡ to =
      sym (number_is t marked) ∙ sym (get_or_map (λ (block : ℕ). slice_index_or numbers block 0) (targets i) k 0 to inside) ∙ ap (λ ts. get_or ts k to) (sym targets_are) ∙ back.leads.2 in (
        t,
        record {
          block = b;
          at = back.at;
          insn = i;
          stands = ap (λ o. insn_in o back.at) (slice_get-get_or f b [] (marked_within b was.marked)) ∙ before.is;
          leads = among;
          back = not_later t b was.marked (omega (arith, number_t, was.is, back.back));
        },
        subst (λ n. contents targets with_target flows_on (block_at g n) ≡ contents targets with_target flows_on (block_at f t)) number_t (block_contents t marked),
      )
    where
      not_later : (t b : ℕ) → M b → number_in marks t ≤ number_in marks b → t ≤ b
      not_later t b m below = elim (cases_lt b t) [
        | inl later ↦ absurd (omega (arith, number_grows marks b t m later))
        | inr early ↦ early
      ]

  -- edges
  after_count : (a b : ℕ) (o : Option I) → length (successors_after targets flows_on a (option_map ren o)) ≡ length (successors_after targets flows_on b o)
  after_count a b None = refl
  after_count a b (Some i) =
      let count : length (targets (ren i)) ≡ length (targets i) = ap length (renumber_targets reads writes targets with_target jump_to flows_on traps laws numbers i) ∙ length-map (λ (block : ℕ). slice_index_or numbers block 0) (targets i) in
      let flows : length (if flows_on (ren i) then suc a ∷ [] else []) ≡ length (if flows_on i then suc b ∷ [] else []) =
      ap (λ flow. length (if flow then suc a ∷ [] else [])) (renumber_flows reads writes targets with_target jump_to flows_on traps laws numbers i) ∙ either (flows_on i) in
      omega (arith, length-append (targets (ren i)) (if flows_on (ren i) then suc a ∷ [] else []), length-append (targets i) (if flows_on i then suc b ∷ [] else []))
    where
      either : (flow : Bool) → length (if flow then suc a ∷ [] else []) ≡ length (if flow then suc b ∷ [] else [])
      either true = refl
      either false = refl

  fewer_edges : (a b : ℕ) (ms : List Bool) (h : List (List I)) → edge_count (successors_from targets flows_on a (map (map ren) (marked_of ms h))) ≤ edge_count (successors_from targets flows_on b h)
  fewer_edges a b [] h = omega arith
  fewer_edges a b (m ∷ ms) [] = omega arith
  fewer_edges a b (true ∷ ms) (x ∷ h) =
      let here : length (successors_of targets flows_on a (map ren x)) ≡ length (successors_of targets flows_on b x) =
      ap (λ o. length (successors_after targets flows_on a o)) (last_map x) ∙ after_count a b (last_of x) in
      omega (
        arith,
        here,
        fewer_edges (suc a) (suc b) ms h,
        sum_by-cons (λ (nexts : List ℕ). length nexts) (successors_of targets flows_on a (map ren x)) (successors_from targets flows_on (suc a) (map (map ren) (marked_of ms h))),
        sum_by-cons (λ (nexts : List ℕ). length nexts) (successors_of targets flows_on b x) (successors_from targets flows_on (suc b) h),
      )
  fewer_edges a b (false ∷ ms) (x ∷ h) =
      omega (arith, fewer_edges a (suc b) ms h, sum_by-cons (λ (nexts : List ℕ). length nexts) (successors_of targets flows_on b x) (successors_from targets flows_on (suc b) h))

  pub kept_edges : edge_count (successors_from targets flows_on 0 g) ≤ edge_count (successors_from targets flows_on 0 f)
  kept_edges = fewer_edges 0 0 marks f

-- the blocks that the search marks, with other numbers, are the reached part
module _ {I : Type 0} (reads writes targets : I → List ℕ) (with_target : I → ℕ → ℕ → I) (jump_to : ℕ → I) (flows_on traps : I → Bool) (laws : InsnLaws reads writes targets with_target jump_to flows_on traps) where
  pub told_part : (f blocks : List (List I)) (shown followers : List (List ℕ)) (marks slice : List Bool) → blocks ≡ f → followers ≡ successors_from targets flows_on 0 blocks → shown ≡ followers → slice ≡ marks → length marks ≡ length shown → ((b : ℕ) → IsMarkedAt marks b → IsReachable shown b) → ((b : ℕ) → b < length shown → IsReachable shown b → IsMarkedAt marks b) → Tells targets flows_on f slice
  told_part f blocks shown followers marks slice blocks_are followers_are shown_is slice_is count only all =
      let shown_all : shown ≡ successors_from targets flows_on 0 f = shown_is ∙ followers_are ∙ ap (successors_from targets flows_on 0) blocks_are in
      let long : length shown ≡ length f = ap length shown_all ∙ length-successors targets flows_on 0 f in
      record {
        count = ap length slice_is ∙ count ∙ long;
        only = λ b m. subst (λ ns. IsReachable ns b) shown_all (only b (subst (λ ms. IsMarkedAt ms b) slice_is m));
        all = λ b below reached. subst (λ ms. IsMarkedAt ms b) (sym slice_is) (all b (omega (arith, long)) (subst (λ ns. IsReachable ns b) (sym shown_all) reached));
      }

  pub part : (f : List (List I)) (marks counted : List Bool) (numbers slice : List ℕ) (g : List (List I)) → AllInsns (GoesToBlocks targets (length f)) f → All (EndsLate targets flows_on) f → IsTrue (stops flows_on f) → Tells targets flows_on f marks → counted ≡ marks → numbers ≡ map (number_in counted) (range_with_len 0 (length counted)) → slice ≡ numbers → g ≡ map (map (renumber targets with_target slice)) (marked_of marks f) → IsReachedPart reads writes targets with_target flows_on f g
  part f marks counted numbers slice g goes straight ends tells counted_is numbers_are slice_is g_is =
      let slice_are : slice ≡ map (number_in marks) (range_with_len 0 (length marks)) =
      slice_is ∙ numbers_are ∙ ap (λ ms. map (number_in ms) (range_with_len 0 (length ms))) counted_is in
      subst (λ h. IsReachedPart reads writes targets with_target flows_on f h) (sym g_is) (record {
        targets_there = kept_goes reads writes targets with_target jump_to flows_on traps laws f goes straight ends marks tells slice slice_are;
        straight = kept_straight reads writes targets with_target jump_to flows_on traps laws f goes straight ends marks tells slice slice_are;
        stopped = kept_stops reads writes targets with_target jump_to flows_on traps laws f goes straight ends marks tells slice slice_are;
        registers = kept_registers reads writes targets with_target jump_to flows_on traps laws f goes straight ends marks tells slice slice_are;
        reached = kept_reached reads writes targets with_target jump_to flows_on traps laws f goes straight ends marks tells slice slice_are;
        walks = kept_walks reads writes targets with_target jump_to flows_on traps laws f goes straight ends marks tells slice slice_are;
        contents_kept = kept_contents reads writes targets with_target jump_to flows_on traps laws f goes straight ends marks tells slice slice_are;
        back = kept_back reads writes targets with_target jump_to flows_on traps laws f goes straight ends marks tells slice slice_are;
        fewer_blocks = kept_fewer reads writes targets with_target jump_to flows_on traps laws f goes straight ends marks tells slice slice_are;
        fewer_insns = kept_count reads writes targets with_target jump_to flows_on traps laws f goes straight ends marks tells slice slice_are;
        measures = kept_measures reads writes targets with_target jump_to flows_on traps laws f goes straight ends marks tells slice slice_are;
        fewer_edges = kept_edges reads writes targets with_target jump_to flows_on traps laws f goes straight ends marks tells slice slice_are;
      })
