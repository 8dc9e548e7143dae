-- A function with split blocks goes as it went.
use Rattle.std.proofs.Common.{◌≡◌, ℕ, zero, suc, ◌+◌, ◌-◌, ◌<◌, ◌≤◌, Bool, true, false, List, [], ◌∷◌, ◌++◌, map, length, take, get_or, option_map, Option, Some, None, slice_get, refl, sym, ap, subst, ◌∙◌, inl, inr, ◌⊎◌, arith, slice_index_or, if◌then◌else◌}
use Rattle.std.specs.Prelude.{All, IsTrue, filter, nat_lt}
use Rattle.std.proofs.Common.{cond}
use Rattle.cfg.specs.Contents.{is_no_jump, contents, HasContents, KeepsBlocks, KeepsBack}
use Rattle.std.specs.List.{Contains}
use Rattle.std.proofs.lemmas.Bool.{cases_lt}
use Rattle.std.proofs.lemmas.Option.{slice_get_within, get_or_from_slice_get, slice_get-get_or, slice_get-map, same_Some, none-some}
use Rattle.std.proofs.lemmas.List.{append-nil, get_or_default, take-map, map-append}
use Rattle.std.proofs.lemmas.List.Elements.{All-map, All-nil, Contains-append_left, Contains-append_right, Contains-append_cases, Contains-get_or}
use Rattle.std.proofs.lemmas.List.{get_or-map as get_or_map}
use Rattle.pass_core.specs.Insns.{InsnLaws}
use Rattle.pass_core.specs.Functions.{AllInsns, GoesToBlocks, IsStraight, EndsLate, UsesRegisters, front_of, last_of, stops, block_stops, insn_stops, insn_in, successors_after, successors_of}
use Rattle.cfg.specs.Edges.{successors_from}
use Rattle.cfg.specs.Paths.{IsReachable, IsEntry, Follows, AllReached, GoesBack}
use Rattle.cfg.specs.Walks.{zero_targets, block_at, SameWalks}
use Rattle.cfg_edges.specs.model.Split.{places, numbers_from, pieces, split_from, to_one, target_after}
use Rattle.cfg.specs.Renumber.{with_targets, renumber}
use Rattle.cfg.proofs.Bare.{length-map, bare_all, flows_all, targets_all, reads_all, writes_all, renumber_bare, renumber_flows, renumber_targets, renumber_reads, renumber_writes}
use Rattle.cfg.proofs.Kept.{late_head, late_tail, last_more, successor_within, target_goes, none_stop, followers_of, one_only}
use Rattle.cfg.proofs.Lists.{length-successors}
use Rattle.cfg_edges.proofs.Landing.{Lands, Direct, ByJump, AreAlike, Alike, AtEnd, More, same_walks}
use Rattle.cfg_edges.proofs.Spreads.{Spreads, NoBlock, IsWhole, IsCut}
use Rattle.cfg_edges.proofs.Splits.{numbers_head, numbers_next, numbers_rise, split_get, split_length, piece_of, places_some}

-- the last instruction of a block goes on, and has one target
pub record IsBranch {I : Type 0} (targets : I → List ℕ) (flows_on : I → Bool) (block : List I) : Type 0 where
  pub insn : I
  pub target : ℕ
  pub last : last_of block ≡ Some insn
  pub flows : flows_on insn ≡ true
  pub one : targets insn ≡ target ∷ []

module _ {I : Type 0} (reads writes targets : I → List ℕ) (with_target : I → ℕ → ℕ → I) (jump_to : ℕ → I) (flows_on traps : I → Bool) (laws : InsnLaws reads writes targets with_target jump_to flows_on traps) (f : List (List I)) (goes : AllInsns (GoesToBlocks targets (length f)) f) (straight : All (EndsLate targets flows_on) f) (ends : IsTrue (stops flows_on f)) (splits : List Bool) (count : length splits ≡ length f) (branches : (b : ℕ) → get_or splits b false ≡ true → IsBranch targets flows_on (block_at f b)) where
  abbrev numbers : List ℕ
  numbers = numbers_from 0 splits

  abbrev number : ℕ → ℕ
  number b = slice_index_or numbers b 0

  abbrev g : List (List I)
  g = split_from targets with_target jump_to numbers 0 splits f

  abbrev ren : I → I
  ren i = renumber targets with_target numbers i

  abbrev one_to : ℕ → I → I
  one_to to i = to_one targets with_target to i

  -- what stands at the number of a block and behind it
  piece_at : (b at : ℕ) (s : Bool) → get_or splits b false ≡ s → b < length f → at < places s → block_at g (number b + at) ≡ get_or (pieces targets with_target jump_to numbers b s (block_at f b)) at []
  piece_at b at s is below inside =
      split_get targets with_target jump_to numbers 0 splits f b at count (omega (arith, count)) (subst (λ x. at < places x) (sym is) inside)
      ∙ ap (λ m. get_or (pieces targets with_target jump_to numbers m (get_or splits b false) (block_at f b)) at []) (let none : 0 + b ≡ b = omega arith in none)
      ∙ ap (λ x. get_or (pieces targets with_target jump_to numbers b x (block_at f b)) at []) is

  whole_at : (b : ℕ) → get_or splits b false ≡ false → b < length f → block_at g (number b) ≡ map ren (block_at f b)
  whole_at b is below =
      ap (block_at g) (let none : number b ≡ number b + 0 = omega arith in none) ∙ piece_at b 0 false is below (omega arith)

  branch_at : (b : ℕ) → get_or splits b false ≡ true → b < length f → block_at g (number b) ≡ map (one_to (number b + 2)) (block_at f b)
  branch_at b is below =
      ap (block_at g) (let none : number b ≡ number b + 0 = omega arith in none) ∙ piece_at b 0 true is below (omega arith)

  fall_at : (b : ℕ) → get_or splits b false ≡ true → b < length f → block_at g (suc (number b)) ≡ jump_to (number (b + 1)) ∷ []
  fall_at b is below =
      ap (block_at g) (let one : suc (number b) ≡ number b + 1 = omega arith in one) ∙ piece_at b 1 true is below (omega arith)

  target_at : (b : ℕ) (is : get_or splits b false ≡ true) → b < length f → block_at g (number b + 2) ≡ jump_to (number (branches b is).target) ∷ []
  target_at b is below =
      let branch = branches b is in
      piece_at b 2 true is below (omega arith)
      ∙ ap (λ o. jump_to (number (target_after targets o)) ∷ []) branch.last
      ∙ ap (λ ts. jump_to (number (slice_index_or ts 0 0)) ∷ []) branch.one

  -- a block of before and its number
  abbrev R : ℕ → ℕ → Type 0
  R b c = (b < length f) × (c ≡ number b)

  -- an instruction without targets
  plain_alike : (change : I → I) (i : I) → change i ≡ i → length (targets i) ≡ 0 → AreAlike reads writes targets with_target jump_to flows_on traps laws R g i (change i)
  plain_alike change i stays none =
      subst (λ j. AreAlike reads writes targets with_target jump_to flows_on traps laws R g i j) (sym stays) (record {
        same = refl;
        flows = refl;
        count = refl;
        leads = λ k t has. absurd (omega (arith, slice_get_within (targets i) k t has, none));
      })

  whole_alike : (i : I) → ((t : ℕ) → Contains (targets i) t → t < length f) → AreAlike reads writes targets with_target jump_to flows_on traps laws R g i (ren i)
  whole_alike i there = record {
    same = sym (renumber_bare reads writes targets with_target jump_to flows_on traps laws numbers i);
    flows = sym (renumber_flows reads writes targets with_target jump_to flows_on traps laws numbers i);
    count = sym (ap length (renumber_targets reads writes targets with_target jump_to flows_on traps laws numbers i) ∙ length-map (λ (block : ℕ). slice_index_or numbers block 0) (targets i));
    leads = λ k t has. record {
      to = number t;
      has =
          ap (λ ts. slice_get ts k) (renumber_targets reads writes targets with_target jump_to flows_on traps laws numbers i)
          ∙ slice_get-map (λ (block : ℕ). slice_index_or numbers block 0) (targets i) k
          ∙ ap (option_map (λ block. slice_index_or numbers block 0)) has;
      lands = Direct (there t (k, slice_get_within (targets i) k t has, get_or_from_slice_get (targets i) k t t has), refl);
    };
  }

  -- what is left of a block goes alike, where its last instruction and its end do
  rest_alike : (b c : ℕ) (change : I → I) (xs : List I) → EndsLate targets flows_on xs → ((i : I) → length (targets i) ≡ 0 → change i ≡ i) → ((i : I) → last_of xs ≡ Some i → AreAlike reads writes targets with_target jump_to flows_on traps laws R g i (change i)) → (last_of xs ≡ None → Lands reads writes targets with_target jump_to flows_on traps laws R g (suc b) (suc c)) → ((i : I) → last_of xs ≡ Some i → flows_on i ≡ true → Lands reads writes targets with_target jump_to flows_on traps laws R g (suc b) (suc c)) → Alike reads writes targets with_target jump_to flows_on traps laws R g b c xs (map change xs)
  rest_alike b c change [] late stays last empty falls = AtEnd (empty refl)
  rest_alike b c change (i ∷ []) late stays last empty falls = More (last i refl) (λ flows. AtEnd (falls i refl flows))
  rest_alike b c change (i ∷ x ∷ xs) late stays last empty falls =
      let plain = late_head targets flows_on i x xs late in
      More (plain_alike change i (stays i plain.0) plain.0)
      (λ flows. rest_alike b c change (x ∷ xs) (late_tail targets flows_on i x xs late) stays
      (λ j is. last j (last_more targets flows_on i x xs ∙ is))
      (λ none. empty (last_more targets flows_on i x xs ∙ none))
      (λ j is. falls j (last_more targets flows_on i x xs ∙ is)))

  none_changed : (h : ℕ → ℕ) (i : I) (ts : List ℕ) → ts ≡ targets i → length ts ≡ 0 → with_targets with_target i 0 (map h (targets i)) ≡ i
  none_changed h i [] is none = ap (λ ts. with_targets with_target i 0 (map h ts)) (sym is)
  none_changed h i (t ∷ ts) is none = absurd (omega arith)

  last_there : (b : ℕ) (i : I) → b < length f → last_of (block_at f b) ≡ Some i → (t : ℕ) → Contains (targets i) t → t < length f
  last_there b i below last t c = (target_goes targets flows_on f goes ends b (length (block_at f b) - 1) i below last t c).1

  next_there : (b : ℕ) (o : Option I) → b < length f → last_of (block_at f b) ≡ o → Contains (successors_after targets flows_on b o) (suc b) → suc b < length f
  next_there b o below is c =
      successor_within targets flows_on f goes ends b (suc b) below (subst (λ p. Contains (successors_after targets flows_on b p) (suc b)) (sym is) c)

  after_none : (b : ℕ) → b < length f → last_of (block_at f b) ≡ None → suc b < length f
  after_none b below is = next_there b None below is (0, omega arith, refl)

  after_flow : (b : ℕ) (i : I) → b < length f → last_of (block_at f b) ≡ Some i → flows_on i ≡ true → suc b < length f
  after_flow b i below is flows =
      next_there b (Some i) below is
      (Contains-append_right (targets i) (if flows_on i then suc b ∷ [] else []) (suc b)
      (subst (λ goes_on. Contains (if goes_on then suc b ∷ [] else []) (suc b)) (sym flows) (0, omega arith, refl)))

  whole_next : (b : ℕ) → get_or splits b false ≡ false → b < length f → suc (number b) ≡ number (suc b)
  whole_next b is below = omega (arith, numbers_next 0 splits b (omega (arith, count)), ap places is)

  whole_block : (b : ℕ) → get_or splits b false ≡ false → b < length f → Alike reads writes targets with_target jump_to flows_on traps laws R g b (number b) (block_at f b) (block_at g (number b))
  whole_block b is below =
      subst (λ xs. Alike reads writes targets with_target jump_to flows_on traps laws R g b (number b) (block_at f b) xs) (sym (whole_at b is below))
      (rest_alike b (number b) ren (block_at f b) (straight b [] below)
      (λ i none. none_changed (λ block. slice_index_or numbers block 0) i (targets i) refl none)
      (λ i last. whole_alike i (last_there b i below last))
      (λ none. Direct (after_none b below none, whole_next b is below))
      (λ i last flows. Direct (after_flow b i below last flows, whole_next b is below)))

  single : (ts : List ℕ) (t k x : ℕ) → ts ≡ t ∷ [] → slice_get ts k ≡ Some x → (k ≡ 0) × (x ≡ t)
  single ts t zero x is has = (refl, same_Some x t (sym has ∙ ap (λ us. slice_get us 0) is))
  single ts t (suc k) x is has = let none : None ≡ Some x = sym (ap (λ us. slice_get us (suc k)) is) ∙ has in absurd (none-some x none)

  branch_alike : (b : ℕ) (is : get_or splits b false ≡ true) → b < length f → (i : I) → last_of (block_at f b) ≡ Some i → AreAlike reads writes targets with_target jump_to flows_on traps laws R g i (one_to (number b + 2) i)
  branch_alike b is below i last =
      let branch = branches b is in
      let to : ℕ = number b + 2 in
      let new : List ℕ = map (λ _. to) (targets i) in
      let one : targets i ≡ branch.target ∷ [] = ap targets (same_Some i branch.insn (sym last ∙ branch.last)) ∙ branch.one in
      let long : length (targets i) ≡ length new = sym (length-map (λ (_ : ℕ). to) (targets i)) in
      let now : targets (one_to to i) ≡ new = targets_all reads writes targets with_target jump_to flows_on traps laws new (targets i) [] [] i (sym (append-nil (targets i))) long ∙ append-nil new in
      record {
        same = sym (bare_all reads writes targets with_target jump_to flows_on traps laws i 0 new (omega (arith, long)));
        flows = sym (flows_all reads writes targets with_target jump_to flows_on traps laws i 0 new);
        count = long ∙ sym (ap length now);
        leads = λ k t has.
            let at = single (targets i) branch.target k t one has in
            record {
              to = to;
              has = ap (λ ts. slice_get ts k) (now ∙ ap (map (λ _. to)) one) ∙ ap (slice_get (to ∷ [])) at.0;
              lands = ByJump (number branch.target) (target_at b is below)
                  (last_there b i below last t (k, slice_get_within (targets i) k t has, get_or_from_slice_get (targets i) k t t has), ap number (sym at.1));
            };
      }

  branch_falls : (b : ℕ) → get_or splits b false ≡ true → b < length f → suc b < length f → Lands reads writes targets with_target jump_to flows_on traps laws R g (suc b) (suc (number b))
  branch_falls b is below next =
      ByJump (number (b + 1)) (fall_at b is below) (next, ap number (let same : b + 1 ≡ suc b = omega arith in same))

  branch_block : (b : ℕ) → get_or splits b false ≡ true → b < length f → Alike reads writes targets with_target jump_to flows_on traps laws R g b (number b) (block_at f b) (block_at g (number b))
  branch_block b is below =
      subst (λ xs. Alike reads writes targets with_target jump_to flows_on traps laws R g b (number b) (block_at f b) xs) (sym (branch_at b is below))
      (rest_alike b (number b) (one_to (number b + 2)) (block_at f b) (straight b [] below)
      (λ i none. none_changed (λ _. number b + 2) i (targets i) refl none)
      (λ i last. branch_alike b is below i last)
      (λ none. absurd (none-some (branches b is).insn (sym none ∙ (branches b is).last)))
      (λ i last flows. branch_falls b is below (after_flow b i below last flows)))

  block_alike : (b : ℕ) (s : Bool) → get_or splits b false ≡ s → b < length f → Alike reads writes targets with_target jump_to flows_on traps laws R g b (number b) (block_at f b) (block_at g (number b))
  block_alike b true is below = branch_block b is below
  block_alike b false is below = whole_block b is below

  pub split_walks : SameWalks targets with_target flows_on f g
  split_walks =
      same_walks reads writes targets with_target jump_to flows_on traps laws f g R
      (λ b c related.
      subst (λ n. Alike reads writes targets with_target jump_to flows_on traps laws R g b n (block_at f b) (block_at g n)) (sym related.1)
      (block_alike b (get_or splits b false) refl related.0))
      (none_stop targets flows_on f ends, sym (numbers_head 0 splits))

  -- paths
  length_g : length g ≡ number (length f)
  length_g = split_length targets with_target jump_to numbers 0 splits f count ∙ ap number count

  piece_within : (b at : ℕ) (s : Bool) → get_or splits b false ≡ s → b < length f → at < places s → number b + at < length g
  piece_within b at s is below inside =
      omega (arith, length_g, numbers_rise splits b (length f) below (omega (arith, count)), ap places is)

  goes_to : (c to : ℕ) → c < length g → IsReachable (successors_from targets flows_on 0 g) c → Contains (successors_of targets flows_on c (block_at g c)) to → IsReachable (successors_from targets flows_on 0 g) to
  goes_to c to below reached among = Follows to (successors_of targets flows_on c (block_at g c)) reached (followers_of targets flows_on g c below) among

  jump_goes : (c v : ℕ) → c < length g → block_at g c ≡ jump_to v ∷ [] → IsReachable (successors_from targets flows_on 0 g) c → IsReachable (successors_from targets flows_on 0 g) v
  jump_goes c v below is reached =
      goes_to c v below reached
      (subst (λ xs. Contains (successors_of targets flows_on c xs) v) (sym is)
      (Contains-append_left (targets (jump_to v)) (if flows_on (jump_to v) then suc c ∷ [] else []) v
      (subst (λ ts. Contains ts v) (sym (laws.jump_targets v)) (0, omega arith, refl))))

  last_map : (change : I → I) (xs : List I) → last_of (map change xs) ≡ option_map change (last_of xs)
  last_map change xs = ap (λ n. slice_get (map change xs) (n - 1)) (length-map change xs) ∙ slice_get-map change xs (length xs - 1)

  -- what follows a changed block behind it
  flow_behind : (c to : ℕ) (i : I) → flows_on i ≡ true → to ≡ suc c → Contains (successors_after targets flows_on c (Some i)) to
  flow_behind c to i flows is =
      Contains-append_right (targets i) (if flows_on i then suc c ∷ [] else []) to
      (subst (λ goes_on. Contains (if goes_on then suc c ∷ [] else []) to) (sym flows) (0, omega arith, sym is))

  target_kept : (i : I) (t : ℕ) → Contains (targets i) t → Contains (targets (ren i)) (number t)
  target_kept i t c =
      let renumbered = renumber_targets reads writes targets with_target jump_to flows_on traps laws numbers i in (
        c.0,
        omega (arith, c.1, ap length renumbered, length-map (λ (block : ℕ). slice_index_or numbers block 0) (targets i)),
        ap (λ ts. get_or ts c.0 (number t)) renumbered
            ∙ get_or_map (λ (block : ℕ). slice_index_or numbers block 0) (targets i) c.0 t (number t) c.1
            ∙ ap number c.2,
      )

  only_next : (flows : Bool) (b to : ℕ) → Contains (if flows then suc b ∷ [] else []) to → (flows ≡ true) × (to ≡ suc b)
  only_next true b to c = (refl, one_only targets flows_on (suc b) to c.0 c.1 c.2)
  only_next false b to c = absurd (omega (arith, c.1))

  -- an edge of a block that is not split
  whole_edge : (b t : ℕ) (o : Option I) → get_or splits b false ≡ false → b < length f → last_of (block_at f b) ≡ o → Contains (successors_after targets flows_on b o) t → Contains (successors_after targets flows_on (number b) (option_map ren o)) (number t)
  whole_edge b t None is below last c =
      let next : t ≡ suc b = one_only targets flows_on (suc b) t c.0 c.1 c.2 in
      (0, omega arith, whole_next b is below ∙ ap number (sym next))
  whole_edge b t (Some i) is below last c = elim (Contains-append_cases (targets i) (if flows_on i then suc b ∷ [] else []) t c) [
    | inl target ↦ Contains-append_left (targets (ren i)) (if flows_on (ren i) then suc (number b) ∷ [] else []) (number t) (target_kept i t target)
    | inr flow ↦
        let next = only_next (flows_on i) b t flow in
        flow_behind (number b) (number t) (ren i) (renumber_flows reads writes targets with_target jump_to flows_on traps laws numbers i ∙ next.0) (ap number next.1 ∙ sym (whole_next b is below))
  ]

  -- the two blocks behind one that is split
  behind_reached : (b : ℕ) → get_or splits b false ≡ true → b < length f → IsReachable (successors_from targets flows_on 0 g) (number b) → IsReachable (successors_from targets flows_on 0 g) (suc (number b)) × IsReachable (successors_from targets flows_on 0 g) (number b + 2)
  behind_reached b is below reached =
      let branch = branches b is in
      let i : I = branch.insn in
      let to : ℕ = number b + 2 in
      let here : number b < length g = omega (arith, piece_within b 0 true is below (omega arith)) in
      let new : List ℕ = map (λ _. to) (targets i) in
      let long : length (targets i) ≡ length new = sym (length-map (λ (_ : ℕ). to) (targets i)) in
      let now : targets (one_to to i) ≡ to ∷ [] = targets_all reads writes targets with_target jump_to flows_on traps laws new (targets i) [] [] i (sym (append-nil (targets i))) long ∙ append-nil new ∙ ap (map (λ _. to)) branch.one in
      let flows : flows_on (one_to to i) ≡ true = flows_all reads writes targets with_target jump_to flows_on traps laws i 0 new ∙ branch.flows in
      let last : last_of (block_at g (number b)) ≡ Some (one_to to i) = ap last_of (branch_at b is below) ∙ last_map (one_to to) (block_at f b) ∙ ap (option_map (one_to to)) branch.last in (
        goes_to (number b) (suc (number b)) here reached
            (subst (λ o. Contains (successors_after targets flows_on (number b) o) (suc (number b))) (sym last) (flow_behind (number b) (suc (number b)) (one_to to i) flows refl)),
        goes_to (number b) to here reached
            (subst (λ o. Contains (successors_after targets flows_on (number b) o) to) (sym last)
            (Contains-append_left (targets (one_to to i)) (if flows_on (one_to to i) then suc (number b) ∷ [] else []) to
            (subst (λ ts. Contains ts to) (sym now) (0, omega arith, refl)))),
      )

  -- an edge of before is a path
  edge_kept : (b t : ℕ) (s : Bool) → get_or splits b false ≡ s → b < length f → Contains (successors_of targets flows_on b (block_at f b)) t → IsReachable (successors_from targets flows_on 0 g) (number b) → IsReachable (successors_from targets flows_on 0 g) (number t)
  edge_kept b t false is below c reached =
      goes_to (number b) (number t) (omega (arith, piece_within b 0 false is below (omega arith))) reached
      (subst (λ o. Contains (successors_after targets flows_on (number b) o) (number t)) (sym (ap last_of (whole_at b is below) ∙ last_map ren (block_at f b)))
      (whole_edge b t (last_of (block_at f b)) is below refl c))
  edge_kept b t true is below c reached =
      let branch = branches b is in
      let behind = behind_reached b is below reached in
      let among : Contains (successors_after targets flows_on b (Some branch.insn)) t = subst (λ o. Contains (successors_after targets flows_on b o) t) branch.last c in
      elim (Contains-append_cases (targets branch.insn) (if flows_on branch.insn then suc b ∷ [] else []) t among) [
        | inl target ↦
            let at : Contains (branch.target ∷ []) t = subst (λ ts. Contains ts t) branch.one target in
            let same : t ≡ branch.target = one_only targets flows_on branch.target t at.0 at.1 at.2 in
            subst (λ x. IsReachable (successors_from targets flows_on 0 g) (number x)) (sym same)
            (jump_goes (number b + 2) (number branch.target) (piece_within b 2 true is below (omega arith)) (target_at b is below) behind.1)
        | inr flow ↦
            let next = only_next (flows_on branch.insn) b t flow in
            let same : b + 1 ≡ t = omega (arith, next.1) in
            subst (λ x. IsReachable (successors_from targets flows_on 0 g) (number x)) same
            (jump_goes (suc (number b)) (number (b + 1)) (omega (arith, piece_within b 1 true is below (omega arith))) (fall_at b is below) behind.0)
      ]

  reached_kept : (b : ℕ) → IsReachable (successors_from targets flows_on 0 f) b → IsReachable (successors_from targets flows_on 0 g) (number b)
  reached_kept _ IsEntry = subst (λ n. IsReachable (successors_from targets flows_on 0 g) n) (sym (numbers_head 0 splits)) IsEntry
  reached_kept _ (Follows {block = block} next nexts before get c) =
      let below : block < length f = omega (arith, slice_get_within (successors_from targets flows_on 0 f) block nexts get, length-successors targets flows_on 0 f) in
      let is : nexts ≡ successors_of targets flows_on block (block_at f block) = same_Some nexts (successors_of targets flows_on block (block_at f block)) (sym get ∙ followers_of targets flows_on f block below) in
      edge_kept block next (get_or splits block false) refl below (subst (λ ns. Contains ns next) is c) (reached_kept block before)

  piece_reached : (b at : ℕ) (s : Bool) → get_or splits b false ≡ s → b < length f → at < places s → IsReachable (successors_from targets flows_on 0 g) (number b) → IsReachable (successors_from targets flows_on 0 g) (number b + at)
  piece_reached b zero s is below inside reached = subst (λ n. IsReachable (successors_from targets flows_on 0 g) n) (let none : number b ≡ number b + 0 = omega arith in none) reached
  piece_reached b (suc zero) true is below inside reached = subst (λ n. IsReachable (successors_from targets flows_on 0 g) n) (let one : suc (number b) ≡ number b + 1 = omega arith in one) (behind_reached b is below reached).0
  piece_reached b (suc (suc zero)) true is below inside reached = (behind_reached b is below reached).1
  piece_reached b (suc (suc (suc at))) true is below inside reached = absurd (omega arith)
  piece_reached b (suc at) false is below inside reached = absurd (omega arith)

  pub split_reached : AllReached targets flows_on f → AllReached targets flows_on g
  split_reached all c below =
      let piece = piece_of splits c (omega (arith, length_g, ap number count)) in
      let inside : piece.block < length f = omega (arith, piece.below, count) in
      subst (λ n. IsReachable (successors_from targets flows_on 0 g) n) piece.is
      (piece_reached piece.block piece.at (get_or splits piece.block false) refl inside piece.inside (reached_kept piece.block (all piece.block inside)))

  -- what stands at a number of the result
  pub data Kind (c : ℕ) : Type 0 where
    Whole : (b : ℕ) → get_or splits b false ≡ false → b < length f → c ≡ number b → block_at g c ≡ map ren (block_at f b) → Kind c
    Branch : (b : ℕ) → get_or splits b false ≡ true → b < length f → c ≡ number b → block_at g c ≡ map (one_to (number b + 2)) (block_at f b) → Kind c
    Fall : (b : ℕ) → get_or splits b false ≡ true → b < length f → c ≡ number b + 1 → block_at g c ≡ jump_to (number (b + 1)) ∷ [] → Kind c
    Target : (b : ℕ) (is : get_or splits b false ≡ true) → b < length f → c ≡ number b + 2 → block_at g c ≡ jump_to (number (branches b is).target) ∷ [] → Kind c

  kind_at : (b at : ℕ) (s : Bool) → get_or splits b false ≡ s → b < length f → at < places s → Kind (number b + at)
  kind_at b zero false is below inside =
      let here : number b + 0 ≡ number b = omega arith in
      Whole b is below here (ap (block_at g) here ∙ whole_at b is below)
  kind_at b zero true is below inside =
      let here : number b + 0 ≡ number b = omega arith in
      Branch b is below here (ap (block_at g) here ∙ branch_at b is below)
  kind_at b (suc zero) true is below inside =
      Fall b is below refl (ap (block_at g) (let one : number b + 1 ≡ suc (number b) = omega arith in one) ∙ fall_at b is below)
  kind_at b (suc (suc zero)) true is below inside = Target b is below refl (target_at b is below)
  kind_at b (suc (suc (suc at))) true is below inside = absurd (omega arith)
  kind_at b (suc at) false is below inside = absurd (omega arith)

  pub kind_of : (c : ℕ) → c < length g → Kind c
  kind_of c below =
      let piece = piece_of splits c (omega (arith, length_g, ap number count)) in
      subst (λ n. Kind n) piece.is (kind_at piece.block piece.at (get_or splits piece.block false) refl (omega (arith, piece.below, count)) piece.inside)

  -- the target of a branch, and what follows it, are blocks other than the entry
  branch_target : (b : ℕ) (is : get_or splits b false ≡ true) → b < length f → (0 < (branches b is).target) × ((branches b is).target < length f)
  branch_target b is below =
      let branch = branches b is in
      target_goes targets flows_on f goes ends b (length (block_at f b) - 1) branch.insn below branch.last branch.target
      (subst (λ ts. Contains ts branch.target) (sym branch.one) (0, omega arith, refl))

  branch_next : (b : ℕ) (is : get_or splits b false ≡ true) → b < length f → b + 1 < length f
  branch_next b is below = omega (arith, after_flow b (branches b is).insn below (branches b is).last (branches b is).flows)

  number_within : (t : ℕ) → t < length f → number t < length g
  number_within t below = omega (arith, length_g, numbers_rise splits t (length f) below (omega (arith, count)), places_some (get_or splits t false))

  number_later : (t : ℕ) → 0 < t → t < length f → 0 < number t
  number_later t later below = omega (arith, numbers_rise splits 0 t later (omega (arith, count)), places_some (get_or splits 0 false))

  -- what holds of the blocks that stay, of those that are split, and of jumps to blocks, holds of all
  each_block : (P : List I → Type 0) → ((b : ℕ) → b < length f → P (map ren (block_at f b))) → ((b : ℕ) → get_or splits b false ≡ true → b < length f → P (map (one_to (number b + 2)) (block_at f b))) → ((t : ℕ) → 0 < t → t < length f → P (jump_to (number t) ∷ [])) → All P g
  each_block P whole branch jump c d below =
      subst P (get_or_default g c [] d below) (one (kind_of c below))
    where
      one : Kind c → P (block_at g c)
      one (Whole b is inside at stands) = subst P (sym stands) (whole b inside)
      one (Branch b is inside at stands) = subst P (sym stands) (branch b is inside)
      one (Fall b is inside at stands) = subst P (sym stands) (jump (b + 1) (omega arith) (branch_next b is inside))
      one (Target b is inside at stands) = subst P (sym stands) (jump (branches b is).target (branch_target b is inside).0 (branch_target b is inside).1)

  all_one : {A : Type 0} (P : A → Type 0) (x : A) → P x → All P (x ∷ [])
  all_one P x p zero d below = p
  all_one P x p (suc k) d below = absurd (omega arith)

  number_goes : (t : ℕ) → 0 < t → t < length f → (0 < number t) × (number t < length g)
  number_goes t later below = (number_later t later below, number_within t below)

  whole_goes : (b : ℕ) → b < length f → All (GoesToBlocks targets (length g)) (map ren (block_at f b))
  whole_goes b below = All-map (GoesToBlocks targets (length g)) ren (block_at f b) (λ k d inside.
      let i : I = slice_index_or (block_at f b) k d in
      let old = goes b [] below k d inside in
      subst (All (λ target. (0 < target) × (target < length g))) (sym (renumber_targets reads writes targets with_target jump_to flows_on traps laws numbers i))
      (All-map (λ target. (0 < target) × (target < length g)) (λ (block : ℕ). slice_index_or numbers block 0) (targets i)
      (λ at e there. number_goes (slice_index_or (targets i) at e) (old at e there).0 (old at e there).1)))

  one_goes : (b : ℕ) → get_or splits b false ≡ true → b < length f → All (GoesToBlocks targets (length g)) (map (one_to (number b + 2)) (block_at f b))
  one_goes b is below = All-map (GoesToBlocks targets (length g)) (one_to (number b + 2)) (block_at f b) (λ k d inside.
      let i : I = slice_index_or (block_at f b) k d in
      let new : List ℕ = map (λ _. number b + 2) (targets i) in
      let now : targets (one_to (number b + 2) i) ≡ new =
      targets_all reads writes targets with_target jump_to flows_on traps laws new (targets i) [] [] i (sym (append-nil (targets i))) (sym (length-map (λ (_ : ℕ). number b + 2) (targets i))) ∙ append-nil new in
      subst (All (λ target. (0 < target) × (target < length g))) (sym now)
      (All-map (λ target. (0 < target) × (target < length g)) (λ (_ : ℕ). number b + 2) (targets i) (λ at e there. (omega arith, piece_within b 2 true is below (omega arith)))))

  jump_stays : (t : ℕ) → 0 < t → t < length f → All (GoesToBlocks targets (length g)) (jump_to (number t) ∷ [])
  jump_stays t later below =
      all_one (GoesToBlocks targets (length g)) (jump_to (number t))
      (subst (All (λ target. (0 < target) × (target < length g))) (sym (laws.jump_targets (number t)))
      (all_one (λ target. (0 < target) × (target < length g)) (number t) (number_goes t later below)))

  pub split_goes : AllInsns (GoesToBlocks targets (length g)) g
  split_goes = each_block (All (GoesToBlocks targets (length g))) whole_goes one_goes jump_stays

  -- a change that keeps where instructions go on keeps what stands last
  late_kept : (change : I → I) → ((i : I) → length (targets i) ≡ 0 → change i ≡ i) → (xs : List I) → EndsLate targets flows_on xs → EndsLate targets flows_on (map change xs)
  late_kept change stays xs late =
      let front : front_of (map change xs) ≡ map change (front_of xs) =
      ap (λ n. take (n - 1) (map change xs)) (length-map change xs) ∙ take-map change (length xs - 1) xs in
      subst (All (IsStraight targets flows_on)) (sym front)
      (All-map (IsStraight targets flows_on) change (front_of xs)
      (λ k d below. let plain = late k d below in subst (IsStraight targets flows_on) (sym (stays (slice_index_or (front_of xs) k d) plain.0)) plain))

  pub split_straight : All (EndsLate targets flows_on) g
  split_straight = each_block (EndsLate targets flows_on)
      (λ b below. late_kept ren (λ i none. none_changed (λ block. slice_index_or numbers block 0) i (targets i) refl none) (block_at f b) (straight b [] below))
      (λ b is below. late_kept (one_to (number b + 2)) (λ i none. none_changed (λ _. number b + 2) i (targets i) refl none) (block_at f b) (straight b [] below))
      (λ t later below k d inside. absurd (omega arith))

  pub split_registers : (temps : ℕ) → AllInsns (UsesRegisters reads writes temps) f → AllInsns (UsesRegisters reads writes temps) g
  split_registers temps all = each_block (All (UsesRegisters reads writes temps))
      (λ b below. All-map (UsesRegisters reads writes temps) ren (block_at f b) (λ k d inside.
      let i : I = slice_index_or (block_at f b) k d in
      let old = all b [] below k d inside in (
        subst (All (λ register. register < temps)) (sym (renumber_reads reads writes targets with_target jump_to flows_on traps laws numbers i)) old.0,
        subst (All (λ register. register < temps)) (sym (renumber_writes reads writes targets with_target jump_to flows_on traps laws numbers i)) old.1,
      )))
      (λ b is below. All-map (UsesRegisters reads writes temps) (one_to (number b + 2)) (block_at f b) (λ k d inside.
      let i : I = slice_index_or (block_at f b) k d in
      let new : List ℕ = map (λ _. number b + 2) (targets i) in
      let old = all b [] below k d inside in (
        subst (All (λ register. register < temps)) (sym (reads_all reads writes targets with_target jump_to flows_on traps laws i 0 new)) old.0,
        subst (All (λ register. register < temps)) (sym (writes_all reads writes targets with_target jump_to flows_on traps laws i 0 new)) old.1,
      )))
      (λ t later below. all_one (UsesRegisters reads writes temps) (jump_to (number t)) (
        subst (All (λ register. register < temps)) (sym (laws.jump_reads (number t))) (All-nil (λ register. register < temps)),
        subst (All (λ register. register < temps)) (sym (laws.jump_writes (number t))) (All-nil (λ register. register < temps)),
      ))

  -- what stays of the contents of a block, under a change of targets alone
  same_or_not : (no_jump : Bool) (i j : I) (is js : List I) → zero_targets targets with_target i ≡ zero_targets targets with_target j → map (zero_targets targets with_target) is ≡ map (zero_targets targets with_target) js → map (zero_targets targets with_target) (cond no_jump (i ∷ is) is) ≡ map (zero_targets targets with_target) (cond no_jump (j ∷ js) js)
  same_or_not true i j is js first rest = ap (λ x. x ∷ map (zero_targets targets with_target) is) first ∙ ap (λ xs. zero_targets targets with_target j ∷ xs) rest
  same_or_not false i j is js first rest = rest

  contents_same : (change : I → I) → ((i : I) → zero_targets targets with_target (change i) ≡ zero_targets targets with_target i) → ((i : I) → flows_on (change i) ≡ flows_on i) → ((i : I) → length (targets (change i)) ≡ length (targets i)) → (xs : List I) → contents targets with_target flows_on (map change xs) ≡ contents targets with_target flows_on xs
  contents_same change bares flows counts [] = refl
  contents_same change bares flows counts (x ∷ xs) =
      let rest : List I = filter (is_no_jump targets flows_on) (map change xs) in
      let kept : is_no_jump targets flows_on (change x) ≡ is_no_jump targets flows_on x =
      ap (λ flow. if flow then true else (if nat_lt 0 (length (targets (change x))) then false else true)) (flows x)
      ∙ ap (λ n. if flows_on x then true else (if nat_lt 0 n then false else true)) (counts x) in
      ap (λ no_jump. map (zero_targets targets with_target) (cond no_jump (change x ∷ rest) rest)) kept
      ∙ same_or_not (is_no_jump targets flows_on x) (change x) x rest (filter (is_no_jump targets flows_on) xs) (bares x) (contents_same change bares flows counts xs)

  whole_contents : (b : ℕ) → contents targets with_target flows_on (map ren (block_at f b)) ≡ contents targets with_target flows_on (block_at f b)
  whole_contents b =
      contents_same ren (renumber_bare reads writes targets with_target jump_to flows_on traps laws numbers) (renumber_flows reads writes targets with_target jump_to flows_on traps laws numbers)
      (λ i. ap length (renumber_targets reads writes targets with_target jump_to flows_on traps laws numbers i) ∙ length-map (λ (block : ℕ). slice_index_or numbers block 0) (targets i))
      (block_at f b)

  one_contents : (to b : ℕ) → contents targets with_target flows_on (map (one_to to) (block_at f b)) ≡ contents targets with_target flows_on (block_at f b)
  one_contents to b =
      contents_same (one_to to)
      (λ i. bare_all reads writes targets with_target jump_to flows_on traps laws i 0 (map (λ _. to) (targets i)) (omega (arith, length-map (λ (_ : ℕ). to) (targets i))))
      (λ i. flows_all reads writes targets with_target jump_to flows_on traps laws i 0 (map (λ _. to) (targets i)))
      (λ i.
      let new : List ℕ = map (λ _. to) (targets i) in
      let long = length-map (λ (_ : ℕ). to) (targets i) in
      ap length (targets_all reads writes targets with_target jump_to flows_on traps laws new (targets i) [] [] i (sym (append-nil (targets i))) (sym long) ∙ append-nil new) ∙ long)
      (block_at f b)

  -- the contents of the block at a number
  block_contents : (b : ℕ) (s : Bool) → get_or splits b false ≡ s → b < length f → contents targets with_target flows_on (block_at g (number b)) ≡ contents targets with_target flows_on (block_at f b)
  block_contents b false is below = ap (contents targets with_target flows_on) (whole_at b is below) ∙ whole_contents b
  block_contents b true is below = ap (contents targets with_target flows_on) (branch_at b is below) ∙ one_contents (number b + 2) b

  jump_contents : (v : ℕ) → contents targets with_target flows_on (jump_to v ∷ []) ≡ []
  jump_contents v =
      ap (λ no_jump. map (zero_targets targets with_target) (cond no_jump (jump_to v ∷ []) []))
      (ap (λ flow. if flow then true else (if nat_lt 0 (length (targets (jump_to v))) then false else true)) (laws.jump_stops v)
      ∙ ap (λ ts. if nat_lt 0 (length ts) then false else true) (laws.jump_targets v))

  not_entry : (b c : ℕ) → c ≡ number b → 0 < c → 0 < b
  not_entry zero c is later = absurd (omega (arith, numbers_head 0 splits))
  not_entry (suc b) c is later = omega arith

  other_contents : (c : ℕ) → 0 < c → Kind c → (contents targets with_target flows_on (block_at g c) ≡ []) ⊎ HasContents targets with_target flows_on f (block_at g c)
  other_contents c later (Whole b is below at stands) =
      inr (record { number = b; later = not_entry b c at later; within = below; same = ap (contents targets with_target flows_on) stands ∙ whole_contents b })
  other_contents c later (Branch b is below at stands) =
      inr (record { number = b; later = not_entry b c at later; within = below; same = ap (contents targets with_target flows_on) stands ∙ one_contents (number b + 2) b })
  other_contents c later (Fall b is below at stands) = inl (ap (contents targets with_target flows_on) stands ∙ jump_contents (number (b + 1)))
  other_contents c later (Target b is below at stands) = inl (ap (contents targets with_target flows_on) stands ∙ jump_contents (number (branches b is).target))

  pub split_contents : KeepsBlocks targets with_target flows_on f g
  split_contents = record {
    entry =
        ap (λ n. contents targets with_target flows_on (block_at g n)) (sym (numbers_head 0 splits))
        ∙ block_contents 0 (get_or splits 0 false) refl (none_stop targets flows_on f ends);
    others = λ c later below. other_contents c later (kind_of c below);
  }

  -- the last block of the result
  not_split : (b : ℕ) (s : Bool) → get_or splits b false ≡ s → b < length f → length f ≤ suc b → get_or splits b false ≡ false
  not_split b false is below last = is
  not_split b true is below last = absurd (omega (arith, branch_next b is below))

  flow_stops : (flow : Bool) → (flow ≡ true → ⊥) → IsTrue (if flow then false else true)
  flow_stops true never = absurd (never refl)
  flow_stops false never = refl

  last_stops : (b : ℕ) (o : Option I) → b < length f → length f ≤ suc b → last_of (block_at f b) ≡ o → IsTrue (insn_stops flows_on (option_map ren o))
  last_stops b None below end is = absurd (omega (arith, after_none b below is))
  last_stops b (Some i) below end is = flow_stops (flows_on (ren i)) (λ flows.
      omega (arith, after_flow b i below is (sym (renumber_flows reads writes targets with_target jump_to flows_on traps laws numbers i) ∙ flows)))

  pub split_stops : IsTrue (stops flows_on g)
  split_stops =
      let some : 0 < length f = none_stop targets flows_on f ends in
      let b : ℕ = length f - 1 in
      let below : b < length f = omega arith in
      let whole : get_or splits b false ≡ false = not_split b (get_or splits b false) refl below (omega arith) in
      let next : number (suc b) ≡ length g = ap number (let same : suc b ≡ length f = omega arith in same) ∙ sym length_g in
      let at : length g - 1 ≡ number b = omega (arith, next, whole_next b whole below) in
      let last : last_of g ≡ Some (block_at g (number b)) = ap (slice_get g) at ∙ slice_get-get_or g (number b) [] (number_within b below) in
      subst (λ o. IsTrue (block_stops flows_on o)) (sym last)
      (subst (λ o. IsTrue (insn_stops flows_on o)) (sym (ap last_of (whole_at b whole below) ∙ last_map ren (block_at f b)))
      (last_stops b (last_of (block_at f b)) below (omega arith) refl))

  -- jumps back
  record InBlock (o : Option (List I)) (at : ℕ) (i : I) : Type 0 where
    insns : List I
    is : o ≡ Some insns
    has : slice_get insns at ≡ Some i

  in_block : (o : Option (List I)) (at : ℕ) (i : I) → insn_in o at ≡ Some i → InBlock o at i
  in_block None at i has = absurd (none-some i has)
  in_block (Some insns) at i has = record { insns = insns; is = refl; has = has }

  record Before (change : I → I) (o : Option I) (j : I) : Type 0 where
    insn : I
    is : o ≡ Some insn
    same : change insn ≡ j

  before_map : (change : I → I) (o : Option I) (j : I) → option_map change o ≡ Some j → Before change o j
  before_map change None j has = absurd (none-some j has)
  before_map change (Some i) j has = record { insn = i; is = refl; same = same_Some (change i) j has }

  -- a block to which a jump or branch went back, with the contents of one of the result
  abbrev WentBack : ℕ → Type 0
  WentBack to = (from : ℕ) × GoesBack targets f from × (contents targets with_target flows_on (block_at g to) ≡ contents targets with_target flows_on (block_at f from))

  not_ahead : (t b : ℕ) → b < length f → t < length f → number t < number b + places (get_or splits b false) → t ≤ b
  not_ahead t b below there early = elim (cases_lt b t) [
    | inl later ↦ absurd (omega (arith, numbers_rise splits b t later (omega (arith, count))))
    | inr done ↦ done
  ]

  went_back : (b at : ℕ) (i : I) (t : ℕ) → b < length f → slice_get (block_at f b) at ≡ Some i → Contains (targets i) t → number t < number b + places (get_or splits b false) → WentBack (number t)
  went_back b at i t below has c early =
      let there : t < length f = (target_goes targets flows_on f goes ends b at i below has t c).1 in (
        t,
        record {
          block = b;
          at = at;
          insn = i;
          stands = ap (λ o. insn_in o at) (slice_get-get_or f b [] below) ∙ has;
          leads = c;
          back = not_ahead t b below there early;
        },
        block_contents t (get_or splits t false) refl there,
      )

  whole_back : (b at to : ℕ) (j : I) → get_or splits b false ≡ false → b < length f → slice_get (map ren (block_at f b)) at ≡ Some j → Contains (targets j) to → to ≤ number b → WentBack to
  whole_back b at to j is below has leads back =
      let before = before_map ren (slice_get (block_at f b) at) j (sym (slice_get-map ren (block_at f b) at) ∙ has) in
      let i : I = before.insn in
      let targets_are : targets j ≡ map (λ (block : ℕ). slice_index_or numbers block 0) (targets i) =
      ap targets (sym before.same) ∙ renumber_targets reads writes targets with_target jump_to flows_on traps laws numbers i in
      let k : ℕ = leads.0 in
      let inside : k < length (targets i) = omega (arith, leads.1, ap length targets_are, length-map (λ (block : ℕ). slice_index_or numbers block 0) (targets i)) in
      let t : ℕ = get_or (targets i) k 0 in
      let number_t : number t ≡ to =
      sym (get_or_map (λ (block : ℕ). slice_index_or numbers block 0) (targets i) k 0 to inside) ∙ ap (λ ts. get_or ts k to) (sym targets_are) ∙ leads.2 in
      subst WentBack number_t
      (went_back b at i t below before.is (k, inside, get_or_default (targets i) k t 0 inside) (omega (arith, number_t, back, places_some (get_or splits b false))))

  one_ahead : (b at to : ℕ) (j : I) → slice_get (map (one_to (number b + 2)) (block_at f b)) at ≡ Some j → Contains (targets j) to → to ≡ number b + 2
  one_ahead b at to j has leads =
      let before = before_map (one_to (number b + 2)) (slice_get (block_at f b) at) j (sym (slice_get-map (one_to (number b + 2)) (block_at f b) at) ∙ has) in
      let i : I = before.insn in
      let new : List ℕ = map (λ _. number b + 2) (targets i) in
      let long = length-map (λ (_ : ℕ). number b + 2) (targets i) in
      let now : targets j ≡ new = ap targets (sym before.same) ∙ targets_all reads writes targets with_target jump_to flows_on traps laws new (targets i) [] [] i (sym (append-nil (targets i))) (sym long) ∙ append-nil new in
      let inside : leads.0 < length (targets i) = omega (arith, leads.1, ap length now, long) in
      sym leads.2 ∙ ap (λ ts. get_or ts leads.0 to) now ∙ get_or_map (λ (_ : ℕ). number b + 2) (targets i) leads.0 0 to inside

  jump_leads : (v at to : ℕ) (j : I) → slice_get (jump_to v ∷ []) at ≡ Some j → Contains (targets j) to → to ≡ v
  jump_leads v zero to j has leads =
      let at : Contains (v ∷ []) to = subst (λ ts. Contains ts to) (ap targets (sym (same_Some (jump_to v) j has)) ∙ laws.jump_targets v) leads in
      one_only targets flows_on v to at.0 at.1 at.2
  jump_leads v (suc at) to j has leads = let clash : ⊥ = cc in absurd clash

  kind_back : (c at to : ℕ) (j : I) → Kind c → slice_get (block_at g c) at ≡ Some j → Contains (targets j) to → to ≤ c → WentBack to
  kind_back c at to j (Whole b is below place stands) has leads back =
      whole_back b at to j is below (ap (λ xs. slice_get xs at) (sym stands) ∙ has) leads (omega (arith, place, back))
  kind_back c at to j (Branch b is below place stands) has leads back =
      absurd (omega (arith, place, back, one_ahead b at to j (ap (λ xs. slice_get xs at) (sym stands) ∙ has) leads))
  kind_back c at to j (Fall b is below place stands) has leads back =
      absurd (omega (arith, place, back, jump_leads (number (b + 1)) at to j (ap (λ xs. slice_get xs at) (sym stands) ∙ has) leads, numbers_rise splits b (b + 1) (omega arith) (omega (arith, count, below)), ap places is))
  kind_back c at to j (Target b is below place stands) has leads back =
      let branch = branches b is in
      let to_is : to ≡ number branch.target = jump_leads (number branch.target) at to j (ap (λ xs. slice_get xs at) (sym stands) ∙ has) leads in
      subst WentBack (sym to_is)
      (went_back b (length (block_at f b) - 1) branch.insn branch.target below branch.last
      (subst (λ ts. Contains ts branch.target) (sym branch.one) (0, omega arith, refl))
      (omega (arith, to_is, back, place, ap places is)))

  pub split_back : KeepsBack targets with_target flows_on f g
  split_back to back =
      let stands = in_block (slice_get g back.block) back.at back.insn back.stands in
      let below : back.block < length g = slice_get_within g back.block stands.insns stands.is in
      let is : block_at g back.block ≡ stands.insns = get_or_from_slice_get g back.block stands.insns [] stands.is in
      kind_back back.block back.at to back.insn (kind_of back.block below) (ap (λ xs. slice_get xs back.at) is ∙ stands.has) back.leads back.back

  -- the followers of the blocks after, by those before
  pub jump_followers : (c v : ℕ) → successors_of targets flows_on c (jump_to v ∷ []) ≡ v ∷ []
  jump_followers c v =
      ap (λ ts. ts ++ (if flows_on (jump_to v) then suc c ∷ [] else [])) (laws.jump_targets v)
      ∙ ap (λ flow. v ∷ (if flow then suc c ∷ [] else [])) (laws.jump_stops v)

  fall_list : (flow : Bool) (b : ℕ) → suc (number b) ≡ number (suc b) → (if flow then suc (number b) ∷ [] else []) ≡ map number (if flow then suc b ∷ [] else [])
  fall_list true b next = ap (λ n. n ∷ []) next
  fall_list false b next = refl

  whole_after : (b : ℕ) (o : Option I) → suc (number b) ≡ number (suc b) → successors_after targets flows_on (number b) (option_map ren o) ≡ map number (successors_after targets flows_on b o)
  whole_after b None next = ap (λ n. n ∷ []) next
  whole_after b (Some i) next =
      ap (λ ts. ts ++ (if flows_on (ren i) then suc (number b) ∷ [] else [])) (renumber_targets reads writes targets with_target jump_to flows_on traps laws numbers i)
      ∙ ap (λ flow. map (λ block. slice_index_or numbers block 0) (targets i) ++ (if flow then suc (number b) ∷ [] else [])) (renumber_flows reads writes targets with_target jump_to flows_on traps laws numbers i)
      ∙ ap (λ xs. map (λ block. slice_index_or numbers block 0) (targets i) ++ xs) (fall_list (flows_on i) b next)
      ∙ sym (map-append number (targets i) (if flows_on i then suc b ∷ [] else []))

  pub whole_followers : (b : ℕ) → get_or splits b false ≡ false → b < length f → successors_of targets flows_on (number b) (map ren (block_at f b)) ≡ map number (successors_of targets flows_on b (block_at f b))
  whole_followers b is below =
      ap (successors_after targets flows_on (number b)) (last_map ren (block_at f b)) ∙ whole_after b (last_of (block_at f b)) (whole_next b is below)

  branch_before : (b : ℕ) (is : get_or splits b false ≡ true) → successors_of targets flows_on b (block_at f b) ≡ (branches b is).target ∷ suc b ∷ []
  branch_before b is =
      let branch = branches b is in
      ap (successors_after targets flows_on b) branch.last
      ∙ ap (λ ts. ts ++ (if flows_on branch.insn then suc b ∷ [] else [])) branch.one
      ∙ ap (λ flow. branch.target ∷ (if flow then suc b ∷ [] else [])) branch.flows

  pub branch_followers : (b : ℕ) → get_or splits b false ≡ true → successors_of targets flows_on (number b) (map (one_to (number b + 2)) (block_at f b)) ≡ (number b + 2) ∷ suc (number b) ∷ []
  branch_followers b is =
      let branch = branches b is in
      let i : I = branch.insn in
      let to : ℕ = number b + 2 in
      let new : List ℕ = map (λ _. to) (targets i) in
      let long : length (targets i) ≡ length new = sym (length-map (λ (_ : ℕ). to) (targets i)) in
      let now : targets (one_to to i) ≡ to ∷ [] = targets_all reads writes targets with_target jump_to flows_on traps laws new (targets i) [] [] i (sym (append-nil (targets i))) long ∙ append-nil new ∙ ap (map (λ _. to)) branch.one in
      let flows : flows_on (one_to to i) ≡ true = flows_all reads writes targets with_target jump_to flows_on traps laws i 0 new ∙ branch.flows in
      ap (successors_after targets flows_on (number b)) (last_map (one_to to) (block_at f b) ∙ ap (option_map (one_to to)) branch.last)
      ∙ ap (λ ts. ts ++ (if flows_on (one_to to i) then suc (number b) ∷ [] else [])) now
      ∙ ap (λ flow. to ∷ (if flow then suc (number b) ∷ [] else [])) flows

  followers_within : (b : ℕ) → b < length f → All (λ t. t < length f) (successors_of targets flows_on b (block_at f b))
  followers_within b below k d inside =
      let nexts : List ℕ = successors_of targets flows_on b (block_at f b) in
      successor_within targets flows_on f goes ends b (get_or nexts k d) below (Contains-get_or nexts k d inside)

  pub rises : (b t : ℕ) → b < t → t ≤ length f → number b < number t
  rises b t before within = omega (arith, numbers_rise splits b t before (omega (arith, count)), places_some (get_or splits b false))

  pub gap : (b : ℕ) → get_or splits b false ≡ true → b < length f → number (suc b) ≡ number b + 3
  gap b is below = numbers_next 0 splits b (omega (arith, count)) ∙ ap (λ s. number b + places s) is

  spreads_from : (n first : ℕ) (ss : List Bool) (xs : List (List I)) → length ss ≡ length xs → n + length xs ≡ length f → ((j : ℕ) → get_or ss j false ≡ get_or splits (n + j) false) → ((j : ℕ) → get_or xs j [] ≡ block_at f (n + j)) → first ≡ number n → Spreads number (length f) n (successors_from targets flows_on n xs) (successors_from targets flows_on first (split_from targets with_target jump_to numbers n ss xs))
  spreads_from n first [] [] same long split_at at first_is = NoBlock
  spreads_from n first [] (x ∷ xs) same long split_at at first_is = absurd (omega arith)
  spreads_from n first (s ∷ ss) [] same long split_at at first_is = absurd (omega arith)
  spreads_from n first (false ∷ ss) (x ∷ xs) same long split_at at first_is =
      let here : n + 0 ≡ n = omega arith in
      let below : n < length f = omega arith in
      let is : get_or splits n false ≡ false = ap (λ m. get_or splits m false) (sym here) ∙ sym (split_at 0) in
      let x_is : x ≡ block_at f n = at 0 ∙ ap (block_at f) here in
      IsWhole (successors_of targets flows_on n x) (successors_of targets flows_on first (map ren x))
      (ap (λ y. successors_of targets flows_on first (map ren y)) x_is
      ∙ ap (λ m. successors_of targets flows_on m (map ren (block_at f n))) first_is
      ∙ whole_followers n is below
      ∙ ap (λ y. map number (successors_of targets flows_on n y)) (sym x_is))
      (subst (λ y. All (λ t. t < length f) (successors_of targets flows_on n y)) (sym x_is) (followers_within n below))
      (spreads_from (suc n) (suc first) ss xs (omega arith) (omega arith)
      (λ j. split_at (suc j) ∙ ap (λ m. get_or splits m false) (let moved : n + suc j ≡ suc n + j = omega arith in moved))
      (λ j. at (suc j) ∙ ap (block_at f) (let moved : n + suc j ≡ suc n + j = omega arith in moved))
      (ap suc first_is ∙ whole_next n is below))
  spreads_from n first (true ∷ ss) (x ∷ xs) same long split_at at first_is =
      let here : n + 0 ≡ n = omega arith in
      let below : n < length f = omega arith in
      let is : get_or splits n false ≡ true = ap (λ m. get_or splits m false) (sym here) ∙ sym (split_at 0) in
      let x_is : x ≡ block_at f n = at 0 ∙ ap (block_at f) here in
      let branch = branches n is in
      let one : n + 1 ≡ suc n = omega arith in
      let target : ℕ = target_after targets (last_of x) in
      let target_is : target ≡ branch.target = ap (λ y. target_after targets (last_of y)) x_is ∙ ap (target_after targets) branch.last ∙ ap (λ ts. slice_index_or ts 0 0) branch.one in
      IsCut (successors_of targets flows_on n x) (successors_of targets flows_on first (map (one_to (number n + 2)) x)) (successors_of targets flows_on (suc first) (jump_to (number (n + 1)) ∷ [])) (successors_of targets flows_on (suc (suc first)) (jump_to (number target) ∷ [])) branch.target (suc n)
      (ap (successors_of targets flows_on n) x_is ∙ branch_before n is)
      (ap (λ y. successors_of targets flows_on first (map (one_to (number n + 2)) y)) x_is
      ∙ ap (λ m. successors_of targets flows_on m (map (one_to (number n + 2)) (block_at f n))) first_is
      ∙ branch_followers n is)
      (jump_followers (suc first) (number (n + 1)) ∙ ap (λ m. number m ∷ []) one)
      (jump_followers (suc (suc first)) (number target) ∙ ap (λ m. number m ∷ []) target_is)
      below (branch_target n is below).1 (omega (arith, branch_next n is below)) (omega (arith, gap n is below))
      (spreads_from (suc n) (suc (suc (suc first))) ss xs (omega arith) (omega arith)
      (λ j. split_at (suc j) ∙ ap (λ m. get_or splits m false) (let moved : n + suc j ≡ suc n + j = omega arith in moved))
      (λ j. at (suc j) ∙ ap (block_at f) (let moved : n + suc j ≡ suc n + j = omega arith in moved))
      (omega (arith, first_is, gap n is below)))

  pub spreads : Spreads number (length f) 0 (successors_from targets flows_on 0 f) (successors_from targets flows_on 0 g)
  spreads =
      spreads_from 0 0 splits f count (omega arith)
      (λ j. ap (λ m. get_or splits m false) (let same : j ≡ 0 + j = omega arith in same))
      (λ j. ap (block_at f) (let same : j ≡ 0 + j = omega arith in same))
      (sym (numbers_head 0 splits))
