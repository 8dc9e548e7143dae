-- How many blocks and instructions come in, and that they are jumps alone.
use Rattle.std.proofs.Common.{◌≡◌, ℕ, suc, ◌+◌, ◌*◌, ◌≤◌, Bool, true, false, List, [], ◌∷◌, map, length, get_or, refl, ap, ◌∙◌, arith}
use Rattle.std.proofs.lemmas.List.Sums.{sum_by-cons}
use Rattle.pass_core.specs.Insns.{InsnLaws}
use Rattle.pass_core.specs.Functions.{last_of, count_of}
use Rattle.cfg.specs.Walks.{zero_targets}
use Rattle.cfg.specs.Renumber.{renumber}
use Rattle.cfg.specs.model.Search.{marked_count}
use Rattle.cfg.proofs.Bare.{length-map, bare_all, renumber_bare}
use Rattle.cfg_edges.specs.Added.{AddsJumps, NoBlocks, SameBlock, NewBlock}
use Rattle.cfg_edges.specs.model.Split.{target_after, to_one, split_from}

pub marked_most : (marks : List Bool) → marked_count marks ≤ length marks
marked_most [] = omega arith
marked_most (true ∷ marks) = omega (arith, marked_most marks)
marked_most (false ∷ marks) = omega (arith, marked_most marks)

module _ {I : Type 0} (targets : I → List ℕ) (with_target : I → ℕ → ℕ → I) (jump_to : ℕ → I) (numbers : List ℕ) where
  pub added_blocks : (n : ℕ) (splits : List Bool) (blocks : List (List I)) → length splits ≡ length blocks → length (split_from targets with_target jump_to numbers n splits blocks) ≡ length blocks + 2 * marked_count splits
  added_blocks n [] [] same = refl
  added_blocks n [] (x ∷ blocks) same = absurd (omega arith)
  added_blocks n (s ∷ splits) [] same = absurd (omega arith)
  added_blocks n (true ∷ splits) (x ∷ blocks) same = omega (arith, added_blocks (suc n) splits blocks (omega arith))
  added_blocks n (false ∷ splits) (x ∷ blocks) same = omega (arith, added_blocks (suc n) splits blocks (omega arith))

  count_more : (x : List I) (blocks : List (List I)) → count_of (x ∷ blocks) ≡ length x + count_of blocks
  count_more x blocks = sum_by-cons (λ (block : List I). length block) x blocks

  pub added_insns : (n : ℕ) (splits : List Bool) (blocks : List (List I)) → length splits ≡ length blocks → count_of (split_from targets with_target jump_to numbers n splits blocks) ≡ count_of blocks + 2 * marked_count splits
  added_insns n [] [] same = refl
  added_insns n [] (x ∷ blocks) same = absurd (omega arith)
  added_insns n (s ∷ splits) [] same = absurd (omega arith)
  added_insns n (false ∷ splits) (x ∷ blocks) same =
      let new : List I = map (renumber targets with_target numbers) x in
      let behind : List (List I) = split_from targets with_target jump_to numbers (suc n) splits blocks in
      omega (arith, count_more new behind, count_more x blocks, length-map (renumber targets with_target numbers) x, added_insns (suc n) splits blocks (omega arith))
  added_insns n (true ∷ splits) (x ∷ blocks) same =
      let change : I → I = to_one targets with_target (get_or numbers n 0 + 2) in
      let fall : List I = jump_to (get_or numbers (n + 1) 0) ∷ [] in
      let jump : List I = jump_to (get_or numbers (target_after targets (last_of x)) 0) ∷ [] in
      let behind : List (List I) = split_from targets with_target jump_to numbers (suc n) splits blocks in
      omega (
        arith,
        count_more (map change x) (fall ∷ jump ∷ behind),
        count_more fall (jump ∷ behind),
        count_more jump behind,
        count_more x blocks,
        length-map change x,
        added_insns (suc n) splits blocks (omega arith),
      )

module _ {I : Type 0} (reads writes targets : I → List ℕ) (with_target : I → ℕ → ℕ → I) (jump_to : ℕ → I) (flows_on traps : I → Bool) (laws : InsnLaws reads writes targets with_target jump_to flows_on traps) (numbers : List ℕ) where
  same_bare : (change : I → I) → ((i : I) → zero_targets targets with_target (change i) ≡ zero_targets targets with_target i) → (xs : List I) → map (zero_targets targets with_target) (map change xs) ≡ map (zero_targets targets with_target) xs
  same_bare change same [] = refl
  same_bare change same (x ∷ xs) =
      ap (λ y. y ∷ map (zero_targets targets with_target) (map change xs)) (same x)
      ∙ ap (λ ys. zero_targets targets with_target x ∷ ys) (same_bare change same xs)

  pub adds_jumps : (n : ℕ) (splits : List Bool) (blocks : List (List I)) → length splits ≡ length blocks → AddsJumps targets with_target jump_to blocks (split_from targets with_target jump_to numbers n splits blocks)
  adds_jumps n [] [] same = NoBlocks
  adds_jumps n [] (x ∷ blocks) same = absurd (omega arith)
  adds_jumps n (s ∷ splits) [] same = absurd (omega arith)
  adds_jumps n (false ∷ splits) (x ∷ blocks) same =
      SameBlock x (map (renumber targets with_target numbers) x)
      (same_bare (renumber targets with_target numbers) (renumber_bare reads writes targets with_target jump_to flows_on traps laws numbers) x)
      (adds_jumps (suc n) splits blocks (omega arith))
  adds_jumps n (true ∷ splits) (x ∷ blocks) same =
      let to : ℕ = get_or numbers n 0 + 2 in
      SameBlock x (map (to_one targets with_target to) x)
      (same_bare (to_one targets with_target to)
      (λ i. bare_all reads writes targets with_target jump_to flows_on traps laws i 0 (map (λ _. to) (targets i)) (omega (arith, length-map (λ (_ : ℕ). to) (targets i)))) x)
      (NewBlock (get_or numbers (n + 1) 0)
      (NewBlock (get_or numbers (target_after targets (last_of x)) 0) (adds_jumps (suc n) splits blocks (omega arith))))
