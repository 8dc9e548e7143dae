-- Instructions whose targets are changed.
use Rattle.std.proofs.Common.{◌≡◌, ◌≢◌, ℕ, zero, suc, ◌+◌, ◌<◌, ◌≤◌, Bool, List, [], ◌∷◌, ◌++◌, map, length, set, refl, sym, ap, subst, ◌∙◌, inl, inr, arith, length-append, length-set, append_assoc, append-nil, slice_index_or}
use Rattle.std.proofs.Common.{Some, None, slice_get}
use Rattle.std.proofs.lemmas.Bool.{cases_lt}
use Rattle.std.proofs.lemmas.List.Elements.{All-contains}
use Rattle.std.proofs.lemmas.Option.{slice_get_within, get_or_from_slice_get, none-some, same_Some}
use Rattle.std.specs.Prelude.{All}
use Rattle.pass_core.specs.Insns.{InsnLaws}
use Rattle.cfg.specs.Walks.{zero_targets_from, zero_targets}
use Rattle.cfg.specs.Renumber.{with_targets, renumber}

set_seam : (front : List ℕ) (old new : ℕ) (back : List ℕ) → set (front ++ old ∷ back) (length front) new ≡ front ++ new ∷ back
set_seam [] old new back = refl
set_seam (x ∷ front) old new back = ap (λ xs. x ∷ xs) (set_seam front old new back)

pub length-map : {A B : Type 0} (f : A → B) (xs : List A) → length (map f xs) ≡ length xs
length-map f [] = refl
length-map f (x ∷ xs) = ap suc (length-map f xs)

module _ {I : Type 0} (reads writes targets : I → List ℕ) (with_target : I → ℕ → ℕ → I) (jump_to : ℕ → I) (flows_on traps : I → Bool) (laws : InsnLaws reads writes targets with_target jump_to flows_on traps) where
  length_kept : (i : I) (k block : ℕ) → k < length (targets i) → length (targets (with_target i k block)) ≡ length (targets i)
  length_kept i k block below = ap length (laws.sets_target i k block below) ∙ length-set (targets i) k block

  bare_other : (n j k block : ℕ) (i : I) → k < length (targets i) → j + n ≤ length (targets i) → j ≤ k → k < j + n → zero_targets_from with_target (with_target i k block) j n ≡ zero_targets_from with_target i j n
  bare_other zero j k block i below within low high = absurd (omega arith)
  bare_other (suc n) j k block i below within low high = elim (cases_lt j k) [
    | inl apart ↦
        let differ : k ≢ j = λ same. omega arith in
        let there : j < length (targets i) = omega arith in
        let same : length (targets (with_target i j 0)) ≡ length (targets i) = length_kept i j 0 there in
        ap (λ x. zero_targets_from with_target x (suc j) n) (laws.sets_apart i k j block 0 differ below there)
        ∙ bare_other n (suc j) k block (with_target i j 0) (omega (arith, same)) (omega (arith, same)) (omega arith) (omega arith)
    | inr reached ↦
        let same : j ≡ k = omega arith in
        let again : with_target (with_target i k block) j 0 ≡ with_target i j 0 =
        subst (λ m. with_target (with_target i m block) j 0 ≡ with_target i j 0) same (laws.sets_again i j block 0) in
        ap (λ x. zero_targets_from with_target x (suc j) n) again
  ]

  -- the instruction without its targets stays when one is changed
  bare_kept : (i : I) (k block : ℕ) → k < length (targets i) → zero_targets targets with_target (with_target i k block) ≡ zero_targets targets with_target i
  bare_kept i k block below =
      ap (λ n. zero_targets_from with_target (with_target i k block) 0 n) (length_kept i k block below)
      ∙ bare_other (length (targets i)) 0 k block i below (omega arith) (omega arith) (omega arith)

  pub bare_all : (i : I) (k : ℕ) (blocks : List ℕ) → k + length blocks ≤ length (targets i) → zero_targets targets with_target (with_targets with_target i k blocks) ≡ zero_targets targets with_target i
  bare_all i k [] within = refl
  bare_all i k (block ∷ blocks) within =
      let below : k < length (targets i) = omega arith in
      bare_all (with_target i k block) (suc k) blocks (omega (arith, length_kept i k block below)) ∙ bare_kept i k block below

  pub flows_all : (i : I) (k : ℕ) (blocks : List ℕ) → flows_on (with_targets with_target i k blocks) ≡ flows_on i
  flows_all i k [] = refl
  flows_all i k (block ∷ blocks) = flows_all (with_target i k block) (suc k) blocks ∙ laws.keeps_flow i k block

  pub reads_all : (i : I) (k : ℕ) (blocks : List ℕ) → reads (with_targets with_target i k blocks) ≡ reads i
  reads_all i k [] = refl
  reads_all i k (block ∷ blocks) = reads_all (with_target i k block) (suc k) blocks ∙ laws.keeps_reads i k block

  pub writes_all : (i : I) (k : ℕ) (blocks : List ℕ) → writes (with_targets with_target i k blocks) ≡ writes i
  writes_all i k [] = refl
  writes_all i k (block ∷ blocks) = writes_all (with_target i k block) (suc k) blocks ∙ laws.keeps_writes i k block

  -- the targets after a change of some of them
  pub targets_all : (blocks old front back : List ℕ) (i : I) → targets i ≡ front ++ (old ++ back) → length old ≡ length blocks → targets (with_targets with_target i (length front) blocks) ≡ front ++ (blocks ++ back)
  targets_all [] [] front back i is same = is
  targets_all [] (o ∷ old) front back i is same = absurd (omega arith)
  targets_all (b ∷ blocks) [] front back i is same = absurd (omega arith)
  targets_all (b ∷ blocks) (o ∷ old) front back i is same =
      let below : length front < length (targets i) = omega (arith, ap length is, length-append front (o ∷ (old ++ back))) in
      let one : targets (with_target i (length front) b) ≡ (front ++ b ∷ []) ++ (old ++ back) =
      laws.sets_target i (length front) b below ∙ ap (λ ts. set ts (length front) b) is ∙ set_seam front o b (old ++ back) ∙ sym (append_assoc front (b ∷ []) (old ++ back)) in
      let place : length (front ++ b ∷ []) ≡ suc (length front) = omega (arith, length-append front (b ∷ [])) in
      subst (λ k. targets (with_targets with_target (with_target i (length front) b) k blocks) ≡ (front ++ b ∷ []) ++ (blocks ++ back)) place
      (targets_all blocks old (front ++ b ∷ []) back (with_target i (length front) b) one (omega arith))
      ∙ append_assoc front (b ∷ []) (blocks ++ back)

  -- an instruction has no target, or one
  pub no_target : (i : I) → None ≡ slice_get (targets i) 0 → [] ≡ targets i
  no_target i none = by_list (targets i) none
    where
      by_list : (ts : List ℕ) → None ≡ slice_get ts 0 → [] ≡ ts
      by_list [] none = refl
      by_list (t ∷ ts) none = absurd (none-some t none)

  pub only_target : (i : I) (block : ℕ) → Some block ≡ slice_get (targets i) 0 → block ∷ [] ≡ targets i
  only_target i block some = by_list (targets i) some (laws.one_target i)
    where
      by_list : (ts : List ℕ) → Some block ≡ slice_get ts 0 → length ts ≤ 1 → block ∷ [] ≡ ts
      by_list [] some one = absurd (none-some block (sym some))
      by_list (t ∷ []) some one = ap (λ b. b ∷ []) (same_Some block t some)
      by_list (t ∷ u ∷ ts) some one = absurd (omega arith)

  module _ (numbers : List ℕ) where
    pub renumber_bare : (i : I) → zero_targets targets with_target (renumber targets with_target numbers i) ≡ zero_targets targets with_target i
    renumber_bare i = bare_all i 0 (map (λ block. slice_index_or numbers block 0) (targets i)) (omega (arith, length-map (λ (block : ℕ). slice_index_or numbers block 0) (targets i)))

    pub renumber_flows : (i : I) → flows_on (renumber targets with_target numbers i) ≡ flows_on i
    renumber_flows i = flows_all i 0 (map (λ block. slice_index_or numbers block 0) (targets i))

    pub renumber_reads : (i : I) → reads (renumber targets with_target numbers i) ≡ reads i
    renumber_reads i = reads_all i 0 (map (λ block. slice_index_or numbers block 0) (targets i))

    pub renumber_writes : (i : I) → writes (renumber targets with_target numbers i) ≡ writes i
    renumber_writes i = writes_all i 0 (map (λ block. slice_index_or numbers block 0) (targets i))

    pub renumber_targets : (i : I) → targets (renumber targets with_target numbers i) ≡ map (λ block. slice_index_or numbers block 0) (targets i)
    renumber_targets i =
        let new = map (λ (block : ℕ). slice_index_or numbers block 0) (targets i) in
        targets_all new (targets i) [] [] i (sym (append-nil (targets i))) (sym (length-map (λ (block : ℕ). slice_index_or numbers block 0) (targets i))) ∙ append-nil new

    pub none_renumbered : (i : I) → None ≡ slice_get (targets i) 0 → i ≡ renumber targets with_target numbers i
    none_renumbered i none = ap (λ ts. with_targets with_target i 0 (map (λ block. slice_index_or numbers block 0) ts)) (no_target i none)

    pub one_renumbered : (i j : I) (block number : ℕ) → Some block ≡ slice_get (targets i) 0 → number ≡ slice_index_or numbers block 0 → j ≡ with_target i 0 number → j ≡ renumber targets with_target numbers i
    one_renumbered i j block number some number_is is =
        is ∙ ap (with_target i 0) number_is
        ∙ ap (λ ts. with_targets with_target i 0 (map (λ block. slice_index_or numbers block 0) ts)) (only_target i block some)

    pub target_within : (i : I) (block : ℕ) → Some block ≡ slice_get (targets i) 0 → All (λ target. target < length numbers) (targets i) → block < length numbers
    target_within i block some all =
        All-contains (λ target. target < length numbers) (targets i) block all (0, slice_get_within (targets i) 0 block (sym some), get_or_from_slice_get (targets i) 0 block block (sym some))
