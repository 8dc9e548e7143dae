-- Why instructions with at most one target are lawful: a target is all that setting it changes.
use Rattle.std.proofs.Common.{◌≡◌, ◌≢◌, ◌≤◌, arith, length, ℕ, zero, suc, Bool, true, false, List, [], ◌∷◌, Option, Some, refl, ap, sym, subst, ◌∙◌}
use Rattle.std.specs.Prelude.{slice_get, slice_set}
use Rattle.pass_core.specs.Insns.{InsnLaws}

pub clash : (b : Bool) → b ≡ true → b ≡ false → ⊥
clash b h k = cc

some_is : (a b : ℕ) → (let x : Option ℕ = Some a in x ≡ Some b) → b ≡ a
some_is a b h = cc

head_is : (a b : ℕ) (bs : List ℕ) → (let x : List ℕ = a ∷ [] in x ≡ b ∷ bs) → a ≡ b
head_is a b bs h = cc

nothing : (x : List ℕ) (b : ℕ) (bs : List ℕ) → x ≡ [] → x ≡ b ∷ bs → ⊥
nothing x b bs h k = cc

module _ {I : Type 0} (reads writes targets : I → List ℕ) (with_target : I → ℕ → ℕ → I) (jump_to : ℕ → I) (flows_on traps : I → Bool) where
  -- an instruction as a function of its target, on which nothing else depends
  pub record GoesTo (at : ℕ → I) : Type 0 where
    pub targets_at : (block : ℕ) → targets (at block) ≡ block ∷ []
    pub sets : (old block : ℕ) → with_target (at old) zero block ≡ at block
    pub keeps : (old k block : ℕ) → with_target (at old) (suc k) block ≡ at old
    pub reads_at : (a b : ℕ) → reads (at a) ≡ reads (at b)
    pub writes_at : (a b : ℕ) → writes (at a) ≡ writes (at b)
    pub flow_at : (a b : ℕ) → flows_on (at a) ≡ flows_on (at b)
    pub traps_at : (a b : ℕ) → traps (at a) ≡ traps (at b)
    pub jumps_at : (block : ℕ) → flows_on (at block) ≡ false → at block ≡ jump_to block

  -- the jump to a block
  pub record IsJump : Type 0 where
    pub goes : GoesTo jump_to
    pub reads_none : (block : ℕ) → reads (jump_to block) ≡ []
    pub writes_none : (block : ℕ) → writes (jump_to block) ≡ []
    pub stops : (block : ℕ) → flows_on (jump_to block) ≡ false
    pub no_trap : (block : ℕ) → traps (jump_to block) ≡ false

  -- an instruction with a target, and any other one
  pub data Kind (i : I) : Type 0 where
    HasOne : (at : ℕ → I) (block : ℕ) → at block ≡ i → GoesTo at → Kind i
    HasNone : ((k block : ℕ) → with_target i k block ≡ i) → targets i ≡ [] → Kind i

  one_at : (at : ℕ → I) → GoesTo at → (old : ℕ) → length (targets (at old)) ≤ 1
  one_at at g old = omega (arith, ap length (g.targets_at old))

  sets_at : (at : ℕ → I) → GoesTo at → (old k block : ℕ) →
      targets (with_target (at old) k block) ≡ slice_set (targets (at old)) k block
  sets_at at g old zero block =
      ap targets (g.sets old block) ∙ g.targets_at block ∙ sym (ap (λ ts. slice_set ts zero block) (g.targets_at old))
  sets_at at g old (suc k) block =
      ap targets (g.keeps old k block) ∙ g.targets_at old
      ∙ sym (ap (λ ts. slice_set ts (suc k) block) (g.targets_at old))

  kept_at : (A : Type 0) (f : I → A) (at : ℕ → I) → GoesTo at → ((a b : ℕ) → f (at a) ≡ f (at b)) →
      (old k block : ℕ) → f (with_target (at old) k block) ≡ f (at old)
  kept_at A f at g same old zero block = ap f (g.sets old block) ∙ same block old
  kept_at A f at g same old (suc k) block = ap f (g.keeps old k block)

  again_at : (at : ℕ → I) → GoesTo at → (old k block other : ℕ) →
      with_target (with_target (at old) k block) k other ≡ with_target (at old) k other
  again_at at g old zero block other =
      ap (λ i. with_target i zero other) (g.sets old block) ∙ g.sets block other ∙ sym (g.sets old other)
  again_at at g old (suc k) block other = ap (λ i. with_target i (suc k) other) (g.keeps old k block)

  same_at : (at : ℕ → I) → GoesTo at → (old k block : ℕ) → slice_get (targets (at old)) k ≡ Some block →
      with_target (at old) k block ≡ at old
  same_at at g old zero block is =
      g.sets old block ∙ ap at (some_is old block (sym (ap (λ ts. slice_get ts zero) (g.targets_at old)) ∙ is))
  same_at at g old (suc k) block is = g.keeps old k block

  apart_at : (at : ℕ → I) → GoesTo at → (old j k block other : ℕ) → j ≢ k →
      with_target (with_target (at old) j block) k other ≡ with_target (with_target (at old) k other) j block
  apart_at at g old zero zero block other ne = absurd (ne refl)
  apart_at at g old zero (suc k) block other ne =
      ap (λ i. with_target i (suc k) other) (g.sets old block) ∙ g.keeps block k other
      ∙ sym (ap (λ i. with_target i zero block) (g.keeps old k other) ∙ g.sets old block)
  apart_at at g old (suc j) zero block other ne =
      ap (λ i. with_target i zero other) (g.keeps old j block) ∙ g.sets old other
      ∙ sym (ap (λ i. with_target i (suc j) block) (g.sets old other) ∙ g.keeps other j block)
  apart_at at g old (suc j) (suc k) block other ne =
      ap (λ i. with_target i (suc k) other) (g.keeps old j block) ∙ g.keeps old k other
      ∙ sym (ap (λ i. with_target i (suc j) block) (g.keeps old k other) ∙ g.keeps old j block)

  only_at : (at : ℕ → I) → GoesTo at → (old block : ℕ) (others : List ℕ) → flows_on (at old) ≡ false →
      targets (at old) ≡ block ∷ others → at old ≡ jump_to block
  only_at at g old block others stops is =
      g.jumps_at old stops ∙ ap jump_to (head_is old block others (sym (g.targets_at old) ∙ is))

  one : (i : I) → Kind i → length (targets i) ≤ 1
  one i (HasOne at old is g) = subst (λ x. length (targets x) ≤ 1) is (one_at at g old)
  one i (HasNone same none) = omega (arith, ap length none)

  sets_one : (i : I) → Kind i → (k block : ℕ) → targets (with_target i k block) ≡ slice_set (targets i) k block
  sets_one i (HasOne at old is g) k block =
      subst (λ x. targets (with_target x k block) ≡ slice_set (targets x) k block) is (sets_at at g old k block)
  sets_one i (HasNone same none) k block =
      ap targets (same k block) ∙ none ∙ sym (ap (λ ts. slice_set ts k block) none)

  -- what depends on no target is kept
  kept : (A : Type 0) (f : I → A) → ((at : ℕ → I) → GoesTo at → (a b : ℕ) → f (at a) ≡ f (at b)) → (i : I) → Kind i →
      (k block : ℕ) → f (with_target i k block) ≡ f i
  kept A f all i (HasOne at old is g) k block =
      subst (λ x. f (with_target x k block) ≡ f x) is (kept_at A f at g (all at g) old k block)
  kept A f all i (HasNone same none) k block = ap f (same k block)

  again : (i : I) → Kind i → (k block other : ℕ) →
      with_target (with_target i k block) k other ≡ with_target i k other
  again i (HasOne at old is g) k block other =
      subst (λ x. with_target (with_target x k block) k other ≡ with_target x k other) is
      (again_at at g old k block other)
  again i (HasNone same none) k block other = ap (λ x. with_target x k other) (same k block)

  same_target : (i : I) → Kind i → (k block : ℕ) → slice_get (targets i) k ≡ Some block → with_target i k block ≡ i
  same_target i (HasOne at old is g) k block =
      subst (λ x. slice_get (targets x) k ≡ Some block → with_target x k block ≡ x) is (same_at at g old k block)
  same_target i (HasNone same none) k block = λ h. same k block

  apart : (i : I) → Kind i → (j k block other : ℕ) → j ≢ k →
      with_target (with_target i j block) k other ≡ with_target (with_target i k other) j block
  apart i (HasOne at old is g) j k block other ne =
      subst (λ x. with_target (with_target x j block) k other ≡ with_target (with_target x k other) j block) is
      (apart_at at g old j k block other ne)
  apart i (HasNone same none) j k block other ne =
      ap (λ x. with_target x k other) (same j block) ∙ same k other
      ∙ sym (ap (λ x. with_target x j block) (same k other) ∙ same j block)

  only : (i : I) → Kind i → (block : ℕ) (others : List ℕ) → flows_on i ≡ false → targets i ≡ block ∷ others →
      i ≡ jump_to block
  only i (HasOne at old is g) block others =
      subst (λ x. flows_on x ≡ false → targets x ≡ block ∷ others → x ≡ jump_to block) is
      (only_at at g old block others)
  only i (HasNone same none) block others = λ stops is. absurd (nothing (targets i) block others none is)

  pub laws_of_kinds : IsJump → ((i : I) → Kind i) →
      InsnLaws reads writes targets with_target jump_to flows_on traps
  laws_of_kinds jump kind = record {
    one_target = λ i. one i (kind i);
    sets_target = λ i k block within. sets_one i (kind i) k block;
    keeps_reads = λ i k block. kept (List ℕ) reads (λ at g. g.reads_at) i (kind i) k block;
    keeps_writes = λ i k block. kept (List ℕ) writes (λ at g. g.writes_at) i (kind i) k block;
    keeps_flow = λ i k block. kept Bool flows_on (λ at g. g.flow_at) i (kind i) k block;
    keeps_traps = λ i k block. kept Bool traps (λ at g. g.traps_at) i (kind i) k block;
    sets_again = λ i k block other. again i (kind i) k block other;
    sets_same = λ i k block is. same_target i (kind i) k block is;
    sets_apart = λ i j k block other ne first_within within. apart i (kind i) j k block other ne;
    jump_targets = jump.goes.targets_at;
    jump_reads = jump.reads_none;
    jump_writes = jump.writes_none;
    jump_stops = jump.stops;
    jump_traps = jump.no_trap;
    only_jumps = λ i block others stops is. only i (kind i) block others stops is;
  }
