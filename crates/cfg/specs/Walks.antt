-- What is done along the paths of a function, whatever its blocks are numbered and wherever jumps lead. The targets of
-- instructions, their change, and whether what follows them may be done after them are parameters.
use Rattle.std.specs.Prelude.{◌≡◌, ℕ, zero, suc, ◌<◌, Bool, true, false, List, [], ◌∷◌, ◌↔◌, length, slice_get, slice_index_or, Some}

-- an instruction with n of its targets, from number k on, set to 0
abbrev pub zero_targets_from : {I : Type 0} → (with_target : I → ℕ → ℕ → I) → I → (k n : ℕ) → I
zero_targets_from with_target i k zero = i
zero_targets_from with_target i k (suc n) = zero_targets_from with_target (with_target i k 0) (suc k) n

-- an instruction with each target set to 0: so instructions of functions with other numbers of blocks are compared
abbrev pub zero_targets : {I : Type 0} → (targets : I → List ℕ) → (with_target : I → ℕ → ℕ → I) → I → I
zero_targets targets with_target i = zero_targets_from with_target i 0 (length (targets i))

-- a step of a walk
pub data Step (I : Type 0) : Type 0 where
  -- an instruction without targets is done
  Done : I → Step I
  -- a branch is done, and goes to its target of this number
  Taken : I → ℕ → Step I
  -- a branch is done, and goes on behind itself
  NotTaken : I → Step I

-- the instructions of a block
abbrev pub block_at : {I : Type 0} → List (List I) → ℕ → List I
block_at blocks number = slice_index_or blocks number []

-- What may be done from a place of a block, of which these instructions are left, up to any point: an instruction
-- without targets, after which the next one follows or nothing; a branch that is passed or taken; a jump, which is no
-- step itself; and the end of a block, which leads into the next one
pub data Walk {I : Type 0} (targets : I → List ℕ) (with_target : I → ℕ → ℕ → I) (flows_on : I → Bool)
    (blocks : List (List I)) : ℕ → List I → List (Step I) → Type 0 where
  Stops : {block : ℕ} {rest : List I} → Walk targets with_target flows_on blocks block rest []
  Goes : {block : ℕ} {rest : List I} {steps : List (Step I)} → (i : I) → length (targets i) ≡ 0
      → flows_on i ≡ true → Walk targets with_target flows_on blocks block rest steps
      → Walk targets with_target flows_on blocks block (i ∷ rest) (Done (zero_targets targets with_target i) ∷ steps)
  Returns : {block : ℕ} {rest : List I} → (i : I) → length (targets i) ≡ 0 → flows_on i ≡ false
      → Walk targets with_target flows_on blocks block (i ∷ rest) (Done (zero_targets targets with_target i) ∷ [])
  Passes : {block : ℕ} {rest : List I} {steps : List (Step I)} → (i : I) → 0 < length (targets i)
      → flows_on i ≡ true → Walk targets with_target flows_on blocks block rest steps
      → Walk targets with_target flows_on blocks block (i ∷ rest)
      (NotTaken (zero_targets targets with_target i) ∷ steps)
  Takes : {block : ℕ} {rest : List I} {steps : List (Step I)} → (i : I) (k target : ℕ)
      → slice_get (targets i) k ≡ Some target → flows_on i ≡ true
      → Walk targets with_target flows_on blocks target (block_at blocks target) steps
      → Walk targets with_target flows_on blocks block (i ∷ rest) (Taken (zero_targets targets with_target i) k ∷ steps)
  Jumps : {block : ℕ} {rest : List I} {steps : List (Step I)} → (i : I) (k target : ℕ)
      → slice_get (targets i) k ≡ Some target → flows_on i ≡ false
      → Walk targets with_target flows_on blocks target (block_at blocks target) steps
      → Walk targets with_target flows_on blocks block (i ∷ rest) steps
  Falls : {block : ℕ} {steps : List (Step I)}
      → Walk targets with_target flows_on blocks (suc block) (block_at blocks (suc block)) steps
      → Walk targets with_target flows_on blocks block [] steps

-- the walks of a function begin at its entry, block 0
abbrev pub WalksOf : {I : Type 0} → (targets : I → List ℕ) → (with_target : I → ℕ → ℕ → I) → (flows_on : I → Bool)
    → List (List I) → List (Step I) → Type 0
WalksOf targets with_target flows_on blocks steps = Walk targets with_target flows_on blocks 0 (block_at blocks 0) steps

-- two functions have the same walks
abbrev pub SameWalks : {I : Type 0} → (targets : I → List ℕ) → (with_target : I → ℕ → ℕ → I)
    → (flows_on : I → Bool) → List (List I) → List (List I) → Type 0
SameWalks targets with_target flows_on before after =
    (steps : _) → WalksOf targets with_target flows_on before steps ↔ WalksOf targets with_target flows_on after steps
