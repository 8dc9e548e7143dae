-- What a block does besides jumps.
use Rattle.std.specs.Prelude.{◌≡◌, ℕ, Bool, List, [], map, filter, length, if◌then◌else◌, true, false, nat_lt, ◌⊎◌, ◌<◌}
use Rattle.cfg.specs.Walks.{zero_targets, block_at}
use Rattle.cfg.specs.Paths.{GoesBack}

-- an instruction is no jump: it has no target, or what follows it may be done after it
abbrev pub is_no_jump : {I : Type 0} → (targets : I → List ℕ) → (flows_on : I → Bool) → I → Bool
is_no_jump targets flows_on i = if flows_on i then true else (if nat_lt 0 (length (targets i)) then false else true)

-- the instructions of a block that are no jumps, without their targets
abbrev pub contents : {I : Type 0} → (targets : I → List ℕ) → (with_target : I → ℕ → ℕ → I)
    → (flows_on : I → Bool) → List I → List I
contents targets with_target flows_on block =
    map (zero_targets targets with_target) (filter (is_no_jump targets flows_on) block)

-- a block of one function other than the entry has the contents of a block
pub record HasContents {I : Type 0} (targets : I → List ℕ) (with_target : I → ℕ → ℕ → I) (flows_on : I → Bool)
    (blocks : List (List I)) (block : List I) : Type 0 where
  pub number : ℕ
  pub later : 0 < number
  pub within : number < length blocks
  pub same : contents targets with_target flows_on block
      ≡ contents targets with_target flows_on (block_at blocks number)

-- Block 0 keeps its contents, and each other block has none, or those of a block other than block 0
pub record KeepsBlocks {I : Type 0} (targets : I → List ℕ) (with_target : I → ℕ → ℕ → I) (flows_on : I → Bool)
    (before after : List (List I)) : Type 0 where
  pub entry : contents targets with_target flows_on (block_at after 0)
      ≡ contents targets with_target flows_on (block_at before 0)
  pub others : (number : ℕ) → 0 < number → number < length after
      → (contents targets with_target flows_on (block_at after number) ≡ [])
      ⊎ HasContents targets with_target flows_on before (block_at after number)

-- each jump or branch back goes to a block with the contents of one to which one went before
abbrev pub KeepsBack : {I : Type 0} → (targets : I → List ℕ) → (with_target : I → ℕ → ℕ → I)
    → (flows_on : I → Bool) → (before after : List (List I)) → Type 0
KeepsBack targets with_target flows_on before after =
    (to : ℕ) → GoesBack targets after to
    → (from : ℕ) × GoesBack targets before from
    × (contents targets with_target flows_on (block_at after to)
    ≡ contents targets with_target flows_on (block_at before from))
