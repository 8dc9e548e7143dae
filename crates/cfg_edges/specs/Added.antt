-- Blocks that are put between others.
use Rattle.std.specs.Prelude.{◌≡◌, ℕ, List, [], ◌∷◌, map}
use Rattle.cfg.specs.Walks.{zero_targets}

-- The blocks after are those before, in their order and with targets that may be others, and between them blocks that
-- are a jump alone and so have one successor
pub data AddsJumps {I : Type 0} (targets : I → List ℕ) (with_target : I → ℕ → ℕ → I) (jump_to : ℕ → I) :
    (before after : List (List I)) → Type 0 where
  NoBlocks : AddsJumps targets with_target jump_to [] []
  SameBlock : {before after : List (List I)} (block new : List I)
      → map (zero_targets targets with_target) new ≡ map (zero_targets targets with_target) block
      → AddsJumps targets with_target jump_to before after
      → AddsJumps targets with_target jump_to (block ∷ before) (new ∷ after)
  NewBlock : {before after : List (List I)} (to : ℕ) → AddsJumps targets with_target jump_to before after
      → AddsJumps targets with_target jump_to before ((jump_to to ∷ []) ∷ after)
