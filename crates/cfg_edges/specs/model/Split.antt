-- Blocks behind which each edge that leaves them gets a block of its own.
use Rattle.std.specs.Prelude.{ℕ, suc, ◌+◌, ◌&&◌, Bool, true, false, List, [], ◌∷◌, ◌++◌, map, length, Option, Some, None, slice_index_or, nat_lt}
use Rattle.std.specs.List.{list_any}
use Rattle.pass_core.specs.Functions.{last_of}
use Rattle.cfg.specs.Renumber.{with_targets, renumber}

-- a block has two predecessors or more
abbrev pub is_join : (sources : List (List ℕ)) → (block : ℕ) → Bool
is_join sources block = nat_lt 1 (length (slice_index_or sources block []))

-- a block with these followers has two or more of them, and one of them has two predecessors or more
abbrev pub is_split : (sources : List (List ℕ)) → (followers : List ℕ) → Bool
is_split sources followers = nat_lt 1 (length followers) && list_any (is_join sources) followers

-- how many blocks come in a block's place
abbrev pub places : (split : Bool) → ℕ
places false = 1
places true = 3

-- the number of each block, where the first has this one, and that of the end behind them
abbrev pub numbers_from : (first : ℕ) → List Bool → List ℕ
numbers_from first [] = first ∷ []
numbers_from first (split ∷ splits) = first ∷ numbers_from (first + places split) splits

module _ {I : Type 0} (targets : I → List ℕ) where
  -- the first target of an instruction, or 0
  abbrev pub target_of : I → ℕ
  target_of i = slice_index_or (targets i) 0 0

  -- that of a block's last instruction
  abbrev pub target_after : Option I → ℕ
  target_after None = 0
  target_after (Some i) = target_of i

module _ {I : Type 0} (targets : I → List ℕ) (with_target : I → ℕ → ℕ → I) where
  -- an instruction with each target replaced by a block
  abbrev pub to_one : (to : ℕ) → I → I
  to_one to i = with_targets with_target i 0 (map (λ _. to) (targets i))

module _ {I : Type 0} (targets : I → List ℕ) (with_target : I → ℕ → ℕ → I) (jump_to : ℕ → I) where
  -- What comes in a block's place. One that is split is followed by a block that jumps to the block that followed it
  -- before, and by one that jumps to its target, where it goes itself now
  abbrev pub pieces : (numbers : List ℕ) → (number : ℕ) → (split : Bool) → List I → List (List I)
  pieces numbers number false block = map (renumber targets with_target numbers) block ∷ []
  pieces numbers number true block =
      map (to_one targets with_target (slice_index_or numbers number 0 + 2)) block
      ∷ (jump_to (slice_index_or numbers (number + 1) 0) ∷ [])
      ∷ (jump_to (slice_index_or numbers (target_after targets (last_of block)) 0) ∷ [])
      ∷ []

  -- what comes in the place of all blocks, where the first had this number
  abbrev pub split_from : (numbers : List ℕ) → (number : ℕ) → List Bool → List (List I) → List (List I)
  split_from numbers number [] blocks = []
  split_from numbers number (split ∷ splits) [] = []
  split_from numbers number (split ∷ splits) (block ∷ blocks) =
      pieces numbers number split block ++ split_from numbers (suc number) splits blocks
