-- What every function keeps, whatever its instructions are. Their targets, reads, writes and whether they go on are
-- parameters.
use Rattle.std.specs.Prelude.{◌≡◌, ℕ, suc, ◌-◌, ◌<◌, Bool, true, false, List, [], ◌∷◌, ◌++◌, All, take, length, sum_by, slice_get, Option, Some, None, if◌then◌else◌}

module _ {A : Type 0} where
  -- the last element, and all before it
  abbrev pub last_of : List A → Option A
  last_of xs = slice_get xs (length xs - 1)

  abbrev pub front_of : List A → List A
  front_of xs = take (length xs - 1) xs

module _ {I : Type 0} where
  -- each instruction of each block
  abbrev pub AllInsns : (I → Type 0) → List (List I) → Type 0
  AllInsns P blocks = All (All P) blocks

  -- how many instructions the blocks have
  abbrev pub count_of : List (List I) → ℕ
  count_of blocks = sum_by (λ block. length block) blocks

  -- each target of an instruction is one of so many blocks, and not the entry
  abbrev pub GoesToBlocks : (targets : I → List ℕ) → (blocks : ℕ) → I → Type 0
  GoesToBlocks targets blocks i = All (λ target. (0 < target) × (target < blocks)) (targets i)

  -- each register that an instruction names is one of so many
  abbrev pub UsesRegisters : (reads writes : I → List ℕ) → (temps : ℕ) → I → Type 0
  UsesRegisters reads writes temps i =
      All (λ register. register < temps) (reads i) × All (λ register. register < temps) (writes i)

  -- an instruction is followed by the next one alone
  abbrev pub IsStraight : (targets : I → List ℕ) → (flows_on : I → Bool) → I → Type 0
  IsStraight targets flows_on i = (length (targets i) ≡ 0) × (flows_on i ≡ true)

  -- a jump, branch or return stands only as the last instruction
  abbrev pub EndsLate : (targets : I → List ℕ) → (flows_on : I → Bool) → List I → Type 0
  EndsLate targets flows_on block = All (IsStraight targets flows_on) (front_of block)

  -- an instruction is there, and what follows it is not done after it
  abbrev pub insn_stops : (flows_on : I → Bool) → Option I → Bool
  insn_stops flows_on None = false
  insn_stops flows_on (Some i) = if flows_on i then false else true

  abbrev pub block_stops : (flows_on : I → Bool) → Option (List I) → Bool
  block_stops flows_on None = false
  block_stops flows_on (Some block) = insn_stops flows_on (last_of block)

  -- the last block ends with a jump or a return
  abbrev pub stops : (flows_on : I → Bool) → List (List I) → Bool
  stops flows_on blocks = block_stops flows_on (last_of blocks)

  -- what stands at a place of a block
  abbrev pub insn_in : Option (List I) → (at : ℕ) → Option I
  insn_in None at = None
  insn_in (Some block) at = slice_get block at

  abbrev pub insn_at : List (List I) → (block at : ℕ) → Option I
  insn_at blocks block at = insn_in (slice_get blocks block) at

  -- the blocks that may follow a block with a number and a last instruction: the targets of that, then the next block
  -- where the block is empty or its last instruction goes on
  abbrev pub successors_after : (targets : I → List ℕ) → (flows_on : I → Bool) → (block : ℕ) → Option I → List ℕ
  successors_after targets flows_on block None = suc block ∷ []
  successors_after targets flows_on block (Some i) = targets i ++ (if flows_on i then suc block ∷ [] else [])

  abbrev pub successors_of : (targets : I → List ℕ) → (flows_on : I → Bool) → (block : ℕ) → List I → List ℕ
  successors_of targets flows_on block insns = successors_after targets flows_on block (last_of insns)

  -- how many edges leave the blocks
  abbrev pub edge_count : (targets : I → List ℕ) → (flows_on : I → Bool) → List (List I) → ℕ
  edge_count targets flows_on blocks = sum_by (λ block. length (successors_of targets flows_on 0 block)) blocks
