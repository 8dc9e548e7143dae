-- What flows along the edges between blocks: the least sets of numbers such that each block has what it makes, and of
-- what blocks next to it have, what it does not stop.
use Rattle.std.specs.Prelude.{◌≡◌, ℕ, ◌<◌, ◌↔◌, Bool, true, false, List, [], length, slice_index_or, Contains}
use Rattle.bk_bits.specs.Sets.{has}

-- a number is in the set of a block; a block that is not there has none
abbrev pub has_at : (sets : List (List Bool)) → (block k : ℕ) → Bool
has_at sets block k = has (slice_index_or sets block []) k

-- a number flows out of a block, where these are the blocks next to each: the block makes it; or does not stop it, and
-- it flows out of one that is next
pub data FlowsOut (makes stops : (block k : ℕ) → Bool) (nexts : List (List ℕ)) (k : ℕ) : (block : ℕ) → Type 0 where
  IsMade : {block : ℕ} → block < length nexts → makes block k ≡ true → FlowsOut makes stops nexts k block
  Passes : {block : ℕ} (next : ℕ) → stops block k ≡ false → Contains (slice_index_or nexts block []) next →
      FlowsOut makes stops nexts k next → FlowsOut makes stops nexts k block

-- it flows into a block: it flows out of one that is next
pub record FlowsIn (makes stops : (block k : ℕ) → Bool) (nexts : List (List ℕ)) (k block : ℕ) : Type 0 where
  pub next : ℕ
  pub is_next : Contains (slice_index_or nexts block []) next
  pub flows : FlowsOut makes stops nexts k next

-- so many sets of numbers below a bound
pub record AreBounded (count bound : ℕ) (sets : List (List Bool)) : Type 0 where
  pub as_many : length sets ≡ count
  pub bounds : (block : ℕ) → block < count → length (slice_index_or sets block []) ≡ bound

-- the sets of what flows out of each block and into it, where what is made and stopped is told of numbers below the
-- bound alone
pub record AreLeast (makes stops : (block k : ℕ) → Bool) (nexts : List (List ℕ)) (bound : ℕ)
    (outs ins : List (List Bool)) : Type 0 where
  pub outs_bounded : AreBounded (length nexts) bound outs
  pub ins_bounded : AreBounded (length nexts) bound ins
  pub flows_out : (block k : ℕ) → k < bound → (has_at outs block k ≡ true) ↔ FlowsOut makes stops nexts k block
  pub flows_in : (block k : ℕ) → k < bound → (has_at ins block k ≡ true) ↔ FlowsIn makes stops nexts k block
