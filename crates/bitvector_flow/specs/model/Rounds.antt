-- How the sets are found: in rounds over the blocks, of which each puts into the sets of a block what blocks next to it
-- have, until a round finds nothing.
use Rattle.std.specs.Prelude.{◌≡◌, ◌≢◌, ℕ, suc, ◌-◌, ◌<◌, ◌&&◌, ◌||◌, not, Bool, true, false, List, [], ◌∷◌, length, slice_index_or, sum_by, if◌then◌else◌}
use Rattle.std.specs.Bool.{MatchBool}
use Rattle.std.specs.List.{list_any}
use Rattle.bk_bits.specs.Sets.{has}
use Rattle.bitvector_flow.specs.Flows.{has_at, FlowsOut, FlowsIn}

-- a number is in the set of one of these blocks
abbrev pub any_has : (sets : List (List Bool)) → (blocks : List ℕ) → (k : ℕ) → Bool
any_has sets blocks k = list_any (λ block. has_at sets block k) blocks

abbrev pub AreBelow : (bound : ℕ) → (sets : List (List Bool)) → Type 0
AreBelow bound sets = (block : ℕ) → block < length sets → length (slice_index_or sets block []) ≡ bound

-- how many numbers are in no set
abbrev pub missing_in : List Bool → ℕ
missing_in [] = 0
missing_in (true ∷ set) = missing_in set
missing_in (false ∷ set) = suc (missing_in set)

abbrev pub missing_count : List (List Bool) → ℕ
missing_count sets = sum_by missing_in sets

abbrev pub GrowsWhere : (old new : List (List Bool)) → Bool → Type 0
GrowsWhere old new grew = MatchBool grew (missing_count new < missing_count old) (new ≡ old)

-- what a step does to the sets of one block, and to no others
pub record IsStep (nexts : List ℕ) (stops : List Bool) (bound block : ℕ) (outs ins outs_new ins_new : List (List Bool))
    (grew : Bool) : Type 0 where
  pub outs_length : length outs_new ≡ length outs
  pub ins_length : length ins_new ≡ length ins
  pub outs_below : AreBelow bound outs_new
  pub ins_below : AreBelow bound ins_new
  pub into : (k : ℕ) → has_at ins_new block k ≡ (has_at ins block k || any_has outs nexts k)
  pub out : (k : ℕ) → has_at outs_new block k
      ≡ (has_at outs block k || (has_at ins_new block k && not (has stops k)))
  pub other_ins : (other k : ℕ) → other ≢ block → has_at ins_new other k ≡ has_at ins other k
  pub other_outs : (other k : ℕ) → other ≢ block → has_at outs_new other k ≡ has_at outs other k
  pub grown : GrowsWhere outs outs_new grew

-- the block of a turn
abbrev pub turn : (backward : Bool) → (count i : ℕ) → ℕ
turn backward count i = if backward then count - 1 - i else i

-- nothing is to be put into the sets of a block
pub record IsSettled (nexts : List (List ℕ)) (stops outs ins : List (List Bool)) (block : ℕ) : Type 0 where
  pub joined : (k : ℕ) → any_has outs (slice_index_or nexts block []) k ≡ true → has_at ins block k ≡ true
  pub passed : (k : ℕ) → has_at ins block k ≡ true → has_at stops block k ≡ false → has_at outs block k ≡ true

-- the sets have no more than what flows, and what is made
pub record AreForced (nexts : List (List ℕ)) (makes stops outs ins : List (List Bool)) : Type 0 where
  pub only_outs : (block k : ℕ) → has_at outs block k ≡ true → FlowsOut (has_at makes) (has_at stops) nexts k block
  pub only_ins : (block k : ℕ) → has_at ins block k ≡ true → FlowsIn (has_at makes) (has_at stops) nexts k block
  pub made : (block k : ℕ) → has_at makes block k ≡ true → has_at outs block k ≡ true

-- a round has come so far: where nothing grew, the blocks of the turns so far are settled
pub record IsSwept (nexts : List (List ℕ)) (stops : List (List Bool)) (bound : ℕ) (backward : Bool)
    (first outs ins : List (List Bool)) (i : ℕ) (grew : Bool) : Type 0 where
  pub outs_length : length outs ≡ length nexts
  pub ins_length : length ins ≡ length nexts
  pub outs_below : AreBelow bound outs
  pub ins_below : AreBelow bound ins
  pub grown : GrowsWhere first outs grew
  pub settled : grew ≡ false → (j : ℕ) → j < i → IsSettled nexts stops outs ins (turn backward (length nexts) j)
