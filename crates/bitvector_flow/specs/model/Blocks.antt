-- The sets of what each block reads first and writes, as a list of them grows.
use Rattle.std.specs.Prelude.{◌≡◌, ℕ, Bool, List, [], ◌∷◌, ◌++◌, length, slice_index_or}
use Rattle.bk_bits.specs.Sets.{has}
use Rattle.bitvector_flow.specs.Flows.{has_at, AreBounded}
use Rattle.bitvector_flow.specs.Lives.{reads_first, some_writes}

module _ {I : Type 0} (reads writes : I → List ℕ) (registers : ℕ) where
  -- these are the sets of a block
  pub record AreSetsOf (insns : List I) (first last : List Bool) : Type 0 where
    pub first_bound : length first ≡ registers
    pub last_bound : length last ≡ registers
    pub read : (k : ℕ) → has first k ≡ reads_first reads writes insns k
    pub written : (k : ℕ) → has last k ≡ some_writes writes insns k

  -- they were put behind others
  pub record IsPushed (insns : List I) (firsts firsts_new lasts lasts_new : List (List Bool)) : Type 0 where
    pub first : List Bool
    pub last : List Bool
    pub are : AreSetsOf insns first last
    pub firsts_are : firsts_new ≡ firsts ++ first ∷ []
    pub lasts_are : lasts_new ≡ lasts ++ last ∷ []

  -- these are the sets of each block
  pub record AreBlockSets (blocks : List (List I)) (firsts lasts : List (List Bool)) : Type 0 where
    pub firsts_bounded : AreBounded (length blocks) registers firsts
    pub lasts_bounded : AreBounded (length blocks) registers lasts
    pub read : (block k : ℕ) → has_at firsts block k ≡ reads_first reads writes (slice_index_or blocks block []) k
    pub written : (block k : ℕ) → has_at lasts block k ≡ some_writes writes (slice_index_or blocks block []) k
