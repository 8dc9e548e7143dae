-- A table of pointers of which few are in use: blocks of eight slots, one behind another in the order of their first
-- use. A block in use has a rank, its place among those, from 1; one that is not in use has the rank 0.
use Rattle.std.specs.Prelude.{◌≡◌, ◌≢◌, ℕ, zero, suc, pos, ◌+◌, ◌*◌, ◌/◌, ◌%◌, ◌≤◌, List, [], ◌∷◌, map, length, slice_index, slice_index_or}
use Rattle.std.specs.List.{range_with_len}
use Rattle.mem_model.specs.declared.value.Ptr.{Ptr}

-- what a slot holds before a pointer is put there
abbrev pub no_pointer : Ptr
no_pointer = record { object = 0; offset = pos 0 }

-- the pointer in a slot
abbrev pub pointer_at : List Ptr → ℕ → Ptr
pointer_at pointers slot = slice_index_or pointers slot no_pointer

-- the k-th pointer of a block with a rank
abbrev pub pointer_of_rank : List Ptr → (rank k : ℕ) → Ptr
pointer_of_rank pointers zero k = no_pointer
pointer_of_rank pointers (suc i) k = pointer_at pointers (8 * i + k)

-- the whole table
unfoldable pub table_of : (ranks : List ℕ) → (pointers : List Ptr) → List Ptr
table_of ranks pointers =
    map (λ slot. pointer_of_rank pointers (slice_index ranks (slot / 8)) (slot % 8))
    (range_with_len 0 (8 * length ranks))

-- how many blocks are not in use
abbrev pub free_blocks : List ℕ → ℕ
free_blocks [] = 0
free_blocks (zero ∷ ranks) = suc (free_blocks ranks)
free_blocks (suc rank ∷ ranks) = free_blocks ranks

-- blocks in use are there, whole, and each has a rank of its own
pub record IsTable (ranks : List ℕ) (pointers : List Ptr) : Type 0 where
  pub whole : length pointers % 8 ≡ 0
  pub within : (b : ℕ) → 8 * slice_index ranks b ≤ length pointers
  pub apart : (b c : ℕ) → b ≢ c → slice_index ranks b ≡ slice_index ranks c → slice_index ranks b ≡ 0
