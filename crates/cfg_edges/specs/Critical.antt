-- Edges that have to be split.
use Rattle.std.specs.Prelude.{◌≤◌, ◌⊎◌, ◌≡◌, ◌&&◌, ℕ, Bool, List, [], Contains, Some, length, filter, slice_get, slice_index_or, nat_lt}
use Rattle.cfg.specs.Edges.{successors_from, edges_from, sources_of}

-- how many edges lead to a block, where these are the blocks that may follow each
abbrev pub count_to : List (List ℕ) → (to : ℕ) → ℕ
count_to followers to = length (sources_of (edges_from 0 followers) to)

-- each edge leaves a block with at most one successor, or leads to one with at most one predecessor
abbrev pub NoneCritical : {I : Type 0} → (targets : I → List ℕ) → (flows_on : I → Bool) → List (List I) → Type 0
NoneCritical targets flows_on blocks =
    (block to : ℕ) (nexts : List ℕ) → slice_get (successors_from targets flows_on 0 blocks) block ≡ Some nexts
    → Contains nexts to → (length nexts ≤ 1) ⊎ (count_to (successors_from targets flows_on 0 blocks) to ≤ 1)

-- an edge leaves a block with two or more successors and leads to one with two or more predecessors
abbrev pub is_critical : List (List ℕ) → (e : ℕ × ℕ) → Bool
is_critical followers e = nat_lt 1 (length (slice_index_or followers e.0 [])) && nat_lt 1 (count_to followers e.1)

-- how many such edges there are
abbrev pub critical_count : {I : Type 0} → (targets : I → List ℕ) → (flows_on : I → Bool) → List (List I) → ℕ
critical_count targets flows_on blocks =
    length (filter (is_critical (successors_from targets flows_on 0 blocks))
    (edges_from 0 (successors_from targets flows_on 0 blocks)))
