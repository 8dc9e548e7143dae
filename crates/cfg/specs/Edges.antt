-- The edges of a function.
use Rattle.std.specs.Prelude.{ℕ, suc, ◌==◌, Bool, List, [], ◌∷◌, ◌++◌, map, filter, length, sum_by}
use Rattle.std.specs.List.{range_with_len}
use Rattle.pass_core.specs.Functions.{successors_of}

-- the blocks that may follow each block, where the first has this number
abbrev pub successors_from : {I : Type 0} → (targets : I → List ℕ) → (flows_on : I → Bool) → (number : ℕ) →
    List (List I) → List (List ℕ)
successors_from targets flows_on number [] = []
successors_from targets flows_on number (block ∷ blocks) =
    successors_of targets flows_on number block ∷ successors_from targets flows_on (suc number) blocks

-- the edges that leave a block: its number with the block that each goes to
abbrev pub edges_to : (number : ℕ) → List ℕ → List (ℕ × ℕ)
edges_to number followers = map (λ to. (number, to)) followers

-- all edges, in the order of the blocks that they leave, where the first has this number
abbrev pub edges_from : (number : ℕ) → List (List ℕ) → List (ℕ × ℕ)
edges_from number [] = []
edges_from number (followers ∷ others) = edges_to number followers ++ edges_from (suc number) others

-- the blocks that the edges to a block leave, in order, once for each edge
abbrev pub sources_of : List (ℕ × ℕ) → (to : ℕ) → List ℕ
sources_of edges to = map (λ e. e.0) (filter (λ e. e.1 == to) edges)

-- those of each of so many blocks
abbrev pub sources_of_each : (blocks : ℕ) → List (ℕ × ℕ) → List (List ℕ)
sources_of_each blocks edges = map (sources_of edges) (range_with_len 0 blocks)

-- the blocks from which an edge leads to each block
abbrev pub predecessors : List (List ℕ) → (blocks : ℕ) → List (List ℕ)
predecessors followers blocks = sources_of_each blocks (edges_from 0 followers)

-- how many edges there are, where these are the blocks that may follow each
abbrev pub edge_count : List (List ℕ) → ℕ
edge_count followers = sum_by (λ nexts. length nexts) followers
