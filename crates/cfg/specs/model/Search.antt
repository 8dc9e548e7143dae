-- The search for the blocks to which a path leads.
use Rattle.std.specs.Prelude.{ℕ, suc, Bool, true, false, List, [], ◌∷◌, ◌++◌, if◌then◌else◌, Option, Some, None, slice_get, slice_set}

-- which blocks are marked, and those found so far in the order in which they were found
pub record Search : Type 0 where
  pub marks : List Bool
  pub found : List ℕ

abbrev pub search_of : List Bool → List ℕ → Search
search_of marks found = record { marks = marks; found = found }

-- how many are marked
abbrev pub marked_count : List Bool → ℕ
marked_count [] = 0
marked_count (true ∷ marks) = suc (marked_count marks)
marked_count (false ∷ marks) = marked_count marks

-- a block is there and has no mark
abbrev pub is_unmarked : Option Bool → Bool
is_unmarked None = false
is_unmarked (Some true) = false
is_unmarked (Some false) = true

abbrev pub marked_too : Search → ℕ → Search
marked_too s block = search_of (slice_set s.marks block true) (s.found ++ block ∷ [])

-- a block is found, if it is there and was not found before
abbrev pub visit : Search → ℕ → Search
visit s block = if is_unmarked (slice_get s.marks block) then marked_too s block else s

abbrev pub visit_all : Search → List ℕ → Search
visit_all s [] = s
visit_all s (block ∷ blocks) = visit_all (visit s block) blocks
