-- How a table keeps its names: a list with the newest last, of which each entry knows the place of the one that it
-- shadows, and a map with the place of the newest of each name.
use Rattle.std.specs.Prelude.{◌≡◌, ℕ, List, [], ◌∷◌, Option, Some, None, bytes_eq, map}
use Rattle.std.specs.Borrow.{Bor}
use Rattle.std.specs.HashMap.{HashMap, get_by}
use Rattle.c_typing_scopes.specs.declared.table.Declaration.{Declaration}
use Rattle.c_typing_scopes.specs.Names.{Entry, find}

abbrev pub place_of : {X : Type 0} → Option (ℕ × X) → Option ℕ
place_of None = None
place_of (Some x) = Some x.0

-- what is not in the map has no place, and neither has what is there without one
abbrev pub flatten : Option (Option ℕ) → Option ℕ
flatten None = None
flatten (Some x) = x

abbrev pub IsNewest : {X S : Type 0} → HashMap (Bor (List ℕ)) (Option ℕ) S → List (Entry X) → Type 0
IsNewest m xs = (q : List ℕ) → flatten (get_by (λ k. bytes_eq q k.now) m) ≡ place_of (find q xs)

abbrev pub entry_of : {X : Type 0} → Declaration X → Entry X
entry_of d = record { name = d.name.now; value = d.value }

abbrev pub entries_of : {X : Type 0} → List (Declaration X) → List (Entry X)
entries_of ds = map entry_of ds

-- each knows the place of the one that it shadows; the newest stands first
abbrev pub IsChained : {X : Type 0} → List (Declaration X) → Type 0
IsChained [] = Unit {0}
IsChained (d ∷ ds) = (d.shadows ≡ place_of (find d.name.now (entries_of ds))) × IsChained ds
