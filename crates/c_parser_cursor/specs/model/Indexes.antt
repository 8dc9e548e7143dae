-- A set that has the names of a list.
use Rattle.std.specs.Prelude.{◌≡◌, ℕ, List, bytes_eq}
use Rattle.std.specs.List.{list_any}
use Rattle.std.specs.declared.vec.Vec.{Vec}
use Rattle.std.specs.HashSet.{HashSet, contains_by}

abbrev pub IsIndex : {A S : Type 0} → HashSet (Vec ℕ A) S → List (List ℕ) → Type 0
IsIndex s names = (q : List ℕ) → contains_by (λ k. bytes_eq q k.items) s ≡ list_any (λ x. bytes_eq x q) names
