-- The numbers of marked blocks.
use Rattle.std.specs.Prelude.{ℕ, Bool, true, false, List, [], ◌∷◌, take}
use Rattle.cfg.specs.model.Search.{marked_count}

-- how many blocks before one are marked
abbrev pub number_in : List Bool → ℕ → ℕ
number_in marks block = marked_count (take block marks)

-- the elements at the marked places
abbrev pub marked_of : {A : Type 0} → List Bool → List A → List A
marked_of [] xs = []
marked_of (mark ∷ marks) [] = []
marked_of (true ∷ marks) (x ∷ xs) = x ∷ marked_of marks xs
marked_of (false ∷ marks) (x ∷ xs) = marked_of marks xs
