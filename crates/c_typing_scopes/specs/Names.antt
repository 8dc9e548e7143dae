-- Names with what they mean, the newest first (C99 6.2.1). The place of a name is the number of names that are older,
-- so it stays the same while newer ones come and go.
use Rattle.std.specs.Prelude.{ℕ, ◌-◌, if◌then◌else◌, List, [], ◌∷◌, Option, Some, None, bytes_eq, length, drop}

-- a name that was declared, and what it means
pub record Entry (X : Type 0) : Type 0 where
  pub name : List ℕ
  pub value : X

-- the newest declaration of a name, with its place
abbrev pub find : {X : Type 0} → List ℕ → List (Entry X) → Option (ℕ × X)
find q [] = None
find q (x ∷ xs) = if bytes_eq q x.name then Some (length xs, x.value) else find q xs

-- the names that were there when there were so many: the oldest
abbrev pub oldest : {X : Type 0} → ℕ → List (Entry X) → List (Entry X)
oldest count xs = drop (length xs - count) xs
