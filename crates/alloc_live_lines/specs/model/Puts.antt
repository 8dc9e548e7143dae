-- What is put behind what was there.
use Rattle.std.specs.Prelude.{◌≡◌, ℕ, List, ◌++◌}

-- bytes for which this holds were put
abbrev pub Puts : (List ℕ → Type 0) → (old new : List ℕ) → Type 0
Puts P old new = (shown : List ℕ) × P shown × (new ≡ old ++ shown)
