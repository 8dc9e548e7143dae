-- The parts of a line, as functions of its bytes.
use Rattle.std.specs.Prelude.{ℕ, ◌==◌, if◌then◌else◌, List, [], ◌∷◌, Option, Some, None, option_map}

-- what stands before the first such byte, and what behind it
abbrev pub cut : ℕ → List ℕ → Option (List ℕ × List ℕ)
cut mark [] = None
cut mark (b ∷ s) = if b == mark then Some ([], s) else option_map (λ p. (b ∷ p.0, p.1)) (cut mark s)

abbrev pub behind_blank : List ℕ → List ℕ → Option (List ℕ × List ℕ)
behind_blank first [] = None
behind_blank first (b ∷ s) = if b == 32 then Some (first, s) else None

abbrev pub behind_comma : Option (List ℕ × List ℕ) → Option (List ℕ × List ℕ)
behind_comma None = None
behind_comma (Some p) = behind_blank p.0 p.1

-- two operands, with a comma and a blank between them
unfoldable pub pair_of : List ℕ → Option (List ℕ × List ℕ)
pair_of s = behind_comma (cut 44 s)
