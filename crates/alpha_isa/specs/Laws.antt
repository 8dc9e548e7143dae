-- What the laws of a run say of its output.
use Rattle.std.specs.Prelude.{◌≡◌, ℕ, List, ◌++◌}
use Rattle.alpha_isa.specs.Step.{MachineNext, Goes, Over}

-- the output where the machine stands, or stood at its end
abbrev pub output_at : MachineNext → List ℕ
output_at (Goes t) = t.output
output_at (Over h t) = t.output

-- a list begins with another, and goes on
abbrev pub Extends : List ℕ → List ℕ → Type 0
Extends old new = (more : List ℕ) × (new ≡ old ++ more)
