-- How heavy a unit may be.
use Rattle.std.specs.Prelude.{ℕ}
use Rattle.c_typing_weight.specs.declared.TheConstants.{MOST_WEIGHT}

-- the weight that a unit may have
abbrev pub most_weight : ℕ
most_weight = MOST_WEIGHT
