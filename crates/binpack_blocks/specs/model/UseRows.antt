-- The uses of one register, by what stands in a list.
use Rattle.std.specs.Prelude.{ℕ, List, [], slice_get, Option, Some, None}
use Rattle.binpack_blocks.specs.declared.register_uses.RegisterUses.{RegisterUses}

abbrev pub points_in : Option RegisterUses → List ℕ
points_in None = []
points_in (Some uses) = uses.points

-- the first one that is not passed
abbrev pub next_in : Option RegisterUses → Option ℕ
next_in None = None
next_in (Some uses) = slice_get uses.points uses.passed
