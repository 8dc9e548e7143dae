-- The fixed uses of registers.
use Rattle.std.specs.Prelude.{ℕ, List, slice_get, Option}
use Rattle.binpack_blocks.specs.declared.fixed_uses.FixedUses.{FixedUses}
use Rattle.binpack_blocks.specs.model.UseRows.{points_in, next_in}

-- all points at which a register is fixed
abbrev pub uses_of : FixedUses → (register : ℕ) → List ℕ
uses_of uses r = points_in (slice_get uses.rows.items r)

-- the first of them that is not passed
abbrev pub next_use : FixedUses → (register : ℕ) → Option ℕ
next_use uses r = next_in (slice_get uses.rows.items r)
