-- How much is read of an assembly text.
use Rattle.std.specs.Prelude.{ℕ}

-- how many bytes it may have, and how many are read of one: one more
abbrev pub most_assembly : ℕ
most_assembly = 268435456

abbrev pub assembly_limit : ℕ
assembly_limit = 268435457
