-- How long images are.
use Rattle.std.specs.Prelude.{ℕ, ◌+◌, ◌*◌}
use Rattle.alpha_isa.specs.Program.{most_words, most_bytes}

-- the most bytes that an image has, 1,140,850,712: 24 for its fields in version 2, its words, and its data
abbrev pub most_image : ℕ
most_image = 24 + 4 * most_words + most_bytes
