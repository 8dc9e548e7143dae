-- The limits of what is read.
use Rattle.std.specs.Prelude.{ℕ}

-- the greatest nesting of a text
abbrev pub most_nesting : ℕ
most_nesting = 256

-- the most nodes of its tree
abbrev pub most_nodes : ℕ
most_nodes = 33554432

-- the most of them that stand one under the other
abbrev pub most_height : ℕ
most_height = 2048

-- the most constructs of it that are open at once
abbrev pub most_open : ℕ
most_open = 1024
