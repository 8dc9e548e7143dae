-- What a byte of the input gives to a register.
use Rattle.std.specs.Prelude.{ℕ, ◌-◌, ◌^◌, Option, Some, None}

-- the word of a byte that was taken, or -1 at the end of the input
abbrev pub taken_word : Option ℕ → ℕ
taken_word (Some byte) = byte
taken_word None = 2 ^ 64 - 1
