-- The bound within which a function may be given to a pass.
use Rattle.std.specs.Prelude.{ℕ, ◌+◌, ◌*◌, ◌^◌, ◌<◌, length}
use Rattle.pass_core.specs.Functions.{count_of}
use Rattle.temp_ir.specs.Programs.{TempFn}

-- five times the blocks of a function, and its instructions
abbrev pub split_size : TempFn → ℕ
split_size f = 5 * length f.blocks + count_of f.blocks

-- a function is small enough to be split
abbrev pub CanBeSplit : TempFn → Type 0
CanBeSplit f = split_size f < 2 ^ 30
