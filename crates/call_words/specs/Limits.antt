-- How much a run gets, where the words do not say, and how much they may say.
use Rattle.std.specs.Prelude.{ℕ}
use Rattle.alpha_isa.specs.declared.limits.TheConstants.{LEAST_STACK, MOST_STACK}

-- the stack, in bytes
abbrev pub default_stack : ℕ
default_stack = 8388608

abbrev pub least_stack : ℕ
least_stack = LEAST_STACK

abbrev pub most_stack : ℕ
most_stack = MOST_STACK

-- the steps of the machine, or the turns of a program over virtual registers
abbrev pub default_budget : ℕ
default_budget = 1000000000

abbrev pub least_budget : ℕ
least_budget = 1

abbrev pub most_budget : ℕ
most_budget = 1000000000000

-- the seed of a text that is made, and its size: how many functions it has beside `main`
abbrev pub most_seed : ℕ
most_seed = 4294967295

abbrev pub least_size : ℕ
least_size = 1

abbrev pub most_size : ℕ
most_size = 2000

-- how many digits a number may have
abbrev pub most_digits : ℕ
most_digits = 20
