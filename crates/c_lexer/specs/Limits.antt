-- How long a text may be.
use Rattle.std.specs.Prelude.{ℕ}

abbrev pub text_limit : ℕ
text_limit = 4194304
