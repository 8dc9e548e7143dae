-- The lowest temporary from a number on that is held.
use Rattle.std.specs.Prelude.{ℕ, nat_lt, Option, Some, None, if◌then◌else◌}
use Rattle.alloc_plain.specs.declared.holders.HeldTemporaries.{HeldTemporaries}

abbrev pub lower : Option ℕ → (t : ℕ) → Option ℕ
lower None t = Some t
lower (Some u) t = if nat_lt t u then Some t else Some u

-- of what was found so far and what a register has
abbrev pub sooner : (from : ℕ) → (best holder : Option ℕ) → Option ℕ
sooner from best None = best
sooner from best (Some t) = if nat_lt t from then best else lower best t

abbrev pub soonest : (from : ℕ) → (best : Option ℕ) → HeldTemporaries → Option ℕ
soonest from best h = sooner from (sooner from (sooner from best h.first) h.second) h.third

abbrev pub next_held : (from : ℕ) → (before behind : HeldTemporaries) → Option ℕ
next_held from before behind = soonest from (soonest from None before) behind
