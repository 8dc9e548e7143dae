-- How long a free register stays free, and when a temporary is wanted again.
use Rattle.std.specs.Prelude.{ℕ, nat_lt, nat_le, List, find, Option, Some, None, if◌then◌else◌}
use Rattle.alloc_rules.specs.declared.scan.LifetimePart.{LifetimePart}
use Rattle.alloc_rules.specs.declared.scan.Lifetimes.{Lifetimes}
use Rattle.alloc_rules.specs.Scan.{lifetime_parts, refs_of}
use Rattle.binpack_blocks.specs.declared.held.Held.{Held}
use Rattle.binpack_blocks.specs.declared.fixed_uses.FixedUses.{FixedUses}
use Rattle.binpack_blocks.specs.model.Bins.{Bins, held_in}
use Rattle.binpack_blocks.specs.model.NextUses.{next_use}

-- ---- parts of a lifetime

abbrev pub last_or : Option LifetimePart → (point : ℕ) → ℕ
last_or None point = point
last_or (Some part) point = part.last

abbrev pub first_in : Option LifetimePart → Option ℕ
first_in None = None
first_in (Some part) = Some part.first

-- where the first part ends that does so at a point or behind it
abbrev pub last_from : List LifetimePart → (point : ℕ) → ℕ
last_from parts point = last_or (find (λ p. nat_le point p.last) parts) point

-- where the first part begins that does so behind a point
abbrev pub first_behind : List LifetimePart → (point : ℕ) → Option ℕ
first_behind parts point = first_in (find (λ p. nat_lt point p.first) parts)

abbrev pub part_end : Lifetimes → (point t : ℕ) → ℕ
part_end lives point t = last_from (lifetime_parts lives t) point

abbrev pub next_presence : Lifetimes → (point t : ℕ) → Option ℕ
next_presence lives point t = first_behind (lifetime_parts lives t) point

abbrev pub next_reference : Lifetimes → (point t : ℕ) → Option ℕ
next_reference lives point t = find (λ p. nat_lt point p) (refs_of lives t)

-- ---- spans

-- where what stands in a register is present again
abbrev pub holder_presence : Lifetimes → (point : ℕ) → Option Held → Option ℕ
holder_presence lives point None = None
holder_presence lives point (Some h) = next_presence lives point h.temp

-- the nearer of two points, where there are any
abbrev pub nearer : Option ℕ → Option ℕ → Option ℕ
nearer None f = f
nearer (Some e) None = Some e
nearer (Some e) (Some f) = if nat_lt f e then Some f else Some e

-- the span of a free register ends at its next fixed use, or where what stands there is present again
abbrev pub span_end : FixedUses → Lifetimes → (point : ℕ) → Bins → (register : ℕ) → Option ℕ
span_end uses lives point bins r = nearer (next_use uses r) (holder_presence lives point (held_in bins r))
