-- The temporaries that leave their registers, by rising number.
use Rattle.std.specs.Prelude.{ℕ, zero, suc, ◌+◌, ◌*◌, nat_lt, List, ◌++◌, flat_map, Option, Some, None, if◌then◌else◌}
use Rattle.std.specs.List.{range_with_len}
use Rattle.alloc_model.specs.declared.allocation.Event.{Event}
use Rattle.alloc_rules.specs.declared.scan.Lifetimes.{Lifetimes}
use Rattle.alloc_rules.specs.Journal.{eviction}
use Rattle.alloc_journal.specs.model.Holders.{Holders, holder_in, register_in}
use Rattle.alloc_journal.specs.Covered.{lifetime_covers}

-- ---- which one is next

-- the temporary of a register, if it has no register in another table
abbrev pub unless_held : Option ℕ → (t : ℕ) → Option ℕ
unless_held None t = Some t
unless_held (Some r) t = None

abbrev pub gone : Option ℕ → (behind : Holders) → Option ℕ
gone None behind = None
gone (Some t) behind = unless_held (register_in behind t) t

abbrev pub lower : Option ℕ → (t : ℕ) → Option ℕ
lower None t = Some t
lower (Some u) t = if nat_lt t u then Some t else Some u

-- the lower one of those that are at least a number
abbrev pub sooner : (from : ℕ) → (best other : Option ℕ) → Option ℕ
sooner from best None = best
sooner from best (Some t) = if nat_lt t from then best else lower best t

-- the lowest of those that are gone from the registers below a number, and of what was found
unfoldable pub soonest : (from : ℕ) → (found : Option ℕ) → (before behind : Holders) → (count : ℕ) → Option ℕ
soonest from found before behind zero = found
soonest from found before behind (suc n) =
    sooner from (soonest from found before behind n) (gone (holder_in before n) behind)

abbrev pub next_gone : (from : ℕ) → (before left behind : Holders) → Option ℕ
next_gone from before left behind = soonest from (soonest from None before left 26) left behind 26

-- ---- their events

abbrev pub leaving_events : Lifetimes → (point : ℕ) → (before behind : Holders) → (t : ℕ) → List Event
leaving_events lives point before behind t =
    eviction (lifetime_covers lives t point) (register_in before t) (register_in behind t) t

-- where an instruction reads, and where it writes
abbrev pub leaving_at : Lifetimes → (number : ℕ) → (before left behind : Holders) → (t : ℕ) → List Event
leaving_at lives number before left behind t =
    leaving_events lives (2 * number) before left t ++ leaving_events lives (2 * number + 1) left behind t

abbrev pub all_leaving : (temps : ℕ) → Lifetimes → (number : ℕ) → (before left behind : Holders) → List Event
all_leaving temps lives number before left behind =
    flat_map (leaving_at lives number before left behind) (range_with_len 0 temps)
