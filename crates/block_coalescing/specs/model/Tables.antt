-- The name that a table has for a temporary.
use Rattle.std.specs.Prelude.{ℕ, Bool, true, false, List, Option, Some, None, nat_lt, nat_le, slice_index_or}
use Rattle.bk_bits.specs.Sets.{has}
use Rattle.block_coalescing.specs.declared.table.NameTable.{NameTable}

-- a temporary that was written last at a time still holds what it held
abbrev pub if_still : Bool → ℕ → Option ℕ
if_still true q = Some q
if_still false q = None

abbrev pub still : (written : List ℕ) → (since : ℕ) → Option ℕ → Option ℕ
still written since None = None
still written since (Some q) = if_still (nat_le (slice_index_or written q 0) since) q

-- what was noted of a temporary, and when: before this block nothing counts but that it is live at the top
abbrev pub time_of : (is_old : Bool) → (start since : ℕ) → ℕ
time_of true start since = start
time_of false start since = since

abbrev pub temporary_of : (is_old is_live : Bool) → ℕ → Option ℕ → Option ℕ
temporary_of true true r o = Some r
temporary_of true false r o = None
temporary_of false is_live r o = o

abbrev pub name_in : (names : List (Option ℕ)) → (since written : List ℕ) → (start : ℕ) → (top : List Bool) → ℕ →
    Option ℕ
name_in names since written start top r =
    still written (time_of (nat_lt (slice_index_or since r 0) start) start (slice_index_or since r 0))
    (temporary_of (nat_lt (slice_index_or since r 0) start) (has top r) r (slice_index_or names r None))

unfoldable pub name_of : NameTable → (top : List Bool) → ℕ → Option ℕ
name_of t top r = name_in t.names.items t.since.items t.written.items t.start top r
