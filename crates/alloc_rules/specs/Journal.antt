-- The journal of an allocation, by the replay of the finished function: for each instruction in linear order its visit,
-- and then what was done there: each temporary that leaves a register for its slot, by rising number; the transfers
-- before the instruction, in their order; each temporary that gets a register by a load or a write, reads before
-- writes; and each temporary that is written. A temporary keeps its place until something takes its register, in holes
-- of its lifetime too, so it leaves there wherever its lifetime covers the point. A write that keeps its register gives
-- none.
use Rattle.std.specs.Prelude.{◌≡◌, ℕ, suc, ◌+◌, ◌*◌, ◌==◌, Bool, List, [], ◌∷◌, ◌++◌, map, zip, flat_map, Option, Some, None, if◌then◌else◌}
use Rattle.temp_ir.specs.declared.insn.TempInsn.{TempInsn}
use Rattle.temp_ir.specs.Insns.{writes_of}
use Rattle.alloc_model.specs.declared.allocation.Transfer.{Transfer}
use Rattle.alloc_model.specs.declared.allocation.Transfer.TheVariants.{Store, Load, Shift}
use Rattle.alloc_model.specs.declared.allocation.Event.{Event}
use Rattle.alloc_model.specs.declared.allocation.Event.TheVariants as event
use Rattle.alloc_model.specs.Places.{Plan, linear_number, transfers_at, registers_at}
use Rattle.alloc_rules.specs.Visits.{Wants, AreWants, Homes, homes_behind_moves, homes_left, registers_written, homes_before, all_temps, register_in_place}
use Rattle.alloc_rules.specs.Frugal.{is_covered}

-- a temporary whose lifetime covers a point leaves a register for its slot there
abbrev pub eviction : (covered : Bool) → Option ℕ → Option ℕ → (t : ℕ) → List Event
eviction covered (Some r) None t = if covered then event.Evict t r ∷ [] else []
eviction covered r q t = []

abbrev pub eviction_at : Plan → Wants → (point : ℕ) → (before behind : Homes) → (t : ℕ) → List Event
eviction_at a wants point before behind t =
    eviction (is_covered a wants t point) (register_in_place (before t)) (register_in_place (behind t)) t

-- by transfers and by what the instruction takes away, where it reads; and by what it writes, where it writes
abbrev pub evictions : Plan → Wants → (number : ℕ) → (before left behind : Homes) → List Event
evictions a wants number before left behind =
    flat_map
    (λ t. eviction_at a wants (2 * number) before left t ++ eviction_at a wants (2 * number + 1) left behind t)
    (all_temps a)

abbrev pub event_of : Transfer → Event
event_of (Store t r) = event.Store t r
event_of (Load t r) = event.Load t r
event_of (Shift t from to) = event.Shift t from to

-- what is loaded gets a register, and so does what is written, unless it keeps the one that it has
abbrev pub assigned_by_move : Transfer → List Event
assigned_by_move (Load t r) = event.Assign t r ∷ []
assigned_by_move x = []

abbrev pub assigned_unless : Option ℕ → (t r : ℕ) → List Event
assigned_unless None t r = event.Assign t r ∷ []
assigned_unless (Some q) t r = if q == r then [] else event.Assign t r ∷ []

-- the events of a visit, with the places before it, before its writes, and behind it
abbrev pub visit_events : Plan → Wants → (number : ℕ) → List Transfer → (writes : List (ℕ × ℕ)) →
    (before left behind : Homes) → List Event
visit_events a wants number transfers writes before left behind =
    event.Visit number ∷ evictions a wants number before left behind ++ map event_of transfers
    ++ flat_map assigned_by_move transfers ++ flat_map (λ w. assigned_unless (register_in_place (left w.0)) w.0 w.1)
    writes
    ++ map (λ w. event.Write w.0 w.1) writes

abbrev pub insn_events : Plan → Wants → (block at : ℕ) → TempInsn → List Event
insn_events a wants block at x =
    visit_events a wants (linear_number a.function.blocks block at) (transfers_at a block at)
    (zip (writes_of x) (registers_written (registers_at a block at) x)) (homes_before a wants block at)
    (homes_left x (homes_behind_moves (transfers_at a block at) (homes_before a wants block at)))
    (homes_before a wants block (suc at))

-- the instructions of a block from a place on, and the blocks from one on
abbrev pub events_from : Plan → Wants → (block at : ℕ) → List TempInsn → List Event
events_from a wants block at [] = []
events_from a wants block at (x ∷ insns) = insn_events a wants block at x ++ events_from a wants block (suc at) insns

abbrev pub blocks_events : Plan → Wants → (block : ℕ) → List (List TempInsn) → List Event
blocks_events a wants block [] = []
blocks_events a wants block (insns ∷ blocks) =
    events_from a wants block 0 insns ++ blocks_events a wants (suc block) blocks

abbrev pub journal_of : Plan → Wants → List Event
journal_of a wants = blocks_events a wants 0 a.function.blocks

-- the journal of an allocation, with the temporaries wanted where its function wants them
pub record IsJournal (a : Plan) (journal : List Event) : Type 0 where
  pub wants : Wants
  pub are_wants : AreWants a wants
  pub is : journal ≡ journal_of a wants

-- an allocation has one journal at most
abbrev pub JournalsAreUnique : Type 0
JournalsAreUnique = (a : Plan) (journal other : List Event) → IsJournal a journal → IsJournal a other → journal ≡ other
