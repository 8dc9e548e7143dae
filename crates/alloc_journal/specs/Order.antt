-- The visits of a journal.
use Rattle.std.specs.Prelude.{◌≡◌, ℕ, List, [], ◌∷◌, flat_map}
use Rattle.std.specs.List.{range_with_len}
use Rattle.pass_core.specs.Functions.{count_of}
use Rattle.alloc_model.specs.declared.allocation.Event.{Event}
use Rattle.alloc_model.specs.declared.allocation.Event.TheVariants as event
use Rattle.alloc_model.specs.Places.{Plan}
use Rattle.alloc_rules.specs.Journal.{IsJournal}

-- the number of a visit
abbrev pub number_visited : Event → List ℕ
number_visited (event.Visit n) = n ∷ []
number_visited e = []

abbrev pub numbers_visited : List Event → List ℕ
numbers_visited events = flat_map number_visited events

-- the journal of an allocation has one visit for each instruction, in linear order
abbrev pub VisitsAreInOrder : Type 0
VisitsAreInOrder = (a : Plan) (journal : List Event) → IsJournal a journal →
    numbers_visited journal ≡ range_with_len 0 (count_of a.function.blocks)
