-- The events of an allocation, put down on a walk over its instructions with what stands in registers.
use Rattle.std.specs.Prelude.{ℕ, suc, ◌+◌, List, [], ◌∷◌, ◌++◌, map, flat_map, length, slice_index_or}
use Rattle.temp_ir.specs.declared.insn.TempInsn.{TempInsn}
use Rattle.alloc_model.specs.declared.allocation.Transfer.{Transfer}
use Rattle.alloc_model.specs.declared.allocation.Event.{Event}
use Rattle.alloc_model.specs.declared.allocation.Event.TheVariants as event
use Rattle.alloc_rules.specs.declared.scan.Lifetimes.{Lifetimes}
use Rattle.alloc_rules.specs.Journal.{event_of, assigned_by_move, assigned_unless}
use Rattle.alloc_journal.specs.model.Holders.{Holders, register_in, pairs_written, holders_left, holders_behind}
use Rattle.alloc_journal.specs.model.Leaving.{all_leaving}

-- what is written gets a register, unless it keeps the one that it has, and is written there
abbrev pub assignments : (left : Holders) → List (ℕ × ℕ) → List Event
assignments left ws = flat_map (λ w. assigned_unless (register_in left w.0) w.0 w.1) ws

abbrev pub write_events : List (ℕ × ℕ) → List Event
write_events ws = map (λ w. event.Write w.0 w.1) ws

-- the events of a visit, with what stands in registers before it, before its writes and behind it
abbrev pub events_between : (temps : ℕ) → Lifetimes → (number : ℕ) → List Transfer → List (ℕ × ℕ) →
    (before left behind : Holders) → List Event
events_between temps lives number xs ws before left behind =
    event.Visit number ∷ all_leaving temps lives number before left behind
    ++ map event_of xs ++ flat_map assigned_by_move xs ++ assignments left ws ++ write_events ws

abbrev pub visit_by : (temps : ℕ) → Lifetimes → (number : ℕ) → TempInsn → List Transfer → (registers : List ℕ) →
    Holders → List Event
visit_by temps lives number x xs registers holders =
    events_between temps lives number xs (pairs_written x registers) holders (holders_left x xs holders)
    (holders_behind x xs registers holders)

-- the lists of an allocation, by the numbers of instructions
abbrev pub row_at : {A : Type 0} → List (List A) → (number : ℕ) → List A
row_at rows number = slice_index_or rows number []

-- of the instructions of a block, of which the first has a number, and what stands in registers behind them
abbrev pub visits_by : (temps : ℕ) → Lifetimes → (at : List (List Transfer)) → (regs : List (List ℕ)) → (number : ℕ) →
    List TempInsn → Holders → List Event
visits_by temps lives at regs number [] holders = []
visits_by temps lives at regs number (x ∷ insns) holders =
    visit_by temps lives number x (row_at at number) (row_at regs number) holders
    ++ visits_by temps lives at regs (suc number) insns
    (holders_behind x (row_at at number) (row_at regs number) holders)

abbrev pub behind_all : (at : List (List Transfer)) → (regs : List (List ℕ)) → (number : ℕ) → List TempInsn → Holders →
    Holders
behind_all at regs number [] holders = holders
behind_all at regs number (x ∷ insns) holders =
    behind_all at regs (suc number) insns (holders_behind x (row_at at number) (row_at regs number) holders)

-- of the blocks from one on
abbrev pub journal_by : (temps : ℕ) → Lifetimes → (at : List (List Transfer)) → (regs : List (List ℕ)) → (number : ℕ) →
    List (List TempInsn) → Holders → List Event
journal_by temps lives at regs number [] holders = []
journal_by temps lives at regs number (insns ∷ blocks) holders =
    visits_by temps lives at regs number insns holders
    ++ journal_by temps lives at regs (number + length insns) blocks (behind_all at regs number insns holders)
