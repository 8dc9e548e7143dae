-- The events of the plainest allocation, put down on a walk over the instructions with what is held.
use Rattle.std.specs.Prelude.{ℕ, suc, ◌+◌, ◌*◌, nat_le, Bool, List, [], ◌∷◌, ◌++◌, map, length, flat_map, slice_index_or, Option, Some, None}
use Rattle.std.specs.List.{range_with_len}
use Rattle.temp_ir.specs.declared.insn.TempInsn.{TempInsn}
use Rattle.temp_ir.specs.Insns.{reads_of, writes_of}
use Rattle.alloc_model.specs.declared.allocation.Event.{Event}
use Rattle.alloc_model.specs.declared.allocation.Event.TheVariants as event
use Rattle.alloc_rules.specs.Journal.{eviction, event_of, assigned_by_move, assigned_unless}
use Rattle.alloc_plain_lists.specs.Plain.{loads, stores_behind}
use Rattle.alloc_plain.specs.declared.holders.HeldTemporaries.{HeldTemporaries}
use Rattle.alloc_plain.specs.model.Held.{register_in, held_left, held_behind, held_behind_all, held_at_top}

-- the events of temporaries that leave their registers, where each lifetime ends at its last point
abbrev pub leaving_events : (ends : List ℕ) → (point : ℕ) → (before behind : HeldTemporaries) → (t : ℕ) → List Event
leaving_events ends point before behind t =
    eviction (nat_le point (slice_index_or ends t 0)) (register_in before t) (register_in behind t) t

-- where an instruction reads, and where it writes
abbrev pub leaving_at : (ends : List ℕ) → (number : ℕ) → (before left behind : HeldTemporaries) → (t : ℕ) → List Event
leaving_at ends number before left behind t =
    leaving_events ends (2 * number) before left t ++ leaving_events ends (2 * number + 1) left behind t

abbrev pub all_leaving : (ends : List ℕ) → (number : ℕ) → (before left behind : HeldTemporaries) → List Event
all_leaving ends number before left behind =
    flat_map (leaving_at ends number before left behind) (range_with_len 0 (length ends))

-- what an instruction writes gets a register, unless it keeps the one that it has, and is written there
abbrev pub assignment_events : (register : ℕ) → (left : HeldTemporaries) → List ℕ → List Event
assignment_events r left temps = flat_map (λ t. assigned_unless (register_in left t) t r) temps

abbrev pub write_events : (register : ℕ) → List ℕ → List Event
write_events r temps = map (λ t. event.Write t r) temps

-- the events of a visit, behind another instruction of the block if there is one
abbrev pub visit_in_slots : (ends : List ℕ) → (number : ℕ) → (before : Option TempInsn) → TempInsn →
    HeldTemporaries → List Event
visit_in_slots ends number p x h =
    event.Visit number ∷ all_leaving ends number h (held_left x h) (held_behind x h)
    ++ map event_of (stores_behind p ++ loads (reads_of x) 1)
    ++ flat_map assigned_by_move (stores_behind p ++ loads (reads_of x) 1)
    ++ assignment_events (1 + length (reads_of x)) (held_left x h) (writes_of x)
    ++ write_events (1 + length (reads_of x)) (writes_of x)

-- of the instructions of a block, and of the blocks from one on
abbrev pub visits_in_slots : (ends : List ℕ) → (number : ℕ) → (before : Option TempInsn) → List TempInsn →
    HeldTemporaries → List Event
visits_in_slots ends number p [] h = []
visits_in_slots ends number p (x ∷ insns) h =
    visit_in_slots ends number p x h ++ visits_in_slots ends (suc number) (Some x) insns (held_behind x h)

abbrev pub journal_in_slots : (ends : List ℕ) → (tops : List (List Bool)) → (number block : ℕ) →
    List (List TempInsn) → HeldTemporaries → List Event
journal_in_slots ends tops number block [] h = []
journal_in_slots ends tops number block (insns ∷ blocks) h =
    visits_in_slots ends number None insns (held_at_top (slice_index_or tops block []) h)
    ++ journal_in_slots ends tops (number + length insns) (suc block) blocks
    (held_behind_all insns (held_at_top (slice_index_or tops block []) h))
