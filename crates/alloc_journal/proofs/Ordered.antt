-- A journal has one visit for each instruction, in linear order.
use Rattle.std.proofs.Common.{◌≡◌, ℕ, zero, suc, ◌+◌, ◌*◌, ◌==◌, List, [], ◌∷◌, ◌++◌, Bool, true, false, Option, Some, None, if◌then◌else◌, refl, sym, ap, ◌∙◌, length, map, take, drop, append_assoc, append-nil, arith}
use Rattle.std.specs.Prelude.{zip, flat_map}
use Rattle.std.specs.List.{range_with_len}
use Rattle.std.proofs.lemmas.List.Sums.{sum_by-cons}
use Rattle.pass_core.specs.Functions.{count_of}
use Rattle.temp_ir.specs.declared.insn.TempInsn.{TempInsn}
use Rattle.temp_ir.specs.Insns.{writes_of}
use Rattle.alloc_model.specs.declared.allocation.Transfer.{Transfer}
use Rattle.alloc_model.specs.declared.allocation.Transfer.TheVariants.{Store, Load, Shift}
use Rattle.alloc_model.specs.declared.allocation.Event.{Event}
use Rattle.alloc_model.specs.declared.allocation.Event.TheVariants as event
use Rattle.alloc_model.specs.Places.{Plan, linear_number, transfers_at, registers_at}
use Rattle.alloc_model.specs.Lifetimes.{Blocks}
use Rattle.alloc_rules.specs.Visits.{Wants, Homes, homes_behind_moves, homes_left, registers_written, homes_before, all_temps, register_in_place}
use Rattle.alloc_rules.specs.Frugal.{is_covered}
use Rattle.alloc_rules.specs.Journal.{eviction, eviction_at, evictions, event_of, assigned_by_move, assigned_unless, visit_events, insn_events, events_from, blocks_events, journal_of, IsJournal}
use Rattle.alloc_journal.specs.Order.{number_visited, numbers_visited}
use Rattle.alloc_journal.proofs.Loops.{count_step}
use Rattle.alloc_journal.proofs.Journals.{drop_first}

-- ---- lists

in_both : (xs ys : List Event) → numbers_visited (xs ++ ys) ≡ numbers_visited xs ++ numbers_visited ys
in_both [] ys = refl
in_both (x ∷ xs) ys = ap (λ ns. number_visited x ++ ns) (in_both xs ys) ∙ sym (append_assoc (number_visited x) (numbers_visited xs) (numbers_visited ys))

none_in_both : (xs ys : List Event) → numbers_visited xs ≡ [] → numbers_visited ys ≡ [] → numbers_visited (xs ++ ys) ≡ []
none_in_both xs ys e f = in_both xs ys ∙ ap (λ ns. ns ++ numbers_visited ys) e ∙ f

none_in_any : {A : Type 0} (F : A → List Event) (ts : List A) → ((t : A) → numbers_visited (F t) ≡ []) → numbers_visited (flat_map F ts) ≡ []
none_in_any F [] none = refl
none_in_any F (t ∷ ts) none = none_in_both (F t) (flat_map F ts) (none t) (none_in_any F ts none)

none_in_map : {A : Type 0} (F : A → Event) (ts : List A) → ((t : A) → number_visited (F t) ≡ []) → numbers_visited (map F ts) ≡ []
none_in_map F [] none = refl
none_in_map F (t ∷ ts) none = ap (λ ns. ns ++ numbers_visited (map F ts)) (none t) ∙ none_in_map F ts none

range_both : (a m n : ℕ) → range_with_len a m ++ range_with_len (a + m) n ≡ range_with_len a (m + n)
range_both a zero n = ap (λ b. range_with_len b n) (let e : a + 0 ≡ a = omega arith in e) ∙ ap (range_with_len a) (let e : n ≡ 0 + n = omega arith in e)
range_both a (suc m) n =
    ap (λ b. a ∷ (range_with_len (a + 1) m ++ range_with_len b n)) (let e : a + suc m ≡ a + 1 + m = omega arith in e)
    ∙ ap (λ ns. a ∷ ns) (range_both (a + 1) m n)
    ∙ ap (range_with_len a) (let e : suc (m + n) ≡ suc m + n = omega arith in e)

-- ---- the events of a visit

left_alone : (covered : Bool) (r q : Option ℕ) (t : ℕ) → numbers_visited (eviction covered r q t) ≡ []
left_alone covered None q t = refl
left_alone covered (Some r) (Some q) t = refl
left_alone true (Some r) None t = refl
left_alone false (Some r) None t = refl

moved_alone : (x : Transfer) → number_visited (event_of x) ≡ []
moved_alone (Store t r) = refl
moved_alone (Load t r) = refl
moved_alone (Shift t from to) = refl

loaded_alone : (x : Transfer) → numbers_visited (assigned_by_move x) ≡ []
loaded_alone (Store t r) = refl
loaded_alone (Load t r) = refl
loaded_alone (Shift t from to) = refl

assigned_alone : (o : Option ℕ) (t r : ℕ) → numbers_visited (assigned_unless o t r) ≡ []
assigned_alone None t r = refl
assigned_alone (Some q) t r = by (q == r)
  where
    by : (same : Bool) → numbers_visited (if same then [] else event.Assign t r ∷ []) ≡ []
    by true = refl
    by false = refl

visit_alone : (a : Plan) (wants : Wants) (number : ℕ) (xs : List Transfer) (ws : List (ℕ × ℕ)) (before left behind : Homes) → numbers_visited (visit_events a wants number xs ws before left behind) ≡ number ∷ []
visit_alone a wants number xs ws before left behind =
    ap (λ ns. number ∷ ns)
    (none_in_both (evictions a wants number before left behind ++ map event_of xs ++ flat_map assigned_by_move xs ++ flat_map (λ w. assigned_unless (register_in_place (left w.0)) w.0 w.1) ws) (map (λ w. event.Write w.0 w.1) ws)
    (none_in_both (evictions a wants number before left behind ++ map event_of xs ++ flat_map assigned_by_move xs) (flat_map (λ w. assigned_unless (register_in_place (left w.0)) w.0 w.1) ws)
    (none_in_both (evictions a wants number before left behind ++ map event_of xs) (flat_map assigned_by_move xs)
    (none_in_both (evictions a wants number before left behind) (map event_of xs)
    (none_in_any (λ t. eviction_at a wants (2 * number) before left t ++ eviction_at a wants (2 * number + 1) left behind t) (all_temps a) (λ t.
    none_in_both (eviction_at a wants (2 * number) before left t) (eviction_at a wants (2 * number + 1) left behind t)
    (left_alone (is_covered a wants t (2 * number)) (register_in_place (before t)) (register_in_place (left t)) t)
    (left_alone (is_covered a wants t (2 * number + 1)) (register_in_place (left t)) (register_in_place (behind t)) t)))
    (none_in_map event_of xs moved_alone))
    (none_in_any assigned_by_move xs loaded_alone))
    (none_in_any (λ (w : ℕ × ℕ). assigned_unless (register_in_place (left w.0)) w.0 w.1) ws (λ w. assigned_alone (register_in_place (left w.0)) w.0 w.1)))
    (none_in_map (λ (w : ℕ × ℕ). event.Write w.0 w.1) ws (λ w. refl)))

-- ---- blocks

block_visits : (a : Plan) (wants : Wants) (block at : ℕ) (insns : List TempInsn) → numbers_visited (events_from a wants block at insns) ≡ range_with_len (linear_number a.function.blocks block at) (length insns)
block_visits a wants block at [] = refl
block_visits a wants block at (x ∷ insns) =
    in_both (insn_events a wants block at x) (events_from a wants block (suc at) insns)
    ∙ ap (λ ns. ns ++ numbers_visited (events_from a wants block (suc at) insns))
    (visit_alone a wants (linear_number a.function.blocks block at) (transfers_at a block at) (zip (writes_of x) (registers_written (registers_at a block at) x)) (homes_before a wants block at)
    (homes_left x (homes_behind_moves (transfers_at a block at) (homes_before a wants block at))) (homes_before a wants block (suc at)))
    ∙ ap (λ ns. linear_number a.function.blocks block at ∷ ns) (block_visits a wants block (suc at) insns
    ∙ ap (λ n. range_with_len n (length insns)) (let e : linear_number a.function.blocks block (suc at) ≡ linear_number a.function.blocks block at + 1 = omega arith in e))

all_visits : (a : Plan) (wants : Wants) (bs : Blocks) (block : ℕ) → drop block a.function.blocks ≡ bs → numbers_visited (blocks_events a wants block bs) ≡ range_with_len (count_of (take block a.function.blocks)) (count_of bs)
all_visits a wants [] block rest = refl
all_visits a wants (insns ∷ bs) block rest =
    let d = drop_first a.function.blocks block insns bs rest in
    let step = count_step a.function.blocks block insns d.0 in
    let sum = sum_by-cons (λ (xs : List TempInsn). length xs) insns bs in
    in_both (events_from a wants block 0 insns) (blocks_events a wants (suc block) bs)
    ∙ ap (λ ns. ns ++ numbers_visited (blocks_events a wants (suc block) bs)) (block_visits a wants block 0 insns
    ∙ ap (λ n. range_with_len n (length insns)) (let e : linear_number a.function.blocks block 0 ≡ count_of (take block a.function.blocks) = omega arith in e))
    ∙ ap (λ ns. range_with_len (count_of (take block a.function.blocks)) (length insns) ++ ns) (all_visits a wants bs (suc block) d.1 ∙ ap (λ n. range_with_len n (count_of bs)) step)
    ∙ range_both (count_of (take block a.function.blocks)) (length insns) (count_of bs)
    ∙ ap (range_with_len (count_of (take block a.function.blocks))) (let e : length insns + count_of bs ≡ count_of (insns ∷ bs) = omega (arith, sum) in e)

pub in_order : (a : Plan) (journal : List Event) → IsJournal a journal → numbers_visited journal ≡ range_with_len 0 (count_of a.function.blocks)
in_order a journal is = ap numbers_visited is.is ∙ all_visits a is.wants a.function.blocks 0 refl
