-- What is held behind transfers, instructions and the tops of blocks.
use Rattle.std.proofs.Common.{◌≡◌, ℕ, zero, suc, ◌+◌, ◌≤◌, ◌==◌, ◌&&◌, ◌||◌, List, [], ◌∷◌, ◌++◌, Bool, true, false, Option, Some, None, if◌then◌else◌, refl, sym, ap, ◌∙◌, subst, ⊎_elim, inl, inr, length, map, arith}
use Rattle.std.proofs.lemmas.Bool.{eqb-true}
use Rattle.std.specs.Prelude.{Contains, not, zip, flat_map, slice_index_or}
use Rattle.std.specs.List.{range_with_len}
use Rattle.std.proofs.Math.Path.{fun_ext}
use Rattle.temp_ir.specs.declared.insn.TempInsn.{TempInsn}
use Rattle.temp_ir.specs.declared.insn.TempInsn.TheVariants as i
use Rattle.temp_ir.specs.Insns.{reads_of, writes_of}
use Rattle.temp_ir.specs.Fixed.{fixed_writes_of, ended_of, has_number}
use Rattle.alloc_model.specs.declared.allocation.Transfer.{Transfer}
use Rattle.alloc_model.specs.declared.allocation.Event.TheVariants as event
use Rattle.alloc_model.specs.Effect.{calls_function}
use Rattle.alloc_model.specs.Places.{Reg, Slot}
use Rattle.alloc_rules.specs.Visits.{Homes, homes_behind_moves, takes_away, place_left, homes_left, all_come_to, registers_written, register_in_place}
use Rattle.alloc_rules.specs.Journal.{assigned_unless}
use Rattle.alloc_plain.specs.declared.holders.HeldTemporaries.{HeldTemporaries}
use Rattle.alloc_plain.specs.model.Held.{is_in, register_by, register_in, place_in, home_in, holder_behind, comes, come, nothing_held, held_left, unless_live, held_at_top, Holds}
use Rattle.alloc_plain.specs.model.Visits.{assignment_events, write_events}
use Rattle.alloc_plain_lists.specs.Plain.{loads, stores, stores_behind, plain_registers, writes_in, first_in}
use Rattle.alloc_plain_lists.proofs.Sets.{test_or_not}
use Rattle.alloc_plain_lists.proofs.Registers.{few, written_high, IsHigh}
use Rattle.alloc_plain_lists.proofs.Lists.{range_behind}
use Rattle.alloc_plain.proofs.Homes.{IsLow, IsOnce, register_place, behind_other, comes_home, comes_once}

-- ---- what is held is of a kind

pub nothing_holds : (P : ℕ → Type 0) → Holds P nothing_held
nothing_holds P = record { first = λ t is. absurd (cc); second = λ t is. absurd (cc); third = λ t is. absurd (cc) }

pub nothing_once : IsOnce nothing_held
nothing_once t = record { first = λ is. absurd (cc); second = λ is. absurd (cc) }

pub holds_more : (P Q : ℕ → Type 0) (h : HeldTemporaries) → ((t : ℕ) → P t → Q t) → Holds P h → Holds Q h
holds_more P Q h more holds = record { first = λ t is. more t (holds.first t is); second = λ t is. more t (holds.second t is); third = λ t is. more t (holds.third t is) }

and_held : (p a : Bool) → (p && a) ≡ true → a ≡ true
and_held true a is = is
and_held false a is = absurd (cc)

holder_of : (P : ℕ → Type 0) (here : Bool) (u : ℕ) (o : Option ℕ) → P u → ((t : ℕ) → is_in o t ≡ true → P t) → (t : ℕ) → is_in (holder_behind here u o) t ≡ true → P t
holder_of P here u o p all t is = ⊎_elim
    (λ (e : (u == t) ≡ true). subst P (eqb-true u t e) p)
    (λ (n : (u == t) ≡ false). all t (and_held (not here) (is_in o t) (sym (behind_other here u t o n) ∙ is)))
    (test_or_not (u == t))

pub comes_holds : (P : ℕ → Type 0) (r u : ℕ) (h : HeldTemporaries) → P u → Holds P h → Holds P (comes r u h)
comes_holds P r u h p holds = record {
  first = holder_of P (r == 1) u h.first p holds.first;
  second = holder_of P (r == 2) u h.second p holds.second;
  third = holder_of P (r == 3) u h.third p holds.third;
}

pub held_register : (P : ℕ → Type 0) (h : HeldTemporaries) (t r : ℕ) → Holds P h → register_in h t ≡ Some r → P t
held_register P h t r holds is = by_register (is_in h.first t) (is_in h.second t) (is_in h.third t) (holds.first t) (holds.second t) (holds.third t) is
  where
    by_register : (a b c : Bool) → (a ≡ true → P t) → (b ≡ true → P t) → (c ≡ true → P t) → register_by a b c ≡ Some r → P t
    by_register true b c p q s is = p refl
    by_register false true c p q s is = q refl
    by_register false false true p q s is = s refl
    by_register false false false p q s is = absurd (cc)

-- ---- transfers

pub low_of : (r : ℕ) → 1 ≤ r → r ≤ 3 → IsLow r
low_of zero low high = absurd (omega (arith, low))
low_of (suc zero) low high = inl refl
low_of (suc (suc zero)) low high = inr (inl refl)
low_of (suc (suc (suc zero))) low high = inr (inr refl)
low_of (suc (suc (suc (suc r)))) low high = absurd (omega (arith, high))

stores_stay : (ts : List ℕ) (r : ℕ) (xs : List Transfer) (homes : Homes) → homes_behind_moves (stores ts r ++ xs) homes ≡ homes_behind_moves xs homes
stores_stay [] r xs homes = refl
stores_stay (t ∷ ts) r xs homes = stores_stay ts (r + 1) xs homes

loads_come : (ts : List ℕ) (r : ℕ) (h : HeldTemporaries) → 1 ≤ r → r + length ts ≤ 4 → IsOnce h → homes_behind_moves (loads ts r) (home_in h) ≡ home_in (come ts r h)
loads_come [] r h low high once = refl
loads_come (t ∷ ts) r h low high once =
    let is_low = low_of r low (omega (arith, high)) in
    ap (homes_behind_moves (loads ts (r + 1))) (comes_home r t h is_low once)
    ∙ loads_come ts (r + 1) (comes r t h) (omega (arith, low)) (omega (arith, high)) (comes_once r t h is_low once)

writes_come : (ts : List ℕ) (r : ℕ) (h : HeldTemporaries) → 1 ≤ r → r + length ts ≤ 4 → IsOnce h → all_come_to (range_with_len r (length ts)) ts (home_in h) ≡ home_in (come ts r h)
writes_come [] r h low high once = refl
writes_come (t ∷ ts) r h low high once =
    let is_low = low_of r low (omega (arith, high)) in
    ap (all_come_to (range_with_len (r + 1) (length ts)) ts) (comes_home r t h is_low once)
    ∙ writes_come ts (r + 1) (comes r t h) (omega (arith, low)) (omega (arith, high)) (comes_once r t h is_low once)

come_once : (ts : List ℕ) (r : ℕ) (h : HeldTemporaries) → 1 ≤ r → r + length ts ≤ 4 → IsOnce h → IsOnce (come ts r h)
come_once [] r h low high once = once
come_once (t ∷ ts) r h low high once =
    come_once ts (r + 1) (comes r t h) (omega (arith, low)) (omega (arith, high)) (comes_once r t h (low_of r low (omega (arith, high))) once)

come_holds : (P : ℕ → Type 0) (ts : List ℕ) (r : ℕ) (h : HeldTemporaries) → ((t : ℕ) → Contains ts t → P t) → Holds P h → Holds P (come ts r h)
come_holds P [] r h all holds = holds
come_holds P (t ∷ ts) r h all holds =
    come_holds P ts (r + 1) (comes r t h) (λ u (k, within, is). all u (suc k, omega (arith, within), is)) (comes_holds P r t h (all t (0, omega arith, refl)) holds)

pub moves_come : (p : Option TempInsn) (x : TempInsn) (h : HeldTemporaries) → IsOnce h → homes_behind_moves (stores_behind p ++ loads (reads_of x) 1) (home_in h) ≡ home_in (come (reads_of x) 1 h)
moves_come p x h once =
    let most = (few x).0 in
    stores_stay (writes_in p) (first_in p) (loads (reads_of x) 1) (home_in h) ∙ loads_come (reads_of x) 1 h (omega arith) (omega (arith, most)) once

-- ---- what an instruction ends

not_high : (r : ℕ) → IsLow r → IsHigh r → ⊥
not_high r (inl e) (inl high) = omega (arith, e, high)
not_high r (inl e) (inr high) = omega (arith, e, high)
not_high r (inr (inl e)) (inl high) = omega (arith, e, high)
not_high r (inr (inl e)) (inr high) = omega (arith, e, high)
not_high r (inr (inr e)) (inl high) = omega (arith, e, high)
not_high r (inr (inr e)) (inr high) = omega (arith, e, high)

unwritten : (x : TempInsn) (r : ℕ) → IsLow r → has_number (fixed_writes_of x) r ≡ false
unwritten x r low = ⊎_elim (λ (is : has_number (fixed_writes_of x) r ≡ true). absurd (not_high r low (written_high x r is))) (λ no. no) (test_or_not (has_number (fixed_writes_of x) r))

or_none : (a b : Bool) → a ≡ false → (a || b) ≡ b
or_none true b e = absurd (cc)
or_none false b e = refl

by_number : (x : TempInsn) (b : Bool) → has_number (ended_of x) 1 ≡ b → has_number (ended_of x) 2 ≡ b → has_number (ended_of x) 3 ≡ b → (r : ℕ) → IsLow r → takes_away x r ≡ b
by_number x b one two three r low = or_none (has_number (fixed_writes_of x) r) (has_number (ended_of x) r) (unwritten x r low) ∙ ended r low
  where
    ended : (r : ℕ) → IsLow r → has_number (ended_of x) r ≡ b
    ended r (inl e) = ap (has_number (ended_of x)) e ∙ one
    ended r (inr (inl e)) = ap (has_number (ended_of x)) e ∙ two
    ended r (inr (inr e)) = ap (has_number (ended_of x)) e ∙ three

pub taken : (x : TempInsn) (r : ℕ) → IsLow r → takes_away x r ≡ calls_function x
taken (i.Address op destination base plus) = by_number (i.Address op destination base plus) false refl refl refl
taken (i.ObjectAddress destination place plus) = by_number (i.ObjectAddress destination place plus) false refl refl refl
taken (i.Load op destination pointer plus) = by_number (i.Load op destination pointer plus) false refl refl refl
taken (i.Store op value pointer plus) = by_number (i.Store op value pointer plus) false refl refl refl
taken (i.Operate op destination left right) = by_number (i.Operate op destination left right) false refl refl refl
taken (i.Extend op destination source) = by_number (i.Extend op destination source) false refl refl refl
taken (i.ToFixed register source) = by_number (i.ToFixed register source) false refl refl refl
taken (i.FromFixed destination register) = by_number (i.FromFixed destination register) false refl refl refl
taken (i.SetFixed register number) = by_number (i.SetFixed register number) false refl refl refl
taken (i.WriteArgument number source) = by_number (i.WriteArgument number source) false refl refl refl
taken (i.ReadArgument destination number) = by_number (i.ReadArgument destination number) false refl refl refl
taken (i.Branch op source block) = by_number (i.Branch op source block) false refl refl refl
taken (i.Jump block) = by_number (i.Jump block) false refl refl refl
taken (i.Call function arguments) = by_number (i.Call function arguments) true refl refl refl
taken (i.Divide routine) = by_number (i.Divide routine) false refl refl refl
taken (i.Serve service) = by_number (i.Serve service) false refl refl refl
taken (i.Return with_value) = by_number (i.Return with_value) false refl refl refl
taken i.Mark = by_number i.Mark false refl refl refl

register_low : (a b c : Bool) (r : ℕ) → register_by a b c ≡ Some r → IsLow r
register_low true b c r is = inl (cc)
register_low false true c r is = inr (inl (cc))
register_low false false true r is = inr (inr (cc))
register_low false false false r is = absurd (cc)

-- what was held, unless the instruction ends it
abbrev left_of : (ends : Bool) → HeldTemporaries → HeldTemporaries
left_of ends h = if ends then nothing_held else h

left_at : (x : TempInsn) (t : ℕ) (h : HeldTemporaries) (ends : Bool) (o : Option ℕ) → ((r : ℕ) → IsLow r → takes_away x r ≡ ends) → register_in h t ≡ o → place_left x t (place_in o t) ≡ home_in (left_of ends h) t
left_at x t h true None taken is = refl
left_at x t h true (Some r) taken is =
    ap (λ b. if b then Slot t else Reg r) (taken r (register_low (is_in h.first t) (is_in h.second t) (is_in h.third t) r is))
left_at x t h false None taken is = ap (λ o. place_in o t) (sym is)
left_at x t h false (Some r) taken is =
    ap (λ b. if b then Slot t else Reg r) (taken r (register_low (is_in h.first t) (is_in h.second t) (is_in h.third t) r is)) ∙ ap (λ o. place_in o t) (sym is)

pub left_home : (x : TempInsn) (h : HeldTemporaries) → homes_left x (home_in (come (reads_of x) 1 h)) ≡ home_in (held_left x h)
left_home x h = fun_ext (λ t. left_at x t (come (reads_of x) 1 h) (calls_function x) (register_in (come (reads_of x) 1 h) t) (taken x) refl)

pub left_once : (x : TempInsn) (h : HeldTemporaries) → IsOnce h → IsOnce (held_left x h)
left_once x h once = either (calls_function x)
  where
    either : (ends : Bool) → IsOnce (left_of ends (come (reads_of x) 1 h))
    either true = nothing_once
    either false = let most = (few x).0 in come_once (reads_of x) 1 h (omega arith) (omega (arith, most)) once

pub left_holds : (P : ℕ → Type 0) (x : TempInsn) (h : HeldTemporaries) → ((t : ℕ) → Contains (reads_of x) t → P t) → Holds P h → Holds P (held_left x h)
left_holds P x h all holds = either (calls_function x)
  where
    either : (ends : Bool) → Holds P (left_of ends (come (reads_of x) 1 h))
    either true = nothing_holds P
    either false = come_holds P (reads_of x) 1 h all holds

-- ---- what it writes

pub behind_home : (x : TempInsn) (h : HeldTemporaries) → IsOnce h → all_come_to (registers_written (plain_registers x) x) (writes_of x) (home_in h) ≡ home_in (come (writes_of x) (1 + length (reads_of x)) h)
behind_home x h once =
    let most = few x in
    let reads = most.0 in
    let writes = most.1 in
    ap (λ rs. all_come_to rs (writes_of x) (home_in h)) (range_behind (length (reads_of x)) 1 (length (reads_of x) + length (writes_of x)) (length (writes_of x)) refl)
    ∙ writes_come (writes_of x) (1 + length (reads_of x)) h (omega arith) (omega (arith, reads, writes)) once

pub behind_once : (x : TempInsn) (h : HeldTemporaries) → IsOnce h → IsOnce (come (writes_of x) (1 + length (reads_of x)) h)
behind_once x h once =
    let most = few x in
    let reads = most.0 in
    let writes = most.1 in
    come_once (writes_of x) (1 + length (reads_of x)) h (omega arith) (omega (arith, reads, writes)) once

pub behind_holds : (P : ℕ → Type 0) (x : TempInsn) (h : HeldTemporaries) → ((t : ℕ) → Contains (writes_of x) t → P t) → Holds P h → Holds P (come (writes_of x) (1 + length (reads_of x)) h)
behind_holds P x h all holds = come_holds P (writes_of x) (1 + length (reads_of x)) h all holds

-- the events of what it writes
assigning_few : (ts : List ℕ) (r : ℕ) (h : HeldTemporaries) → length ts ≤ 1 →
    flat_map (λ w. assigned_unless (register_in_place (home_in h w.0)) w.0 w.1) (zip ts (range_with_len r (length ts))) ≡ assignment_events r h ts
assigning_few [] r h most = refl
assigning_few (t ∷ []) r h most = ap (λ o. assigned_unless o t r ++ []) (register_place (register_in h t) t)
assigning_few (t ∷ u ∷ ts) r h most = absurd (omega (arith, most))

writing_few : (ts : List ℕ) (r : ℕ) → length ts ≤ 1 → map (λ w. event.Write w.0 w.1) (zip ts (range_with_len r (length ts))) ≡ write_events r ts
writing_few [] r most = refl
writing_few (t ∷ []) r most = refl
writing_few (t ∷ u ∷ ts) r most = absurd (omega (arith, most))

pub assigning_home : (x : TempInsn) (h : HeldTemporaries) →
    flat_map (λ w. assigned_unless (register_in_place (home_in h w.0)) w.0 w.1) (zip (writes_of x) (registers_written (plain_registers x) x)) ≡ assignment_events (1 + length (reads_of x)) h (writes_of x)
assigning_home x h =
    ap (λ rs. flat_map (λ w. assigned_unless (register_in_place (home_in h w.0)) w.0 w.1) (zip (writes_of x) rs))
    (range_behind (length (reads_of x)) 1 (length (reads_of x) + length (writes_of x)) (length (writes_of x)) refl)
    ∙ assigning_few (writes_of x) (1 + length (reads_of x)) h (few x).1

pub writing_home : (x : TempInsn) → map (λ w. event.Write w.0 w.1) (zip (writes_of x) (registers_written (plain_registers x) x)) ≡ write_events (1 + length (reads_of x)) (writes_of x)
writing_home x =
    ap (λ rs. map (λ w. event.Write w.0 w.1) (zip (writes_of x) rs))
    (range_behind (length (reads_of x)) 1 (length (reads_of x) + length (writes_of x)) (length (writes_of x)) refl)
    ∙ writing_few (writes_of x) (1 + length (reads_of x)) (few x).1

-- ---- tops of blocks

unless_in : (live : List Bool) (o : Option ℕ) (t : ℕ) → is_in (unless_live live o) t ≡ (not (slice_index_or live t false) && is_in o t)
unless_in live None t = none (not (slice_index_or live t false))
  where
    none : (b : Bool) → false ≡ (b && false)
    none true = refl
    none false = refl
unless_in live (Some u) t = ⊎_elim
    (λ (e : (u == t) ≡ true). ⊎_elim
    (λ (is : slice_index_or live u false ≡ true).
    ap (λ b. is_in (if b then None else Some u) t) is ∙ sym (ap (λ b. not b && (u == t)) (ap (λ v. slice_index_or live v false) (sym (eqb-true u t e)) ∙ is)))
    (λ (no : slice_index_or live u false ≡ false).
    ap (λ b. is_in (if b then None else Some u) t) no ∙ sym (ap (λ b. not b && (u == t)) (ap (λ v. slice_index_or live v false) (sym (eqb-true u t e)) ∙ no)))
    (test_or_not (slice_index_or live u false)))
    (λ (n : (u == t) ≡ false). apart (slice_index_or live u false) (not (slice_index_or live t false)) n)
    (test_or_not (u == t))
  where
    apart : (b c : Bool) → (u == t) ≡ false → is_in (if b then None else Some u) t ≡ (c && (u == t))
    apart true true n = sym n
    apart true false n = refl
    apart false true n = refl
    apart false false n = n

top_at : (live : List Bool) (h : HeldTemporaries) (t : ℕ) → (if slice_index_or live t false then Slot t else home_in h t) ≡ home_in (held_at_top live h) t
top_at live h t =
    by_live (slice_index_or live t false)
    ∙ sym (ap (λ a. place_in (register_by a (is_in (unless_live live h.second) t) (is_in (unless_live live h.third) t)) t) (unless_in live h.first t)
    ∙ ap (λ b. place_in (register_by (not (slice_index_or live t false) && is_in h.first t) b (is_in (unless_live live h.third) t)) t) (unless_in live h.second t)
    ∙ ap (λ c. place_in (register_by (not (slice_index_or live t false) && is_in h.first t) (not (slice_index_or live t false) && is_in h.second t) c) t) (unless_in live h.third t))
  where
    by_live : (b : Bool) → (if b then Slot t else home_in h t) ≡ place_in (register_by (not b && is_in h.first t) (not b && is_in h.second t) (not b && is_in h.third t)) t
    by_live true = refl
    by_live false = refl

pub top_home : (live : List Bool) (h : HeldTemporaries) (wanted : ℕ → Bool) → ((t : ℕ) → slice_index_or live t false ≡ wanted t) → (λ t. if wanted t then Slot t else home_in h t) ≡ home_in (held_at_top live h)
top_home live h wanted same = fun_ext (λ t. ap (λ b. if b then Slot t else home_in h t) (sym (same t)) ∙ top_at live h t)

pub top_once : (live : List Bool) (h : HeldTemporaries) → IsOnce h → IsOnce (held_at_top live h)
top_once live h once t = record {
  first = λ is. (none h.second ((once t).first (kept h.first is)).0, none h.third ((once t).first (kept h.first is)).1);
  second = λ is. none h.third ((once t).second (kept h.second is));
}
  where
    kept : (o : Option ℕ) → is_in (unless_live live o) t ≡ true → is_in o t ≡ true
    kept o is = and_held (not (slice_index_or live t false)) (is_in o t) (sym (unless_in live o t) ∙ is)

    no_more : (b a : Bool) → a ≡ false → (b && a) ≡ false
    no_more true a is = is
    no_more false a is = refl

    none : (o : Option ℕ) → is_in o t ≡ false → is_in (unless_live live o) t ≡ false
    none o is = unless_in live o t ∙ no_more (not (slice_index_or live t false)) (is_in o t) is

pub top_holds : (P : ℕ → Type 0) (live : List Bool) (h : HeldTemporaries) → Holds P h → Holds P (held_at_top live h)
top_holds P live h holds = record { first = λ t is. holds.first t (kept h.first t is); second = λ t is. holds.second t (kept h.second t is); third = λ t is. holds.third t (kept h.third t is) }
  where
    kept : (o : Option ℕ) (t : ℕ) → is_in (unless_live live o) t ≡ true → is_in o t ≡ true
    kept o t is = and_held (not (slice_index_or live t false)) (is_in o t) (sym (unless_in live o t) ∙ is)
