-- A small allocation is frugal, and one with a needless load is not.
use Rattle.std.proofs.Common.{◌≡◌, ◌≢◌, ℕ, zero, suc, ◌+◌, ◌*◌, ◌<◌, List, [], ◌∷◌, ◌++◌, Bool, true, false, Some, refl, sym, ap, ◌∙◌, subst, arith}
use Rattle.std.specs.Prelude.{Contains, slice_get, slice_index_or}
use Rattle.std.proofs.lemmas.Option.{none-some, same_Some}
use Rattle.pass_core.specs.Functions.{insn_at, successors_of}
use Rattle.pass_core.specs.Live as live
use Rattle.temp_ir.specs.declared.insn.FixedRegister.TheVariants.{Value}
use Rattle.temp_ir.specs.declared.insn.TempInsn.{TempInsn}
use Rattle.temp_ir.specs.declared.insn.TempInsn.TheVariants.{ToFixed, Return}
use Rattle.temp_ir.specs.Insns.{reads_of, writes_of, targets_of, flows_on_of}
use Rattle.alloc_model.specs.declared.allocation.Transfer.{Transfer}
use Rattle.alloc_model.specs.declared.allocation.Transfer.TheVariants as move
use Rattle.alloc_model.specs.Examples.{set_temp}
use Rattle.alloc_model.specs.declared.allocation.TempPlace.{TempPlace}
use Rattle.alloc_model.specs.Places.{Reg, Slot, linear_number}
use Rattle.alloc_model.specs.Lifetimes.{IsPresent, IsRead, IsLiveBefore, IsWritten, IsLiveAfter, lives_at}
use Rattle.alloc_rules.specs.Visits.{Wants, AreWants, registers_written, moment_of_write, free_registers, best_register, victim_register}
use Rattle.alloc_rules.specs.Frugal.{Frugal, IsMade, IsMadeOnEdge, IsWrittenIn, is_covered_at_bottom}
use Rattle.alloc_rules.specs.FrugalExamples.{number_blocks, number_in_register, needless_load, FrugalExamples}

differ : false ≡ true → ⊥
differ e = cc

place_apart : (r t : ℕ) → Reg r ≡ Slot t → ⊥
place_apart r t e = cc

nothing_in : (A : Type 0) (a : A) → Contains [] a → ⊥
nothing_in A a (k, within, is) = omega (arith, within)

-- ---- where the number is wanted

unread : (x i : TempInsn) (t : ℕ) → reads_of x ≡ [] → Some x ≡ Some i → Contains (reads_of i) t → ⊥
unread x i t none there c =
    nothing_in ℕ t (subst (λ rs. Contains rs t) none (subst (λ y. Contains (reads_of y) t) (sym (same_Some x i there)) c))

never_live : (t block at : ℕ) → lives_at number_blocks t block at → ⊥
never_live t zero at (live.Follows insns next there end follows l) =
    nothing_in ℕ next (subst (λ is. Contains (successors_of targets_of flows_on_of 0 is) next) (sym (same_Some _ insns there)) follows)
never_live t zero zero (live.IsRead i there c) = unread (set_temp 0 5) i t refl there c
never_live t zero (suc zero) (live.IsRead i there c) = unread (Return false) i t refl there c
never_live t zero (suc (suc at)) (live.IsRead i there c) = none-some i there
never_live t zero zero (live.Passes i there n l) = never_live t zero 1 l
never_live t zero (suc zero) (live.Passes i there n l) = never_live t zero 2 l
never_live t zero (suc (suc at)) (live.Passes i there n l) = none-some i there
never_live t (suc block) at (live.IsRead i there c) = none-some i there
never_live t (suc block) at (live.Passes i there n l) = none-some i there
never_live t (suc block) at (live.Follows insns next there end follows l) = none-some insns there

abbrev is_present : (t point : ℕ) → Bool
is_present zero (suc zero) = true
is_present t point = false

present_there : (t point : ℕ) → is_present t point ≡ true → IsPresent number_blocks t point
present_there zero zero e = absurd (differ e)
present_there zero (suc zero) e = IsWritten 0 0 (set_temp 0 5) refl refl (0, omega arith, refl)
present_there zero (suc (suc point)) e = absurd (differ e)
present_there (suc t) point e = absurd (differ e)

-- the first instruction alone writes something
written_first : (t point block at : ℕ) (x : TempInsn) → insn_at number_blocks block at ≡ Some x → Contains (writes_of x) t → (t ≡ 0) × (block ≡ 0) × (at ≡ 0)
written_first t point zero zero x there c = (first (subst (λ y. Contains (writes_of y) t) (sym (same_Some _ x there)) c), refl, refl)
  where
    first : Contains (0 ∷ []) t → t ≡ 0
    first (zero, within, is) = sym is
    first (suc k, within, is) = absurd (omega (arith, within))
written_first t point zero (suc zero) x there c = absurd (nothing_in ℕ t (subst (λ y. Contains (writes_of y) t) (sym (same_Some _ x there)) c))
written_first t point zero (suc (suc at)) x there c = absurd (none-some x there)
written_first t point (suc block) at x there c = absurd (none-some x there)

there_present : (t point : ℕ) → IsPresent number_blocks t point → is_present t point ≡ true
there_present t point (IsRead block at x there p c) = absurd (read_nothing block at there)
  where
    read_nothing : (block at : ℕ) → insn_at number_blocks block at ≡ Some x → ⊥
    read_nothing zero zero there = unread (set_temp 0 5) x t refl there c
    read_nothing zero (suc zero) there = unread (Return false) x t refl there c
    read_nothing zero (suc (suc at)) there = none-some x there
    read_nothing (suc block) at there = none-some x there
there_present t point (IsLiveBefore block at x there p l) = absurd (never_live t block at l)
there_present t point (IsLiveAfter block at x there p l) = absurd (never_live t block (suc at) l)
there_present t point (IsWritten block at x there p c) = at_first block at p (written_first t point block at x there c)
  where
    at_first : (block at : ℕ) → point ≡ 2 * linear_number number_blocks block at + 1 → (t ≡ 0) × (block ≡ 0) × (at ≡ 0) → is_present t point ≡ true
    at_first block at p (none, first, start) =
        ap (λ u. is_present u point) none
        ∙ ap (λ q. is_present 0 q) (p ∙ ap (λ b. 2 * linear_number number_blocks b at + 1) first ∙ ap (λ a. 2 * linear_number number_blocks 0 a + 1) start)

abbrev number_wants : Wants
number_wants = record { live = λ t block at. false; present = is_present }

are_number_wants : AreWants number_in_register number_wants
are_number_wants = record {
  lives = λ t block at. (λ e. absurd (differ e), λ l. absurd (never_live t block at l));
  presents = λ t point. (present_there t point, there_present t point);
}

-- ---- nothing is moved

abbrev two_empty : List (List Transfer)
two_empty = [] ∷ [] ∷ []

no_transfer : (n : ℕ) → slice_index_or two_empty n [] ≡ []
no_transfer zero = refl
no_transfer (suc zero) = refl
no_transfer (suc (suc n)) = refl

nothing_before : (made left : List Transfer) (x : Transfer) → [] ≡ made ++ x ∷ left → ⊥
nothing_before [] left x e = cc
nothing_before (y ∷ made) left x e = cc

none_made : {block at : ℕ} {insn : TempInsn} {made : List Transfer} {x : Transfer} → IsMade number_in_register block at insn made x → ⊥
none_made {block} {at} {insn} {made} {x} m = nothing_before made m.left x (sym (no_transfer (linear_number number_blocks block at)) ∙ m.is)

none_on_edge : {from to : ℕ} {made : List Transfer} {x : Transfer} → IsMadeOnEdge number_in_register from to made x → ⊥
none_on_edge {from} {to} {made} {x} m = nothing_before made m.left x m.is

-- ---- the one write

module _ (P : (block at : ℕ) → TempInsn → (t r : ℕ) → Type 0) (here : P 0 0 (set_temp 0 5) 0 1) where
  for_write : (block at : ℕ) (insn : TempInsn) (t r : ℕ) → IsWrittenIn number_in_register block at insn t r → P block at insn t r
  for_write (suc block) at insn t r w = absurd (none-some insn w.there)
  for_write zero (suc (suc at)) insn t r w = absurd (none-some insn w.there)
  for_write zero (suc zero) insn t r w = absurd (none-some t (subst (λ y. slice_get (writes_of y) w.k ≡ Some t) (sym (same_Some _ insn w.there)) w.temp))
  for_write zero zero insn t r w = at_place w.k (subst (λ y. slice_get (writes_of y) w.k ≡ Some t) (sym same) w.temp) (subst (λ y. slice_get (registers_written (1 ∷ []) y) w.k ≡ Some r) (sym same) w.register)
    where
      same : set_temp 0 5 ≡ insn
      same = same_Some _ insn w.there

      at_place : (k : ℕ) → slice_get (0 ∷ []) k ≡ Some t → slice_get (1 ∷ []) k ≡ Some r → P 0 0 insn t r
      at_place zero temp register = subst (λ y. P 0 0 y t r) same (subst (λ u. P 0 0 (set_temp 0 5) u r) (same_Some 0 t temp) (subst (λ q. P 0 0 (set_temp 0 5) 0 q) (same_Some 1 r register) here))
      at_place (suc k) temp register = absurd (none-some t temp)

-- ---- the law

filled : (A : Type 0) (a : A) (rest : List A) → a ∷ rest ≡ [] → ⊥
filled A a rest e = cc

abbrev one_empty : List (List TempPlace)
one_empty = [] ∷ []

empty_map : (block : ℕ) → slice_index_or one_empty block [] ≡ []
empty_map zero = refl
empty_map (suc block) = refl

no_standing : (block : ℕ) (s : TempPlace) → Contains (slice_index_or one_empty block []) s → ⊥
no_standing block s c = nothing_in TempPlace s (subst (λ ss. Contains ss s) (empty_map block) c)

not_covered : (t block : ℕ) → block < 1 → is_covered_at_bottom number_in_register number_wants t block ≡ true → ⊥
not_covered zero zero within e = differ e
not_covered (suc t) zero within e = differ e
not_covered t (suc block) within e = omega (arith, within)

number_is_frugal : Frugal number_in_register
number_is_frugal = record {
  wants = number_wants;
  are_wants = are_number_wants;
  no_repeated_store = record {
    in_blocks = λ block at insn made t r m. absurd (none_made m);
    on_edges = λ from to made t r m. absurd (none_on_edge m);
    in_order = λ block at insn made t r m. absurd (none_made m);
  };
  leave_only_under_pressure = record {
    by_moves = λ block at insn made x t r m l home other to. absurd (none_made m);
    by_writes = λ block at insn t r there l home kept taken. absurd (differ l);
    loads = λ block at insn made t r m. absurd (none_made m);
    shifts = λ block at insn made t from to m. absurd (none_made m);
  };
  the_farthest_leaves = record {
    for_loads = λ block at insn made t r m. absurd (none_made m);
    for_writes = for_write
        (λ block at insn t r. (moment_of_write number_in_register number_wants block at insn).homes t ≡ Slot t → free_registers number_in_register number_wants (moment_of_write number_in_register number_wants block at insn) ≡ [] → victim_register number_in_register (moment_of_write number_in_register number_wants block at insn) ≡ Some r)
        (λ home none. absurd (filled _ _ _ none));
  };
  store_only_the_live = record {
    in_blocks = λ block at insn made t r m. absurd (none_made m);
    on_edges = λ from to made t r m. absurd (none_on_edge m);
  };
  linear_hand_over = record {
    entry = λ t l. absurd (differ l);
    tops = λ block t within l. absurd (differ l);
    named_at_tops = λ block s c. absurd (no_standing block s c);
    named_at_bottoms = λ block s c. absurd (no_standing block s c);
    bottoms = λ block t within covered. absurd (not_covered t block within covered);
    edge_loads = λ from to made t r m. absurd (none_on_edge m);
    edge_shifts = λ from to made t source target m. absurd (none_on_edge m);
  };
  keep_or_take_the_best_register = record {
    kept = λ block at insn t r q w home. absurd (place_apart q t (sym home ∙ for_write (λ block at insn t r. (moment_of_write number_in_register number_wants block at insn).homes t ≡ Slot t) refl block at insn t r w));
    for_loads = λ block at insn made t r m. absurd (none_made m);
    for_writes = for_write
        (λ block at insn t r. (moment_of_write number_in_register number_wants block at insn).homes t ≡ Slot t → free_registers number_in_register number_wants (moment_of_write number_in_register number_wants block at insn) ≢ [] → best_register number_in_register number_wants (moment_of_write number_in_register number_wants block at insn) t ≡ Some r)
        (λ home some. refl);
  };
  fixed_uses = record {
    moved = λ block at insn t r to there fixed l. absurd (differ l);
    evicted = λ block at insn t r there fixed l. absurd (differ l);
  };
}

needless_is_not_frugal : ¬ Frugal needless_load
needless_is_not_frugal f =
    place_apart 1 0 (f.leave_only_under_pressure.loads 0 1 (ToFixed Value 0) (move.Store 0 1 ∷ []) 0 2 (record { there = refl; left = []; is = refl }))

pub examples : FrugalExamples
examples = record {
  journal = refl;
  eviction = refl;
  shortest = refl;
  first = refl;
  early = refl;
  none_free = refl;
  farthest = refl;
  frugal = number_is_frugal;
  not_frugal = needless_is_not_frugal;
}
