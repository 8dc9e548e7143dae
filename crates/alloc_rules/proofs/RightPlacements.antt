-- The allocation with a loop and a call is faithful.
use Rattle.std.proofs.Common.{◌≡◌, ℕ, zero, suc, ◌+◌, List, [], ◌∷◌, Some, true, false, refl, sym, ◌∙◌, inl, inr, subst, length, arith}
use Rattle.std.specs.Prelude.{slice_get, slice_index_or, All, Contains}
use Rattle.std.proofs.lemmas.Option.{none-some, same_Some}
use Rattle.pass_core.specs.Functions.{insn_at}
use Rattle.pass_core.specs.Live.Live.{IsRead, Passes, Follows}
use Rattle.temp_ir.specs.declared.operation.TempBranchOp.TheVariants.{Bne}
use Rattle.temp_ir.specs.declared.insn.FixedRegister.TheVariants.{Value}
use Rattle.temp_ir.specs.declared.insn.TempInsn.{TempInsn}
use Rattle.temp_ir.specs.declared.insn.TempInsn.TheVariants.{ToFixed, Branch, Call, Mark, Return}
use Rattle.temp_ir.specs.Insns.{reads_of, writes_of, targets_of}
use Rattle.temp_ir.specs.Fixed.{fixed_reads_of}
use Rattle.alloc_model.specs.declared.allocation.Transfer.TheVariants as x
use Rattle.alloc_model.specs.Effect.{Holder, Temp, Fixed, Incoming, Outgoing}
use Rattle.alloc_model.specs.Temporaries.{flows_out}
use Rattle.alloc_model.specs.Places.{Place, Reg, Slot, registers_at, transfers_at}
use Rattle.alloc_model.specs.Needs.{is_live_at, place_at_top, IsNeeded}
use Rattle.alloc_model.specs.Needs.IsNeeded.{Relied, Handed}
use Rattle.alloc_model.specs.Faithful.{HolderPlaces, Includes, MovesAsk, ReadsAsk, FixedAsk, IsGivenRegister, IsGivenOrScratch, IsStanding, IsTransfer, KeepsEdge, held_before, move_all, at_top, at_entry, at_bottom, Faithful, HasLists}
use Rattle.alloc_model.specs.Examples.{set_temp}
use Rattle.alloc_rules.specs.RightPlacements.{looping_blocks, kept_over_call}

abbrev Lives : (t block at : ℕ) → Type 0
Lives t block at = is_live_at kept_over_call t block at

-- what is said of each instruction
module _ (P : (block at : ℕ) → TempInsn → Type 0) (makes : P 0 0 (set_temp 0 5)) (marks : P 1 0 Mark) (calls : P 1 1 (Call 1 0)) (turns : P 1 2 (Branch Bne 0 1))
    (gives : P 2 0 (ToFixed Value 0)) (returns : P 2 1 (Return true)) where
  each_insn : (block at : ℕ) (i : TempInsn) → insn_at looping_blocks block at ≡ Some i → P block at i
  each_insn zero zero i e = subst (P 0 0) (same_Some _ i e) makes
  each_insn zero (suc at) i e = absurd (none-some i e)
  each_insn (suc zero) zero i e = subst (P 1 0) (same_Some _ i e) marks
  each_insn (suc zero) (suc zero) i e = subst (P 1 1) (same_Some _ i e) calls
  each_insn (suc zero) (suc (suc zero)) i e = subst (P 1 2) (same_Some _ i e) turns
  each_insn (suc zero) (suc (suc (suc at))) i e = absurd (none-some i e)
  each_insn (suc (suc zero)) zero i e = subst (P 2 0) (same_Some _ i e) gives
  each_insn (suc (suc zero)) (suc zero) i e = subst (P 2 1) (same_Some _ i e) returns
  each_insn (suc (suc zero)) (suc (suc at)) i e = absurd (none-some i e)
  each_insn (suc (suc (suc block))) at i e = absurd (none-some i e)

-- ---- the lists

given_9 : IsGivenRegister 9
given_9 = (19, omega arith, refl)

scratch_or_9 : IsGivenOrScratch 9
scratch_or_9 = (20, omega arith, refl)

one : (P : ℕ → Type 0) → P 9 → All P (9 ∷ [])
one P p zero d w = p
one P p (suc k) d w = absurd (omega (arith, w))

none_standing : All (All (IsStanding 4)) ([] ∷ [] ∷ [] ∷ [])
none_standing zero d w k e v = absurd (omega (arith, v))
none_standing (suc zero) d w k e v = absurd (omega (arith, v))
none_standing (suc (suc zero)) d w k e v = absurd (omega (arith, v))
none_standing (suc (suc (suc j))) d w k e v = absurd (omega (arith, w))

one_load : All (IsTransfer 4 IsGivenRegister) (x.Load 0 9 ∷ [])
one_load zero d w = (omega arith, one IsGivenRegister given_9)
one_load (suc k) d w = absurd (omega (arith, w))

loads : All (All (IsTransfer 4 IsGivenRegister)) ([] ∷ (x.Load 0 9 ∷ []) ∷ [] ∷ [] ∷ (x.Load 0 9 ∷ []) ∷ [] ∷ [])
loads zero d w = λ k e v. absurd (omega (arith, v))
loads (suc zero) d w = one_load
loads (suc (suc zero)) d w = λ k e v. absurd (omega (arith, v))
loads (suc (suc (suc zero))) d w = λ k e v. absurd (omega (arith, v))
loads (suc (suc (suc (suc zero)))) d w = one_load
loads (suc (suc (suc (suc (suc zero))))) d w = λ k e v. absurd (omega (arith, v))
loads (suc (suc (suc (suc (suc (suc j)))))) d w = absurd (omega (arith, w))

one_store : All (IsTransfer 4 IsGivenOrScratch) (x.Store 0 9 ∷ [])
one_store zero d w = (omega arith, one IsGivenOrScratch scratch_or_9)
one_store (suc k) d w = absurd (omega (arith, w))

edge_codes : All (λ e. All (IsTransfer 4 IsGivenOrScratch) e.code) kept_over_call.edges
edge_codes zero d w = one_store
edge_codes (suc zero) d w = λ k e v. absurd (omega (arith, v))
edge_codes (suc (suc zero)) d w = λ k e v. absurd (omega (arith, v))
edge_codes (suc (suc (suc j))) d w = absurd (omega (arith, w))

registers : All (All IsGivenRegister) ((9 ∷ []) ∷ [] ∷ [] ∷ (9 ∷ []) ∷ (9 ∷ []) ∷ [] ∷ [])
registers zero d w = one IsGivenRegister given_9
registers (suc zero) d w = λ k e v. absurd (omega (arith, v))
registers (suc (suc zero)) d w = λ k e v. absurd (omega (arith, v))
registers (suc (suc (suc zero))) d w = one IsGivenRegister given_9
registers (suc (suc (suc (suc zero)))) d w = one IsGivenRegister given_9
registers (suc (suc (suc (suc (suc zero))))) d w = λ k e v. absurd (omega (arith, v))
registers (suc (suc (suc (suc (suc (suc j)))))) d w = absurd (omega (arith, w))

lists : HasLists kept_over_call
lists = record {
  tops = refl;
  bottoms = refl;
  ats = refl;
  regs = refl;
  stated = each_insn (λ block at i. length (registers_at kept_over_call block at) ≡ length (reads_of i) + length (writes_of i)) refl refl refl refl refl refl;
  edges = refl;
  standing = (none_standing, none_standing);
  transfers = loads;
  edge_transfers = edge_codes;
  given = registers;
}

-- ---- what is live

nothing_read : (t : ℕ) → Contains [] t → t ≡ 0
nothing_read t (k, within, is) = absurd (omega (arith, within))

zero_read : (t : ℕ) → Contains (0 ∷ []) t → t ≡ 0
zero_read t (zero, within, is) = sym is
zero_read t (suc k, within, is) = absurd (omega (arith, within))

reads_zero : (t block at : ℕ) (i : TempInsn) → insn_at looping_blocks block at ≡ Some i → Contains (reads_of i) t → t ≡ 0
reads_zero t = each_insn (λ block at i. Contains (reads_of i) t → t ≡ 0) (nothing_read t) (nothing_read t) (nothing_read t) (zero_read t) (zero_read t) (nothing_read t)

only_zero : (t block at : ℕ) → Lives t block at → t ≡ 0
only_zero t block at (IsRead i is named) = reads_zero t block at i is named
only_zero t block at (Passes i is none live) = only_zero t block (suc at) live
only_zero t block at (Follows insns next is end leads live) = only_zero t next 0 live

none_written : Contains {X = ℕ} [] 0 → ⊥
none_written (k, within, is) = omega (arith, within)

live_in_loop : Lives 0 1 0
live_in_loop = Passes Mark refl none_written (Passes (Call 1 0) refl none_written (IsRead (Branch Bne 0 1) refl (0, omega arith, refl)))

live_behind : Lives 0 2 0
live_behind = IsRead (ToFixed Value 0) refl (0, omega arith, refl)

-- ---- places

slot_apart : (t r : ℕ) → Slot t ≡ Reg r → ⊥
slot_apart t r e = cc

temp_apart : (t r : ℕ) → Temp t ≡ Fixed r → ⊥
temp_apart t r e = cc

registers_apart : (a b : ℕ) → (a ≡ b → ⊥) → Reg a ≡ Reg b → ⊥
registers_apart a b ne e = ne (cc)

top_is_slot : (block t : ℕ) → place_at_top kept_over_call block t ≡ Slot t
top_is_slot zero t = refl
top_is_slot (suc zero) t = refl
top_is_slot (suc (suc zero)) t = refl
top_is_slot (suc (suc (suc block))) t = refl

nothing_needed : (t block : ℕ) → IsNeeded kept_over_call t block → ⊥
nothing_needed t block (Relied r) = slot_apart t r.register (sym (top_is_slot block t) ∙ r.stands)
nothing_needed t block (Handed insns next is leads unwritten unstored needed) = nothing_needed t next needed

-- a set with the slot of temporary 0 has all that a top starts with
slot_serves : (block : ℕ) (h : HolderPlaces) → h (Temp 0) (Slot 0) → Includes h (at_top kept_over_call block)
slot_serves block h there = record { each = each }
  where
    each : (n : Holder) (p : Place) → at_top kept_over_call block n p → h n p
    each (Temp t) p (inl (live, is)) =
        subst (h (Temp t)) (sym (is ∙ top_is_slot block t)) (subst (λ u. h (Temp u) (Slot u)) (sym (only_zero t block 0 live)) there)
    each (Temp t) p (inr (needed, is)) = absurd (nothing_needed t block needed)
    each (Fixed r) p h = absurd h
    each (Incoming k) p h = absurd h
    each (Outgoing k) p h = absurd h

entry : Includes (at_entry kept_over_call) (at_top kept_over_call 0)
entry = record { each = each }
  where
    each : (n : Holder) (p : Place) → at_top kept_over_call 0 n p → at_entry kept_over_call n p
    each (Temp t) p (inl h) = h.1
    each (Temp t) p (inr h) = h.1
    each (Fixed r) p h = absurd h
    each (Incoming k) p h = absurd h
    each (Outgoing k) p h = absurd h

-- behind the mark, the call and the branch
register_1 : held_before kept_over_call 1 1 (Temp 0) (Reg 9)
register_1 = (inr (refl, refl), refl)

slot_1 : held_before kept_over_call 1 1 (Temp 0) (Slot 0)
slot_1 = (inl (inl (live_in_loop, refl), slot_apart 0 9), refl)

register_2 : held_before kept_over_call 1 2 (Temp 0) (Reg 9)
register_2 = inl (((register_1, refl), temp_apart 0 0), registers_apart 9 0 (λ e. omega (arith, e)))

slot_2 : held_before kept_over_call 1 2 (Temp 0) (Slot 0)
slot_2 = inl (((slot_1, refl), temp_apart 0 0), slot_apart 0 0)

slot_3 : held_before kept_over_call 1 3 (Temp 0) (Slot 0)
slot_3 = (slot_2, refl)

-- ---- what is asked for

moves : (block at : ℕ) (i : TempInsn) → insn_at looping_blocks block at ≡ Some i → MovesAsk (transfers_at kept_over_call block at) (held_before kept_over_call block at)
moves = each_insn (λ block at i. MovesAsk (transfers_at kept_over_call block at) (held_before kept_over_call block at))
    tt (inl (live_in_loop, refl), tt) tt tt (inl (live_behind, refl), tt) tt

temps_read : (block at : ℕ) (i : TempInsn) → insn_at looping_blocks block at ≡ Some i → ReadsAsk (reads_of i) (registers_at kept_over_call block at) (move_all (transfers_at kept_over_call block at) (held_before kept_over_call block at))
temps_read = each_insn (λ block at i. ReadsAsk (reads_of i) (registers_at kept_over_call block at) (move_all (transfers_at kept_over_call block at) (held_before kept_over_call block at)))
    tt tt tt (register_2, tt) (inr (refl, refl), tt) tt

fixed_read : (block at : ℕ) (i : TempInsn) → insn_at looping_blocks block at ≡ Some i → FixedAsk (fixed_reads_of i) (move_all (transfers_at kept_over_call block at) (held_before kept_over_call block at))
fixed_read = each_insn (λ block at i. FixedAsk (fixed_reads_of i) (move_all (transfers_at kept_over_call block at) (held_before kept_over_call block at)))
    tt tt tt tt tt (inr (refl, refl), tt)

bottom_empty : (block : ℕ) → length (slice_index_or kept_over_call.bottom block []) ≡ 0
bottom_empty zero = refl
bottom_empty (suc zero) = refl
bottom_empty (suc (suc zero)) = refl
bottom_empty (suc (suc (suc block))) = refl

bottoms : (block : ℕ) (insns : List TempInsn) → slice_get looping_blocks block ≡ Some insns → Includes (held_before kept_over_call block (length insns)) (at_bottom kept_over_call block insns)
bottoms block insns e = record { each = each }
  where
    each : (n : Holder) (p : Place) → at_bottom kept_over_call block insns n p → held_before kept_over_call block (length insns) n p
    each (Temp t) p (live, (s, (k, within, is), same, place)) = absurd (let none = bottom_empty block in omega (arith, within, none))
    each (Fixed r) p h = absurd h
    each (Incoming k) p h = absurd h
    each (Outgoing k) p h = absurd h

-- ---- the edges

abbrev Leaves : (block at : ℕ) → TempInsn → Type 0
Leaves block at i = (k to : ℕ) → slice_get (targets_of i) k ≡ Some to → KeepsEdge kept_over_call block to (held_before kept_over_call block (suc at))

nowhere : (A : Type 0) (k to : ℕ) → slice_get (targets_of Mark) k ≡ Some to → A
nowhere A k to e = absurd (none-some to e)

back : (k to : ℕ) → slice_get (1 ∷ []) k ≡ Some to → KeepsEdge kept_over_call 1 to (held_before kept_over_call 1 3)
back zero to e = subst (λ b. KeepsEdge kept_over_call 1 b (held_before kept_over_call 1 3)) (same_Some _ to e) (record { moves = tt; leads = slot_serves 1 (held_before kept_over_call 1 3) slot_3 })
back (suc k) to e = absurd (none-some to e)

jumps : (block at : ℕ) (i : TempInsn) → insn_at looping_blocks block at ≡ Some i → Leaves block at i
jumps = each_insn Leaves (λ k to e. nowhere _ k to e) (λ k to e. nowhere _ k to e) (λ k to e. nowhere _ k to e) back (λ k to e. nowhere _ k to e) (λ k to e. nowhere _ k to e)

abbrev Flows : (block : ℕ) → List TempInsn → Type 0
Flows block insns = flows_out insns ≡ true → KeepsEdge kept_over_call block (suc block) (held_before kept_over_call block (length insns))

stays : false ≡ true → ⊥
stays h = cc

follows : (block : ℕ) (insns : List TempInsn) → slice_get looping_blocks block ≡ Some insns → Flows block insns
follows zero insns e = subst (Flows 0) (same_Some _ insns e)
    (λ out. record { moves = (inr (refl, refl), tt); leads = slot_serves 1 (move_all (x.Store 0 9 ∷ []) (held_before kept_over_call 0 1)) (inr (refl, refl)) })
follows (suc zero) insns e = subst (Flows 1) (same_Some _ insns e) (λ out. record { moves = tt; leads = slot_serves 2 (held_before kept_over_call 1 3) slot_3 })
follows (suc (suc zero)) insns e = subst (Flows 2) (same_Some _ insns e) (λ out. absurd (stays out))
follows (suc (suc (suc block))) insns e = absurd (none-some insns e)

pub loop_is_faithful : Faithful kept_over_call
loop_is_faithful = record {
  lists = lists;
  entry = entry;
  moves = moves;
  temps_read = temps_read;
  fixed_read = fixed_read;
  bottoms = bottoms;
  jumps = jumps;
  follows = follows;
}
