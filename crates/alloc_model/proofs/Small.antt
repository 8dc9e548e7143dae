-- A small allocation is faithful: `sum_blocks` with each temporary in a register of its own.
use Rattle.std.proofs.Common.{◌≡◌, ◌≢◌, ℕ, zero, suc, ◌+◌, List, [], ◌∷◌, Some, None, true, false, refl, sym, ◌∙◌, inl, inr, subst, length, arith}
use Rattle.std.specs.Prelude.{slice_get, All}
use Rattle.std.proofs.lemmas.Option.{none-some, same_Some}
use Rattle.pass_core.specs.Functions.{insn_at}
use Rattle.temp_ir.specs.declared.insn.TempInsn.{TempInsn}
use Rattle.temp_ir.specs.Insns.{reads_of, writes_of, targets_of}
use Rattle.temp_ir.specs.Fixed.{fixed_reads_of}
use Rattle.alloc_model.specs.Effect.{Holder, Temp, Fixed, Incoming, Outgoing}
use Rattle.alloc_model.specs.Temporaries.{flows_out}
use Rattle.alloc_model.specs.Places.{Place, Reg, registers_at, transfers_at}
use Rattle.alloc_model.specs.Faithful.{Includes, MovesAsk, ReadsAsk, FixedAsk, IsGivenRegister, IsStanding, IsTransfer, KeepsEdge, held_before, move_all, at_top, at_entry, at_bottom, Faithful, HasLists}
use Rattle.alloc_model.specs.Examples.{sum_blocks, sum_in_registers}

-- what is said of each instruction of the block
module _ (P : (at : ℕ) → TempInsn → Type 0) (zeroth : (x : TempInsn) → insn_at sum_blocks 0 0 ≡ Some x → P 0 x)
    (first : (x : TempInsn) → insn_at sum_blocks 0 1 ≡ Some x → P 1 x) (second : (x : TempInsn) → insn_at sum_blocks 0 2 ≡ Some x → P 2 x)
    (third : (x : TempInsn) → insn_at sum_blocks 0 3 ≡ Some x → P 3 x) (fourth : (x : TempInsn) → insn_at sum_blocks 0 4 ≡ Some x → P 4 x) where
  each_insn : (at : ℕ) (x : TempInsn) → insn_at sum_blocks 0 at ≡ Some x → P at x
  each_insn zero x e = zeroth x e
  each_insn (suc zero) x e = first x e
  each_insn (suc (suc zero)) x e = second x e
  each_insn (suc (suc (suc zero))) x e = third x e
  each_insn (suc (suc (suc (suc zero)))) x e = fourth x e
  each_insn (suc (suc (suc (suc (suc at))))) x e = absurd (none-some x e)

stated : (block at : ℕ) (x : TempInsn) → insn_at sum_blocks block at ≡ Some x → length (registers_at sum_in_registers block at) ≡ length (reads_of x) + length (writes_of x)
stated zero at x e =
    each_insn (λ at x. length (registers_at sum_in_registers 0 at) ≡ length (reads_of x) + length (writes_of x))
    (λ x e. subst (λ y. 1 ≡ length (reads_of y) + length (writes_of y)) (same_Some _ x e) refl)
    (λ x e. subst (λ y. 1 ≡ length (reads_of y) + length (writes_of y)) (same_Some _ x e) refl)
    (λ x e. subst (λ y. 3 ≡ length (reads_of y) + length (writes_of y)) (same_Some _ x e) refl)
    (λ x e. subst (λ y. 1 ≡ length (reads_of y) + length (writes_of y)) (same_Some _ x e) refl)
    (λ x e. subst (λ y. 0 ≡ length (reads_of y) + length (writes_of y)) (same_Some _ x e) refl)
    at x e
stated (suc block) at x e = absurd (none-some x e)

-- lists of nothing
no_standing : All (All (IsStanding 4)) ([] ∷ [])
no_standing zero d w k e v = absurd (omega (arith, v))
no_standing (suc j) d w k e v = absurd (omega (arith, w))

no_transfer : All (All (IsTransfer 4 IsGivenRegister)) ([] ∷ [] ∷ [] ∷ [] ∷ [] ∷ [])
no_transfer zero d w k e v = absurd (omega (arith, v))
no_transfer (suc zero) d w k e v = absurd (omega (arith, v))
no_transfer (suc (suc zero)) d w k e v = absurd (omega (arith, v))
no_transfer (suc (suc (suc zero))) d w k e v = absurd (omega (arith, v))
no_transfer (suc (suc (suc (suc zero)))) d w k e v = absurd (omega (arith, v))
no_transfer (suc (suc (suc (suc (suc j))))) d w k e v = absurd (omega (arith, w))

one_given : (r : ℕ) → IsGivenRegister r → All IsGivenRegister (r ∷ [])
one_given r g zero d w = g
one_given r g (suc k) d w = absurd (omega (arith, w))

given_1 : IsGivenRegister 1
given_1 = (0, omega arith, refl)

given_2 : IsGivenRegister 2
given_2 = (1, omega arith, refl)

given_3 : IsGivenRegister 3
given_3 = (2, omega arith, refl)

three_given : All IsGivenRegister (1 ∷ 2 ∷ 3 ∷ [])
three_given zero d w = given_1
three_given (suc zero) d w = given_2
three_given (suc (suc zero)) d w = given_3
three_given (suc (suc (suc k))) d w = absurd (omega (arith, w))

all_given : All (All IsGivenRegister) ((1 ∷ []) ∷ (2 ∷ []) ∷ (1 ∷ 2 ∷ 3 ∷ []) ∷ (3 ∷ []) ∷ [] ∷ [])
all_given zero d w = one_given 1 given_1
all_given (suc zero) d w = one_given 2 given_2
all_given (suc (suc zero)) d w = three_given
all_given (suc (suc (suc zero))) d w = one_given 3 given_3
all_given (suc (suc (suc (suc zero)))) d w = λ k e v. absurd (omega (arith, v))
all_given (suc (suc (suc (suc (suc j))))) d w = absurd (omega (arith, w))

lists : HasLists sum_in_registers
lists = record {
  tops = refl;
  bottoms = refl;
  ats = refl;
  regs = refl;
  stated = stated;
  edges = refl;
  standing = (no_standing, no_standing);
  transfers = no_transfer;
  edge_transfers = λ k d w. absurd (omega (arith, w));
  given = all_given;
}

entry : Includes (at_entry sum_in_registers) (at_top sum_in_registers 0)
entry = record { each = each }
  where
    each : (n : Holder) (p : Place) → at_top sum_in_registers 0 n p → at_entry sum_in_registers n p
    each (Temp t) p (inl h) = h.1
    each (Temp t) p (inr h) = h.1
    each (Fixed r) p h = absurd h
    each (Incoming k) p h = absurd h
    each (Outgoing k) p h = absurd h

temps_apart : (a b : ℕ) → a ≢ b → Temp a ≢ Temp b
temps_apart a b ne e = ne (cc)

regs_apart : (a b : ℕ) → a ≢ b → Reg a ≢ Reg b
regs_apart a b ne e = ne (cc)

fixed_apart : (t r : ℕ) → Temp t ≢ Fixed r
fixed_apart t r e = cc

-- what stands where behind the second instruction, the third and the fourth
first_there : held_before sum_in_registers 0 2 (Temp 0) (Reg 1)
first_there = inl (((inr (refl, refl), refl), temps_apart 0 1 (λ e. omega (arith, e))), regs_apart 1 2 (λ e. omega (arith, e)))

second_there : held_before sum_in_registers 0 2 (Temp 1) (Reg 2)
second_there = inr (refl, refl)

third_there : held_before sum_in_registers 0 3 (Temp 2) (Reg 3)
third_there = inr (refl, refl)

value_there : held_before sum_in_registers 0 4 (Fixed 0) (Reg 0)
value_there = inr (refl, refl)

moves : (block at : ℕ) (x : TempInsn) → insn_at sum_blocks block at ≡ Some x → MovesAsk (transfers_at sum_in_registers block at) (held_before sum_in_registers block at)
moves zero at x e = each_insn (λ at x. MovesAsk (transfers_at sum_in_registers 0 at) (held_before sum_in_registers 0 at)) (λ x e. tt) (λ x e. tt) (λ x e. tt) (λ x e. tt) (λ x e. tt) at x e
moves (suc block) at x e = absurd (none-some x e)

temps_read : (block at : ℕ) (x : TempInsn) → insn_at sum_blocks block at ≡ Some x → ReadsAsk (reads_of x) (registers_at sum_in_registers block at) (move_all (transfers_at sum_in_registers block at) (held_before sum_in_registers block at))
temps_read zero at x e =
    each_insn (λ at x. ReadsAsk (reads_of x) (registers_at sum_in_registers 0 at) (move_all (transfers_at sum_in_registers 0 at) (held_before sum_in_registers 0 at)))
    (λ x e. subst (λ y. ReadsAsk (reads_of y) (1 ∷ []) (held_before sum_in_registers 0 0)) (same_Some _ x e) tt)
    (λ x e. subst (λ y. ReadsAsk (reads_of y) (2 ∷ []) (held_before sum_in_registers 0 1)) (same_Some _ x e) tt)
    (λ x e. subst (λ y. ReadsAsk (reads_of y) (1 ∷ 2 ∷ 3 ∷ []) (held_before sum_in_registers 0 2)) (same_Some _ x e) (first_there, (second_there, tt)))
    (λ x e. subst (λ y. ReadsAsk (reads_of y) (3 ∷ []) (held_before sum_in_registers 0 3)) (same_Some _ x e) (third_there, tt))
    (λ x e. subst (λ y. ReadsAsk (reads_of y) [] (held_before sum_in_registers 0 4)) (same_Some _ x e) tt)
    at x e
temps_read (suc block) at x e = absurd (none-some x e)

fixed_read : (block at : ℕ) (x : TempInsn) → insn_at sum_blocks block at ≡ Some x → FixedAsk (fixed_reads_of x) (move_all (transfers_at sum_in_registers block at) (held_before sum_in_registers block at))
fixed_read zero at x e =
    each_insn (λ at x. FixedAsk (fixed_reads_of x) (move_all (transfers_at sum_in_registers 0 at) (held_before sum_in_registers 0 at)))
    (λ x e. subst (λ y. FixedAsk (fixed_reads_of y) (held_before sum_in_registers 0 0)) (same_Some _ x e) tt)
    (λ x e. subst (λ y. FixedAsk (fixed_reads_of y) (held_before sum_in_registers 0 1)) (same_Some _ x e) tt)
    (λ x e. subst (λ y. FixedAsk (fixed_reads_of y) (held_before sum_in_registers 0 2)) (same_Some _ x e) tt)
    (λ x e. subst (λ y. FixedAsk (fixed_reads_of y) (held_before sum_in_registers 0 3)) (same_Some _ x e) tt)
    (λ x e. subst (λ y. FixedAsk (fixed_reads_of y) (held_before sum_in_registers 0 4)) (same_Some _ x e) (value_there, tt))
    at x e
fixed_read (suc block) at x e = absurd (none-some x e)

-- nothing is named at the bottom
bottoms : (block : ℕ) (insns : List TempInsn) → slice_get sum_blocks block ≡ Some insns → Includes (held_before sum_in_registers block (length insns)) (at_bottom sum_in_registers block insns)
bottoms (suc block) insns e = absurd (none-some insns e)
bottoms zero insns e = record { each = each }
  where
    each : (n : Holder) (p : Place) → at_bottom sum_in_registers 0 insns n p → held_before sum_in_registers 0 (length insns) n p
    each (Temp t) p (live, (s, (k, within, is), same, place)) = absurd (omega (arith, within))
    each (Fixed r) p h = absurd h
    each (Incoming k) p h = absurd h
    each (Outgoing k) p h = absurd h

jumps : (block at : ℕ) (x : TempInsn) → insn_at sum_blocks block at ≡ Some x → (k to : ℕ) → slice_get (targets_of x) k ≡ Some to → KeepsEdge sum_in_registers block to (held_before sum_in_registers block (suc at))
jumps (suc block) at x e k to is = absurd (none-some x e)
jumps zero at x e k to is = absurd (none-some to (goes_nowhere at x e ∙ is))
  where
    nowhere : (y x : TempInsn) → y ≡ x → targets_of y ≡ [] → None ≡ slice_get (targets_of x) k
    nowhere y x same none = subst (λ z. None ≡ slice_get (targets_of z) k) same (subst (λ ts. None ≡ slice_get ts k) (sym none) refl)

    goes_nowhere : (at : ℕ) (x : TempInsn) → insn_at sum_blocks 0 at ≡ Some x → None ≡ slice_get (targets_of x) k
    goes_nowhere = each_insn (λ at x. None ≡ slice_get (targets_of x) k)
        (λ x e. nowhere _ x (same_Some _ x e) refl) (λ x e. nowhere _ x (same_Some _ x e) refl) (λ x e. nowhere _ x (same_Some _ x e) refl)
        (λ x e. nowhere _ x (same_Some _ x e) refl) (λ x e. nowhere _ x (same_Some _ x e) refl)

follows : (block : ℕ) (insns : List TempInsn) → slice_get sum_blocks block ≡ Some insns → flows_out insns ≡ true → KeepsEdge sum_in_registers block (suc block) (held_before sum_in_registers block (length insns))
follows (suc block) insns e out = absurd (none-some insns e)
follows zero insns e out = absurd (stays (subst (λ x. flows_out x ≡ true) (sym (same_Some _ insns e)) out))
  where
    stays : false ≡ true → ⊥
    stays h = cc

pub small_is_faithful : Faithful sum_in_registers
small_is_faithful = record {
  lists = lists;
  entry = entry;
  moves = moves;
  temps_read = temps_read;
  fixed_read = fixed_read;
  bottoms = bottoms;
  jumps = jumps;
  follows = follows;
}
