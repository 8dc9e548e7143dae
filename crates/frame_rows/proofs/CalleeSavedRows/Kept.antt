-- The allocation is faithful: no call ends a register from 9 to 15, and the two others that are used are apart from it.
use Rattle.std.proofs.Common.{◌≡◌, ◌≢◌, ℕ, ℤ, zero, suc, ◌≤◌, List, [], ◌∷◌, Some, true, false, refl, ap, inl, inr, subst, map, length, arith}
use Rattle.std.specs.Prelude.{slice_get}
use Rattle.std.proofs.lemmas.Option.{none-some, same_Some}
use Rattle.pass_core.specs.Functions.{insn_at}
use Rattle.temp_ir.specs.declared.insn.TempInsn.{TempInsn}
use Rattle.temp_ir.specs.Insns.{reads_of, targets_of}
use Rattle.temp_ir.specs.Fixed.{fixed_reads_of, ended_by_calls, has_number}
use Rattle.pass_core.specs.declared.function.MemoryLocal.{MemoryLocal}
use Rattle.alloc_model.specs.declared.allocation.TempPlace.{TempPlace}
use Rattle.alloc_model.specs.declared.allocation.Transfer.{Transfer}
use Rattle.alloc_model.specs.declared.allocation.EdgeCode.{EdgeCode}
use Rattle.alloc_model.specs.Effect.{Holder, Temp, Fixed, Incoming, Outgoing}
use Rattle.alloc_model.specs.Temporaries.{flows_out}
use Rattle.alloc_model.specs.Places.{Place, Reg, Plan, registers_at, transfers_at}
use Rattle.alloc_model.specs.Faithful.{Includes, MovesAsk, ReadsAsk, FixedAsk, IsGivenRegister, KeepsEdge, held_before, move_all, at_top, at_entry, at_bottom, Faithful}
use Rattle.frame_rows.specs.declared.callee_saved_rows.registers.KeptRegister.{KeptRegister}
use Rattle.frame_rows.specs.declared.callee_saved_rows.registers.KeptRegister.TheVariants.{Register9, Register10, Register11, Register12, Register13, Register14, Register15}
use Rattle.frame_rows.specs.callee_saved_rows.Keeping.{kept_number, kept_sum, no_transfers, stated_registers, kept_plan}
use Rattle.frame_rows.proofs.CalleeSavedRows.Lists.{each_insn, lists}

-- what is known of a register that is kept
record IsKept (r : ℕ) : Type 0 where
  given : IsGivenRegister r
  stays : has_number ended_by_calls r ≡ false
  high : 9 ≤ r

is_kept : (k : KeptRegister) → IsKept (kept_number k)
is_kept Register9 = record { given = (19, omega arith, refl); stays = refl; high = omega arith }
is_kept Register10 = record { given = (20, omega arith, refl); stays = refl; high = omega arith }
is_kept Register11 = record { given = (21, omega arith, refl); stays = refl; high = omega arith }
is_kept Register12 = record { given = (22, omega arith, refl); stays = refl; high = omega arith }
is_kept Register13 = record { given = (23, omega arith, refl); stays = refl; high = omega arith }
is_kept Register14 = record { given = (24, omega arith, refl); stays = refl; high = omega arith }
is_kept Register15 = record { given = (25, omega arith, refl); stays = refl; high = omega arith }

temps_apart : (a b : ℕ) → a ≢ b → Temp a ≢ Temp b
temps_apart a b ne e = ne (cc)

fixed_apart : (t r : ℕ) → Temp t ≢ Fixed r
fixed_apart t r e = cc

registers_apart : (a b : ℕ) → a ≢ b → Reg a ≢ Reg b
registers_apart a b ne e = ne (cc)

module _ (r : ℕ) (kept : IsKept r) (value : ℤ) (callee : ℕ) where
  abbrev a : Plan
  a = kept_plan r value callee

  -- the value behind the first instruction, behind the call, and where the answer is taken
  value_1 : held_before a 0 1 (Temp 0) (Reg r)
  value_1 = inr (refl, refl)

  value_2 : held_before a 0 2 (Temp 0) (Reg r)
  value_2 = inl (((value_1, kept.stays), fixed_apart 0 0), registers_apart r 0 (λ e. let high = kept.high in omega (arith, e, high)))

  value_3 : held_before a 0 3 (Temp 0) (Reg r)
  value_3 = inl (((value_2, refl), temps_apart 0 1 (λ e. omega (arith, e))), registers_apart r 1 (λ e. let high = kept.high in omega (arith, e, high)))

  answer_2 : held_before a 0 2 (Fixed 0) (Reg 0)
  answer_2 = inr (refl, refl)

  answer_3 : held_before a 0 3 (Temp 1) (Reg 1)
  answer_3 = inr (refl, refl)

  sum_4 : held_before a 0 4 (Temp 2) (Reg 2)
  sum_4 = inr (refl, refl)

  result_5 : held_before a 0 5 (Fixed 0) (Reg 0)
  result_5 = inr (refl, refl)

  -- ---- what is asked for

  moves : (block at : ℕ) (i : TempInsn) → insn_at a.function.blocks block at ≡ Some i → MovesAsk (transfers_at a block at) (held_before a block at)
  moves = each_insn value callee (λ block at i. MovesAsk (transfers_at a block at) (held_before a block at)) tt tt tt tt tt tt

  temps_read : (block at : ℕ) (i : TempInsn) → insn_at a.function.blocks block at ≡ Some i → ReadsAsk (reads_of i) (registers_at a block at) (move_all (transfers_at a block at) (held_before a block at))
  temps_read = each_insn value callee (λ block at i. ReadsAsk (reads_of i) (registers_at a block at) (move_all (transfers_at a block at) (held_before a block at)))
      tt tt tt (value_3, (answer_3, tt)) (sum_4, tt) tt

  fixed_read : (block at : ℕ) (i : TempInsn) → insn_at a.function.blocks block at ≡ Some i → FixedAsk (fixed_reads_of i) (move_all (transfers_at a block at) (held_before a block at))
  fixed_read = each_insn value callee (λ block at i. FixedAsk (fixed_reads_of i) (move_all (transfers_at a block at) (held_before a block at)))
      tt tt (answer_2, tt) tt tt (result_5, tt)

  -- ---- the ends of the block

  entry : Includes (at_entry a) (at_top a 0)
  entry = record { each = each }
    where
      each : (n : Holder) (p : Place) → at_top a 0 n p → at_entry a n p
      each (Temp t) p (inl h) = h.1
      each (Temp t) p (inr h) = h.1
      each (Fixed k) p h = absurd h
      each (Incoming k) p h = absurd h
      each (Outgoing k) p h = absurd h

  bottoms : (block : ℕ) (insns : List TempInsn) → slice_get a.function.blocks block ≡ Some insns → Includes (held_before a block (length insns)) (at_bottom a block insns)
  bottoms (suc block) insns e = absurd (none-some insns e)
  bottoms zero insns e = record { each = each }
    where
      each : (n : Holder) (p : Place) → at_bottom a 0 insns n p → held_before a 0 (length insns) n p
      each (Temp t) p (live, (s, (k, within, is), same, place)) = absurd (omega (arith, within))
      each (Fixed k) p h = absurd h
      each (Incoming k) p h = absurd h
      each (Outgoing k) p h = absurd h

  abbrev Leaves : (block at : ℕ) → TempInsn → Type 0
  Leaves block at i = (k to : ℕ) → slice_get (targets_of i) k ≡ Some to → KeepsEdge a block to (held_before a block (suc at))

  nowhere : (A : Type 0) (k to : ℕ) → slice_get {X = ℕ} [] k ≡ Some to → A
  nowhere A k to e = absurd (none-some to e)

  jumps : (block at : ℕ) (i : TempInsn) → insn_at a.function.blocks block at ≡ Some i → Leaves block at i
  jumps = each_insn value callee Leaves (λ k to e. nowhere _ k to e) (λ k to e. nowhere _ k to e) (λ k to e. nowhere _ k to e) (λ k to e. nowhere _ k to e) (λ k to e. nowhere _ k to e)
      (λ k to e. nowhere _ k to e)

  stays : false ≡ true → ⊥
  stays h = cc

  follows : (block : ℕ) (insns : List TempInsn) → slice_get a.function.blocks block ≡ Some insns → flows_out insns ≡ true → KeepsEdge a block (suc block) (held_before a block (length insns))
  follows (suc block) insns e = absurd (none-some insns e)
  follows zero insns e = subst (λ xs. flows_out xs ≡ true → KeepsEdge a 0 1 (held_before a 0 (length xs))) (same_Some _ insns e) (λ out. absurd (stays out))

  is_faithful : Faithful a
  is_faithful = record {
    lists = lists r value callee kept.given;
    entry = entry;
    moves = moves;
    temps_read = temps_read;
    fixed_read = fixed_read;
    bottoms = bottoms;
    jumps = jumps;
    follows = follows;
  }

-- so it is for each of the seven registers
pub kept_is_faithful : (k : KeptRegister) (value : ℤ) (callee : ℕ) → Faithful (kept_plan (kept_number k) value callee)
kept_is_faithful k value callee = is_faithful (kept_number k) (is_kept k) value callee

-- and for an allocation that is this plan
pub faithful_so : (k : KeptRegister) (value : ℤ) (callee : ℕ) (p : Plan) → kept_plan (kept_number k) value callee ≡ p → Faithful p
faithful_so k value callee p same = subst Faithful same (kept_is_faithful k value callee)

-- the plan of an allocation that was made of these lists
pub plan_is : (k : KeptRegister) (value : ℤ) (callee params temps : ℕ) (objects : List MemoryLocal) (blocks : List (List TempInsn)) (top bottom : List (List TempPlace)) (at : List (List Transfer)) (regs : List (List ℕ))
    (edges : List EdgeCode) → params ≡ 0 → temps ≡ 3 → objects ≡ [] → blocks ≡ kept_sum value callee ∷ [] → top ≡ [] ∷ [] → bottom ≡ [] ∷ [] → at ≡ no_transfers → regs ≡ stated_registers (kept_number k) → edges ≡ [] →
    record {
      function = record { sizes = map (λ o. o.size) objects; blocks = blocks };
      params = params;
      temps = temps;
      top = top;
      bottom = bottom;
      at = at;
      regs = regs;
      edges = edges;
    } ≡ kept_plan (kept_number k) value callee
plan_is k value callee params temps objects blocks top bottom at regs edges none_passed three no_object block no_top no_bottom unmoved stated no_edge =
    let sizes : map (λ o. o.size) objects ≡ [] = ap (map (λ o. o.size)) no_object in cc
