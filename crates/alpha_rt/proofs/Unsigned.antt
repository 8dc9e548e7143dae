-- The routines on unsigned words.
use Rattle.std.proofs.Common.{◌≡◌, ℕ, zero, suc, ◌+◌, ◌/◌, ◌%◌, ◌^◌, ◌<◌, Bool, true, false, cond, eqb, Some, refl, sym, ap, ◌∙◌, subst, arith}
use Rattle.std.proofs.lemmas.Bool.{eqb-true, eqb-false}
use Rattle.std.proofs.lemmas.Nat.{or_shifted}
use Rattle.std.specs.Int.RustNames.{bit_or}
use Rattle.alpha_isa.specs.Program.{Program}
use Rattle.alpha_isa.specs.State.{State, register}
use Rattle.alpha_rt.specs.Routine.{Routine, Answers, Traps, Divqu, Remqu, routine_outcome}
use Rattle.alpha_rt.specs.Code.{numbers}
use Rattle.alpha_rt.specs.Calls.{IsCall, RoutineDoes, Divides}
use Rattle.alpha_rt.proofs.Runs.{Reaches, at_most, stays, at, after}
use Rattle.alpha_rt.proofs.Registers.{RegisterFile, listed_registers, file_of}
use Rattle.alpha_rt.proofs.Routines.{Parts, routine_returns, routine_traps}

-- from each register file, from each state
pub from_files : (r : Routine) → ((p : Program) (word : ℕ) (s : State) (a : ℕ) (x : RegisterFile) → IsCall p word r (at s a (listed_registers x)) → RoutineDoes p (at s a (listed_registers x)) (routine_outcome r x.r24 x.r25)) → Divides r
from_files r does p word s call =
    let file = file_of s.registers call.registers in
    subst (λ rs. IsCall p word r (at s s.pc rs) → RoutineDoes p (at s s.pc rs) (routine_outcome r (register (at s s.pc rs) 24) (register (at s s.pc rs) 25))) (sym file.1) (does p word s s.pc file.0) call

-- the divisor is zero, or it is not
pub by_divisor : (r : Routine) (p : Program) (word : ℕ) (s : State) (a : ℕ) (x : RegisterFile) (n d answer : ℕ) → IsCall p word r (at s a (listed_registers x)) → Parts r p s a x n d answer → (b : Bool) → eqb d 0 ≡ b → RoutineDoes p (at s a (listed_registers x)) (cond b (Traps 1) (Answers answer))
by_divisor r p word s a x n d answer call parts true e = routine_traps r p word s a x n d answer call parts (eqb-true d 0 e)
by_divisor r p word s a x n d answer call parts false e = routine_returns r p word s a x n d answer call parts (positive d (eqb-false d 0 e))
  where
    positive : (d : ℕ) → (d ≡ 0 → ⊥) → 0 < d
    positive zero h = absurd (h refl)
    positive (suc d) h = omega arith

or_zero : (n : ℕ) → n < 2 ^ 64 → bit_or 0 n ≡ n
or_zero n word = let none : 0 + n ≡ n = omega arith in or_shifted 0 64 n word ∙ none

pub untested_operands : (p : Program) (s : State) (a : ℕ) (x : RegisterFile) → Reaches p 3 (at s a (listed_registers x)) (at s (a + 0) (listed_registers x))
untested_operands p s a x =
    let none : a ≡ a + 0 = omega arith in
    subst (λ n. Reaches p 3 (at s a (listed_registers x)) (at s n (listed_registers x))) none (at_most p 0 3 (at s a (listed_registers x)) (at s a (listed_registers x)) (omega arith) (stays p (at s a (listed_registers x))))

numbers_loaded : (x : RegisterFile) (j : ℕ) → x.r24 < 2 ^ 64 → x.r25 < 2 ^ 64 → after numbers (listed_registers (record x { r28 = j })) ≡ Some (listed_registers (record x { r2 = x.r25; r27 = x.r24; r28 = j }))
numbers_loaded x j n d =
    ap (λ k. Some (listed_registers (record x { r2 = bit_or 0 x.r25; r27 = k; r28 = j }))) (or_zero x.r24 n)
    ∙ ap (λ k. Some (listed_registers (record x { r2 = k; r27 = x.r24; r28 = j }))) (or_zero x.r25 d)

divqu_parts : (p : Program) (word : ℕ) (s : State) (a : ℕ) (x : RegisterFile) → IsCall p word Divqu (at s a (listed_registers x)) → Parts Divqu p s a x x.r24 x.r25 (x.r24 / x.r25)
divqu_parts p word s a x call = record {
  dividend_word = call.words 24;
  divisor_word = call.words 25;
  tested = x.r28;
  tests = untested_operands p s a x;
  operands = λ j. (j, numbers_loaded x j (call.words 24) (call.words 25));
  answers = λ some link j. (x.r24 % x.r25, j, refl);
}

pub divqu_divides : Divides Divqu
divqu_divides = from_files Divqu (λ p word s a x call. by_divisor Divqu p word s a x x.r24 x.r25 (x.r24 / x.r25) call (divqu_parts p word s a x call) (eqb x.r25 0) refl)

remainder_below : (n d : ℕ) → 0 < d → d < 2 ^ 64 → n % d < 2 ^ 64
remainder_below n d some word = omega arith

remqu_parts : (p : Program) (word : ℕ) (s : State) (a : ℕ) (x : RegisterFile) → IsCall p word Remqu (at s a (listed_registers x)) → Parts Remqu p s a x x.r24 x.r25 (x.r24 % x.r25)
remqu_parts p word s a x call = record {
  dividend_word = call.words 24;
  divisor_word = call.words 25;
  tested = x.r28;
  tests = untested_operands p s a x;
  operands = λ j. (j, numbers_loaded x j (call.words 24) (call.words 25));
  answers = λ some link j.
      (x.r24 % x.r25, j, ap (λ k. Some (listed_registers (record x { r1 = x.r24 % x.r25; r2 = x.r25; r3 = 0; r4 = link; r27 = k; r28 = j }))) (or_zero (x.r24 % x.r25) (remainder_below x.r24 x.r25 some (call.words 25))));
}

pub remqu_divides : Divides Remqu
remqu_divides = from_files Remqu (λ p word s a x call. by_divisor Remqu p word s a x x.r24 x.r25 (x.r24 % x.r25) call (remqu_parts p word s a x call) (eqb x.r25 0) refl)
