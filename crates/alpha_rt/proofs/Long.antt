-- The routines on unsigned words of 32 bits.
use Rattle.std.proofs.Common.{◌≡◌, ℕ, ◌+◌, ◌-◌, ◌/◌, ◌%◌, ◌^◌, ◌<◌, ◌≤◌, cond, eqb, Some, refl, sym, ap, ◌∙◌, subst, arith}
use Rattle.std.specs.Int.{w32}
use Rattle.std.proofs.lemmas.Bool.{ne_eqb}
use mathlib.Core.Logic.{◌⊎◌, inl, inr}
use Rattle.alpha_isa.proofs.Arithmetic.{kept_bytes-long}
use Rattle.alpha_isa.specs.Arithmetic.{sign_extension, kept_bytes}
use Rattle.alpha_isa.specs.Program.{Program}
use Rattle.alpha_isa.specs.State.{State}
use Rattle.alpha_rt.specs.Routine.{Routine, Answers, Traps, Divlu, Remlu}
use Rattle.alpha_rt.specs.Code.{low_numbers, long_quotient, long_remainder}
use Rattle.alpha_rt.specs.Calls.{IsCall, RoutineDoes, Divides}
use Rattle.alpha_rt.proofs.Runs.{at, after}
use Rattle.alpha_rt.proofs.Registers.{RegisterFile, listed_registers}
use Rattle.alpha_rt.proofs.Routines.{Parts}
use Rattle.alpha_rt.proofs.Unsigned.{from_files, by_divisor, untested_operands}
use Rattle.alpha_rt.proofs.Signed.{long_range}

-- a word that is its own sign extension is 0 where its low bits are
zero_from : (b : ℕ) → (b < 2 ^ 31) ⊎ (2 ^ 64 - 2 ^ 31 ≤ b) → b < 2 ^ 64 → eqb (b % 2 ^ 32) 0 ≡ eqb b 0
zero_from b (inl low) word = let same : b % 2 ^ 32 ≡ b = omega arith in ap (λ n. eqb n 0) same
zero_from b (inr high) word = ne_eqb (b % 2 ^ 32) 0 (λ e. absurd (omega arith)) ∙ sym (ne_eqb b 0 (λ e. absurd (omega arith)))

zero_alike : (b : ℕ) → sign_extension w32 b ≡ b → b < 2 ^ 64 → eqb (b % 2 ^ 32) 0 ≡ eqb b 0
zero_alike b e word = zero_from b (long_range b e) word

low_loaded : (x : RegisterFile) (j : ℕ) → after low_numbers (listed_registers (record x { r28 = j })) ≡ Some (listed_registers (record x { r2 = x.r25 % 2 ^ 32; r27 = x.r24 % 2 ^ 32; r28 = j }))
low_loaded x j =
    ap (λ k. Some (listed_registers (record x { r2 = kept_bytes 8 x.r25 0x0F; r27 = k; r28 = j }))) (kept_bytes-long x.r24)
    ∙ ap (λ k. Some (listed_registers (record x { r2 = k; r27 = x.r24 % 2 ^ 32; r28 = j }))) (kept_bytes-long x.r25)

quotient_extended : (y : RegisterFile) → after long_quotient (listed_registers y) ≡ Some (listed_registers (record y { r27 = sign_extension w32 y.r27 }))
quotient_extended y = let same : y.r27 + 0 ≡ y.r27 = omega arith in ap (λ k. Some (listed_registers (record y { r27 = sign_extension w32 k }))) same

remainder_extended : (y : RegisterFile) → after long_remainder (listed_registers y) ≡ Some (listed_registers (record y { r27 = sign_extension w32 y.r1 }))
remainder_extended y = let same : y.r1 + 0 ≡ y.r1 = omega arith in ap (λ k. Some (listed_registers (record y { r27 = sign_extension w32 k }))) same

divlu_parts : (p : Program) (word : ℕ) (s : State) (a : ℕ) (x : RegisterFile) → IsCall p word Divlu (at s a (listed_registers x)) → Parts Divlu p s a x (x.r24 % 2 ^ 32) (x.r25 % 2 ^ 32) (sign_extension w32 (x.r24 % 2 ^ 32 / (x.r25 % 2 ^ 32)))
divlu_parts p word s a x call = record {
  dividend_word = omega arith;
  divisor_word = omega arith;
  tested = x.r28;
  tests = untested_operands p s a x;
  operands = λ j. (j, low_loaded x j);
  answers = λ some link j. (x.r24 % 2 ^ 32 % (x.r25 % 2 ^ 32), j, quotient_extended (record x { r1 = x.r24 % 2 ^ 32 % (x.r25 % 2 ^ 32); r2 = x.r25 % 2 ^ 32; r3 = 0; r4 = link; r27 = x.r24 % 2 ^ 32 / (x.r25 % 2 ^ 32); r28 = j }));
}

remlu_parts : (p : Program) (word : ℕ) (s : State) (a : ℕ) (x : RegisterFile) → IsCall p word Remlu (at s a (listed_registers x)) → Parts Remlu p s a x (x.r24 % 2 ^ 32) (x.r25 % 2 ^ 32) (sign_extension w32 (x.r24 % 2 ^ 32 % (x.r25 % 2 ^ 32)))
remlu_parts p word s a x call = record {
  dividend_word = omega arith;
  divisor_word = omega arith;
  tested = x.r28;
  tests = untested_operands p s a x;
  operands = λ j. (j, low_loaded x j);
  answers = λ some link j. (x.r24 % 2 ^ 32 % (x.r25 % 2 ^ 32), j, remainder_extended (record x { r1 = x.r24 % 2 ^ 32 % (x.r25 % 2 ^ 32); r2 = x.r25 % 2 ^ 32; r3 = 0; r4 = link; r27 = x.r24 % 2 ^ 32 / (x.r25 % 2 ^ 32); r28 = j }));
}

-- the low bits of the divisor are zero where it is
long_does : (r : Routine) (p : Program) (word : ℕ) (s : State) (a : ℕ) (x : RegisterFile) (answer : ℕ) → IsCall p word r (at s a (listed_registers x)) → sign_extension w32 x.r25 ≡ x.r25 → Parts r p s a x (x.r24 % 2 ^ 32) (x.r25 % 2 ^ 32) answer → RoutineDoes p (at s a (listed_registers x)) (cond (eqb x.r25 0) (Traps 1) (Answers answer))
long_does r p word s a x answer call extended parts =
    subst (λ b. RoutineDoes p (at s a (listed_registers x)) (cond b (Traps 1) (Answers answer))) (zero_alike x.r25 extended (call.words 25))
    (by_divisor r p word s a x (x.r24 % 2 ^ 32) (x.r25 % 2 ^ 32) answer call parts (eqb (x.r25 % 2 ^ 32) 0) refl)

pub divlu_divides : Divides Divlu
divlu_divides = from_files Divlu (λ p word s a x call. long_does Divlu p word s a x (sign_extension w32 (x.r24 % 2 ^ 32 / (x.r25 % 2 ^ 32))) call call.divisor (divlu_parts p word s a x call))

pub remlu_divides : Divides Remlu
remlu_divides = from_files Remlu (λ p word s a x call. long_does Remlu p word s a x (sign_extension w32 (x.r24 % 2 ^ 32 % (x.r25 % 2 ^ 32))) call call.divisor (remlu_parts p word s a x call))
