-- The routines on signed words: absolute values, signs, and the least number by -1.
use Rattle.std.proofs.Common.{◌≡◌, ℕ, zero, suc, ◌+◌, ◌-◌, ◌/◌, ◌%◌, ◌^◌, ◌<◌, ◌≤◌, ℤ, pos, negsuc, List, [], ◌∷◌, Bool, true, false, not, cond, eqb, ltb, Option, Some, refl, sym, ap, ◌∙◌, subst, arith}
use Rattle.std.specs.Prelude.{◌-ℤ◌, neg_ℤ, int_lt, option_and_then}
use Rattle.std.specs.Int.{Width, w32, w64, cast_signed}
use Rattle.std.specs.Int.RustNames.{int_div, int_rem}
use Rattle.std.proofs.lemmas.Bool.{eqb-true, eqb-false, ltb-true, ltb-false, lt-ltb, le-ltb, ne_eqb, eq-eqb, and_parts, and_cases, cases_lt}
use Rattle.std.proofs.lemmas.Int.{ints}
use mathlib.Core.Logic.{◌⊎◌, inl, inr}
use mir.Val.{hbits}
use Rattle.alpha_isa.proofs.Arithmetic.{signed-sign_extended}
use Rattle.alpha_isa.specs.declared.insn.Fields.{Fields}
use Rattle.alpha_isa.specs.declared.insn.Fields.TheVariants.{Operate}
use Rattle.alpha_isa.specs.declared.insn.Operand.TheVariants.{Reg, Literal}
use Rattle.alpha_isa.specs.declared.insn.BranchOp.TheVariants.{Bne}
use Rattle.alpha_isa.specs.declared.insn.OperateOp.{OperateOp}
use Rattle.alpha_isa.specs.declared.insn.OperateOp.TheVariants.{Addq, Subq, SublV, SubqV, Cmplt, Xor, Cmoveq, Cmovne}
use Rattle.alpha_isa.specs.Arithmetic.{Gives, Overflows, operation_effect, fits_signed, word_at, word_from, word_difference, signed_value, sign_extension}
use Rattle.alpha_isa.specs.Program.{Program}
use Rattle.alpha_isa.specs.State.{State}
use Rattle.alpha_isa.specs.Step.{operate_step, go_on, exec, step, fetched_step}
use Rattle.alpha_rt.specs.Routine.{Routine, Answers, Traps, Divq, Remq, Divl, Reml, signed_outcome, is_least_by_minus_one}
use Rattle.alpha_rt.specs.Code.{least_test, magnitude_code, magnitudes, signed_quotient, signed_remainder}
use Rattle.alpha_rt.specs.Calls.{IsCall, RoutineDoes, Divides, TrapsWith}
use Rattle.alpha_rt.proofs.Runs.{Reaches, then_reaches, at_most, CodeStandsAt, at, after, effect_on, straight_reaches, taken_branch, passed_branch}
use Rattle.alpha_rt.proofs.Registers.{RegisterFile, listed_registers}
use Rattle.alpha_rt.proofs.Common.{Ends, then_ends}
use Rattle.alpha_rt.proofs.Routines.{Parts, test_at}
use Rattle.alpha_rt.proofs.Unsigned.{from_files, by_divisor}

-- ---- words as signed numbers

is_negative : ℕ → Bool
is_negative a = int_lt (signed_value w64 a) (pos 0)

not_negative : (a : ℕ) → a < 2 ^ 63 → signed_value w64 a ≡ pos a
not_negative a small =
    let whole : a % 2 ^ 64 ≡ a = omega arith in
    ap (cast_signed w64) whole ∙ ap (λ b. cond b (pos a) (negsuc (2 ^ 64 - suc a))) (lt-ltb a (2 ^ 63) small)

negative : (a : ℕ) → 2 ^ 63 ≤ a → a < 2 ^ 64 → signed_value w64 a ≡ negsuc (2 ^ 64 - suc a)
negative a large word =
    let whole : a % 2 ^ 64 ≡ a = omega arith in
    ap (cast_signed w64) whole ∙ ap (λ b. cond b (pos a) (negsuc (2 ^ 64 - suc a))) (le-ltb a (2 ^ 63) large)

-- a word of a number of a width: all its bits above are as the sign
record IsNumber (w : Width) (a : ℕ) : Type 0 where
  word : a < 2 ^ 64
  value : signed_value w a ≡ signed_value w64 a
  low : a < 2 ^ 63 → a < 2 ^ hbits w
  high : 2 ^ 63 ≤ a → 2 ^ 64 - 2 ^ hbits w ≤ a

quad_number : (a : ℕ) → a < 2 ^ 64 → IsNumber w64 a
quad_number a word = record { word = word; value = refl; low = λ h. h; high = λ h. omega arith }

range_from : (a n : ℕ) (b : Bool) → ltb n (2 ^ 31) ≡ b → n < 2 ^ 32 → word_from (cond b (pos n) (negsuc (2 ^ 32 - suc n))) ≡ a → (a < 2 ^ 31) ⊎ (2 ^ 64 - 2 ^ 31 ≤ a)
range_from a n true s small h = let low : n < 2 ^ 31 = ltb-true n (2 ^ 31) s in inl (omega arith)
range_from a n false s small h = let high : 2 ^ 31 ≤ n = ltb-false n (2 ^ 31) s in inr (omega arith)

-- a word that is its own sign extension is near 0 or near the end
pub long_range : (a : ℕ) → sign_extension w32 a ≡ a → (a < 2 ^ 31) ⊎ (2 ^ 64 - 2 ^ 31 ≤ a)
long_range a e = range_from a (a % 2 ^ 32) (ltb (a % 2 ^ 32) (2 ^ 31)) refl (omega arith) e

long_number_from : (a : ℕ) → a < 2 ^ 64 → signed_value w32 a ≡ signed_value w64 a → (a < 2 ^ 31) ⊎ (2 ^ 64 - 2 ^ 31 ≤ a) → IsNumber w32 a
long_number_from a word same (inl low) = record { word = word; value = same; low = λ h. low; high = λ h. absurd (omega arith) }
long_number_from a word same (inr high) = record { word = word; value = same; low = λ h. absurd (omega arith); high = λ h. high }

long_number : (a : ℕ) → a < 2 ^ 64 → sign_extension w32 a ≡ a → IsNumber w32 a
long_number a word e = long_number_from a word (sym (signed-sign_extended w32 a (omega arith)) ∙ ap (signed_value w64) e) (long_range a e)

-- ---- the absolute value of a word, and a word with a sign

size_of : Bool → ℕ → ℕ
size_of b a = cond b (word_at (word_difference 0 a)) a

record HasSign (a : ℕ) (b : Bool) : Type 0 where
  small : size_of b a < 2 ^ 64
  same : signed_value w64 a ≡ cond b (negsuc (2 ^ 64 - suc a)) (pos a)
  size : cond b (suc (2 ^ 64 - suc a)) a ≡ size_of b a
  zero_alike : eqb (size_of b a) 0 ≡ eqb a 0

sign_by_half : (a : ℕ) → a < 2 ^ 64 → (c b : Bool) → ltb a (2 ^ 63) ≡ c → is_negative a ≡ b → HasSign a b
unfolding is_negative size_of
sign_by_half a word true true h e =
    let clash : true ≡ false = sym e ∙ ap (λ z. int_lt z (pos 0)) (not_negative a (ltb-true a (2 ^ 63) h)) ∙ le-ltb a 0 (omega arith) in
    let impossible : ⊥ = cc in absurd impossible
sign_by_half a word true false h e = record { small = word; same = not_negative a (ltb-true a (2 ^ 63) h); size = refl; zero_alike = refl }
sign_by_half a word false true h e =
    let high : 2 ^ 63 ≤ a = ltb-false a (2 ^ 63) h in
    record {
      small = omega arith;
      same = negative a high word;
      size = omega arith;
      zero_alike = ne_eqb (word_at (word_difference 0 a)) 0 (λ z. absurd (omega arith)) ∙ sym (ne_eqb a 0 (λ z. absurd (omega arith)));
    }
sign_by_half a word false false h e =
    let clash : false ≡ true = sym e ∙ ap (λ z. int_lt z (pos 0)) (negative a (ltb-false a (2 ^ 63) h) word) in
    let impossible : ⊥ = cc in absurd impossible

sign_of : (a : ℕ) → a < 2 ^ 64 → HasSign a (is_negative a)
sign_of a word = sign_by_half a word (ltb a (2 ^ 63)) (is_negative a) refl refl

below : (n d : ℕ) → n < 2 ^ 64 → n / d < 2 ^ 64
below n zero small = omega arith
below n (suc d) small = omega arith

left_below : (n d : ℕ) → n < 2 ^ 64 → n % d < 2 ^ 64
left_below n zero small = omega arith
left_below n (suc d) small = omega arith

negated : (n : ℕ) → n < 2 ^ 64 → word_from (neg_ℤ (pos n)) ≡ word_at (word_difference 0 n)
negated zero word = omega arith
negated (suc n) word = omega arith

differ : Bool → Bool → Bool
differ true u = not u
differ false u = u

-- the quotient and the remainder of two signed numbers, by those of their absolute values
quotient_signed : (t u : Bool) (a b n d : ℕ) → cond t (suc (2 ^ 64 - suc a)) a ≡ n → cond u (suc (2 ^ 64 - suc b)) b ≡ d → n < 2 ^ 64 →
    word_from (int_div (cond t (negsuc (2 ^ 64 - suc a)) (pos a)) (cond u (negsuc (2 ^ 64 - suc b)) (pos b))) ≡ size_of (differ t u) (n / d)
unfolding differ size_of
quotient_signed true true a b n d x y small = ap (λ k. k / suc (2 ^ 64 - suc b)) x ∙ ap (λ k. n / k) y
quotient_signed true false a b n d x y small = ap (λ k. word_from (neg_ℤ (pos (k / b)))) x ∙ ap (λ k. word_from (neg_ℤ (pos (n / k)))) y ∙ negated (n / d) (below n d small)
quotient_signed false true a b n d x y small = ap (λ k. word_from (neg_ℤ (pos (k / suc (2 ^ 64 - suc b))))) x ∙ ap (λ k. word_from (neg_ℤ (pos (n / k)))) y ∙ negated (n / d) (below n d small)
quotient_signed false false a b n d x y small = ap (λ k. k / b) x ∙ ap (λ k. n / k) y

remainder_signed : (t u : Bool) (a b n d : ℕ) → cond t (suc (2 ^ 64 - suc a)) a ≡ n → cond u (suc (2 ^ 64 - suc b)) b ≡ d → n < 2 ^ 64 →
    word_from (int_rem (cond t (negsuc (2 ^ 64 - suc a)) (pos a)) (cond u (negsuc (2 ^ 64 - suc b)) (pos b))) ≡ size_of t (n % d)
unfolding size_of
remainder_signed true true a b n d x y small = ap (λ k. word_from (neg_ℤ (pos (k % suc (2 ^ 64 - suc b))))) x ∙ ap (λ k. word_from (neg_ℤ (pos (n % k)))) y ∙ negated (n % d) (left_below n d small)
remainder_signed true false a b n d x y small = ap (λ k. word_from (neg_ℤ (pos (k % b)))) x ∙ ap (λ k. word_from (neg_ℤ (pos (n % k)))) y ∙ negated (n % d) (left_below n d small)
remainder_signed false true a b n d x y small = ap (λ k. k % suc (2 ^ 64 - suc b)) x ∙ ap (λ k. n % k) y
remainder_signed false false a b n d x y small = ap (λ k. k % b) x ∙ ap (λ k. n % k) y

-- ---- the negation of a number, which overflows for the least one

minus_suc : (k : ℕ) → pos 0 -ℤ pos (suc k) ≡ negsuc k
minus_suc k = omega (arith, ints)

minus_negsuc : (k : ℕ) → pos 0 -ℤ negsuc k ≡ pos (suc k)
minus_negsuc k = omega (arith, ints)

fits_pos : (w : Width) (n : ℕ) → 0 < 2 ^ hbits w → n < 2 ^ hbits w → fits_signed w (pos 0 -ℤ pos n) ≡ true
fits_pos w zero some h = lt-ltb 0 (2 ^ hbits w) some
fits_pos w (suc n) some h = ap (fits_signed w) (minus_suc n) ∙ lt-ltb n (2 ^ hbits w) (omega arith)

fits_negsuc : (w : Width) (m : ℕ) → suc m < 2 ^ hbits w → fits_signed w (pos 0 -ℤ negsuc m) ≡ true
fits_negsuc w m h = ap (fits_signed w) (minus_negsuc m) ∙ lt-ltb (suc m) (2 ^ hbits w) h

pub strictly_from : (m k : ℕ) → m ≤ k → (m ≡ k → ⊥) → (m < k) ⊎ (k ≤ m) → m < k
strictly_from m k le other (inl lt) = lt
strictly_from m k le other (inr ge) = let same : m ≡ k = omega arith in absurd (other same)

fits_by_half : (w : Width) (a : ℕ) → IsNumber w a → 0 < 2 ^ hbits w → 2 ^ hbits w ≤ 2 ^ 63 → (a ≡ 2 ^ 64 - 2 ^ hbits w → ⊥) → (c : Bool) → ltb a (2 ^ 63) ≡ c → fits_signed w (pos 0 -ℤ signed_value w a) ≡ true
fits_by_half w a number some small other true h =
    let low : a < 2 ^ 63 = ltb-true a (2 ^ 63) h in
    let is : pos a ≡ signed_value w a = sym (not_negative a low) ∙ sym number.value in
    subst (λ z. fits_signed w (pos 0 -ℤ z) ≡ true) is (fits_pos w a some (number.low low))
fits_by_half w a number some small other false h =
    let high : 2 ^ 63 ≤ a = ltb-false a (2 ^ 63) h in
    let least : ℕ = 2 ^ 64 - 2 ^ hbits w in
    let is : negsuc (2 ^ 64 - suc a) ≡ signed_value w a = sym (negative a high number.word) ∙ sym number.value in
    let above : 2 ^ 64 - 2 ^ hbits w < a = strictly_from least a (number.high high) (λ x. other (sym x)) (cases_lt least a) in
    let size : suc (2 ^ 64 - suc a) < 2 ^ hbits w = omega (arith, number.word) in
    subst (λ z. fits_signed w (pos 0 -ℤ z) ≡ true) is (fits_negsuc w (2 ^ 64 - suc a) size)

negation_fits : (w : Width) (a : ℕ) → IsNumber w a → 0 < 2 ^ hbits w → 2 ^ hbits w ≤ 2 ^ 63 → (a ≡ 2 ^ 64 - 2 ^ hbits w → ⊥) → fits_signed w (pos 0 -ℤ signed_value w a) ≡ true
negation_fits w a number some small other = fits_by_half w a number some small other (ltb a (2 ^ 63)) refl

-- what a test for the least number does
record Negation (op : OperateOp) (w : Width) (a : ℕ) : Type 0 where
  word : ℕ
  gives : (a ≡ 2 ^ 64 - 2 ^ hbits w → ⊥) → operation_effect op 0 a ≡ Gives word
  overflows : a ≡ 2 ^ 64 - 2 ^ hbits w → operation_effect op 0 a ≡ Overflows

quad_negation : (a : ℕ) → IsNumber w64 a → Negation SubqV w64 a
quad_negation a number = record {
  word = word_from (pos 0 -ℤ signed_value w64 a);
  gives = λ other. ap (λ b. cond b (Gives (word_from (pos 0 -ℤ signed_value w64 a))) Overflows) (negation_fits w64 a number (omega arith) (omega arith) other);
  overflows = λ e. ap (operation_effect SubqV 0) e;
}

long_negation : (a : ℕ) → IsNumber w32 a → Negation SublV w32 a
long_negation a number = record {
  word = word_from (pos 0 -ℤ signed_value w32 a);
  gives = λ other. ap (λ b. cond b (Gives (word_from (pos 0 -ℤ signed_value w32 a))) Overflows) (negation_fits w32 a number (omega arith) (omega arith) other);
  overflows = λ e. ap (operation_effect SublV 0) e;
}

-- ---- the test for the least number by -1

tested : (op : OperateOp) (p : Program) (s : State) (a : ℕ) (x : RegisterFile) → CodeStandsAt p a (least_test op) → Reaches p 1 (at s a (listed_registers x)) (at s (a + 4) (listed_registers (record x { r28 = word_at (x.r25 + 1) })))
tested op p s a x h = straight_reaches p (Operate Addq 25 (Literal 1) 28 ∷ []) a (listed_registers x) (listed_registers (record x { r28 = word_at (x.r25 + 1) })) s (h.0, tt) refl

passes_other : (op : OperateOp) (p : Program) (s : State) (a : ℕ) (x : RegisterFile) → CodeStandsAt p a (least_test op) → a + 12 < 2 ^ 64 → x.r25 < 2 ^ 64 → (x.r25 ≡ 2 ^ 64 - 1 → ⊥) → Reaches p 3 (at s a (listed_registers x)) (at s (a + 12) (listed_registers (record x { r28 = word_at (x.r25 + 1) })))
passes_other op p s a x h room word other =
    let y : RegisterFile = record x { r28 = word_at (x.r25 + 1) } in
    let over : Reaches p 1 (at s (a + 4) (listed_registers y)) (at s (a + 12) (listed_registers y)) =
    taken_branch p Bne 28 (a + 4) (a + 12) (pos 1) (listed_registers y) s h.1.0 refl (ap not (ne_eqb (word_at (x.r25 + 1)) 0 (λ e. let same : x.r25 ≡ 2 ^ 64 - 1 = omega arith in other same))) (omega arith) in
    at_most p 2 3 (at s a (listed_registers x)) (at s (a + 12) (listed_registers y)) (omega arith) (then_reaches p 1 1 (at s a (listed_registers x)) (at s (a + 4) (listed_registers y)) (at s (a + 12) (listed_registers y)) (tested op p s a x h) over)

comes_to_negation : (op : OperateOp) (p : Program) (s : State) (a : ℕ) (x : RegisterFile) → CodeStandsAt p a (least_test op) → x.r25 ≡ 2 ^ 64 - 1 → Reaches p 2 (at s a (listed_registers x)) (at s (a + 4 + 4) (listed_registers (record x { r28 = word_at (x.r25 + 1) })))
comes_to_negation op p s a x h minus =
    let y : RegisterFile = record x { r28 = word_at (x.r25 + 1) } in
    let none : word_at (x.r25 + 1) ≡ 0 = omega arith in
    let past : Reaches p 1 (at s (a + 4) (listed_registers y)) (at s (a + 4 + 4) (listed_registers y)) = passed_branch p Bne 28 (a + 4) (pos 1) (listed_registers y) s h.1.0 refl (ap not (eq-eqb (word_at (x.r25 + 1)) 0 none)) in
    then_reaches p 1 1 (at s a (listed_registers x)) (at s (a + 4) (listed_registers y)) (at s (a + 4 + 4) (listed_registers y)) (tested op p s a x h) past

passes_negated : (op : OperateOp) (p : Program) (s : State) (a : ℕ) (x : RegisterFile) (word : ℕ) → CodeStandsAt p a (least_test op) → x.r25 ≡ 2 ^ 64 - 1 → operation_effect op 0 x.r24 ≡ Gives word → Reaches p 3 (at s a (listed_registers x)) (at s (a + 12) (listed_registers (record x { r28 = word })))
passes_negated op p s a x word h minus e =
    let y : RegisterFile = record x { r28 = word_at (x.r25 + 1) } in
    let z : RegisterFile = record x { r28 = word } in
    let made : Reaches p 1 (at s (a + 4 + 4) (listed_registers y)) (at s (a + 4 + 4 + 4) (listed_registers z)) =
    straight_reaches p (Operate op 31 (Reg 24) 28 ∷ []) (a + 4 + 4) (listed_registers y) (listed_registers z) s (h.1.1.0, tt) (ap (λ o. option_and_then (after []) (effect_on o 28 (listed_registers y))) e) in
    let end : a + 4 + 4 + 4 ≡ a + 12 = omega arith in
    subst (λ to. Reaches p 3 (at s a (listed_registers x)) (at s to (listed_registers z))) end
    (then_reaches p 2 1 (at s a (listed_registers x)) (at s (a + 4 + 4) (listed_registers y)) (at s (a + 4 + 4 + 4) (listed_registers z)) (comes_to_negation op p s a x h minus) made)

overflow_ends : (op : OperateOp) (p : Program) (s : State) (a : ℕ) (y : RegisterFile) → CodeStandsAt p a (Operate op 31 (Reg 24) 28 ∷ []) → operation_effect op 0 y.r24 ≡ Overflows → Ends p 1 3 (at s a (listed_registers y))
unfolding exec step
overflow_ends op p s a y h e = record {
  steps = 1;
  soon = omega arith;
  last = at s a (listed_registers y);
  run = ap (λ o. go_on (fetched_step p o (at s a (listed_registers y))) (exec p 0)) h.0 ∙ ap (λ o. go_on (operate_step o 28 (at s a (listed_registers y))) (exec p 0)) e;
  input = refl;
  output = refl;
}

least_traps : (op : OperateOp) (p : Program) (s : State) (a : ℕ) (x : RegisterFile) → CodeStandsAt p a (least_test op) → x.r25 ≡ 2 ^ 64 - 1 → operation_effect op 0 x.r24 ≡ Overflows → TrapsWith p (at s a (listed_registers x)) 3
least_traps op p s a x h minus e =
    let y : RegisterFile = record x { r28 = word_at (x.r25 + 1) } in
    let v : Ends p 3 3 (at s a (listed_registers x)) = then_ends p 2 1 3 (at s a (listed_registers x)) (at s (a + 4 + 4) (listed_registers y)) (comes_to_negation op p s a x h minus) (overflow_ends op p s (a + 4 + 4) y h.1.1 e) refl refl in
    record { steps = v.steps; soon = omega arith; last = v.last; run = v.run; input = v.input; output = v.output }

-- the test is passed where the pair is not the least number and -1
record Passes (p : Program) (s : State) (a : ℕ) (x : RegisterFile) : Type 0 where
  word : ℕ
  reaches : Reaches p 3 (at s a (listed_registers x)) (at s (a + 12) (listed_registers (record x { r28 = word })))

passes_by : (op : OperateOp) (w : Width) (p : Program) (s : State) (a : ℕ) (x : RegisterFile) → CodeStandsAt p a (least_test op) → a + 12 < 2 ^ 64 → x.r25 < 2 ^ 64 → Negation op w x.r24 → is_least_by_minus_one w x.r24 x.r25 ≡ false → (b : Bool) → eqb x.r25 (2 ^ 64 - 1) ≡ b → Passes p s a x
passes_by op w p s a x h room word n other false e = record { word = word_at (x.r25 + 1); reaches = passes_other op p s a x h room word (eqb-false x.r25 (2 ^ 64 - 1) e) }
passes_by op w p s a x h room word n other true e = record { word = n.word; reaches = passes_negated op p s a x n.word h (eqb-true x.r25 (2 ^ 64 - 1) e) (n.gives (not_least (and_cases (eqb x.r24 (2 ^ 64 - 2 ^ hbits w)) (eqb x.r25 (2 ^ 64 - 1)) other))) }
  where
    not_least : (eqb x.r24 (2 ^ 64 - 2 ^ hbits w) ≡ false) ⊎ (eqb x.r25 (2 ^ 64 - 1) ≡ false) → x.r24 ≡ 2 ^ 64 - 2 ^ hbits w → ⊥
    not_least (inl f) same = eqb-false x.r24 (2 ^ 64 - 2 ^ hbits w) f same
    not_least (inr f) same = let clash : true ≡ false = sym e ∙ f in let impossible : ⊥ = cc in impossible

-- ---- the operands and the answers

dividend_sized : (x : RegisterFile) (more : List Fields) (new : Option (List ℕ)) (t : Bool) → is_negative x.r24 ≡ t → after more (listed_registers (record x { r27 = size_of t x.r24; r28 = cond t 1 0 })) ≡ new →
    after (Operate Cmplt 24 (Reg 31) 28 ∷ Operate Subq 31 (Reg 24) 27 ∷ Operate Cmoveq 28 (Reg 24) 27 ∷ more) (listed_registers x) ≡ new
unfolding is_negative size_of
dividend_sized x more new true e f = ap (λ t. after (Operate Cmoveq 28 (Reg 24) 27 ∷ more) (listed_registers (record x { r27 = word_at (word_difference 0 x.r24); r28 = cond t 1 0 }))) e ∙ f
dividend_sized x more new false e f = ap (λ t. after (Operate Cmoveq 28 (Reg 24) 27 ∷ more) (listed_registers (record x { r27 = word_at (word_difference 0 x.r24); r28 = cond t 1 0 }))) e ∙ f

divisor_sized : (x : RegisterFile) (u : Bool) → is_negative x.r25 ≡ u → after (magnitude_code 25 2) (listed_registers x) ≡ Some (listed_registers (record x { r2 = size_of u x.r25; r28 = cond u 1 0 }))
unfolding is_negative size_of
divisor_sized x true e = ap (λ t. after (Operate Cmoveq 28 (Reg 25) 2 ∷ []) (listed_registers (record x { r2 = word_at (word_difference 0 x.r25); r28 = cond t 1 0 }))) e
divisor_sized x false e = ap (λ t. after (Operate Cmoveq 28 (Reg 25) 2 ∷ []) (listed_registers (record x { r2 = word_at (word_difference 0 x.r25); r28 = cond t 1 0 }))) e

magnitudes_loaded : (x : RegisterFile) (j : ℕ) (t u : Bool) → is_negative x.r24 ≡ t → is_negative x.r25 ≡ u →
    after magnitudes (listed_registers (record x { r28 = j })) ≡ Some (listed_registers (record x { r2 = size_of u x.r25; r27 = size_of t x.r24; r28 = cond u 1 0 }))
magnitudes_loaded x j t u e f =
    dividend_sized (record x { r28 = j }) (magnitude_code 25 2) (Some (listed_registers (record x { r2 = size_of u x.r25; r27 = size_of t x.r24; r28 = cond u 1 0 }))) t e
    (divisor_sized (record x { r27 = size_of t x.r24; r28 = cond t 1 0 }) u f)

quotient_answered : (y : RegisterFile) (t u : Bool) → is_negative y.r24 ≡ t → is_negative y.r25 ≡ u →
    after signed_quotient (listed_registers y) ≡ Some (listed_registers (record y { r1 = word_at (word_difference 0 y.r27); r27 = size_of (differ t u) y.r27; r28 = cond (differ t u) 1 0 }))
unfolding is_negative size_of differ
quotient_answered y true true e f =
    ap (λ t. after (Operate Xor 28 (Reg 1) 28 ∷ Operate Subq 31 (Reg 27) 1 ∷ Operate Cmovne 28 (Reg 1) 27 ∷ []) (listed_registers (record y { r1 = cond (is_negative y.r25) 1 0; r28 = cond t 1 0 }))) e
    ∙ ap (λ u. after (Operate Xor 28 (Reg 1) 28 ∷ Operate Subq 31 (Reg 27) 1 ∷ Operate Cmovne 28 (Reg 1) 27 ∷ []) (listed_registers (record y { r1 = cond u 1 0; r28 = 1 }))) f
quotient_answered y true false e f =
    ap (λ t. after (Operate Xor 28 (Reg 1) 28 ∷ Operate Subq 31 (Reg 27) 1 ∷ Operate Cmovne 28 (Reg 1) 27 ∷ []) (listed_registers (record y { r1 = cond (is_negative y.r25) 1 0; r28 = cond t 1 0 }))) e
    ∙ ap (λ u. after (Operate Xor 28 (Reg 1) 28 ∷ Operate Subq 31 (Reg 27) 1 ∷ Operate Cmovne 28 (Reg 1) 27 ∷ []) (listed_registers (record y { r1 = cond u 1 0; r28 = 1 }))) f
quotient_answered y false true e f =
    ap (λ t. after (Operate Xor 28 (Reg 1) 28 ∷ Operate Subq 31 (Reg 27) 1 ∷ Operate Cmovne 28 (Reg 1) 27 ∷ []) (listed_registers (record y { r1 = cond (is_negative y.r25) 1 0; r28 = cond t 1 0 }))) e
    ∙ ap (λ u. after (Operate Xor 28 (Reg 1) 28 ∷ Operate Subq 31 (Reg 27) 1 ∷ Operate Cmovne 28 (Reg 1) 27 ∷ []) (listed_registers (record y { r1 = cond u 1 0; r28 = 0 }))) f
quotient_answered y false false e f =
    ap (λ t. after (Operate Xor 28 (Reg 1) 28 ∷ Operate Subq 31 (Reg 27) 1 ∷ Operate Cmovne 28 (Reg 1) 27 ∷ []) (listed_registers (record y { r1 = cond (is_negative y.r25) 1 0; r28 = cond t 1 0 }))) e
    ∙ ap (λ u. after (Operate Xor 28 (Reg 1) 28 ∷ Operate Subq 31 (Reg 27) 1 ∷ Operate Cmovne 28 (Reg 1) 27 ∷ []) (listed_registers (record y { r1 = cond u 1 0; r28 = 0 }))) f

remainder_answered : (y : RegisterFile) (t : Bool) → is_negative y.r24 ≡ t → after signed_remainder (listed_registers y) ≡ Some (listed_registers (record y { r27 = size_of t y.r1; r28 = cond t 1 0 }))
unfolding is_negative size_of
remainder_answered y true e = ap (λ t. after (Operate Cmoveq 28 (Reg 1) 27 ∷ []) (listed_registers (record y { r27 = word_at (word_difference 0 y.r1); r28 = cond t 1 0 }))) e
remainder_answered y false e = ap (λ t. after (Operate Cmoveq 28 (Reg 1) 27 ∷ []) (listed_registers (record y { r27 = word_at (word_difference 0 y.r1); r28 = cond t 1 0 }))) e

-- ---- calls

-- a routine that divides absolute values, and its test
record SignedParts (r : Routine) (op : OperateOp) (w : Width) (operation : ℤ → ℤ → ℤ) (p : Program) (s : State) (a : ℕ) (x : RegisterFile) : Type 0 where
  placed : CodeStandsAt p a (least_test op)
  room : a + 12 < 2 ^ 64
  divisor_word : x.r25 < 2 ^ 64
  negation : Negation op w x.r24
  answer : ℕ
  parts : Passes p s a x → Parts r p s a x (size_of (is_negative x.r24) x.r24) (size_of (is_negative x.r25) x.r25) answer
  answer_is : answer ≡ word_from (operation (signed_value w x.r24) (signed_value w x.r25))

signed_by : (r : Routine) (op : OperateOp) (w : Width) (operation : ℤ → ℤ → ℤ) (p : Program) (word : ℕ) (s : State) (a : ℕ) (x : RegisterFile) → IsCall p word r (at s a (listed_registers x)) → SignedParts r op w operation p s a x → (l : Bool) → is_least_by_minus_one w x.r24 x.r25 ≡ l →
    RoutineDoes p (at s a (listed_registers x)) (cond (eqb x.r25 0) (Traps 1) (cond l (Traps 3) (Answers (word_from (operation (signed_value w x.r24) (signed_value w x.r25))))))
signed_by r op w operation p word s a x call q true e =
    let both = and_parts (eqb x.r24 (2 ^ 64 - 2 ^ hbits w)) (eqb x.r25 (2 ^ 64 - 1)) e in
    let minus : x.r25 ≡ 2 ^ 64 - 1 = eqb-true x.r25 (2 ^ 64 - 1) both.1 in
    let least : x.r24 ≡ 2 ^ 64 - 2 ^ hbits w = eqb-true x.r24 (2 ^ 64 - 2 ^ hbits w) both.0 in
    let some : eqb x.r25 0 ≡ false = ne_eqb x.r25 0 (λ z. absurd (omega arith)) in
    subst (λ b. RoutineDoes p (at s a (listed_registers x)) (cond b (Traps 1) (Traps 3))) (sym some) (least_traps op p s a x q.placed minus (q.negation.overflows least))
signed_by r op w operation p word s a x call q false e =
    let passes : Passes p s a x = passes_by op w p s a x q.placed q.room q.divisor_word q.negation e (eqb x.r25 (2 ^ 64 - 1)) refl in
    let d : ℕ = size_of (is_negative x.r25) x.r25 in
    let sign : HasSign x.r25 (is_negative x.r25) = sign_of x.r25 q.divisor_word in
    subst (λ b. RoutineDoes p (at s a (listed_registers x)) (cond b (Traps 1) (Answers (word_from (operation (signed_value w x.r24) (signed_value w x.r25)))))) sign.zero_alike
    (subst (λ n. RoutineDoes p (at s a (listed_registers x)) (cond (eqb d 0) (Traps 1) (Answers n))) q.answer_is
    (by_divisor r p word s a x (size_of (is_negative x.r24) x.r24) d q.answer call (q.parts passes) (eqb d 0) refl))

signed_does : (r : Routine) (op : OperateOp) (w : Width) (operation : ℤ → ℤ → ℤ) (p : Program) (word : ℕ) (s : State) (a : ℕ) (x : RegisterFile) → IsCall p word r (at s a (listed_registers x)) → SignedParts r op w operation p s a x →
    RoutineDoes p (at s a (listed_registers x)) (signed_outcome w operation x.r24 x.r25)
signed_does r op w operation p word s a x call q = signed_by r op w operation p word s a x call q (is_least_by_minus_one w x.r24 x.r25) refl

-- what is answered, by the signs
quotient_is : (w : Width) (a b : ℕ) → IsNumber w a → IsNumber w b → size_of (differ (is_negative a) (is_negative b)) (size_of (is_negative a) a / size_of (is_negative b) b) ≡ word_from (int_div (signed_value w a) (signed_value w b))
quotient_is w a b m n =
    let t : HasSign a (is_negative a) = sign_of a m.word in
    let u : HasSign b (is_negative b) = sign_of b n.word in
    sym (ap (λ z. word_from (int_div z (signed_value w b))) (m.value ∙ t.same)
    ∙ ap (λ z. word_from (int_div (cond (is_negative a) (negsuc (2 ^ 64 - suc a)) (pos a)) z)) (n.value ∙ u.same)
    ∙ quotient_signed (is_negative a) (is_negative b) a b (size_of (is_negative a) a) (size_of (is_negative b) b) t.size u.size t.small)

remainder_is : (w : Width) (a b : ℕ) → IsNumber w a → IsNumber w b → size_of (is_negative a) (size_of (is_negative a) a % size_of (is_negative b) b) ≡ word_from (int_rem (signed_value w a) (signed_value w b))
remainder_is w a b m n =
    let t : HasSign a (is_negative a) = sign_of a m.word in
    let u : HasSign b (is_negative b) = sign_of b n.word in
    sym (ap (λ z. word_from (int_rem z (signed_value w b))) (m.value ∙ t.same)
    ∙ ap (λ z. word_from (int_rem (cond (is_negative a) (negsuc (2 ^ 64 - suc a)) (pos a)) z)) (n.value ∙ u.same)
    ∙ remainder_signed (is_negative a) (is_negative b) a b (size_of (is_negative a) a) (size_of (is_negative b) b) t.size u.size t.small)

divq_parts : (p : Program) (word : ℕ) (s : State) (a : ℕ) (x : RegisterFile) → IsCall p word Divq (at s a (listed_registers x)) → SignedParts Divq SubqV w64 int_div p s a x
divq_parts p word s a x call =
    let place = test_at Divq p word a call.lawful call.code_stands call.at_entry in
    let dividend : IsNumber w64 x.r24 = quad_number x.r24 (call.words 24) in
    let divisor : IsNumber w64 x.r25 = quad_number x.r25 (call.words 25) in
    record {
      placed = place.0;
      room = omega (arith, place.1);
      divisor_word = call.words 25;
      negation = quad_negation x.r24 dividend;
      answer = size_of (differ (is_negative x.r24) (is_negative x.r25)) (size_of (is_negative x.r24) x.r24 / size_of (is_negative x.r25) x.r25);
      parts = λ passes. record {
        dividend_word = (sign_of x.r24 (call.words 24)).small;
        divisor_word = (sign_of x.r25 (call.words 25)).small;
        tested = passes.word;
        tests = passes.reaches;
        operands = λ j. (cond (is_negative x.r25) 1 0, magnitudes_loaded x j (is_negative x.r24) (is_negative x.r25) refl refl);
        answers = λ some link j. (word_at (word_difference 0 (size_of (is_negative x.r24) x.r24 / size_of (is_negative x.r25) x.r25)), cond (differ (is_negative x.r24) (is_negative x.r25)) 1 0, quotient_answered (record x { r1 = size_of (is_negative x.r24) x.r24 % size_of (is_negative x.r25) x.r25; r2 = size_of (is_negative x.r25) x.r25; r3 = 0; r4 = link; r27 = size_of (is_negative x.r24) x.r24 / size_of (is_negative x.r25) x.r25; r28 = j }) (is_negative x.r24) (is_negative x.r25) refl refl);
      };
      answer_is = quotient_is w64 x.r24 x.r25 dividend divisor;
    }

pub divq_divides : Divides Divq
divq_divides = from_files Divq (λ p word s a x call. signed_does Divq SubqV w64 int_div p word s a x call (divq_parts p word s a x call))

remq_parts : (p : Program) (word : ℕ) (s : State) (a : ℕ) (x : RegisterFile) → IsCall p word Remq (at s a (listed_registers x)) → SignedParts Remq SubqV w64 int_rem p s a x
remq_parts p word s a x call =
    let place = test_at Remq p word a call.lawful call.code_stands call.at_entry in
    let dividend : IsNumber w64 x.r24 = quad_number x.r24 (call.words 24) in
    let divisor : IsNumber w64 x.r25 = quad_number x.r25 (call.words 25) in
    record {
      placed = place.0;
      room = omega (arith, place.1);
      divisor_word = call.words 25;
      negation = quad_negation x.r24 dividend;
      answer = size_of (is_negative x.r24) (size_of (is_negative x.r24) x.r24 % size_of (is_negative x.r25) x.r25);
      parts = λ passes. record {
        dividend_word = (sign_of x.r24 (call.words 24)).small;
        divisor_word = (sign_of x.r25 (call.words 25)).small;
        tested = passes.word;
        tests = passes.reaches;
        operands = λ j. (cond (is_negative x.r25) 1 0, magnitudes_loaded x j (is_negative x.r24) (is_negative x.r25) refl refl);
        answers = λ some link j. (size_of (is_negative x.r24) x.r24 % size_of (is_negative x.r25) x.r25, cond (is_negative x.r24) 1 0, remainder_answered (record x { r1 = size_of (is_negative x.r24) x.r24 % size_of (is_negative x.r25) x.r25; r2 = size_of (is_negative x.r25) x.r25; r3 = 0; r4 = link; r27 = size_of (is_negative x.r24) x.r24 / size_of (is_negative x.r25) x.r25; r28 = j }) (is_negative x.r24) refl);
      };
      answer_is = remainder_is w64 x.r24 x.r25 dividend divisor;
    }

pub remq_divides : Divides Remq
remq_divides = from_files Remq (λ p word s a x call. signed_does Remq SubqV w64 int_rem p word s a x call (remq_parts p word s a x call))

divl_parts : (p : Program) (word : ℕ) (s : State) (a : ℕ) (x : RegisterFile) → IsCall p word Divl (at s a (listed_registers x)) → SignedParts Divl SublV w32 int_div p s a x
divl_parts p word s a x call =
    let place = test_at Divl p word a call.lawful call.code_stands call.at_entry in
    let dividend : IsNumber w32 x.r24 = long_number x.r24 (call.words 24) call.dividend in
    let divisor : IsNumber w32 x.r25 = long_number x.r25 (call.words 25) call.divisor in
    record {
      placed = place.0;
      room = omega (arith, place.1);
      divisor_word = call.words 25;
      negation = long_negation x.r24 dividend;
      answer = size_of (differ (is_negative x.r24) (is_negative x.r25)) (size_of (is_negative x.r24) x.r24 / size_of (is_negative x.r25) x.r25);
      parts = λ passes. record {
        dividend_word = (sign_of x.r24 (call.words 24)).small;
        divisor_word = (sign_of x.r25 (call.words 25)).small;
        tested = passes.word;
        tests = passes.reaches;
        operands = λ j. (cond (is_negative x.r25) 1 0, magnitudes_loaded x j (is_negative x.r24) (is_negative x.r25) refl refl);
        answers = λ some link j. (word_at (word_difference 0 (size_of (is_negative x.r24) x.r24 / size_of (is_negative x.r25) x.r25)), cond (differ (is_negative x.r24) (is_negative x.r25)) 1 0, quotient_answered (record x { r1 = size_of (is_negative x.r24) x.r24 % size_of (is_negative x.r25) x.r25; r2 = size_of (is_negative x.r25) x.r25; r3 = 0; r4 = link; r27 = size_of (is_negative x.r24) x.r24 / size_of (is_negative x.r25) x.r25; r28 = j }) (is_negative x.r24) (is_negative x.r25) refl refl);
      };
      answer_is = quotient_is w32 x.r24 x.r25 dividend divisor;
    }

pub divl_divides : Divides Divl
divl_divides = from_files Divl (λ p word s a x call. signed_does Divl SublV w32 int_div p word s a x call (divl_parts p word s a x call))

reml_parts : (p : Program) (word : ℕ) (s : State) (a : ℕ) (x : RegisterFile) → IsCall p word Reml (at s a (listed_registers x)) → SignedParts Reml SublV w32 int_rem p s a x
reml_parts p word s a x call =
    let place = test_at Reml p word a call.lawful call.code_stands call.at_entry in
    let dividend : IsNumber w32 x.r24 = long_number x.r24 (call.words 24) call.dividend in
    let divisor : IsNumber w32 x.r25 = long_number x.r25 (call.words 25) call.divisor in
    record {
      placed = place.0;
      room = omega (arith, place.1);
      divisor_word = call.words 25;
      negation = long_negation x.r24 dividend;
      answer = size_of (is_negative x.r24) (size_of (is_negative x.r24) x.r24 % size_of (is_negative x.r25) x.r25);
      parts = λ passes. record {
        dividend_word = (sign_of x.r24 (call.words 24)).small;
        divisor_word = (sign_of x.r25 (call.words 25)).small;
        tested = passes.word;
        tests = passes.reaches;
        operands = λ j. (cond (is_negative x.r25) 1 0, magnitudes_loaded x j (is_negative x.r24) (is_negative x.r25) refl refl);
        answers = λ some link j. (size_of (is_negative x.r24) x.r24 % size_of (is_negative x.r25) x.r25, cond (is_negative x.r24) 1 0, remainder_answered (record x { r1 = size_of (is_negative x.r24) x.r24 % size_of (is_negative x.r25) x.r25; r2 = size_of (is_negative x.r25) x.r25; r3 = 0; r4 = link; r27 = size_of (is_negative x.r24) x.r24 / size_of (is_negative x.r25) x.r25; r28 = j }) (is_negative x.r24) refl);
      };
      answer_is = remainder_is w32 x.r24 x.r25 dividend divisor;
    }

pub reml_divides : Divides Reml
reml_divides = from_files Reml (λ p word s a x call. signed_does Reml SublV w32 int_rem p word s a x call (reml_parts p word s a x call))
