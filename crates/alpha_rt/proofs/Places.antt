-- One place of a quotient.
use Rattle.std.proofs.Common.{◌≡◌, ℕ, ◌+◌, ◌*◌, ◌/◌, ◌^◌, ◌<◌, ◌≤◌, pos, ◌∷◌, Bool, true, false, cond, eqb, leb, refl, sym, ap, subst, arith}
use Rattle.std.proofs.lemmas.Bool.{leb-true, leb-false}
use Rattle.alpha_isa.specs.declared.insn.Fields.TheVariants.{Branch}
use Rattle.alpha_isa.specs.declared.insn.BranchOp.TheVariants.{Beq}
use Rattle.alpha_isa.specs.Arithmetic.{word_at, word_difference}
use Rattle.alpha_isa.specs.Program.{Program}
use Rattle.alpha_isa.specs.State.{State}
use Rattle.alpha_rt.specs.Code.{place_front, place_back, place_insns}
use Rattle.alpha_rt.proofs.Runs.{Reaches, then_reaches, at_most, CodeStandsAt, front, behind, at, straight_reaches, taken_branch, passed_branch}
use Rattle.alpha_rt.proofs.Registers.{RegisterFile, listed_registers}

-- ---- the arithmetic

-- After some places, whose worth is 2 to their number: the quotient so far, times the divisor, plus the rest is
-- the front of the dividend. The rest stands in the upper word, and the lower has what is left of the dividend
-- with the quotient behind it, so the two words make one sum.
pub record Halfway (dividend divisor worth product quotient rest low : ℕ) : Type 0 where
  pub whole : rest * 2 ^ 64 + low + product * 2 ^ 64 ≡ worth * dividend + quotient
  pub product_is : product ≡ quotient * divisor
  pub below : rest < divisor
  pub rest_small : rest < worth
  pub quotient_small : quotient < worth
  pub low_word : low < 2 ^ 64

-- the upper word when both are doubled
abbrev pub doubled : ℕ → ℕ → ℕ
doubled rest low = word_at (word_at (rest + rest) + low / 2 ^ 63)

doubled_is : (worth rest low : ℕ) → worth ≤ 2 ^ 63 → rest < worth → low < 2 ^ 64 → doubled rest low * 2 ^ 64 + word_at (low + low) ≡ 2 * (rest * 2 ^ 64 + low)
doubled_is worth rest low large small word = omega arith

goes_in : (n d worth product quotient rest low : ℕ) → worth ≤ 2 ^ 63 → Halfway n d worth product quotient rest low → d ≤ doubled rest low → d < 2 ^ 64 →
    Halfway n d (worth + worth) (product + product + d) (quotient + quotient + 1) (word_at (word_difference (doubled rest low) d)) (word_at (word_at (low + low) + 1))
goes_in n d worth product quotient rest low large h fits word = record {
  whole = omega (arith, doubled_is worth rest low large h.rest_small h.low_word);
  product_is = omega arith;
  below = omega (arith, doubled_is worth rest low large h.rest_small h.low_word);
  rest_small = omega (arith, doubled_is worth rest low large h.rest_small h.low_word);
  quotient_small = omega arith;
  low_word = omega arith;
}

stays_out : (n d worth product quotient rest low : ℕ) → worth ≤ 2 ^ 63 → Halfway n d worth product quotient rest low → doubled rest low < d →
    Halfway n d (worth + worth) (product + product) (quotient + quotient) (doubled rest low) (word_at (low + low))
stays_out n d worth product quotient rest low large h short = record {
  whole = omega (arith, doubled_is worth rest low large h.rest_small h.low_word);
  product_is = omega arith;
  below = short;
  rest_small = omega (arith, doubled_is worth rest low large h.rest_small h.low_word);
  quotient_small = omega arith;
  low_word = omega arith;
}

-- ---- the instructions

-- some places more: the machine has come to an address with a rest and a lower word, and with scratch in register 28
pub record AdvancesPlaces (p : Program) (s : State) (most a to n d worth : ℕ) (x : RegisterFile) : Type 0 where
  pub product : ℕ
  pub quotient : ℕ
  pub rest : ℕ
  pub low : ℕ
  pub scratch : ℕ
  pub reaches : Reaches p most (at s a (listed_registers x)) (at s to (listed_registers (record x { r1 = rest; r27 = low; r28 = scratch })))
  pub halfway : Halfway n d worth product quotient rest low

place_by : (p : Program) (s : State) (a : ℕ) (x : RegisterFile) (n d worth product quotient : ℕ) → CodeStandsAt p a place_insns → a + 32 < 2 ^ 64 → worth ≤ 2 ^ 63 → d < 2 ^ 64 → x.r2 ≡ d → Halfway n d worth product quotient x.r1 x.r27 → (b : Bool) → leb x.r2 (doubled x.r1 x.r27) ≡ b → AdvancesPlaces p s 8 a (a + 32) n d (worth + worth) x
place_by p s a x n d worth product quotient h room large word two half true e =
    let y : RegisterFile = record x { r1 = doubled x.r1 x.r27; r27 = word_at (x.r27 + x.r27); r28 = cond (leb x.r2 (doubled x.r1 x.r27)) 1 0 } in
    let z : RegisterFile = record y { r1 = word_at (word_difference (doubled x.r1 x.r27) x.r2); r27 = word_at (word_at (x.r27 + x.r27) + 1) } in
    let begun : Reaches p 5 (at s a (listed_registers x)) (at s (a + 20) (listed_registers y)) = straight_reaches p place_front a (listed_registers x) (listed_registers y) s (front p a place_front (Branch Beq 28 (pos 2) ∷ place_back) h) refl in
    let later : CodeStandsAt p (a + 20) (Branch Beq 28 (pos 2) ∷ place_back) = behind p a place_front (Branch Beq 28 (pos 2) ∷ place_back) h in
    let past : Reaches p 1 (at s (a + 20) (listed_registers y)) (at s (a + 20 + 4) (listed_registers y)) = passed_branch p Beq 28 (a + 20) (pos 2) (listed_registers y) s later.0 refl (ap (λ t. eqb (cond t 1 0) 0) e) in
    let taken_off : Reaches p 2 (at s (a + 20 + 4) (listed_registers y)) (at s (a + 20 + 4 + 8) (listed_registers z)) = straight_reaches p place_back (a + 20 + 4) (listed_registers y) (listed_registers z) s later.1 refl in
    let end : a + 20 + 4 + 8 ≡ a + 32 = omega arith in
    let fits : d ≤ doubled x.r1 x.r27 = subst (λ m. m ≤ doubled x.r1 x.r27) two (leb-true x.r2 (doubled x.r1 x.r27) e) in
    let done : Halfway n d (worth + worth) (product + product + d) (quotient + quotient + 1) (word_at (word_difference (doubled x.r1 x.r27) x.r2)) (word_at (word_at (x.r27 + x.r27) + 1)) =
    subst (λ m. Halfway n d (worth + worth) (product + product + d) (quotient + quotient + 1) (word_at (word_difference (doubled x.r1 x.r27) m)) (word_at (word_at (x.r27 + x.r27) + 1))) (sym two) (goes_in n d worth product quotient x.r1 x.r27 large half fits word) in
    record {
      product = product + product + d;
      quotient = quotient + quotient + 1;
      rest = word_at (word_difference (doubled x.r1 x.r27) x.r2);
      low = word_at (word_at (x.r27 + x.r27) + 1);
      scratch = cond (leb x.r2 (doubled x.r1 x.r27)) 1 0;
      reaches = subst (λ to. Reaches p 8 (at s a (listed_registers x)) (at s to (listed_registers z))) end
          (then_reaches p 6 2 _ _ _ (then_reaches p 5 1 _ _ _ begun past) taken_off);
      halfway = done;
    }
place_by p s a x n d worth product quotient h room large word two half false e =
    let y : RegisterFile = record x { r1 = doubled x.r1 x.r27; r27 = word_at (x.r27 + x.r27); r28 = cond (leb x.r2 (doubled x.r1 x.r27)) 1 0 } in
    let begun : Reaches p 5 (at s a (listed_registers x)) (at s (a + 20) (listed_registers y)) = straight_reaches p place_front a (listed_registers x) (listed_registers y) s (front p a place_front (Branch Beq 28 (pos 2) ∷ place_back) h) refl in
    let later : CodeStandsAt p (a + 20) (Branch Beq 28 (pos 2) ∷ place_back) = behind p a place_front (Branch Beq 28 (pos 2) ∷ place_back) h in
    let over : Reaches p 1 (at s (a + 20) (listed_registers y)) (at s (a + 32) (listed_registers y)) = taken_branch p Beq 28 (a + 20) (a + 32) (pos 2) (listed_registers y) s later.0 refl (ap (λ t. eqb (cond t 1 0) 0) e) (omega arith) in
    let short : doubled x.r1 x.r27 < d = subst (λ m. doubled x.r1 x.r27 < m) two (leb-false x.r2 (doubled x.r1 x.r27) e) in
    record {
      product = product + product;
      quotient = quotient + quotient;
      rest = doubled x.r1 x.r27;
      low = word_at (x.r27 + x.r27);
      scratch = cond (leb x.r2 (doubled x.r1 x.r27)) 1 0;
      reaches = at_most p 6 8 _ _ (omega arith) (then_reaches p 5 1 _ _ _ begun over);
      halfway = stays_out n d worth product quotient x.r1 x.r27 large half short;
    }

pub place_done : (p : Program) (s : State) (a : ℕ) (x : RegisterFile) (n d worth product quotient : ℕ) → CodeStandsAt p a place_insns → a + 32 < 2 ^ 64 → worth ≤ 2 ^ 63 → d < 2 ^ 64 → x.r2 ≡ d → Halfway n d worth product quotient x.r1 x.r27 → AdvancesPlaces p s 8 a (a + 32) n d (worth + worth) x
place_done p s a x n d worth product quotient h room large word two half = place_by p s a x n d worth product quotient h room large word two half (leb x.r2 (doubled x.r1 x.r27)) refl

-- one place behind others
pub more_places : (p : Program) (s : State) (most a to n d worth : ℕ) (x : RegisterFile) → AdvancesPlaces p s most a to n d worth x → CodeStandsAt p to place_insns → to + 32 < 2 ^ 64 → worth ≤ 2 ^ 63 → d < 2 ^ 64 → x.r2 ≡ d → AdvancesPlaces p s (most + 8) a (to + 32) n d (worth + worth) x
more_places p s most a to n d worth x v h room large word two =
    let y : RegisterFile = record x { r1 = v.rest; r27 = v.low; r28 = v.scratch } in
    let w : AdvancesPlaces p s 8 to (to + 32) n d (worth + worth) y = place_done p s to y n d worth v.product v.quotient h room large word two v.halfway in
    record {
      product = w.product;
      quotient = w.quotient;
      rest = w.rest;
      low = w.low;
      scratch = w.scratch;
      reaches = then_reaches p most 8 _ _ _ v.reaches w.reaches;
      halfway = w.halfway;
    }
