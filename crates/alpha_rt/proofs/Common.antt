-- The common part: an unsigned division in 64 places.
use Rattle.std.proofs.Common.{◌≡◌, ℕ, zero, suc, ◌+◌, ◌*◌, ◌/◌, ◌%◌, ◌^◌, ◌<◌, ◌≤◌, pos, negsuc, List, [], ◌∷◌, ◌++◌, not, eqb, refl, sym, ap, ◌∙◌, subst, arith}
use Rattle.std.proofs.lemmas.Bool.{ne_eqb}
use Rattle.std.proofs.lemmas.Nat.{div-mul-add, mod-mul-add}
use Rattle.std.proofs.Math.Nat.{le-mul_of_pos_right}
use Rattle.alpha_isa.specs.declared.insn.Fields.{Fields}
use Rattle.alpha_isa.specs.declared.insn.Fields.TheVariants.{Memory, Branch, Jump, Operate, Pal}
use Rattle.alpha_isa.specs.declared.insn.Operand.TheVariants.{Literal}
use Rattle.alpha_isa.specs.declared.insn.MemoryOp.TheVariants.{Lda}
use Rattle.alpha_isa.specs.declared.insn.BranchOp.TheVariants.{Bne}
use Rattle.alpha_isa.specs.declared.insn.JumpOp.TheVariants.{Ret}
use Rattle.alpha_isa.specs.declared.insn.OperateOp.TheVariants.{Subq}
use Rattle.alpha_isa.specs.Arithmetic.{word_at, word_difference}
use Rattle.alpha_isa.specs.Program.{Program}
use Rattle.alpha_isa.specs.State.{State}
use Rattle.alpha_isa.specs.Step.{Over, Trap, go_on, exec, step, fetched_step}
use Rattle.alpha_isa.proofs.Runs.{exec_split}
use Rattle.alpha_rt.specs.Code.{place_insns, zero_refusal, preparation, turn_code, common_part}
use Rattle.alpha_rt.proofs.Runs.{Reaches, then_reaches, at_most, one_reaches, CodeStandsAt, front, behind, at, straight_reaches, taken_branch, passed_branch}
use Rattle.alpha_rt.proofs.Registers.{RegisterFile, listed_registers}
use Rattle.alpha_rt.proofs.Places.{Halfway, AdvancesPlaces, place_done, more_places}

-- ---- a round: four places

four : (p : Program) (s : State) (a : ℕ) (x : RegisterFile) (n d worth product quotient : ℕ) (more : List Fields) → CodeStandsAt p a (place_insns ++ (place_insns ++ (place_insns ++ (place_insns ++ more)))) → a + 128 < 2 ^ 64 → 8 * worth ≤ 2 ^ 63 → d < 2 ^ 64 → x.r2 ≡ d → Halfway n d worth product quotient x.r1 x.r27 →
    AdvancesPlaces p s 32 a (a + 32 + 32 + 32 + 32) n d (worth + worth + (worth + worth) + (worth + worth + (worth + worth)) + (worth + worth + (worth + worth) + (worth + worth + (worth + worth)))) x
four p s a x n d worth product quotient more h room large word two half =
    let h1 : CodeStandsAt p (a + 32) (place_insns ++ (place_insns ++ (place_insns ++ more))) = behind p a place_insns (place_insns ++ (place_insns ++ (place_insns ++ more))) h in
    let h2 : CodeStandsAt p (a + 32 + 32) (place_insns ++ (place_insns ++ more)) = behind p (a + 32) place_insns (place_insns ++ (place_insns ++ more)) h1 in
    let h3 : CodeStandsAt p (a + 32 + 32 + 32) (place_insns ++ more) = behind p (a + 32 + 32) place_insns (place_insns ++ more) h2 in
    let v1 : AdvancesPlaces p s 8 a (a + 32) n d (worth + worth) x = place_done p s a x n d worth product quotient (front p a place_insns (place_insns ++ (place_insns ++ (place_insns ++ more))) h) (omega arith) (omega arith) word two half in
    let v2 : AdvancesPlaces p s 16 a (a + 32 + 32) n d (worth + worth + (worth + worth)) x = more_places p s 8 a (a + 32) n d (worth + worth) x v1 (front p (a + 32) place_insns (place_insns ++ (place_insns ++ more)) h1) (omega arith) (omega arith) word two in
    let v3 : AdvancesPlaces p s 24 a (a + 32 + 32 + 32) n d (worth + worth + (worth + worth) + (worth + worth + (worth + worth))) x = more_places p s 16 a (a + 32 + 32) n d (worth + worth + (worth + worth)) x v2 (front p (a + 32 + 32) place_insns (place_insns ++ more) h2) (omega arith) (omega arith) word two in
    more_places p s 24 a (a + 32 + 32 + 32) n d _ x v3 (front p (a + 32 + 32 + 32) place_insns more h3) (omega arith) (omega arith) word two

abbrev round : List Fields → List Fields
round more = place_insns ++ (place_insns ++ (place_insns ++ (place_insns ++ (turn_code ++ more))))

-- after a round the count in register 3 is one less, and the machine stands before the branch
record RoundDone (p : Program) (s : State) (a n d worth count : ℕ) (x : RegisterFile) : Type 0 where
  product : ℕ
  quotient : ℕ
  rest : ℕ
  low : ℕ
  scratch : ℕ
  reaches : Reaches p 33 (at s a (listed_registers x)) (at s (a + 132) (listed_registers (record x { r1 = rest; r3 = count; r27 = low; r28 = scratch })))
  halfway : Halfway n d (16 * worth) product quotient rest low

round_done : (p : Program) (s : State) (a : ℕ) (x : RegisterFile) (n d worth product quotient count : ℕ) (more : List Fields) → CodeStandsAt p a (round more) → a + 136 < 2 ^ 64 → 16 * worth ≤ 2 ^ 64 → d < 2 ^ 64 → x.r2 ≡ d → x.r3 ≡ suc count → suc count < 2 ^ 64 → Halfway n d worth product quotient x.r1 x.r27 → RoundDone p s a n d worth count x
round_done p s a x n d worth product quotient count more h room large word two three small half =
    let v = four p s a x n d worth product quotient (turn_code ++ more) h (omega arith) (omega arith) word two half in
    let y : RegisterFile = record x { r1 = v.rest; r27 = v.low; r28 = v.scratch } in
    let counted : word_at (word_difference x.r3 1) ≡ count = omega arith in
    let h1 : CodeStandsAt p (a + 32) (place_insns ++ (place_insns ++ (place_insns ++ (turn_code ++ more)))) = behind p a place_insns (place_insns ++ (place_insns ++ (place_insns ++ (turn_code ++ more)))) h in
    let h2 : CodeStandsAt p (a + 32 + 32) (place_insns ++ (place_insns ++ (turn_code ++ more))) = behind p (a + 32) place_insns (place_insns ++ (place_insns ++ (turn_code ++ more))) h1 in
    let h3 : CodeStandsAt p (a + 32 + 32 + 32) (place_insns ++ (turn_code ++ more)) = behind p (a + 32 + 32) place_insns (place_insns ++ (turn_code ++ more)) h2 in
    let h4 : CodeStandsAt p (a + 32 + 32 + 32 + 32) (turn_code ++ more) = behind p (a + 32 + 32 + 32) place_insns (turn_code ++ more) h3 in
    let last : Reaches p 1 (at s (a + 32 + 32 + 32 + 32) (listed_registers y)) (at s (a + 32 + 32 + 32 + 32 + 4) (listed_registers (record y { r3 = word_at (word_difference x.r3 1) }))) =
    straight_reaches p (Operate Subq 3 (Literal 1) 3 ∷ []) (a + 32 + 32 + 32 + 32) (listed_registers y) (listed_registers (record y { r3 = word_at (word_difference x.r3 1) })) s (h4.0, tt) refl in
    let end : a + 32 + 32 + 32 + 32 + 4 ≡ a + 132 = omega arith in
    let size : worth + worth + (worth + worth) + (worth + worth + (worth + worth)) + (worth + worth + (worth + worth) + (worth + worth + (worth + worth))) ≡ 16 * worth = omega arith in
    record {
      product = v.product;
      quotient = v.quotient;
      rest = v.rest;
      low = v.low;
      scratch = v.scratch;
      reaches = subst (λ to. Reaches p 33 (at s a (listed_registers x)) (at s to (listed_registers (record y { r3 = count })))) end
          (subst (λ c. Reaches p 33 (at s a (listed_registers x)) (at s (a + 32 + 32 + 32 + 32 + 4) (listed_registers (record y { r3 = c })))) counted (then_reaches p 32 1 _ _ _ v.reaches last));
      halfway = subst (λ w. Halfway n d w v.product v.quotient v.rest v.low) size v.halfway;
    }

-- ---- the rounds

-- what the places of so many rounds are worth
abbrev sixteens : ℕ → ℕ
sixteens zero = 1
sixteens (suc count) = 16 * sixteens count

some_sixteens : (count : ℕ) → 1 ≤ sixteens count
some_sixteens zero = omega arith
some_sixteens (suc count) = omega (arith, some_sixteens count)

room_for : (worth count : ℕ) → worth * (16 * sixteens count) ≡ 2 ^ 64 → 16 * worth ≤ 2 ^ 64
room_for worth count e = let more : worth ≤ worth * sixteens count = le-mul_of_pos_right {m = sixteens count} worth (some_sixteens count) in omega arith

record RoundsDone (p : Program) (s : State) (most a n d : ℕ) (x : RegisterFile) : Type 0 where
  product : ℕ
  quotient : ℕ
  rest : ℕ
  low : ℕ
  scratch : ℕ
  reaches : Reaches p most (at s a (listed_registers x)) (at s (a + 136) (listed_registers (record x { r1 = rest; r3 = 0; r27 = low; r28 = scratch })))
  halfway : Halfway n d (2 ^ 64) product quotient rest low

branch_placed : (p : Program) (a : ℕ) (more : List Fields) → CodeStandsAt p a (round more) → CodeStandsAt p (a + 132) (Branch Bne 3 (negsuc 33) ∷ more)
branch_placed p a more h =
    behind p a (place_insns ++ (place_insns ++ (place_insns ++ (place_insns ++ (Operate Subq 3 (Literal 1) 3 ∷ []))))) (Branch Bne 3 (negsuc 33) ∷ more) h

rounds_done : (count : ℕ) (p : Program) (s : State) (a : ℕ) (x : RegisterFile) (n d worth product quotient : ℕ) (more : List Fields) → CodeStandsAt p a (round more) → a + 136 < 2 ^ 64 → d < 2 ^ 64 → x.r2 ≡ d → x.r3 ≡ suc count → suc count < 2 ^ 64 → worth * (16 * sixteens count) ≡ 2 ^ 64 → Halfway n d worth product quotient x.r1 x.r27 → RoundsDone p s (34 * suc count) a n d x
rounds_done zero p s a x n d worth product quotient more h room word two three small whole half =
    let v : RoundDone p s a n d worth 0 x = round_done p s a x n d worth product quotient 0 more h room (room_for worth 0 whole) word two three small half in
    let y : RegisterFile = record x { r1 = v.rest; r3 = 0; r27 = v.low; r28 = v.scratch } in
    let past : Reaches p 1 (at s (a + 132) (listed_registers y)) (at s (a + 132 + 4) (listed_registers y)) = passed_branch p Bne 3 (a + 132) (negsuc 33) (listed_registers y) s (branch_placed p a more h).0 refl refl in
    let end : a + 132 + 4 ≡ a + 136 = omega arith in
    let size : 16 * worth ≡ 2 ^ 64 = omega arith in
    record {
      product = v.product;
      quotient = v.quotient;
      rest = v.rest;
      low = v.low;
      scratch = v.scratch;
      reaches = subst (λ to. Reaches p 34 (at s a (listed_registers x)) (at s to (listed_registers y))) end (then_reaches p 33 1 _ _ _ v.reaches past);
      halfway = subst (λ w. Halfway n d w v.product v.quotient v.rest v.low) size v.halfway;
    }
rounds_done (suc count) p s a x n d worth product quotient more h room word two three small whole half =
    let v : RoundDone p s a n d worth (suc count) x = round_done p s a x n d worth product quotient (suc count) more h room (room_for worth (suc count) whole) word two three small half in
    let y : RegisterFile = record x { r1 = v.rest; r3 = suc count; r27 = v.low; r28 = v.scratch } in
    let back : Reaches p 1 (at s (a + 132) (listed_registers y)) (at s a (listed_registers y)) = taken_branch p Bne 3 (a + 132) a (negsuc 33) (listed_registers y) s (branch_placed p a more h).0 refl (ap not (ne_eqb (suc count) 0 (λ e. absurd (omega arith)))) (omega arith) in
    let rest : RoundsDone p s (34 * suc count) a n d y = rounds_done count p s a y n d (16 * worth) v.product v.quotient more h room word two refl (omega arith) (omega arith) v.halfway in
    record {
      product = rest.product;
      quotient = rest.quotient;
      rest = rest.rest;
      low = rest.low;
      scratch = rest.scratch;
      reaches = at_most p (33 + (1 + 34 * suc count)) (34 * suc (suc count)) _ _ (omega arith) (then_reaches p 33 (1 + 34 * suc count) _ _ _ v.reaches (then_reaches p 1 (34 * suc count) _ _ _ back rest.reaches));
      halfway = rest.halfway;
    }

-- ---- the whole

quotient_is : (n d product quotient rest low : ℕ) → n < 2 ^ 64 → Halfway n d (2 ^ 64) product quotient rest low → (low ≡ n / d) × (rest ≡ n % d)
quotient_is n d product quotient rest low word h =
    let same : low ≡ quotient = omega arith in
    let sum : n ≡ quotient * d + rest = omega arith in (
      same ∙ sym (div-mul-add quotient d rest h.below) ∙ ap (λ m. m / d) (sym sum),
      sym (mod-mul-add quotient d rest h.below) ∙ ap (λ m. m % d) (sym sum),
    )

-- register 1 gets the remainder and 27 the quotient, and the machine goes on at the address in 4
pub record CommonPartDivides (p : Program) (s : State) (a : ℕ) (x : RegisterFile) : Type 0 where
  pub scratch : ℕ
  pub reaches : Reaches p 548 (at s a (listed_registers x)) (at s (x.r4 / 4 * 4) (listed_registers (record x { r1 = x.r27 % x.r2; r3 = 0; r27 = x.r27 / x.r2; r28 = scratch })))

pub common_divides : (p : Program) (s : State) (a : ℕ) (x : RegisterFile) → CodeStandsAt p a common_part → a + 160 < 2 ^ 64 → x.r27 < 2 ^ 64 → x.r2 < 2 ^ 64 → 0 < x.r2 → CommonPartDivides p s a x
common_divides p s a x h room word divisor some =
    let ends : List Fields = Jump Ret 31 4 ∷ [] in
    let y : RegisterFile = record x { r1 = 0; r3 = 16 } in
    let over : Reaches p 1 (at s a (listed_registers x)) (at s (a + 12) (listed_registers x)) = taken_branch p Bne 2 a (a + 12) (pos 2) (listed_registers x) s h.0 refl (ap not (ne_eqb x.r2 0 (λ e. absurd (omega arith)))) (omega arith) in
    let h1 : CodeStandsAt p (a + 12) (preparation ++ round ends) = behind p a zero_refusal (preparation ++ round ends) h in
    let ready : Reaches p 2 (at s (a + 12) (listed_registers x)) (at s (a + 12 + 8) (listed_registers y)) = straight_reaches p preparation (a + 12) (listed_registers x) (listed_registers y) s (front p (a + 12) preparation (round ends) h1) refl in
    let h2 : CodeStandsAt p (a + 12 + 8) (round ends) = behind p (a + 12) preparation (round ends) h1 in
    let begins : Halfway x.r27 x.r2 1 0 0 0 x.r27 = record { whole = omega arith; product_is = omega arith; below = some; rest_small = omega arith; quotient_small = omega arith; low_word = word } in
    let v : RoundsDone p s 544 (a + 12 + 8) x.r27 x.r2 y = rounds_done 15 p s (a + 12 + 8) y x.r27 x.r2 1 0 0 ends h2 (omega arith) divisor refl refl (omega arith) refl begins in
    let z : RegisterFile = record x { r1 = v.rest; r3 = 0; r27 = v.low; r28 = v.scratch } in
    let h3 : CodeStandsAt p (a + 12 + 8 + 132) (Branch Bne 3 (negsuc 33) ∷ ends) = branch_placed p (a + 12 + 8) ends h2 in
    let there : a + 12 + 8 + 132 + 4 ≡ a + 12 + 8 + 136 = omega arith in
    let h4 : CodeStandsAt p (a + 12 + 8 + 136) ends = subst (λ n. CodeStandsAt p n ends) there h3.1 in
    let returns : Reaches p 1 (at s (a + 12 + 8 + 136) (listed_registers z)) (at s (x.r4 / 4 * 4) (listed_registers z)) = one_reaches p (Jump Ret 31 4) (at s (a + 12 + 8 + 136) (listed_registers z)) (at s (x.r4 / 4 * 4) (listed_registers z)) h4.0 refl in
    let is = quotient_is x.r27 x.r2 v.product v.quotient v.rest v.low word v.halfway in
    let whole : Reaches p 548 (at s a (listed_registers x)) (at s (x.r4 / 4 * 4) (listed_registers z)) = then_reaches p 547 1 _ _ _ (then_reaches p 3 544 _ _ _ (then_reaches p 1 2 _ _ _ over ready) v.reaches) returns in
    record {
      scratch = v.scratch;
      reaches = subst (λ low. Reaches p 548 (at s a (listed_registers x)) (at s (x.r4 / 4 * 4) (listed_registers (record x { r1 = x.r27 % x.r2; r3 = 0; r27 = low; r28 = v.scratch })))) is.0
          (subst (λ rest. Reaches p 548 (at s a (listed_registers x)) (at s (x.r4 / 4 * 4) (listed_registers (record x { r1 = rest; r3 = 0; r27 = v.low; r28 = v.scratch })))) is.1 whole);
    }

-- ---- a division by zero

-- a run that ends with a trap, and has changed neither input nor output
pub record Ends (p : Program) (most code : ℕ) (s : State) : Type 0 where
  pub steps : ℕ
  pub soon : steps ≤ most
  pub last : State
  pub run : exec p steps s ≡ Over (Trap code) last
  pub input : last.input ≡ s.input
  pub output : last.output ≡ s.output

pub then_ends : (p : Program) (m k code : ℕ) (s t : State) → Reaches p m s t → Ends p k code t → t.input ≡ s.input → t.output ≡ s.output → Ends p (m + k) code s
then_ends p m k code s t a b i o = record {
  steps = a.steps + b.steps;
  soon = omega arith;
  last = b.last;
  run = exec_split p a.steps b.steps s ∙ ap (λ r. go_on r (exec p b.steps)) a.run ∙ b.run;
  input = b.input ∙ i;
  output = b.output ∙ o;
}

trap_ends : (p : Program) (s : State) (a : ℕ) (x : RegisterFile) → CodeStandsAt p a (Pal 0xAA ∷ []) → Ends p 1 x.r16 (at s a (listed_registers x))
unfolding exec step
trap_ends p s a x h = record {
  steps = 1;
  soon = omega arith;
  last = at s a (listed_registers x);
  run = ap (λ o. go_on (fetched_step p o (at s a (listed_registers x))) (exec p 0)) h.0;
  input = refl;
  output = refl;
}

pub common_traps : (p : Program) (s : State) (a : ℕ) (x : RegisterFile) → CodeStandsAt p a common_part → x.r2 ≡ 0 → Ends p 3 1 (at s a (listed_registers x))
common_traps p s a x h none =
    let y : RegisterFile = record x { r16 = 1 } in
    let h1 : CodeStandsAt p a zero_refusal = front p a zero_refusal (preparation ++ round (Jump Ret 31 4 ∷ [])) h in
    let past : Reaches p 1 (at s a (listed_registers x)) (at s (a + 4) (listed_registers x)) = passed_branch p Bne 2 a (pos 2) (listed_registers x) s h1.0 refl (ap (λ m. not (eqb m 0)) none) in
    let set : Reaches p 1 (at s (a + 4) (listed_registers x)) (at s (a + 4 + 4) (listed_registers y)) = straight_reaches p (Memory Lda 16 31 (pos 1) ∷ []) (a + 4) (listed_registers x) (listed_registers y) s (h1.1.0, tt) refl in
    then_ends p 2 1 1 _ _ (then_reaches p 1 1 _ _ _ past set) (trap_ends p s (a + 4 + 4) y h1.1.1) refl refl
