-- The lists of the allocation are as they should be, whatever register is kept.
use Rattle.std.proofs.Common.{◌≡◌, ℕ, ℤ, zero, suc, ◌+◌, [], ◌∷◌, refl, subst, length, arith}
use Rattle.std.specs.Prelude.{true, Some, All}
use Rattle.std.proofs.lemmas.Option.{none-some, same_Some}
use Rattle.pass_core.specs.Functions.{insn_at}
use Rattle.temp_ir.specs.declared.operation.AddressOp.TheVariants.{Lda}
use Rattle.temp_ir.specs.declared.operation.Operation.TheVariants.{Addq}
use Rattle.temp_ir.specs.declared.insn.FixedRegister.TheVariants.{Value}
use Rattle.temp_ir.specs.declared.insn.FirstOperand.TheVariants as first
use Rattle.temp_ir.specs.declared.insn.SecondOperand.TheVariants as second
use Rattle.temp_ir.specs.declared.insn.TempInsn.{TempInsn}
use Rattle.temp_ir.specs.declared.insn.TempInsn.TheVariants.{Address, Call, FromFixed, Operate, ToFixed, Return}
use Rattle.temp_ir.specs.Insns.{reads_of, writes_of}
use Rattle.alloc_model.specs.Places.{registers_at}
use Rattle.alloc_model.specs.Faithful.{IsGivenRegister, IsStanding, IsTransfer, HasLists}
use Rattle.frame_rows.specs.callee_saved_rows.Keeping.{kept_sum, stated_registers, no_transfers, kept_plan}

-- what is said of each instruction
module _ (value : ℤ) (callee : ℕ) (P : (block at : ℕ) → TempInsn → Type 0) (puts : P 0 0 (Address Lda 0 first.Zero value)) (calls : P 0 1 (Call callee 0))
    (takes : P 0 2 (FromFixed 1 Value)) (adds : P 0 3 (Operate Addq 2 (first.Temp 0) (second.Temp 1))) (gives : P 0 4 (ToFixed Value 2)) (returns : P 0 5 (Return true)) where
  pub each_insn : (block at : ℕ) (i : TempInsn) → insn_at (kept_sum value callee ∷ []) block at ≡ Some i → P block at i
  each_insn zero zero i e = subst (P 0 0) (same_Some _ i e) puts
  each_insn zero (suc zero) i e = subst (P 0 1) (same_Some _ i e) calls
  each_insn zero (suc (suc zero)) i e = subst (P 0 2) (same_Some _ i e) takes
  each_insn zero (suc (suc (suc zero))) i e = subst (P 0 3) (same_Some _ i e) adds
  each_insn zero (suc (suc (suc (suc zero)))) i e = subst (P 0 4) (same_Some _ i e) gives
  each_insn zero (suc (suc (suc (suc (suc zero))))) i e = subst (P 0 5) (same_Some _ i e) returns
  each_insn zero (suc (suc (suc (suc (suc (suc at)))))) i e = absurd (none-some i e)
  each_insn (suc block) at i e = absurd (none-some i e)

none_standing : All (All (IsStanding 3)) ([] ∷ [])
none_standing zero d w k e v = absurd (omega (arith, v))
none_standing (suc j) d w k e v = absurd (omega (arith, w))

none_moved : All (All (IsTransfer 3 IsGivenRegister)) no_transfers
none_moved zero d w k e v = absurd (omega (arith, v))
none_moved (suc zero) d w k e v = absurd (omega (arith, v))
none_moved (suc (suc zero)) d w k e v = absurd (omega (arith, v))
none_moved (suc (suc (suc zero))) d w k e v = absurd (omega (arith, v))
none_moved (suc (suc (suc (suc zero)))) d w k e v = absurd (omega (arith, v))
none_moved (suc (suc (suc (suc (suc zero))))) d w k e v = absurd (omega (arith, v))
none_moved (suc (suc (suc (suc (suc (suc j)))))) d w k e v = absurd (omega (arith, w))

given_1 : IsGivenRegister 1
given_1 = (0, omega arith, refl)

given_2 : IsGivenRegister 2
given_2 = (1, omega arith, refl)

one : (r : ℕ) → IsGivenRegister r → All IsGivenRegister (r ∷ [])
one r g zero d w = g
one r g (suc k) d w = absurd (omega (arith, w))

three : (r : ℕ) → IsGivenRegister r → All IsGivenRegister (r ∷ 1 ∷ 2 ∷ [])
three r g zero d w = g
three r g (suc zero) d w = given_1
three r g (suc (suc zero)) d w = given_2
three r g (suc (suc (suc k))) d w = absurd (omega (arith, w))

all_given : (r : ℕ) → IsGivenRegister r → All (All IsGivenRegister) (stated_registers r)
all_given r g zero d w = one r g
all_given r g (suc zero) d w = λ k e v. absurd (omega (arith, v))
all_given r g (suc (suc zero)) d w = one 1 given_1
all_given r g (suc (suc (suc zero))) d w = three r g
all_given r g (suc (suc (suc (suc zero)))) d w = one 2 given_2
all_given r g (suc (suc (suc (suc (suc zero))))) d w = λ k e v. absurd (omega (arith, v))
all_given r g (suc (suc (suc (suc (suc (suc j)))))) d w = absurd (omega (arith, w))

pub lists : (r : ℕ) (value : ℤ) (callee : ℕ) → IsGivenRegister r → HasLists (kept_plan r value callee)
lists r value callee g = record {
  tops = refl;
  bottoms = refl;
  ats = refl;
  regs = refl;
  stated = each_insn value callee (λ block at i. length (registers_at (kept_plan r value callee) block at) ≡ length (reads_of i) + length (writes_of i)) refl refl refl refl refl refl;
  edges = refl;
  standing = (none_standing, none_standing);
  transfers = none_moved;
  edge_transfers = λ k d w. absurd (omega (arith, w));
  given = all_given r g;
}
