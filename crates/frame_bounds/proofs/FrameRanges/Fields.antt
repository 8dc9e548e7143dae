-- Fields that are in their ranges.
use Rattle.std.proofs.Common.{◌≡◌, ℕ, zero, suc, ◌+◌, ◌<◌, ◌≤◌, List, [], ◌∷◌, lit<, refl, arith}
use Rattle.std.specs.Prelude.{ℤ, pos, negsuc, ◌-ℤ◌, All, slice_index, slice_index_or}
use Rattle.std.proofs.lemmas.Int.{ints}
use Rattle.std.proofs.lemmas.List.Elements.{All-from_recursion, All-head, All-tail, All-contains}
use Rattle.alpha_isa.specs.Lawful.{IsDisplacement, IsFirstOperand, IsOperand}
use Rattle.temp_ir.specs.declared.operation.Operation.{Operation}
use Rattle.temp_ir.specs.declared.operation.Operation.TheVariants as o
use Rattle.temp_ir.specs.declared.operation.ExtendOp.{ExtendOp}
use Rattle.temp_ir.specs.declared.operation.ExtendOp.TheVariants.{Sextb, Sextw}
use Rattle.temp_ir.specs.declared.insn.FixedRegister.{FixedRegister}
use Rattle.temp_ir.specs.declared.insn.FixedRegister.TheVariants as r
use Rattle.temp_ir.specs.declared.insn.FirstOperand.{FirstOperand}
use Rattle.temp_ir.specs.declared.insn.FirstOperand.TheVariants as source
use Rattle.temp_ir.specs.declared.insn.SecondOperand.{SecondOperand}
use Rattle.temp_ir.specs.declared.insn.SecondOperand.TheVariants as operand
use Rattle.temp_ir.specs.Fixed.{register_number}
use Rattle.temp_ir.specs.Operations.{operate_op, extend_op}
use Rattle.alloc_model.specs.Faithful.{given_registers, IsGivenRegister, IsGivenOrScratch}
use Rattle.frame_steps.specs.instruction_items.Items.{source_register, machine_operand}
use Rattle.frame_steps.specs.instruction_items.Laws.{IsSmallOperand}

-- ---- registers

all-small : All (λ r. r < 32) (28 ∷ given_registers)
all-small = All-from_recursion (λ r. r < 32) (28 ∷ given_registers) (lit< tt, (lit< tt, (lit< tt, (lit< tt, (lit< tt, (lit< tt, (lit< tt, (lit< tt, (lit< tt, (lit< tt, (lit< tt, (lit< tt, (lit< tt, (lit< tt, (lit< tt, (lit< tt, (lit< tt, (lit< tt, (lit< tt, (lit< tt, (lit< tt, (lit< tt, (lit< tt, (lit< tt, (lit< tt, (lit< tt, (lit< tt, tt)))))))))))))))))))))))))))

pub scratch_small : (r : ℕ) → IsGivenOrScratch r → r < 32
scratch_small r h = All-contains (λ q. q < 32) (28 ∷ given_registers) r all-small h

pub given_small : (r : ℕ) → IsGivenRegister r → r < 32
given_small r h = All-contains (λ q. q < 32) given_registers r (All-tail (λ q. q < 32) 28 given_registers all-small) h

pub stated_small : (rs : List ℕ) (k : ℕ) → All IsGivenRegister rs → slice_index rs k < 32
stated_small [] k h = omega arith
stated_small (r ∷ rs) zero h = given_small r (All-head IsGivenRegister r rs h)
stated_small (r ∷ rs) (suc k) h = stated_small rs k (All-tail IsGivenRegister r rs h)

pub source_small : (s : FirstOperand) (rs : List ℕ) → All IsGivenRegister rs → source_register s rs < 32
source_small source.Zero rs h = omega arith
source_small (source.Temp t) rs h = stated_small rs 0 h

pub operand_small : (x : SecondOperand) (rs : List ℕ) (k : ℕ) → All IsGivenRegister rs → IsSmallOperand x → IsOperand (machine_operand x rs k)
operand_small (operand.Temp t) rs k h small = stated_small rs k h
operand_small (operand.Literal n) rs k h small = small

pub fixed_small : (x : FixedRegister) → register_number x < 32
fixed_small r.Value = omega arith
fixed_small r.Argument0 = omega arith
fixed_small r.Argument1 = omega arith
fixed_small r.Argument2 = omega arith
fixed_small r.Argument3 = omega arith
fixed_small r.Argument4 = omega arith
fixed_small r.Argument5 = omega arith
fixed_small r.Dividend = omega arith
fixed_small r.Divisor = omega arith
fixed_small r.Answer = omega arith

-- ---- operations

pub first_any : (op : Operation) (ra : ℕ) → ra < 32 → IsFirstOperand (operate_op op) ra
first_any o.Addl ra h = h
first_any o.Subl ra h = h
first_any o.Cmpult ra h = h
first_any o.Addq ra h = h
first_any o.S4addq ra h = h
first_any o.Subq ra h = h
first_any o.Cmpeq ra h = h
first_any o.S8addq ra h = h
first_any o.Cmpule ra h = h
first_any o.AddlV ra h = h
first_any o.SublV ra h = h
first_any o.Cmplt ra h = h
first_any o.AddqV ra h = h
first_any o.SubqV ra h = h
first_any o.Cmple ra h = h
first_any o.And ra h = h
first_any o.Bic ra h = h
first_any o.Bis ra h = h
first_any o.Ornot ra h = h
first_any o.Xor ra h = h
first_any o.Eqv ra h = h
first_any o.Zapnot ra h = h
first_any o.Srl ra h = h
first_any o.Sll ra h = h
first_any o.Sra ra h = h
first_any o.Mull ra h = h
first_any o.Mulq ra h = h
first_any o.Umulh ra h = h
first_any o.MullV ra h = h
first_any o.MulqV ra h = h

pub first_extend : (op : ExtendOp) → IsFirstOperand (extend_op op) 31
first_extend Sextb = refl
first_extend Sextw = refl

-- ---- displacements

pub rest_fits : (z : ℤ) (a b : ℕ) → z ≡ pos a -ℤ pos b → a < b + 32768 → b ≤ a + 32768 → IsDisplacement z
rest_fits (pos n) a b e lt le = let f : n + b ≡ a = omega (arith, ints, e) in omega (arith, f)
rest_fits (negsuc n) a b e lt le = let f : a + suc n ≡ b = omega (arith, ints, e) in omega (arith, f)

-- ---- lists

pub all_at : {X : Type 0} (P : X → Type 0) (xss : List (List X)) (n : ℕ) → All (All P) xss → All P (slice_index_or xss n [])
all_at P [] n h = λ k d lt. absurd (omega (arith, lt))
all_at P (xs ∷ xss) zero h = All-head (All P) xs xss h
all_at P (xs ∷ xss) (suc n) h = all_at P xss n (All-tail (All P) xs xss h)
