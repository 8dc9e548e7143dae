-- How many transfers stand before an instruction.
use Rattle.std.proofs.Common.{◌≡◌, ℕ, zero, suc, ◌+◌, ◌≤◌, ◌||◌, List, [], ◌∷◌, ◌++◌, Bool, true, false, if◌then◌else◌, refl, ap, subst, length, arith}
use Rattle.std.specs.Prelude.{ℤ}
use Rattle.temp_ir.specs.declared.operation.Service.{Service}
use Rattle.temp_ir.specs.declared.insn.FixedRegister.{FixedRegister}
use Rattle.temp_ir.specs.declared.operation.Service.TheVariants.{End, PutByte, GetByte, Trap}
use Rattle.temp_ir.specs.declared.insn.FixedRegister.TheVariants.{Value, Argument0, Argument1, Argument2, Argument3, Argument4, Argument5, Dividend, Divisor, Answer}
use Rattle.temp_ir.specs.declared.insn.TempInsn.{TempInsn}
use Rattle.temp_ir.specs.declared.insn.TempInsn.TheVariants as i
use Rattle.temp_ir.specs.Fixed.{has_number, fixed_reads_of}
use Rattle.alloc_model.specs.declared.allocation.Transfer.{Transfer}
use Rattle.alloc_rules.specs.Visits.{takes_away, fixes}
use Rattle.alloc_rules.specs.Lean.{most_before}
use Rattle.binpack_blocks.specs.model.Steps.{taken, taken_below}

length_both : (xs ys : List Transfer) → length (xs ++ ys) ≡ length xs + length ys
length_both [] ys = omega arith
length_both (x ∷ xs) ys = let rest = length_both xs ys in omega (arith, rest)

pub one_behind : (xs ys : List Transfer) (x : Transfer) → ys ≡ xs ++ x ∷ [] → length ys ≤ length xs + 1
one_behind xs ys x e =
    let same = ap (λ z. length z) e in
    let both = length_both xs (x ∷ []) in
    omega (arith, same, both)

pub count_next : (x : TempInsn) (r start before now : ℕ) → before ≤ start + taken_below x r → now ≤ before + taken x r → now ≤ start + taken_below x (r + 1)
count_next x r start before now a b =
    let same : suc r ≡ r + 1 = omega arith in
    let next : taken_below x (suc r) ≡ taken_below x (r + 1) = ap (taken_below x) same in
    let all : now ≤ start + (taken_below x r + taken x r) = omega (arith, a, b) in
    subst (λ n. now ≤ start + n) next all

pub visit_few : (x : TempInsn) (start fixed brought acted transfers : List Transfer) → transfers ≡ acted → start ≡ [] → length fixed ≤ length start + taken_below x 26 → length brought ≤ length fixed + 4 → length acted ≤ length brought + 1 → length transfers ≤ taken_below x 26 + 5
visit_few x start fixed brought acted transfers e f a b c =
    let same = ap (λ z. length z) e in
    let none = ap (λ z. length z) f in
    omega (arith, same, none, a, b, c)

-- what is taken away is fixed
pub taken_fixes : (x : TempInsn) (r : ℕ) → takes_away x r ≡ true → fixes x r ≡ true
taken_fixes x r takes = go (has_number (fixed_reads_of x) r)
  where
    go : (b : Bool) → (b || takes_away x r) ≡ true
    go true = refl
    go false = takes

-- a register more or less
taken_least : (x : TempInsn) (n : ℕ) → taken_below x n ≤ n
taken_least x zero = omega arith
taken_least x (suc n) = go (takes_away x n) (taken_least x n)
  where
    go : (b : Bool) → taken_below x n ≤ n → taken_below x n + (if b then 1 else 0) ≤ suc n
    go true rest = omega (arith, rest)
    go false rest = omega (arith, rest)

-- ---- an instruction that makes no call takes one register at most

module _ (source : ℕ) where
  to_fixed : (register : FixedRegister) → taken_below (i.ToFixed register source) 26 ≤ 1
  to_fixed Value = let e : taken_below (i.ToFixed Value source) 26 ≡ 1 = refl in omega (arith, e)
  to_fixed Argument0 = let e : taken_below (i.ToFixed Argument0 source) 26 ≡ 1 = refl in omega (arith, e)
  to_fixed Argument1 = let e : taken_below (i.ToFixed Argument1 source) 26 ≡ 1 = refl in omega (arith, e)
  to_fixed Argument2 = let e : taken_below (i.ToFixed Argument2 source) 26 ≡ 1 = refl in omega (arith, e)
  to_fixed Argument3 = let e : taken_below (i.ToFixed Argument3 source) 26 ≡ 1 = refl in omega (arith, e)
  to_fixed Argument4 = let e : taken_below (i.ToFixed Argument4 source) 26 ≡ 1 = refl in omega (arith, e)
  to_fixed Argument5 = let e : taken_below (i.ToFixed Argument5 source) 26 ≡ 1 = refl in omega (arith, e)
  to_fixed Dividend = let e : taken_below (i.ToFixed Dividend source) 26 ≡ 1 = refl in omega (arith, e)
  to_fixed Divisor = let e : taken_below (i.ToFixed Divisor source) 26 ≡ 1 = refl in omega (arith, e)
  to_fixed Answer = let e : taken_below (i.ToFixed Answer source) 26 ≡ 0 = refl in omega (arith, e)

module _ (number : ℤ) where
  set_fixed : (register : FixedRegister) → taken_below (i.SetFixed register number) 26 ≤ 1
  set_fixed Value = let e : taken_below (i.SetFixed Value number) 26 ≡ 1 = refl in omega (arith, e)
  set_fixed Argument0 = let e : taken_below (i.SetFixed Argument0 number) 26 ≡ 1 = refl in omega (arith, e)
  set_fixed Argument1 = let e : taken_below (i.SetFixed Argument1 number) 26 ≡ 1 = refl in omega (arith, e)
  set_fixed Argument2 = let e : taken_below (i.SetFixed Argument2 number) 26 ≡ 1 = refl in omega (arith, e)
  set_fixed Argument3 = let e : taken_below (i.SetFixed Argument3 number) 26 ≡ 1 = refl in omega (arith, e)
  set_fixed Argument4 = let e : taken_below (i.SetFixed Argument4 number) 26 ≡ 1 = refl in omega (arith, e)
  set_fixed Argument5 = let e : taken_below (i.SetFixed Argument5 number) 26 ≡ 1 = refl in omega (arith, e)
  set_fixed Dividend = let e : taken_below (i.SetFixed Dividend number) 26 ≡ 1 = refl in omega (arith, e)
  set_fixed Divisor = let e : taken_below (i.SetFixed Divisor number) 26 ≡ 1 = refl in omega (arith, e)
  set_fixed Answer = let e : taken_below (i.SetFixed Answer number) 26 ≡ 0 = refl in omega (arith, e)

serve : (service : Service) → taken_below (i.Serve service) 26 ≤ 1
serve End = let e : taken_below (i.Serve End) 26 ≡ 0 = refl in omega (arith, e)
serve PutByte = let e : taken_below (i.Serve PutByte) 26 ≡ 0 = refl in omega (arith, e)
serve GetByte = let e : taken_below (i.Serve GetByte) 26 ≡ 1 = refl in omega (arith, e)
serve Trap = let e : taken_below (i.Serve Trap) 26 ≡ 0 = refl in omega (arith, e)

-- so a visit makes few enough
pub few_enough : (x : TempInsn) → taken_below x 26 + 5 ≤ most_before x
few_enough (i.Address op destination base plus) = let e : taken_below (i.Address op destination base plus) 26 ≡ 0 = refl in omega (arith, e)
few_enough (i.ObjectAddress destination place plus) = let e : taken_below (i.ObjectAddress destination place plus) 26 ≡ 0 = refl in omega (arith, e)
few_enough (i.Load op destination pointer plus) = let e : taken_below (i.Load op destination pointer plus) 26 ≡ 0 = refl in omega (arith, e)
few_enough (i.Store op value pointer plus) = let e : taken_below (i.Store op value pointer plus) 26 ≡ 0 = refl in omega (arith, e)
few_enough (i.Operate op destination left right) = let e : taken_below (i.Operate op destination left right) 26 ≡ 0 = refl in omega (arith, e)
few_enough (i.Extend op destination source) = let e : taken_below (i.Extend op destination source) 26 ≡ 0 = refl in omega (arith, e)
few_enough (i.ToFixed register source) = let e = to_fixed source register in omega (arith, e)
few_enough (i.FromFixed destination register) = let e : taken_below (i.FromFixed destination register) 26 ≡ 0 = refl in omega (arith, e)
few_enough (i.SetFixed register number) = let e = set_fixed number register in omega (arith, e)
few_enough (i.WriteArgument number source) = let e : taken_below (i.WriteArgument number source) 26 ≡ 0 = refl in omega (arith, e)
few_enough (i.ReadArgument destination number) = let e : taken_below (i.ReadArgument destination number) 26 ≡ 0 = refl in omega (arith, e)
few_enough (i.Branch op source block) = let e : taken_below (i.Branch op source block) 26 ≡ 0 = refl in omega (arith, e)
few_enough (i.Jump block) = let e : taken_below (i.Jump block) 26 ≡ 0 = refl in omega (arith, e)
few_enough (i.Call function arguments) = let e = taken_least (i.Call function arguments) 26 in omega (arith, e)
few_enough (i.Divide routine) = let e = taken_least (i.Divide routine) 26 in omega (arith, e)
few_enough (i.Serve service) = let e = serve service in omega (arith, e)
few_enough (i.Return with_value) = let e : taken_below (i.Return with_value) 26 ≡ 0 = refl in omega (arith, e)
few_enough i.Mark = let e : taken_below i.Mark 26 ≡ 0 = refl in omega (arith, e)
