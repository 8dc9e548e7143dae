-- How many calls the code has.
use Rattle.std.proofs.Common.{◌≡◌, ℕ, zero, suc, ◌+◌, ◌-◌, ◌≤◌, List, [], ◌∷◌, ◌++◌, length, Bool, true, false, Option, Some, None, refl, ap, arith}
use Rattle.std.specs.Prelude.{◌&&◌, ◌==◌, cond, count_by, nat_lt, if◌then◌else◌}
use Rattle.std.proofs.lemmas.Bool.{and_parts}
use Rattle.std.proofs.lemmas.List.Sums.{sum_by-cons, sum_by-append}
use Rattle.suifvm_ir.specs.declared.types.VmType.{VmType}
use Rattle.suifvm_ir.specs.declared.insn.VmBinaryOp.{VmBinaryOp}
use Rattle.suifvm_ir.specs.declared.insn.VmBinaryOp.TheVariants.{Add, Subtract, Multiply, Divide, Remainder, And, Or, ExclusiveOr}
use Rattle.suifvm_ir.specs.declared.insn.VmBuiltin.{VmBuiltin}
use Rattle.suifvm_ir.specs.declared.insn.VmBuiltin.TheVariants.{PutChar, GetChar, Abort, Exit}
use Rattle.suifvm_ir.specs.declared.insn.VmCallee.{VmCallee}
use Rattle.suifvm_ir.specs.declared.insn.VmCallee.TheVariants as callee
use Rattle.suifvm_ir.specs.declared.insn.TypedRegister.{TypedRegister}
use Rattle.suifvm_ir.specs.declared.insn.VmInsn.{VmInsn}
use Rattle.suifvm_ir.specs.declared.insn.VmInsn.TheVariants as x
use Rattle.suifvm_ir.specs.Cost.{most_binary_calls, most_calls}
use Rattle.temp_ir.specs.declared.insn.TempInsn.{TempInsn}
use Rattle.temp_ir.specs.declared.insn.TempInsn.TheVariants as i
use Rattle.temp_ir.specs.Fixed.{fixed_reads_of}
use Rattle.temp_ir.specs.Cost.{makes_call}
use Rattle.selection_forms.specs.alpha_forms.Operations.{binary_items}
use Rattle.selection_code.specs.Instructions.{temp_of, argument_register, pass_item, pass_items, take_item, take_items, result_items, byte_items, put_char_items, exit_call_items, builtin_items, call_items, return_items, selected_insn}
use Rattle.selection_bounds.proofs.SelectionShapes.Plain.{is_simple, are_simple, constant_simple, load_simple, store_simple, parts_simple, shift_simple, compare_simple, convert_simple}

-- ---- code that calls nothing

simple_calls : (z : TempInsn) → is_simple z ≡ true → makes_call z ≡ false
simple_calls (i.Address op d base plus) e = refl
simple_calls (i.ObjectAddress d place plus) e = refl
simple_calls (i.Load op d p plus) e = refl
simple_calls (i.Store op a p plus) e = refl
simple_calls (i.Operate op d a b) e = refl
simple_calls (i.Extend op d a) e = refl
simple_calls (i.ToFixed register a) e = refl
simple_calls (i.FromFixed d register) e = refl
simple_calls (i.SetFixed register number) e = refl
simple_calls (i.WriteArgument number a) e = refl
simple_calls (i.ReadArgument d number) e = refl
simple_calls (i.Branch op a block) e = refl
simple_calls (i.Jump block) e = refl
simple_calls (i.Call function arguments) e =
    absurd (nameless (length (fixed_reads_of (i.Call function arguments)) == 0) e)
  where
    nameless : (b : Bool) → (b && false) ≡ true → ⊥
    nameless true h = cc
    nameless false h = cc
simple_calls (i.Divide routine) e = absurd (cc)
simple_calls (i.Serve service) e = refl
simple_calls (i.Return with_value) e = refl
simple_calls i.Mark e = refl

abbrev tally : Bool → ℕ
tally b = cond b 1 0

one_call : (z : TempInsn) → makes_call z ≡ false → tally (makes_call z) ≡ 0
one_call z e = ap tally e

calls-cons : (z : TempInsn) (xs : List TempInsn) → count_by makes_call (z ∷ xs) ≡ tally (makes_call z) + count_by makes_call xs
calls-cons z xs = sum_by-cons (λ y. cond (makes_call y) 1 0) z xs

pub calls-append : (xs ys : List TempInsn) → count_by makes_call (xs ++ ys) ≡ count_by makes_call xs + count_by makes_call ys
calls-append xs ys = sum_by-append (λ y. cond (makes_call y) 1 0) xs ys

no_calls : (xs : List TempInsn) → are_simple xs ≡ true → count_by makes_call xs ≡ 0
no_calls [] e = refl
no_calls (z ∷ xs) e =
    let p = and_parts (is_simple z) (are_simple xs) e in
    omega (arith, calls-cons z xs, one_call z (simple_calls z p.0), no_calls xs p.1)

simple_few : (xs : List TempInsn) → are_simple xs ≡ true → count_by makes_call xs ≤ 0
simple_few xs e = omega (arith, no_calls xs e)

-- ---- instructions

binary_few : (op : VmBinaryOp) (ty : VmType) (d a b : ℕ) → count_by makes_call (binary_items op ty d a b) ≤ most_binary_calls op
binary_few Add ty d a b = omega arith
binary_few Subtract ty d a b = omega arith
binary_few Multiply ty d a b = omega arith
binary_few Divide ty d a b = omega arith
binary_few Remainder ty d a b = omega arith
binary_few And ty d a b = omega arith
binary_few Or ty d a b = omega arith
binary_few ExclusiveOr ty d a b = omega arith

pass_calls : (k t : ℕ) → makes_call (pass_item k t) ≡ false
pass_calls k t = by_test (nat_lt k 6)
  where
    by_test : (b : Bool) → makes_call (if b then i.ToFixed (argument_register k) t else i.WriteArgument (k - 6) t) ≡ false
    by_test true = refl
    by_test false = refl

passes_calls : (k : ℕ) (arguments : List ℕ) → count_by makes_call (pass_items k arguments) ≡ 0
passes_calls k [] = refl
passes_calls k (a ∷ arguments) =
    omega (arith, calls-cons (pass_item k (temp_of a)) (pass_items (suc k) arguments), one_call (pass_item k (temp_of a)) (pass_calls k (temp_of a)), passes_calls (suc k) arguments)

take_calls : (k t : ℕ) → makes_call (take_item k t) ≡ false
take_calls k t = by_test (nat_lt k 6)
  where
    by_test : (b : Bool) → makes_call (if b then i.FromFixed t (argument_register k) else i.ReadArgument t (k - 6)) ≡ false
    by_test true = refl
    by_test false = refl

pub takes_calls : (k count : ℕ) → count_by makes_call (take_items k count) ≡ 0
takes_calls k zero = refl
takes_calls k (suc count) =
    omega (arith, calls-cons (take_item k (temp_of k)) (take_items (suc k) count), one_call (take_item k (temp_of k)) (take_calls k (temp_of k)), takes_calls (suc k) count)

result_few : (d : Option ℕ) → count_by makes_call (result_items d) ≤ 0
result_few None = omega arith
result_few (Some d) = omega arith

byte_few : (d : Option ℕ) (a : ℕ) → count_by makes_call (byte_items d a) ≤ 0
byte_few None a = omega arith
byte_few (Some d) a = omega arith

put_char_few : (d : Option ℕ) (arguments : List ℕ) → count_by makes_call (put_char_items d arguments) ≤ 0
put_char_few d [] = omega arith
put_char_few d (a ∷ arguments) = byte_few d a

exit_few : (arguments : List ℕ) → count_by makes_call (exit_call_items arguments) ≤ 0
exit_few [] = omega arith
exit_few (a ∷ arguments) = omega arith

builtin_few : (d : Option ℕ) (b : VmBuiltin) (arguments : List ℕ) → count_by makes_call (builtin_items d b arguments) ≤ 0
builtin_few d PutChar arguments = put_char_few d arguments
builtin_few d GetChar arguments = result_few d
builtin_few d Abort arguments = omega arith
builtin_few d Exit arguments = exit_few arguments

call_few : (d : Option ℕ) (c : VmCallee) (arguments : List ℕ) → count_by makes_call (call_items d c arguments) ≤ 1
call_few d (callee.Function k) arguments =
    omega (
      arith,
      calls-append (pass_items 0 arguments) (i.Call k (length arguments) ∷ result_items d),
      passes_calls 0 arguments,
      calls-cons (i.Call k (length arguments)) (result_items d),
      result_few d,
    )
call_few d (callee.Builtin b) arguments = omega (arith, builtin_few d b arguments)

return_few : (value : Option TypedRegister) → count_by makes_call (return_items value) ≤ 0
return_few None = omega arith
return_few (Some value) = omega arith

pub insn_calls : (y : VmInsn) → count_by makes_call (selected_insn y) ≤ most_calls y
insn_calls (x.LoadConstant ty d word) = simple_few (selected_insn (x.LoadConstant ty d word)) (constant_simple (temp_of d) word)
insn_calls (x.LoadAddress d place plus) = omega arith
insn_calls (x.Load ty d p plus) = simple_few (selected_insn (x.Load ty d p plus)) (load_simple ty (temp_of d) (temp_of p) plus)
insn_calls (x.Store ty p plus a) = simple_few (selected_insn (x.Store ty p plus a)) (store_simple ty (temp_of p) plus (temp_of a))
insn_calls (x.Copy to from size align) = simple_few (selected_insn (x.Copy to from size align)) (parts_simple align _ (temp_of to) (temp_of from) 0)
insn_calls (x.Unary op ty d a) = omega arith
insn_calls (x.Binary op ty d a b) = binary_few op ty (temp_of d) (temp_of a) (temp_of b)
insn_calls (x.Shift op ty d a b) = simple_few (selected_insn (x.Shift op ty d a b)) (shift_simple op ty (temp_of d) (temp_of a) (temp_of b))
insn_calls (x.Convert from to d a) = simple_few (selected_insn (x.Convert from to d a)) (convert_simple from to (temp_of d) (temp_of a))
insn_calls (x.Compare op ty d a b) = simple_few (selected_insn (x.Compare op ty d a b)) (compare_simple op ty (temp_of d) (temp_of a) (temp_of b))
insn_calls (x.Branch op ty a block) = omega arith
insn_calls (x.Jump block) = omega arith
insn_calls (x.Call d c arguments) = call_few d c arguments
insn_calls (x.Return value) = return_few value
insn_calls x.Mark = omega arith
insn_calls x.Nop = omega arith
