-- Each fixed register that the code reads as fixed was written in its block before.
use Rattle.std.proofs.Common.{◌≡◌, ℕ, zero, suc, ◌-◌, ◌≤◌, min, List, [], ◌∷◌, ◌++◌, length, map, take, true, false, Option, Some, None, refl, ap, ◌∙◌, arith, le-ltb}
use Rattle.std.specs.Prelude.{◌==◌, nat_lt, if◌then◌else◌}
use Rattle.std.specs.List.{list_all}
use Rattle.std.proofs.lemmas.Bool.{and_from, eqb-true, and_parts}
use Rattle.std.proofs.lemmas.List.{append_assoc}
use Rattle.suifvm_ir.specs.declared.types.VmType.{VmType}
use Rattle.suifvm_ir.specs.declared.insn.VmBinaryOp.{VmBinaryOp}
use Rattle.suifvm_ir.specs.declared.insn.VmBinaryOp.TheVariants.{Add, Subtract, Multiply, Divide, Remainder, And, Or, ExclusiveOr}
use Rattle.suifvm_ir.specs.declared.insn.VmBuiltin.TheVariants.{PutChar, GetChar, Abort, Exit}
use Rattle.suifvm_ir.specs.declared.insn.VmCallee.{VmCallee}
use Rattle.suifvm_ir.specs.declared.insn.VmCallee.TheVariants as callee
use Rattle.suifvm_ir.specs.declared.insn.TypedRegister.{TypedRegister}
use Rattle.suifvm_ir.specs.declared.insn.VmInsn.{VmInsn}
use Rattle.suifvm_ir.specs.declared.insn.VmInsn.TheVariants as x
use Rattle.temp_ir.specs.declared.operation.DivisionRoutine.{DivisionRoutine}
use Rattle.temp_ir.specs.declared.insn.TempInsn.{TempInsn}
use Rattle.temp_ir.specs.declared.insn.TempInsn.TheVariants as i
use Rattle.temp_ir.specs.Fixed.{argument_registers, fixed_reads_of, has_number, written_behind, is_settled_block, is_settled}
use Rattle.selection_forms.specs.alpha_forms.Operations.{quotient_routine, remainder_routine, division_items, binary_items}
use Rattle.selection_code.specs.Instructions.{temp_of, argument_register, pass_items, take_items, result_items, put_char_items, exit_call_items, call_items, return_items, selected_insn}
use Rattle.selection_code.specs.Functions.{selected_insns, parameter_items, selected_blocks}
use Rattle.selection_bounds.specs.selection_shapes.Shapes.{FunctionsAreSettled}
use Rattle.selection_bounds.proofs.SelectionShapes.Plain.{is_simple, are_simple, constant_simple, load_simple, store_simple, parts_simple, shift_simple, compare_simple, convert_simple}

-- code is settled whatever was written before, where code behind it is
abbrev pub Settles : List TempInsn → Type 0
Settles xs = (written : List ℕ) (ys : List TempInsn) → ((w : List ℕ) → is_settled_block w ys ≡ true) → is_settled_block written (xs ++ ys) ≡ true

settles_nil : Settles []
settles_nil written ys h = h written

settles_both : (xs ys : List TempInsn) → Settles xs → Settles ys → Settles (xs ++ ys)
settles_both xs ys f g written zs h = ap (is_settled_block written) (append_assoc xs ys zs) ∙ f written (ys ++ zs) (λ w. g w zs h)

-- ---- code that reads no fixed register

none_read : (rs written : List ℕ) → (length rs == 0) ≡ true → list_all (has_number written) rs ≡ true
none_read [] written e = refl
none_read (r ∷ rs) written e = let some : length (r ∷ rs) ≡ 0 = eqb-true (length (r ∷ rs)) 0 e in absurd (omega (arith, some))

simple_settles : (xs : List TempInsn) → are_simple xs ≡ true → Settles xs
simple_settles [] e written ys h = h written
simple_settles (z ∷ xs) e written ys h =
    let p = and_parts (is_simple z) (are_simple xs) e in
    and_from (list_all (has_number written) (fixed_reads_of z)) (is_settled_block (written_behind written z) (xs ++ ys))
    (none_read (fixed_reads_of z) written (and_parts (length (fixed_reads_of z) == 0) _ p.0).0) (simple_settles xs p.1 (written_behind written z) ys h)

-- ---- divisions

division_settles : (r : DivisionRoutine) (d a b : ℕ) → Settles (division_items r d a b)
division_settles r d a b written ys h = h _

binary_settles : (op : VmBinaryOp) (ty : VmType) (d a b : ℕ) → Settles (binary_items op ty d a b)
binary_settles Add ty d a b = λ written ys h. h _
binary_settles Subtract ty d a b = λ written ys h. h _
binary_settles Multiply ty d a b = λ written ys h. h _
binary_settles Divide ty d a b = division_settles (quotient_routine ty) d a b
binary_settles Remainder ty d a b = division_settles (remainder_routine ty) d a b
binary_settles And ty d a b = λ written ys h. h _
binary_settles Or ty d a b = λ written ys h. h _
binary_settles ExclusiveOr ty d a b = λ written ys h. h _

-- ---- calls

-- behind a call its result may be read
call_rest : (k n : ℕ) (d : Option ℕ) (written : List ℕ) (ys : List TempInsn) → list_all (has_number written) (argument_registers n) ≡ true → ((w : List ℕ) → is_settled_block w ys ≡ true) →
    is_settled_block written (i.Call k n ∷ (result_items d ++ ys)) ≡ true
call_rest k n None written ys e h = and_from (list_all (has_number written) (argument_registers n)) (is_settled_block (written_behind written (i.Call k n)) ys) e (h _)
call_rest k n (Some d) written ys e h = and_from (list_all (has_number written) (argument_registers n)) _ e (h _)

-- past the sixth argument the six registers stay written
more_arguments : (k n f : ℕ) (d : Option ℕ) (arguments : List ℕ) (more : List ℕ) (ys : List TempInsn) → 6 ≤ k → 6 ≤ n → ((w : List ℕ) → is_settled_block w ys ≡ true) →
    is_settled_block (21 ∷ 20 ∷ 19 ∷ 18 ∷ 17 ∷ 16 ∷ more) (pass_items k arguments ++ (i.Call f n ∷ (result_items d ++ ys))) ≡ true
more_arguments k n f d [] more ys past six h =
    let all : min n 6 ≡ 6 = omega (arith, six) in
    call_rest f n d (21 ∷ 20 ∷ 19 ∷ 18 ∷ 17 ∷ 16 ∷ more) ys (ap (λ j. list_all (has_number (21 ∷ 20 ∷ 19 ∷ 18 ∷ 17 ∷ 16 ∷ more)) (take j (16 ∷ 17 ∷ 18 ∷ 19 ∷ 20 ∷ 21 ∷ []))) all) h
more_arguments k n f d (a ∷ arguments) more ys past six h =
    let place : nat_lt k 6 ≡ false = le-ltb k 6 past in
    ap (λ b. is_settled_block (21 ∷ 20 ∷ 19 ∷ 18 ∷ 17 ∷ 16 ∷ more) ((if b then i.ToFixed (argument_register k) (temp_of a) else i.WriteArgument (k - 6) (temp_of a)) ∷ (pass_items (suc k) arguments ++ (i.Call f n ∷ (result_items d ++ ys))))) place
    ∙ more_arguments (suc k) n f d arguments _ ys (omega (arith, past)) six h

-- what is written behind instructions
abbrev behind_all : (written : List ℕ) → List TempInsn → List ℕ
behind_all written [] = written
behind_all written (z ∷ zs) = behind_all (written_behind written z) zs

function_settles : (d : Option ℕ) (f : ℕ) (arguments : List ℕ) → Settles (call_items d (callee.Function f) arguments)
function_settles d f [] written ys h = call_rest f 0 d written ys refl h
function_settles d f (a ∷ []) written ys h = call_rest f 1 d (behind_all written (pass_items 0 (a ∷ []))) ys refl h
function_settles d f (a ∷ b ∷ []) written ys h = call_rest f 2 d (behind_all written (pass_items 0 (a ∷ b ∷ []))) ys refl h
function_settles d f (a ∷ b ∷ c ∷ []) written ys h = call_rest f 3 d (behind_all written (pass_items 0 (a ∷ b ∷ c ∷ []))) ys refl h
function_settles d f (a ∷ b ∷ c ∷ g ∷ []) written ys h = call_rest f 4 d (behind_all written (pass_items 0 (a ∷ b ∷ c ∷ g ∷ []))) ys refl h
function_settles d f (a ∷ b ∷ c ∷ g ∷ j ∷ []) written ys h = call_rest f 5 d (behind_all written (pass_items 0 (a ∷ b ∷ c ∷ g ∷ j ∷ []))) ys refl h
function_settles d f (a ∷ b ∷ c ∷ g ∷ j ∷ k ∷ arguments) written ys h =
    ap (is_settled_block (behind_all written (pass_items 0 (a ∷ b ∷ c ∷ g ∷ j ∷ k ∷ [])))) (append_assoc (pass_items 6 arguments) (i.Call f (length (a ∷ b ∷ c ∷ g ∷ j ∷ k ∷ arguments)) ∷ result_items d) ys)
    ∙ more_arguments 6 (length (a ∷ b ∷ c ∷ g ∷ j ∷ k ∷ arguments)) f d arguments _ ys (omega arith) (omega arith) h

put_char_settles : (d : Option ℕ) (arguments : List ℕ) → Settles (put_char_items d arguments)
put_char_settles d [] written ys h = h written
put_char_settles None (a ∷ arguments) written ys h = h _
put_char_settles (Some d) (a ∷ arguments) written ys h = h _

get_char_settles : (d : Option ℕ) (arguments : List ℕ) → Settles (call_items d (callee.Builtin GetChar) arguments)
get_char_settles None arguments written ys h = h _
get_char_settles (Some d) arguments written ys h = h _

exit_settles : (arguments : List ℕ) → Settles (exit_call_items arguments)
exit_settles [] written ys h = h written
exit_settles (a ∷ arguments) written ys h = h _

call_settles : (d : Option ℕ) (c : VmCallee) (arguments : List ℕ) → Settles (call_items d c arguments)
call_settles d (callee.Function f) arguments = function_settles d f arguments
call_settles d (callee.Builtin PutChar) arguments = put_char_settles d arguments
call_settles d (callee.Builtin GetChar) arguments = get_char_settles d arguments
call_settles d (callee.Builtin Abort) arguments = λ written ys h. h _
call_settles d (callee.Builtin Exit) arguments = exit_settles arguments

return_settles : (value : Option TypedRegister) → Settles (return_items value)
return_settles None written ys h = h _
return_settles (Some value) written ys h = h _

-- ---- instructions and blocks

insn_settles : (y : VmInsn) → Settles (selected_insn y)
insn_settles (x.LoadConstant ty d word) = simple_settles (selected_insn (x.LoadConstant ty d word)) (constant_simple (temp_of d) word)
insn_settles (x.LoadAddress d place plus) = λ written ys h. h _
insn_settles (x.Load ty d p plus) = simple_settles (selected_insn (x.Load ty d p plus)) (load_simple ty (temp_of d) (temp_of p) plus)
insn_settles (x.Store ty p plus a) = simple_settles (selected_insn (x.Store ty p plus a)) (store_simple ty (temp_of p) plus (temp_of a))
insn_settles (x.Copy to from size align) = simple_settles (selected_insn (x.Copy to from size align)) (parts_simple align _ (temp_of to) (temp_of from) 0)
insn_settles (x.Unary op ty d a) = λ written ys h. h _
insn_settles (x.Binary op ty d a b) = binary_settles op ty (temp_of d) (temp_of a) (temp_of b)
insn_settles (x.Shift op ty d a b) = simple_settles (selected_insn (x.Shift op ty d a b)) (shift_simple op ty (temp_of d) (temp_of a) (temp_of b))
insn_settles (x.Convert from to d a) = simple_settles (selected_insn (x.Convert from to d a)) (convert_simple from to (temp_of d) (temp_of a))
insn_settles (x.Compare op ty d a b) = simple_settles (selected_insn (x.Compare op ty d a b)) (compare_simple op ty (temp_of d) (temp_of a) (temp_of b))
insn_settles (x.Branch op ty a block) = λ written ys h. h _
insn_settles (x.Jump block) = λ written ys h. h _
insn_settles (x.Call d c arguments) = call_settles d c arguments
insn_settles (x.Return value) = return_settles value
insn_settles x.Mark = λ written ys h. h _
insn_settles x.Nop = settles_nil

block_settled : (insns : List VmInsn) (written : List ℕ) → is_settled_block written (selected_insns insns) ≡ true
block_settled [] written = refl
block_settled (y ∷ insns) written = insn_settles y written (selected_insns insns) (λ w. block_settled insns w)

-- ---- parameters

past_six : (k count : ℕ) → 6 ≤ k → Settles (take_items k count)
past_six k zero past written ys h = h written
past_six k (suc count) past written ys h =
    let place : nat_lt k 6 ≡ false = le-ltb k 6 past in
    ap (λ b. is_settled_block written ((if b then i.FromFixed (temp_of k) (argument_register k) else i.ReadArgument (temp_of k) (k - 6)) ∷ (take_items (suc k) count ++ ys))) place
    ∙ past_six (suc k) count (omega (arith, past)) _ ys h

parameters_settled : (params : ℕ) (ys : List TempInsn) → ((w : List ℕ) → is_settled_block w ys ≡ true) → is_settled_block (argument_registers params) (parameter_items params ++ ys) ≡ true
parameters_settled zero ys h = h _
parameters_settled (suc zero) ys h = h _
parameters_settled (suc (suc zero)) ys h = h _
parameters_settled (suc (suc (suc zero))) ys h = h _
parameters_settled (suc (suc (suc (suc zero)))) ys h = h _
parameters_settled (suc (suc (suc (suc (suc zero))))) ys h = h _
parameters_settled (suc (suc (suc (suc (suc (suc n)))))) ys h =
    let all : min (suc (suc (suc (suc (suc (suc n)))))) 6 ≡ 6 = omega arith in
    ap (λ j. is_settled_block (take j (16 ∷ 17 ∷ 18 ∷ 19 ∷ 20 ∷ 21 ∷ [])) (parameter_items (suc (suc (suc (suc (suc (suc n)))))) ++ ys)) all
    ∙ past_six 6 n (omega arith) _ ys h

others_settled : (blocks : List (List VmInsn)) → list_all (is_settled_block []) (map selected_insns blocks) ≡ true
others_settled [] = refl
others_settled (block ∷ blocks) = and_from (is_settled_block [] (selected_insns block)) (list_all (is_settled_block []) (map selected_insns blocks)) (block_settled block []) (others_settled blocks)

function_settled : (params : ℕ) (blocks : List (List VmInsn)) → is_settled params (selected_blocks params blocks) ≡ true
function_settled params [] = refl
function_settled params (block ∷ blocks) =
    and_from (is_settled_block (argument_registers params) (parameter_items params ++ selected_insns block)) (list_all (is_settled_block []) (map selected_insns blocks))
    (parameters_settled params (selected_insns block) (λ w. block_settled block w)) (others_settled blocks)

pub functions_settled : FunctionsAreSettled
functions_settled f = function_settled f.params f.blocks
