-- What holds of each instruction in the code of an instruction holds in all code that is selected: of instructions, of
-- blocks, and of functions, which begin with code that takes their parameters.
use Rattle.std.proofs.Common.{◌≡◌, ℕ, zero, suc, ◌+◌, ◌-◌, ◌<◌, ◌≤◌, List, [], ◌∷◌, ◌++◌, length, map, Bool, true, false, Option, Some, None, All, refl, arith}
use Rattle.std.specs.Prelude.{nat_lt, if◌then◌else◌}
use Rattle.std.proofs.lemmas.Bool.{ltb-false, and_parts}
use Rattle.std.proofs.lemmas.List.Elements.{All-nil, All-cons, All-head, All-tail, All-append}
use Rattle.suifvm_ir.specs.declared.types.VmType.{VmType}
use Rattle.suifvm_ir.specs.declared.insn.VmBranchOp.{VmBranchOp}
use Rattle.suifvm_ir.specs.declared.insn.VmObject.{VmObject}
use Rattle.suifvm_ir.specs.declared.insn.VmCallee.{VmCallee}
use Rattle.suifvm_ir.specs.declared.insn.VmCallee.TheVariants as callee
use Rattle.suifvm_ir.specs.declared.insn.TypedRegister.{TypedRegister}
use Rattle.suifvm_ir.specs.declared.insn.VmInsn.{VmInsn}
use Rattle.suifvm_ir.specs.declared.insn.VmInsn.TheVariants as x
use Rattle.temp_ir.specs.declared.insn.FixedRegister.TheVariants.{Value}
use Rattle.temp_ir.specs.declared.insn.TempInsn.{TempInsn}
use Rattle.temp_ir.specs.declared.insn.TempInsn.TheVariants as i
use Rattle.selection_forms.specs.alpha_forms.Operations.{temp_branch}
use Rattle.selection_code.specs.Instructions.{temp_of, argument_register, pass_item, pass_items, take_item, take_items, result_items, return_items, selected_insn}
use Rattle.selection_code.specs.Functions.{selected_insns, parameter_items, selected_blocks}
use Rattle.selection_bounds.proofs.SelectionShapes.Plain.{is_bare, are_bare, are_simple, simple_bare, binary_bare, result_bare, builtin_bare, constant_simple, load_simple, store_simple, parts_simple, shift_simple, compare_simple, convert_simple}

-- ---- lists and blocks

-- what the code of each instruction has, and keeps in front of code that has it
pub all_insns : (Q : VmInsn → Type 0) (P : List TempInsn → Type 0) → P [] → ((xs ys : List TempInsn) → P xs → P ys → P (xs ++ ys)) → ((y : VmInsn) → Q y → P (selected_insn y)) →
    (insns : List VmInsn) → All Q insns → P (selected_insns insns)
all_insns Q P none both code [] h = none
all_insns Q P none both code (y ∷ insns) h =
    both (selected_insn y) (selected_insns insns) (code y (All-head Q y insns h)) (all_insns Q P none both code insns (All-tail Q y insns h))

-- what the code of each block has, and that of the first one behind what takes the parameters
pub all_blocks : (Q : List VmInsn → Type 0) (P : List TempInsn → Type 0) → ((insns : List VmInsn) → Q insns → P (selected_insns insns)) →
    (params : ℕ) → ((insns : List VmInsn) → Q insns → P (parameter_items params ++ selected_insns insns)) → (blocks : List (List VmInsn)) → All Q blocks → All P (selected_blocks params blocks)
all_blocks Q P code params first [] h = All-nil P
all_blocks Q P code params first (block ∷ blocks) h =
    All-cons P (parameter_items params ++ selected_insns block) (map selected_insns blocks) (first block (All-head Q block blocks h)) (others blocks (All-tail Q block blocks h))
  where
    others : (bs : List (List VmInsn)) → All Q bs → All P (map selected_insns bs)
    others [] g = All-nil P
    others (b ∷ bs) g = All-cons P (selected_insns b) (map selected_insns bs) (code b (All-head Q b bs g)) (others bs (All-tail Q b bs g))

-- ---- the code of an instruction

-- it is bare, or the instruction is one of a few
pub data CodeForm : VmInsn → Type 0 where
  HasBareCode : (y : VmInsn) → are_bare (selected_insn y) ≡ true → CodeForm y
  LoadsAddress : (d : ℕ) (place : VmObject) (plus : ℕ) → CodeForm (x.LoadAddress d place plus)
  Branches : (op : VmBranchOp) (ty : VmType) (a block : ℕ) → CodeForm (x.Branch op ty a block)
  Jumps : (block : ℕ) → CodeForm (x.Jump block)
  Calls : (d : Option ℕ) (k : ℕ) (arguments : List ℕ) → CodeForm (x.Call d (callee.Function k) arguments)
  Returns : (value : Option TypedRegister) → CodeForm (x.Return value)

simple_form : (y : VmInsn) → are_simple (selected_insn y) ≡ true → CodeForm y
simple_form y e = HasBareCode y (simple_bare (selected_insn y) e)

call_form : (d : Option ℕ) (c : VmCallee) (arguments : List ℕ) → CodeForm (x.Call d c arguments)
call_form d (callee.Function k) arguments = Calls d k arguments
call_form d (callee.Builtin b) arguments = HasBareCode (x.Call d (callee.Builtin b) arguments) (builtin_bare d b arguments)

pub code_form : (y : VmInsn) → CodeForm y
code_form (x.LoadConstant ty d word) = simple_form (x.LoadConstant ty d word) (constant_simple (temp_of d) word)
code_form (x.LoadAddress d place plus) = LoadsAddress d place plus
code_form (x.Load ty d p plus) = simple_form (x.Load ty d p plus) (load_simple ty (temp_of d) (temp_of p) plus)
code_form (x.Store ty p plus a) = simple_form (x.Store ty p plus a) (store_simple ty (temp_of p) plus (temp_of a))
code_form (x.Copy to from size align) = simple_form (x.Copy to from size align) (parts_simple align _ (temp_of to) (temp_of from) 0)
code_form (x.Unary op ty d a) = HasBareCode (x.Unary op ty d a) refl
code_form (x.Binary op ty d a b) = HasBareCode (x.Binary op ty d a b) (binary_bare op ty (temp_of d) (temp_of a) (temp_of b))
code_form (x.Shift op ty d a b) = simple_form (x.Shift op ty d a b) (shift_simple op ty (temp_of d) (temp_of a) (temp_of b))
code_form (x.Convert from to d a) = simple_form (x.Convert from to d a) (convert_simple from to (temp_of d) (temp_of a))
code_form (x.Compare op ty d a b) = simple_form (x.Compare op ty d a b) (compare_simple op ty (temp_of d) (temp_of a) (temp_of b))
code_form (x.Branch op ty a block) = Branches op ty a block
code_form (x.Jump block) = Jumps block
code_form (x.Call d c arguments) = call_form d c arguments
code_form (x.Return value) = Returns value
code_form x.Mark = HasBareCode x.Mark refl
code_form x.Nop = HasBareCode x.Nop refl

-- ---- a property of an instruction over temporaries, where that over registers has one of its own

-- bare ones have the property, and each of the others has it by what is known of the instruction that it is made of
pub record IsKept (Q : VmInsn → Type 0) (P : TempInsn → Type 0) : Type 0 where
  pub bare : (z : TempInsn) → is_bare z ≡ true → P z
  pub address : (d : ℕ) (place : VmObject) (plus : ℕ) → Q (x.LoadAddress d place plus) → P (i.ObjectAddress (temp_of d) place plus)
  pub branch : (op : VmBranchOp) (ty : VmType) (a block : ℕ) → Q (x.Branch op ty a block) → P (i.Branch (temp_branch op) (temp_of a) block)
  pub jump : (block : ℕ) → Q (x.Jump block) → P (i.Jump block)
  pub argument : (d : Option ℕ) (k : ℕ) (arguments : List ℕ) → Q (x.Call d (callee.Function k) arguments) → (number t : ℕ) → number + 6 < length arguments → P (i.WriteArgument number t)
  pub call : (d : Option ℕ) (k : ℕ) (arguments : List ℕ) → Q (x.Call d (callee.Function k) arguments) → P (i.Call k (length arguments))
  pub returns : (value : Option TypedRegister) (with_value : Bool) → Q (x.Return value) → P (i.Return with_value)

module _ (Q : VmInsn → Type 0) (P : TempInsn → Type 0) (kept : IsKept Q P) where
  bare_code : (xs : List TempInsn) → are_bare xs ≡ true → All P xs
  bare_code [] e = All-nil P
  bare_code (z ∷ xs) e =
      let p = and_parts (is_bare z) (are_bare xs) e in
      All-cons P z xs (kept.bare z p.0) (bare_code xs p.1)

  one_code : (z : TempInsn) → P z → All P (z ∷ [])
  one_code z h = All-cons P z [] h (All-nil P)

  -- arguments are passed, and parameters taken, so many as there are
  pass_code : (count : ℕ) → ((number t : ℕ) → number + 6 < count → P (i.WriteArgument number t)) → (k t : ℕ) → k < count → P (pass_item k t)
  pass_code count write k t lt = by_test (nat_lt k 6) refl
    where
      by_test : (b : Bool) → nat_lt k 6 ≡ b → P (if b then i.ToFixed (argument_register k) t else i.WriteArgument (k - 6) t)
      by_test true e = kept.bare (i.ToFixed (argument_register k) t) refl
      by_test false e = write (k - 6) t (omega (arith, ltb-false k 6 e, lt))

  passes_code : (count : ℕ) → ((number t : ℕ) → number + 6 < count → P (i.WriteArgument number t)) → (k : ℕ) (arguments : List ℕ) → k + length arguments ≤ count → All P (pass_items k arguments)
  passes_code count write k [] le = All-nil P
  passes_code count write k (a ∷ arguments) le =
      All-cons P (pass_item k (temp_of a)) (pass_items (suc k) arguments) (pass_code count write k (temp_of a) (omega (arith, le)))
      (passes_code count write (suc k) arguments (omega (arith, le)))

  take_code : (count : ℕ) → ((number t : ℕ) → number + 6 < count → P (i.ReadArgument t number)) → (k t : ℕ) → k < count → P (take_item k t)
  take_code count read k t lt = by_test (nat_lt k 6) refl
    where
      by_test : (b : Bool) → nat_lt k 6 ≡ b → P (if b then i.FromFixed t (argument_register k) else i.ReadArgument t (k - 6))
      by_test true e = kept.bare (i.FromFixed t (argument_register k)) refl
      by_test false e = read (k - 6) t (omega (arith, ltb-false k 6 e, lt))

  takes_code : (count : ℕ) → ((number t : ℕ) → number + 6 < count → P (i.ReadArgument t number)) → (k rest : ℕ) → k + rest ≤ count → All P (take_items k rest)
  takes_code count read k zero le = All-nil P
  takes_code count read k (suc rest) le =
      All-cons P (take_item k (temp_of k)) (take_items (suc k) rest) (take_code count read k (temp_of k) (omega (arith, le))) (takes_code count read (suc k) rest (omega (arith, le)))

  return_code : (value : Option TypedRegister) → Q (x.Return value) → All P (return_items value)
  return_code None q = one_code (i.Return false) (kept.returns None false q)
  return_code (Some value) q =
      All-cons P (i.ToFixed Value (temp_of value.register)) (i.Return true ∷ []) (kept.bare (i.ToFixed Value (temp_of value.register)) refl)
      (one_code (i.Return true) (kept.returns (Some value) true q))

  form_code : (y : VmInsn) → CodeForm y → Q y → All P (selected_insn y)
  form_code y (HasBareCode z bare) q = bare_code (selected_insn y) bare
  form_code y (LoadsAddress d place plus) q = one_code (i.ObjectAddress (temp_of d) place plus) (kept.address d place plus q)
  form_code y (Branches op ty a block) q = one_code (i.Branch (temp_branch op) (temp_of a) block) (kept.branch op ty a block q)
  form_code y (Jumps block) q = one_code (i.Jump block) (kept.jump block q)
  form_code y (Calls d k arguments) q =
      All-append P (pass_items 0 arguments) (i.Call k (length arguments) ∷ result_items d) (passes_code (length arguments) (kept.argument d k arguments q) 0 arguments (omega arith))
      (All-cons P (i.Call k (length arguments)) (result_items d) (kept.call d k arguments q) (bare_code (result_items d) (result_bare d)))
  form_code y (Returns value) q = return_code value q

  pub insns_kept : (insns : List VmInsn) → All Q insns → All P (selected_insns insns)
  insns_kept insns h = all_insns Q (All P) (All-nil P) (All-append P) (λ y q. form_code y (code_form y) q) insns h

  -- the code that takes the parameters reads the argument places of this call
  pub parameters_kept : (params : ℕ) → ((number t : ℕ) → number + 6 < params → P (i.ReadArgument t number)) → All P (parameter_items params)
  parameters_kept params read = takes_code params read 0 params (omega arith)

  pub blocks_kept : (params : ℕ) → ((number t : ℕ) → number + 6 < params → P (i.ReadArgument t number)) → (blocks : List (List VmInsn)) → All (All Q) blocks → All (All P) (selected_blocks params blocks)
  blocks_kept params read blocks h =
      all_blocks (All Q) (All P) insns_kept params
      (λ insns g. All-append P (parameter_items params) (selected_insns insns) (parameters_kept params read) (insns_kept insns g)) blocks h
