-- Both kinds of places, for integers and for pointers.
use Rattle.std.proofs.Common.{◌≡◌, ◌≤◌, Some, refl, sym, subst, inl, inr}
use Rattle.std.specs.Prelude.{slice_get}
use Rattle.mem_objects.specs.declared.TheConstants.{MOST_DATA}
use Rattle.bk_arithmetic.specs.declared.integer_type.IntegerType.{IntegerType}
use Rattle.bk_arithmetic.specs.IntegerTypes.{promote}
use Rattle.c_tree.specs.declared.expressions.AssignOp.{AssignOp}
use Rattle.c_tree.specs.declared.expressions.BinaryOp.{BinaryOp}
use Rattle.c_tree.specs.declared.expressions.StepOp.{StepOp}
use Rattle.c_tree.specs.declared.expressions.StepOp.TheVariants as step
use Rattle.c_typed_tree.specs.Types.{PlainType, Pointer}
use Rattle.c_typed_tree.specs.Layout.{size_of}
use Rattle.c_semantics.specs.Operators.{operator_of, operation_type, step_operator}
use Rattle.lowering_code.specs.Expressions.{plain_of}
use Rattle.lowering_expression_laws.specs.Parts.{Setting}
use Rattle.lowering_expression_laws.specs.Laws.{IsScalarType}
use Rattle.lowering_expression_laws.specs.lowering_change_laws.Laws.{change_operator, RegistersAreChanged, MemoryIsChanged}
use Rattle.lowering_expression_laws.proofs.LoweringChangeLaws.Leads.{CombinesLead, StepsLead, gives_its_type, integers_combine, integers_step, pointers_combine, pointers_step}
use Rattle.lowering_expression_laws.proofs.LoweringChangeLaws.Registers as r
use Rattle.lowering_expression_laws.proofs.LoweringChangeLaws.Memory as m

moving_operator : (op : StepOp) → operator_of (change_operator op) ≡ Some (step_operator op)
moving_operator step.Increment = refl
moving_operator step.Decrement = refl

module _ (c : Setting) (found : slice_get c.functions c.number ≡ Some c.code) (ty : PlainType) where
  module _ (left : IntegerType) (te : ty ≡ plain_of left) where
    integer : IsScalarType ty
    integer = inl (left, te)

    combines : (op : AssignOp) (o : BinaryOp) (right : IntegerType) → operator_of op ≡ Some o → promote (operation_type o left right) ≡ operation_type o left right → CombinesLead c o ty (plain_of right)
    combines op o right eo pt = subst (λ z. CombinesLead c o z (plain_of right)) (sym te) (integers_combine c found o left right pt (gives_its_type op o (operation_type o left right) eo))

    steps : (op : StepOp) → StepsLead c op ty
    steps op = subst (λ z. StepsLead c op z) (sym te) (integers_step c found op left)

  module _ (target : PlainType) (te : ty ≡ Pointer target) (le : size_of c.structs target ≤ MOST_DATA) where
    pointer : IsScalarType ty
    pointer = inr (target, te)

    moves : (op : StepOp) (right : IntegerType) → CombinesLead c (step_operator op) ty (plain_of right)
    moves op right = subst (λ z. CombinesLead c (step_operator op) z (plain_of right)) (sym te) (pointers_combine c found target le op right)

    pointer_steps : (op : StepOp) → StepsLead c op ty
    pointer_steps op = subst (λ z. StepsLead c op z) (sym te) (pointers_step c found target le op)

pub registers_are_changed : RegistersAreChanged
registers_are_changed c found ty k h = record {
  integers = λ left te op o right y eo ey pt hy.
      r.assignments c found ty (integer c found ty left te) k h.local h.is_there h.in_register h.is_of_type op o (plain_of right) y eo ey (combines c found ty left te op o right eo pt) hy;
  integer_steps = λ left te. record {
    increments = r.increments c found ty (integer c found ty left te) k h.local h.is_there h.in_register h.is_of_type (steps c found ty left te step.Increment);
    decrements = r.decrements c found ty (integer c found ty left te) k h.local h.is_there h.in_register h.is_of_type (steps c found ty left te step.Decrement);
    postfixes = λ op. r.postfixes c found ty (integer c found ty left te) k h.local h.is_there h.in_register h.is_of_type op (steps c found ty left te op);
  };
  pointers = λ target te le op right y ey hy.
      r.assignments c found ty (pointer c found ty target te le) k h.local h.is_there h.in_register h.is_of_type (change_operator op) (step_operator op) (plain_of right) y (moving_operator op) ey (moves c found ty target te le op right) hy;
  pointer_steps = λ target te le. record {
    increments = r.increments c found ty (pointer c found ty target te le) k h.local h.is_there h.in_register h.is_of_type (pointer_steps c found ty target te le step.Increment);
    decrements = r.decrements c found ty (pointer c found ty target te le) k h.local h.is_there h.in_register h.is_of_type (pointer_steps c found ty target te le step.Decrement);
    postfixes = λ op. r.postfixes c found ty (pointer c found ty target te le) k h.local h.is_there h.in_register h.is_of_type op (pointer_steps c found ty target te le op);
  };
}

pub memory_is_changed : MemoryIsChanged
memory_is_changed c found ty x none hx = record {
  integers = λ left te op o right y eo ey pt hy. m.assignments c found ty (integer c found ty left te) op o (plain_of right) x y eo none ey (combines c found ty left te op o right eo pt) hx hy;
  integer_steps = λ left te. record {
    increments = m.increments c found ty (integer c found ty left te) x none hx (steps c found ty left te step.Increment);
    decrements = m.decrements c found ty (integer c found ty left te) x none hx (steps c found ty left te step.Decrement);
    postfixes = λ op. m.postfixes c found ty (integer c found ty left te) x none hx op (steps c found ty left te op);
  };
  pointers = λ target te le op right y ey hy. m.assignments c found ty (pointer c found ty target te le) (change_operator op) (step_operator op) (plain_of right) x y (moving_operator op) none ey (moves c found ty target te le op right) hx hy;
  pointer_steps = λ target te le. record {
    increments = m.increments c found ty (pointer c found ty target te le) x none hx (pointer_steps c found ty target te le step.Increment);
    decrements = m.decrements c found ty (pointer c found ty target te le) x none hx (pointer_steps c found ty target te le step.Decrement);
    postfixes = λ op. m.postfixes c found ty (pointer c found ty target te le) x none hx op (pointer_steps c found ty target te le op);
  };
}
