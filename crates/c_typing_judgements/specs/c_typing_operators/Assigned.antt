-- Assignments (C99 6.5.16): the left side is a place, and the right one a value.
use Rattle.std.specs.Prelude.{ℕ, List}
use Rattle.c_tree.specs.declared.expressions.AssignOp.{AssignOp}
use Rattle.c_tree.specs.declared.expressions.AssignOp.TheVariants as o
use Rattle.c_typed_tree.specs.declared.types.StructDef.{StructDef}
use Rattle.c_typing_rules.specs.declared.typed.TypedExpression.{TypedExpression}
use Rattle.c_typing_rules.specs.Rulings.{Ruling}
use Rattle.c_typing_rules.specs.Conversions.{decay}
use Rattle.c_typing_place_rules.specs.Assignments.{set, compound}
use Rattle.c_typing_judgements.specs.c_typing_operators.Null.{is_null_for}

abbrev pub set_with_null : ℕ → (left right : TypedExpression) → Ruling TypedExpression
set_with_null at x y = set at x y (is_null_for x.ty y)

abbrev pub assign_rvalue : List StructDef → ℕ → AssignOp → (left right : TypedExpression) → Ruling TypedExpression
assign_rvalue ds at o.Set x y = set_with_null at x y
assign_rvalue ds at o.Multiply x y = compound ds at o.Multiply x y
assign_rvalue ds at o.Divide x y = compound ds at o.Divide x y
assign_rvalue ds at o.Remainder x y = compound ds at o.Remainder x y
assign_rvalue ds at o.Add x y = compound ds at o.Add x y
assign_rvalue ds at o.Subtract x y = compound ds at o.Subtract x y
assign_rvalue ds at o.ShiftLeft x y = compound ds at o.ShiftLeft x y
assign_rvalue ds at o.ShiftRight x y = compound ds at o.ShiftRight x y
assign_rvalue ds at o.And x y = compound ds at o.And x y
assign_rvalue ds at o.Xor x y = compound ds at o.Xor x y
assign_rvalue ds at o.Or x y = compound ds at o.Or x y

abbrev pub assign : List StructDef → ℕ → AssignOp → (left right : TypedExpression) → Ruling TypedExpression
assign ds at op x y = assign_rvalue ds at op x (decay y)
