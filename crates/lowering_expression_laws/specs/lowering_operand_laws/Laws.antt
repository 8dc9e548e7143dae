-- What is said of the code of commas, of `!`, and of conversions to void and between pointers.
use Rattle.std.specs.Prelude.{◌≡◌, slice_get, Some}
use Rattle.bk_arithmetic.specs.declared.integer_type.IntegerType.TheVariants as i
use Rattle.c_tree.specs.declared.expressions.UnaryOp.TheVariants as u
use Rattle.c_typed_tree.specs.Types.{PlainType, Void, Pointer}
use Rattle.c_typed_tree.specs.Expressions.{Expr, Unary, Cast, Convert, Comma, Exprs, no_exprs, more_exprs, type_of}
use Rattle.lowering_code.specs.Expressions.{plain_of}
use Rattle.lowering_expression_laws.specs.Parts.{Setting, ExprMeets}
use Rattle.lowering_expression_laws.specs.Laws.{IsScalarType}

-- the type of the last operand of commas, of which the first one is given
abbrev pub last_type : Expr → Exprs → PlainType
last_type x no_exprs = type_of x
last_type x (more_exprs y ys) = last_type y ys

abbrev pub AllOperandsMeet : Setting → Exprs → Type 0
AllOperandsMeet c no_exprs = Unit {0}
AllOperandsMeet c (more_exprs x xs) = ExprMeets c x × AllOperandsMeet c xs

pub record OperandForms (c : Setting) : Type 0 where
  pub commas : (ty : PlainType) (x : Expr) (xs : Exprs) → last_type x xs ≡ ty → ExprMeets c x → AllOperandsMeet c xs
      → ExprMeets c (Comma ty (more_exprs x xs))
  pub nots : (x : Expr) → IsScalarType (type_of x) → ExprMeets c x → ExprMeets c (Unary (plain_of i.Int) u.Not x)
  pub drops : (x : Expr) → IsScalarType (type_of x) → ExprMeets c x → ExprMeets c (Cast Void x)
  pub pointers : (from to : PlainType) (x : Expr) → type_of x ≡ Pointer from → ExprMeets c x
      → ExprMeets c (Convert (Pointer to) x)
  pub pointer_casts : (from to : PlainType) (x : Expr) → type_of x ≡ Pointer from → ExprMeets c x
      → ExprMeets c (Cast (Pointer to) x)

abbrev pub OperandsMeet : Type 0
OperandsMeet = (c : Setting) → slice_get c.functions c.number ≡ Some c.code → OperandForms c
