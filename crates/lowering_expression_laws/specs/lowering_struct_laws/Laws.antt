-- What is said of the code of arrays that become pointers (C99 6.3.2.1) and of assignments of structs (6.5.16.1).
use Rattle.std.specs.Prelude.{◌≡◌, ℕ, slice_get, Some, None}
use Rattle.c_tree.specs.declared.expressions.AssignOp.TheVariants as a
use Rattle.c_typed_tree.specs.Types.{PlainType, Pointer, Array, Struct}
use Rattle.c_typed_tree.specs.Expressions.{Expr, Assign, Cast, Convert, type_of}
use Rattle.lowering_code.specs.Expressions.{register_of}
use Rattle.lowering_expression_laws.specs.Parts.{Setting, first_depth, ExprMeets}
use Rattle.lowering_expression_laws.specs.lowering_place_laws.Places.{PlaceMeets}
use Rattle.lowering_expression_laws.specs.lowering_access_laws.Laws.{IsWholeStruct}

pub record StructsAndArrays (c : Setting) : Type 0 where
  pub conversions : (target element : PlainType) (n : ℕ) (x : Expr) → type_of x ≡ Array element n → PlaceMeets c x
      → ExprMeets c (Convert (Pointer target) x)
  pub casts : (target element : PlainType) (n : ℕ) (x : Expr) → type_of x ≡ Array element n → PlaceMeets c x
      → ExprMeets c (Cast (Pointer target) x)
  pub structs : (number : ℕ) (x y : Expr) → register_of (first_depth c) c.structs c.locals x ≡ None
      → type_of y ≡ Struct number → IsWholeStruct c number → PlaceMeets c x → ExprMeets c y
      → ExprMeets c (Assign (Struct number) a.Set x y)

abbrev pub StructsAndArraysMeet : Type 0
StructsAndArraysMeet = (c : Setting) → slice_get c.functions c.number ≡ Some c.code → StructsAndArrays c
