-- What is said of the code of pointers that are moved by elements, and of elements (C99 6.5.2.1, 6.5.6).
use Rattle.std.specs.Prelude.{◌≡◌, ◌≤◌, slice_get, Some}
use Rattle.mem_objects.specs.declared.TheConstants.{MOST_DATA}
use Rattle.bk_arithmetic.specs.declared.integer_type.IntegerType.{IntegerType}
use Rattle.bk_arithmetic.specs.declared.integer_type.IntegerType.TheVariants as i
use Rattle.c_tree.specs.declared.expressions.BinaryOp.TheVariants as b
use Rattle.c_typed_tree.specs.Types.{PlainType, Pointer}
use Rattle.c_typed_tree.specs.Layout.{size_of}
use Rattle.c_typed_tree.specs.Expressions.{Expr, Binary, Index, type_of}
use Rattle.lowering_code.specs.Expressions.{plain_of}
use Rattle.lowering_expression_laws.specs.Parts.{Setting, ExprMeets}
use Rattle.lowering_expression_laws.specs.lowering_place_laws.Places.{PlaceMeets}
use Rattle.lowering_expression_laws.specs.lowering_place_laws.Laws.{HasWholeIntegers}

pub record Pointers (c : Setting) : Type 0 where
  pub sums : (target : PlainType) (t : IntegerType) (x y : Expr) → size_of c.structs target ≤ MOST_DATA
      → type_of x ≡ Pointer target → type_of y ≡ plain_of t → ExprMeets c x → ExprMeets c y
      → ExprMeets c (Binary (Pointer target) b.Add x y)
  pub differences : (target : PlainType) (t : IntegerType) (x y : Expr) → size_of c.structs target ≤ MOST_DATA
      → type_of x ≡ Pointer target → type_of y ≡ plain_of t → ExprMeets c x → ExprMeets c y
      → ExprMeets c (Binary (Pointer target) b.Subtract x y)
  -- what stands at an element, and its place
  pub elements : (ty target : PlainType) (t : IntegerType) (x y : Expr) → HasWholeIntegers ty
      → size_of c.structs target ≤ MOST_DATA → type_of x ≡ Pointer target → type_of y ≡ plain_of t → ExprMeets c x
      → ExprMeets c y → ExprMeets c (Index ty x y)
  pub places : (ty target : PlainType) (t : IntegerType) (x y : Expr) → size_of c.structs target ≤ MOST_DATA
      → type_of x ≡ Pointer target → type_of y ≡ plain_of t → ExprMeets c x → ExprMeets c y
      → PlaceMeets c (Index ty x y)

abbrev pub PointersAreMoved : Type 0
PointersAreMoved = (c : Setting) → slice_get c.functions c.number ≡ Some c.code → Pointers c

-- two pointers are compared (C99 6.5.8, 6.5.9)
pub record Comparisons (c : Setting) (x y : Expr) : Type 0 where
  pub less : ExprMeets c (Binary (plain_of i.Int) b.Less x y)
  pub greater : ExprMeets c (Binary (plain_of i.Int) b.Greater x y)
  pub less_or_equal : ExprMeets c (Binary (plain_of i.Int) b.LessEqual x y)
  pub greater_or_equal : ExprMeets c (Binary (plain_of i.Int) b.GreaterEqual x y)
  pub equal : ExprMeets c (Binary (plain_of i.Int) b.Equal x y)
  pub not_equal : ExprMeets c (Binary (plain_of i.Int) b.NotEqual x y)

abbrev pub PointersAreCompared : Type 0
PointersAreCompared =
    (c : Setting) → slice_get c.functions c.number ≡ Some c.code → (target other : PlainType) (x y : Expr) →
    type_of x ≡ Pointer target → type_of y ≡ Pointer other → ExprMeets c x → ExprMeets c y → Comparisons c x y

-- the distance of two pointers in elements (C99 6.5.6)
abbrev pub DistancesMeet : Type 0
DistancesMeet =
    (c : Setting) → slice_get c.functions c.number ≡ Some c.code → (target other : PlainType) (x y : Expr) →
    size_of c.structs target ≤ MOST_DATA → type_of x ≡ Pointer target → type_of y ≡ Pointer other → ExprMeets c x →
    ExprMeets c y → ExprMeets c (Binary (plain_of i.Long) b.Subtract x y)

-- the same where the left operand is the integer: sums and elements
pub record PointersAbove (c : Setting) : Type 0 where
  pub sums : (target : PlainType) (t : IntegerType) (x y : Expr) → size_of c.structs target ≤ MOST_DATA
      → type_of x ≡ plain_of t → type_of y ≡ Pointer target → ExprMeets c x → ExprMeets c y
      → ExprMeets c (Binary (Pointer target) b.Add x y)
  pub elements : (ty target : PlainType) (t : IntegerType) (x y : Expr) → HasWholeIntegers ty
      → size_of c.structs target ≤ MOST_DATA → type_of x ≡ plain_of t → type_of y ≡ Pointer target → ExprMeets c x
      → ExprMeets c y → ExprMeets c (Index ty x y)
  pub places : (ty target : PlainType) (t : IntegerType) (x y : Expr) → size_of c.structs target ≤ MOST_DATA
      → type_of x ≡ plain_of t → type_of y ≡ Pointer target → ExprMeets c x → ExprMeets c y
      → PlaceMeets c (Index ty x y)

abbrev pub PointersAboveAreMoved : Type 0
PointersAboveAreMoved = (c : Setting) → slice_get c.functions c.number ≡ Some c.code → PointersAbove c
