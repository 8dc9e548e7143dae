-- What is said of the code of places, and of what stands there.
use Rattle.std.specs.Prelude.{◌≡◌, ◌+◌, ◌<◌, ◌≤◌, ℕ, true, slice_get, Some}
use Rattle.mem_objects.specs.declared.TheConstants.{MOST_DATA}
use Rattle.bk_arithmetic.specs.declared.integer_type.IntegerType.{IntegerType}
use Rattle.c_tree.specs.declared.expressions.UnaryOp.TheVariants as u
use Rattle.c_typed_tree.specs.declared.units.Local.{Local}
use Rattle.c_typed_tree.specs.Types.{PlainType, Void, Int, Pointer, Array, Struct}
use Rattle.c_typed_tree.specs.Layout.{size_of}
use Rattle.c_typed_tree.specs.Expressions.{Expr, Global, Unary, Field, Arrow, type_of}
use Rattle.c_typed_tree.specs.Expressions as e
use Rattle.c_semantics.specs.Objects.{offset_of}
use Rattle.lowering_code.specs.Expressions.{plain_of}
use Rattle.lowering_expression_laws.specs.Parts.{Setting, ExprMeets}
use Rattle.lowering_expression_laws.specs.lowering_place_laws.Places.{PlaceMeets}

-- the member of a struct lies within it, and the struct is no larger than the data may be
pub record MemberIsWithin (c : Setting) (struct : PlainType) (member : ℕ) (ty : PlainType) : Type 0 where
  pub lies : offset_of c.structs struct member + size_of c.structs ty ≤ size_of c.structs struct
  pub size : size_of c.structs struct ≤ MOST_DATA

-- the code of each of these places does what the place does, where that of its parts does
pub record EachPlaceMeets (c : Setting) : Type 0 where
  pub statics : (ty : PlainType) (k : ℕ) → k < c.statics → PlaceMeets c (Global ty k)
  pub locals : (ty : PlainType) (k : ℕ) (l : Local) → slice_get c.locals k ≡ Some l → l.in_memory ≡ true
      → PlaceMeets c (e.Local ty k)
  pub targets : (ty target : PlainType) (x : Expr) → type_of x ≡ Pointer target → ExprMeets c x
      → PlaceMeets c (Unary ty u.Dereference x)
  pub members : (ty : PlainType) (x : Expr) (member : ℕ) → MemberIsWithin c (type_of x) member ty → PlaceMeets c x
      → PlaceMeets c (Field ty x member)
  pub arrows : (ty target : PlainType) (x : Expr) (member : ℕ) → type_of x ≡ Pointer target
      → MemberIsWithin c target member ty → ExprMeets c x → PlaceMeets c (Arrow ty x member)

abbrev pub PlacesMeet : Type 0
PlacesMeet = (c : Setting) → slice_get c.functions c.number ≡ Some c.code → EachPlaceMeets c

-- an object's type, whose integers have a size and a sign that there is
abbrev pub HasWholeIntegers : PlainType → Type 0
HasWholeIntegers Void = Unit {0}
HasWholeIntegers (Int bytes signed) = (t : IntegerType) × (Int bytes signed ≡ plain_of t)
HasWholeIntegers (Pointer target) = Unit {0}
HasWholeIntegers (Array element n) = Unit {0}
HasWholeIntegers (Struct n) = Unit {0}

pub record Accesses (c : Setting) : Type 0 where
  pub statics : (ty : PlainType) (k : ℕ) → HasWholeIntegers ty → k < c.statics → ExprMeets c (Global ty k)
  pub targets : (ty target : PlainType) (x : Expr) → HasWholeIntegers ty → type_of x ≡ Pointer target → ExprMeets c x
      → ExprMeets c (Unary ty u.Dereference x)
  pub members : (ty : PlainType) (x : Expr) (member : ℕ) → HasWholeIntegers ty → MemberIsWithin c (type_of x) member ty
      → PlaceMeets c x → ExprMeets c (Field ty x member)
  pub arrows : (ty target : PlainType) (x : Expr) (member : ℕ) → HasWholeIntegers ty → type_of x ≡ Pointer target
      → MemberIsWithin c target member ty → ExprMeets c x → ExprMeets c (Arrow ty x member)
  pub addresses : (target : PlainType) (x : Expr) → PlaceMeets c x
      → ExprMeets c (Unary (Pointer target) u.Address x)

abbrev pub AccessesMeet : Type 0
AccessesMeet = (c : Setting) → slice_get c.functions c.number ≡ Some c.code → Accesses c
