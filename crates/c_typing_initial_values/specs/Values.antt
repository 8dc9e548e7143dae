-- The values that initialisers of objects of static storage may have (C99 6.6, 6.7.8): integer constants, null pointers,
-- and address constants.
use Rattle.std.specs.Prelude.{ℕ, if◌then◌else◌, List, Option, Some, None, Ok}
use Rattle.bk_arithmetic.specs.declared.integer_type.IntegerType.{IntegerType}
use Rattle.c_typed_tree.specs.declared.types.StructDef.{StructDef}
use Rattle.c_typed_tree.specs.Expressions.{Expr}
use Rattle.c_typed_tree.specs.View.{expr_view}
use Rattle.c_typed_tree.specs.Constants.{constant}
use Rattle.c_typing_constants.specs.Null.{is_null_pointer}
use Rattle.c_typing_constants.specs.declared.c_constant_rules.addresses.Address.{Address}
use Rattle.c_typing_constants.specs.c_constant_rules.Addresses.{address_constant}
use Rattle.c_typing_faults.specs.declared.faults.Kind.TheVariants.{NotConstant}
use Rattle.c_typing_rules.specs.declared.typed.TypedExpression.{TypedExpression}
use Rattle.c_typing_rules.specs.Rulings.{Ruling, fault}
use Rattle.c_typing_rules.specs.Values.{integer}
use Rattle.c_typing_initial_values.specs.declared.values.InitialValue.{InitialValue}
use Rattle.c_typing_initial_values.specs.declared.values.InitialValue.TheVariants as v

abbrev pub word_value : IntegerType → Option ℕ → Option InitialValue
word_value t None = None
word_value t (Some word) = Some (v.Word t word)

abbrev pub address_value : Option Address → Option InitialValue
address_value None = None
address_value (Some a) = Some (v.Address a)

abbrev pub pointer_value : List StructDef → Expr → Option InitialValue
pointer_value ds x = if is_null_pointer x then Some v.Null else address_value (address_constant ds x)

-- by the integer type that an expression has, if it has one
abbrev pub value_by : List StructDef → Option IntegerType → Expr → Option InitialValue
value_by ds None x = pointer_value ds x
value_by ds (Some t) x = word_value t (constant x)

abbrev pub initial_or_fault : ℕ → Option InitialValue → Ruling InitialValue
initial_or_fault at None = fault at NotConstant
initial_or_fault at (Some value) = Ok value

-- the value of an expression, of which an array is a pointer already
abbrev pub initial_value : List StructDef → TypedExpression → Ruling InitialValue
initial_value ds a = initial_or_fault a.at (value_by ds (integer a) (expr_view a.tree))
