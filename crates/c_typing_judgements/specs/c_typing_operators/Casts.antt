-- Casts and sizes of types (C99 6.5.3.4, 6.5.4), by the type that a type name gives.
use Rattle.std.specs.Prelude.{ℕ, List}
use Rattle.c_typing_rules.specs.declared.c_typing_declared_types.declared.DeclaredType.{DeclaredType}
use Rattle.c_typing_rules.specs.declared.c_typing_declared_types.declared.DeclaredType.TheVariants as d
use Rattle.c_typed_tree.specs.declared.types.CType.{CType}
use Rattle.c_typed_tree.specs.declared.types.StructDef.{StructDef}
use Rattle.c_typing_faults.specs.declared.faults.Kind.TheVariants.{BadOperand, BadConversion}
use Rattle.c_typing_rules.specs.declared.typed.TypedExpression.{TypedExpression}
use Rattle.c_typing_rules.specs.Rulings.{Ruling, fault}
use Rattle.c_typing_rules.specs.Conversions.{decay, cast_ruling}
use Rattle.c_typing_place_rules.specs.Members.{size}
use Rattle.c_typing_judgements.specs.c_typing_operators.Null.{is_null_for}

abbrev pub cast_of : ℕ → CType → TypedExpression → Ruling TypedExpression
cast_of at to a = cast_ruling at to a (is_null_for to a)

abbrev pub cast_to_value : ℕ → CType → TypedExpression → Ruling TypedExpression
cast_to_value at to a = cast_of at to (decay a)

-- there are no casts to arrays and functions
abbrev pub cast_to : ℕ → DeclaredType → TypedExpression → Ruling TypedExpression
cast_to at (d.Value ty) a = cast_to_value at ty a
cast_to at (d.Unsized element) a = fault at BadConversion
cast_to at (d.Function result parameters) a = fault at BadConversion

abbrev pub size_of_type : List StructDef → ℕ → DeclaredType → Ruling TypedExpression
size_of_type ds at (d.Value ty) = size ds at ty
size_of_type ds at (d.Unsized element) = fault at BadOperand
size_of_type ds at (d.Function result parameters) = fault at BadOperand
