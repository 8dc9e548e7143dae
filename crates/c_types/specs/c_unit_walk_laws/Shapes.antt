-- What types of functions that are declared look like (C99 6.7.5.3): they give nothing or a scalar, and take scalars.
use Rattle.std.specs.Prelude.{◌≡◌, ℕ, Bool, true, false, ◌||◌, ◌&&◌, IsTrue, List, Some}
use Rattle.std.specs.List.{list_all}
use Rattle.c_typed_tree.specs.declared.types.CType.{CType}
use Rattle.c_typed_tree.specs.Types.{PlainType, Void, Int, Pointer, Array, Struct}
use Rattle.c_typed_tree.specs.Typing.{is_void, is_scalar}
use Rattle.c_typed_tree.specs.View.{type_view}
use Rattle.c_typing_rules.specs.declared.c_typing_declared_types.declared.DeclaredType.{DeclaredType}
use Rattle.c_typing_rules.specs.declared.c_typing_declared_types.declared.DeclaredType.TheVariants as d
use Rattle.c_typing_state.specs.declared.env.Env.{Env}
use Rattle.c_typing_state.specs.declared.meanings.NameMeaning.TheVariants as m
use Rattle.c_typing_state.specs.Scopes.{meaning_of}

-- an integer type, of whatever size, or a pointer
abbrev pub is_word_type : PlainType → Bool
is_word_type Void = false
is_word_type (Int bytes signed) = true
is_word_type (Pointer target) = true
is_word_type (Array element length) = false
is_word_type (Struct number) = false

abbrev pub is_parameter_type : CType → Bool
is_parameter_type ty = is_word_type (type_view ty)

abbrev pub is_result_type : CType → Bool
is_result_type ty = is_void (type_view ty) || is_scalar (type_view ty)

abbrev pub is_shaped : DeclaredType → Bool
is_shaped (d.Value ty) = true
is_shaped (d.Unsized element) = true
is_shaped (d.Function of parameters) = is_result_type of && list_all is_parameter_type parameters

-- so it is of the types that typedef names mean
abbrev pub HasShapes : Env → Type 0
HasShapes env = (name : List ℕ) (ty : DeclaredType) → meaning_of env name ≡ Some (m.Typedef ty) → IsTrue (is_shaped ty)
