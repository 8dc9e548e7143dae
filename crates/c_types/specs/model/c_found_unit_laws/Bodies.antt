-- Which names have a body.
use Rattle.std.specs.Prelude.{ℕ, Bool, true, false, not, ◌&&◌, List, Option, Some, None}
use Rattle.c_typing_scopes.specs.Names.{find}
use Rattle.c_typing_rules.specs.declared.c_typing_declared_types.declared.DeclaredType.{DeclaredType}
use Rattle.c_typing_rules.specs.declared.c_typing_declared_types.declared.DeclaredType.TheVariants as d
use Rattle.c_typing_unit_names.specs.declared.names.NameDeclaration.{NameDeclaration}
use Rattle.c_typing_unit_names.specs.declared.names.UnitNames.{UnitNames}

abbrev pub is_function_type : DeclaredType → Bool
is_function_type (d.Value ty) = false
is_function_type (d.Unsized ty) = false
is_function_type (d.Function of parameters) = true

abbrev pub is_body : NameDeclaration → Bool
is_body a = not a.is_typedef && a.has_value && is_function_type a.ty

abbrev pub is_body_in : Option (ℕ × NameDeclaration) → Bool
is_body_in None = false
is_body_in (Some r) = is_body r.1

-- a function whose body was judged
abbrev pub has_body : List ℕ → UnitNames → Bool
has_body name u = is_body_in (find name u.declared)
