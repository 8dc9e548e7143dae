-- Which types may be declared: those that are no deeper than the limit.
use Rattle.std.specs.Prelude.{ℕ, nat_le, Bool, ◌&&◌, List}
use Rattle.std.specs.List.{list_all}
use Rattle.c_typed_tree.specs.declared.types.CType.{CType}
use Rattle.c_typed_tree.specs.declared.types.StructDef.{StructDef}
use Rattle.c_typed_tree.specs.Typing.{depth_of, most_depth}
use Rattle.c_typed_tree.specs.View.{type_view}
use Rattle.c_typing_rules.specs.declared.c_typing_declared_types.declared.DeclaredType.{DeclaredType}
use Rattle.c_typing_rules.specs.declared.c_typing_declared_types.declared.DeclaredType.TheVariants as d

abbrev pub is_deep_at_most : List StructDef → ℕ → CType → Bool
is_deep_at_most ds most ty = nat_le (depth_of ds (type_view ty)) most

-- an array without a length and a function are one deeper than the deepest of their parts
abbrev pub is_declarable : List StructDef → DeclaredType → Bool
is_declarable ds (d.Value ty) = is_deep_at_most ds most_depth ty
is_declarable ds (d.Unsized element) = is_deep_at_most ds 255 element
is_declarable ds (d.Function of parameters) =
    is_deep_at_most ds 255 of && list_all (is_deep_at_most ds 255) parameters
