-- Types that names and declarators give, in a context.
use Rattle.std.specs.Prelude.{IsTrue, List, [], ◌∷◌}
use Rattle.c_typed_tree.specs.declared.types.CType.{CType}
use Rattle.c_typed_tree.specs.declared.types.StructDef.{StructDef}
use Rattle.c_typed_tree.specs.View.{type_view}
use Rattle.c_typed_tree.specs.Typing.{Context, is_valid_type}
use Rattle.c_typing_rules.specs.declared.c_typing_declared_types.declared.DeclaredType.{DeclaredType}
use Rattle.c_typing_rules.specs.declared.c_typing_declared_types.declared.DeclaredType.TheVariants as d
use Rattle.c_typing_scopes.specs.Names.{Entry}
use Rattle.c_typing_state.specs.declared.meanings.NameMeaning.{NameMeaning}
use Rattle.c_typing_state.specs.declared.meanings.NameMeaning.TheVariants as m

abbrev pub AreTypes : List StructDef → List CType → Type 0
AreTypes structs [] = Unit {0}
AreTypes structs (ty ∷ tys) = IsTrue (is_valid_type structs (type_view ty)) × AreTypes structs tys

-- all parts of the type are there
abbrev pub IsTypeIn : Context → DeclaredType → Type 0
IsTypeIn c (d.Value ty) = IsTrue (is_valid_type c.structs (type_view ty))
IsTypeIn c (d.Unsized element) = IsTrue (is_valid_type c.structs (type_view element))
IsTypeIn c (d.Function result parameters) = IsTrue (is_valid_type c.structs (type_view result))
    × AreTypes c.structs parameters

-- so it is of each typedef name
abbrev pub IsTypedefIn : Context → NameMeaning → Type 0
IsTypedefIn c m.Faulty = Unit {0}
IsTypedefIn c (m.Undefined number) = Unit {0}
IsTypedefIn c (m.Local number ty) = Unit {0}
IsTypedefIn c (m.Object number ty) = Unit {0}
IsTypedefIn c (m.Constant word) = Unit {0}
IsTypedefIn c (m.Function callee result parameters) = Unit {0}
IsTypedefIn c (m.Typedef ty) = IsTypeIn c ty

abbrev pub HasTypedefs : Context → List (Entry NameMeaning) → Type 0
HasTypedefs c [] = Unit {0}
HasTypedefs c (x ∷ xs) = IsTypedefIn c x.value × HasTypedefs c xs
