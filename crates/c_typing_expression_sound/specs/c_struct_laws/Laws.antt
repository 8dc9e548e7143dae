-- The structs that bodies declare are lawful (C99 6.7.2.1).
use Rattle.std.specs.Prelude.{◌≡◌, ℕ, IsTrue, List, [], ◌∷◌, Some}
use Rattle.c_typed_tree.specs.declared.types.StructDef.{StructDef}
use Rattle.c_typed_tree.specs.View.{type_view}
use Rattle.c_typed_tree.specs.Typing.{is_valid_type}
use Rattle.c_typed_tree.specs.Lawful.{IsLawfulStruct}
use Rattle.c_typing_judgements.specs.Leaves.{incomplete_struct}
use Rattle.c_typing_struct_layout.specs.declared.fields.Field.{Field}
use Rattle.c_typing_struct_bodies.specs.Structs.{struct_where}
use Rattle.c_typing_expression_sound.specs.c_type_laws.Typed.{AreKnown}

-- the types of members are those of a list of structs
abbrev pub HaveTypes : List StructDef → List Field → Type 0
HaveTypes structs [] = Unit {0}
HaveTypes structs (f ∷ fs) = IsTrue (is_valid_type structs (type_view f.ty)) × HaveTypes structs fs

-- what the end of a body makes of its members is a lawful struct among the structs of the unit, if it makes one
abbrev pub StructIsLawful : Type 0
StructIsLawful =
    (known structs : List StructDef) (tag : List ℕ) (fields : List Field) (d : StructDef) →
    AreKnown structs known → HaveTypes known fields →
    struct_where structs tag fields ≡ Some d → IsLawfulStruct known d

abbrev pub NewStructIsLawful : Type 0
NewStructIsLawful = (known : List StructDef) (name : List ℕ) → IsLawfulStruct known (incomplete_struct name)
