-- The types that specifiers give (C99 6.7.2). The body of a struct or enum is declared before, and is no part of this.
use Rattle.std.specs.Prelude.{ℕ, ◌==◌, if◌then◌else◌, false, List, [], Option, Some, None}
use Rattle.std.specs.Option.{option_map}
use Rattle.c_typing_scopes.specs.Names.{find}
use Rattle.bk_arithmetic.specs.declared.integer_type.IntegerType.TheVariants as i
use Rattle.c_tree.specs.declared.types.BasicType.{BasicType}
use Rattle.c_tree.specs.declared.types.BasicType.TheVariants as b
use Rattle.c_tree.specs.declared.types.TypeNode as t
use Rattle.c_tree.specs.declared.expressions.Expr.TheBlock as k
use Rattle.c_typing_rules.specs.declared.c_typing_declared_types.declared.DeclaredType.{DeclaredType}
use Rattle.c_typing_rules.specs.declared.c_typing_declared_types.declared.DeclaredType.TheVariants as d
use Rattle.c_typed_tree.specs.declared.types.CType as c
use Rattle.c_typed_tree.specs.declared.types.StructDef.{StructDef}
use Rattle.c_typing_faults.specs.declared.faults.Kind.{Kind}
use Rattle.c_typing_faults.specs.declared.faults.Kind.TheVariants.{UnknownName, Redeclared, BadType}
use Rattle.c_typing_rules.specs.Values.{type_of_integer}
use Rattle.c_typing_state.specs.declared.env.Env.{Env}
use Rattle.c_typing_state.specs.declared.meanings.NameMeaning.{NameMeaning}
use Rattle.c_typing_state.specs.declared.meanings.NameMeaning.TheVariants as m
use Rattle.c_typing_state.specs.declared.meanings.Tag.{Tag}
use Rattle.c_typing_state.specs.declared.meanings.Tag.TheVariants as g
use Rattle.c_typing_state.specs.declared.meanings.UntaggedStruct.{UntaggedStruct}
use Rattle.c_typing_state.specs.Checks.{Check, and_then, fault}
use Rattle.c_typing_state.specs.Notes.{with_tag, new_struct}
use Rattle.c_typing_state.specs.Scopes.{meaning_of}

-- `char` is signed, so `signed char` is the same type
abbrev pub basic : BasicType → c.CType
basic b.Void = c.Void
basic b.Char = type_of_integer i.Char
basic b.SignedChar = type_of_integer i.Char
basic b.UnsignedChar = type_of_integer i.UnsignedChar
basic b.Short = type_of_integer i.Short
basic b.UnsignedShort = type_of_integer i.UnsignedShort
basic b.Int = type_of_integer i.Int
basic b.Signed = type_of_integer i.Int
basic b.Unsigned = type_of_integer i.UnsignedInt
basic b.Long = type_of_integer i.Long
basic b.UnsignedLong = type_of_integer i.UnsignedLong

abbrev pub no_type : ℕ → Kind → Check (Option DeclaredType)
no_type at kind = fault at kind

-- a typedef name (6.7.7)
abbrev pub typedef_type : ℕ → Option NameMeaning → Check (Option DeclaredType)
typedef_type at None n = no_type at UnknownName n
typedef_type at (Some m.Faulty) n = (None, n)
typedef_type at (Some (m.Undefined number)) n = no_type at BadType n
typedef_type at (Some (m.Local number ty)) n = no_type at BadType n
typedef_type at (Some (m.Object number ty)) n = no_type at BadType n
typedef_type at (Some (m.Constant word)) n = no_type at BadType n
typedef_type at (Some (m.Function callee result parameters)) n = no_type at BadType n
typedef_type at (Some (m.Typedef ty)) n = (Some ty, n)

-- ---- tags (6.7.2.3), which are all of file scope: one that is new is declared

abbrev pub tag_named : Option (ℕ × Tag) → Option Tag
tag_named found = option_map (λ r. r.1) found

-- an enum is `int`
abbrev pub int_type : Option DeclaredType
int_type = Some (d.Value (type_of_integer i.Int))

abbrev pub enum_tagged : ℕ → List ℕ → Option Tag → Check (Option DeclaredType)
enum_tagged at name None n = (int_type, with_tag name g.Enum n)
enum_tagged at name (Some g.Enum) n = (int_type, n)
enum_tagged at name (Some (g.Struct number)) n = no_type at Redeclared n

abbrev pub tagged_enum : ℕ → List ℕ → Check (Option DeclaredType)
tagged_enum at name n = enum_tagged at name (tag_named (find name n.tags)) n

abbrev pub enum_type : ℕ → (tag : Option (List ℕ)) → Check (Option DeclaredType)
enum_type at None n = (int_type, n)
enum_type at (Some name) n = tagged_enum at name n

-- a struct whose members are not known
abbrev pub incomplete_struct : List ℕ → StructDef
incomplete_struct name = record { tag = name; complete = false; members = []; size = 0; align = 0; depth = 0 }

abbrev pub struct_numbered : (number : ℕ) → Option DeclaredType
struct_numbered number = Some (d.Value (c.Struct number))

abbrev pub new_struct_type : List ℕ → Check (Option DeclaredType)
new_struct_type name n =
    and_then (new_struct (incomplete_struct name) n)
    (λ number o. (struct_numbered number, with_tag name (g.Struct number) o))

abbrev pub struct_tagged : ℕ → List ℕ → Option Tag → Check (Option DeclaredType)
struct_tagged at name None n = new_struct_type name n
struct_tagged at name (Some (g.Struct number)) n = (struct_numbered number, n)
struct_tagged at name (Some g.Enum) n = no_type at Redeclared n

abbrev pub tagged_struct : ℕ → List ℕ → Check (Option DeclaredType)
tagged_struct at name n = struct_tagged at name (tag_named (find name n.tags)) n

-- a struct without a tag is the one whose body stands at this place, in the same declaration
abbrev pub struct_at : ℕ → Option UntaggedStruct → Check (Option DeclaredType)
struct_at at None n = no_type at BadType n
struct_at at (Some last) n = if last.at == at then (struct_numbered last.number, n) else no_type at BadType n

abbrev pub untagged_struct : ℕ → Check (Option DeclaredType)
untagged_struct at n = struct_at at n.untagged n

abbrev pub struct_type : ℕ → (tag : Option (List ℕ)) → Check (Option DeclaredType)
struct_type at None n = untagged_struct at n
struct_type at (Some name) n = tagged_struct at name n

-- ---- the specifier, whatever declarator stands around it

unfoldable pub leaf : Env → ℕ → t.TypeNode → Check (Option DeclaredType)
leaf env at (t.Basic words) n = (Some (d.Value (basic words)), n)
leaf env at (t.Named name) n = typedef_type at (meaning_of env name) n
leaf env at (t.Enum' place tag constants) n = enum_type place tag n
leaf env at (t.Struct' place tag members) n = struct_type place tag n
leaf env at (t.Pointer' _ (k.more_of-TypeNode x k.end_of-TypeNode)) n = leaf env at x n
leaf env at (t.Array' _ (k.more_of-TypeNode x k.end_of-TypeNode) length) n = leaf env at x n
leaf env at (t.Takes' _ (k.more_of-TypeNode x k.end_of-TypeNode) _ parameters) n = leaf env at x n
