-- What a lawful unit is: its structs are laid out, its objects are lawful, its functions are well typed, and one of
-- them is `main` (C99 6.7, 6.9, 5.1.2.2.1).
use Rattle.std.specs.Prelude.{◌≡◌, ℕ, ◌+◌, ◌^◌, ◌<◌, ◌≤◌, max, nat_le, ◌==◌, Bool, true, false, ◌&&◌, ◌||◌, IsTrue, List, [], ◌∷◌, length, map, take, filter, sum_by, All, bytes_eq, codes}
use Rattle.std.specs.List.{list_all}
use Rattle.mem_objects.specs.declared.TheConstants.{MOST_DATA}
use Rattle.mem_objects.specs.Globals.{AreLawful}
use Rattle.c_typed_tree.specs.declared.types.StructDef.{StructDef}
use Rattle.c_typed_tree.specs.declared.types.Member.{Member}
use Rattle.c_typed_tree.specs.declared.units.Local.{Local}
use Rattle.c_typed_tree.specs.declared.units.TypedFn.{TypedFn}
use Rattle.c_typed_tree.specs.declared.units.TypedUnit.{TypedUnit}
use Rattle.c_typed_tree.specs.Statements.{Stmt, Block}
use Rattle.c_typed_tree.specs.Types.{PlainType}
use Rattle.c_typed_tree.specs.View.{type_view, stmt_view}
use Rattle.c_typed_tree.specs.Layout.{is_object, IsLaidOut}
use Rattle.c_typed_tree.specs.Typing.{is_same_type, int, is_void, is_scalar, is_valid_type, depth_of, most_depth, Signature, Context}
use Rattle.c_typed_tree.specs.TypingStatements.{no_jumps, is_typed_stmt}
use Rattle.c_typed_tree.specs.Counts.{function_nodes}
use Rattle.c_typed_tree.specs.Declarations.{declarations, due_declarations}

-- ---- types that are declared

-- a type of objects, no deeper than a type may be
abbrev pub is_object_type : List StructDef → PlainType → Bool
is_object_type ds ty = is_valid_type ds ty && is_object ds ty && nat_le (depth_of ds ty) most_depth

-- ---- structs

abbrev pub greatest_depth : List StructDef → List Member → ℕ
greatest_depth ds [] = 0
greatest_depth ds (m ∷ ms) = max (depth_of ds (type_view m.ty)) (greatest_depth ds ms)

-- the members of a complete struct are objects, and what they say of it is written down. It is deeper than each of
-- its members, so none holds itself, and it may be one deeper than what is declared with it (C99 6.7.2.1)
pub record IsCompleteStruct (ds : List StructDef) (d : StructDef) : Type 0 where
  pub types : IsTrue (list_all (λ m. is_object_type ds (type_view m.ty)) d.members)
  pub layout : IsLaidOut ds d
  pub size : d.size ≤ MOST_DATA
  pub depth : d.depth ≡ 1 + greatest_depth ds d.members
  pub bound : d.depth ≤ 1 + most_depth

-- of one that is not complete nothing is known
pub record IsIncompleteStruct (d : StructDef) : Type 0 where
  pub members : d.members ≡ []
  pub size : d.size ≡ 0
  pub align : d.align ≡ 0
  pub depth : d.depth ≡ 0

abbrev pub IsStruct : List StructDef → StructDef → (complete : Bool) → Type 0
IsStruct ds d true = IsCompleteStruct ds d
IsStruct ds d false = IsIncompleteStruct d

abbrev pub IsLawfulStruct : List StructDef → StructDef → Type 0
IsLawfulStruct ds d = IsStruct ds d d.complete

-- ---- functions

abbrev pub type_of_local : Local → PlainType
type_of_local l = type_view l.ty

abbrev pub types_of_parameters : TypedFn → List PlainType
types_of_parameters f = map type_of_local (take f.params f.locals)

abbrev pub signature_of : TypedFn → Signature
signature_of f = record { result = type_view f.result; params = types_of_parameters f }

-- what the numbers in a function of a unit name
abbrev pub context_of : TypedUnit → TypedFn → Context
context_of u f = record {
  structs = u.structs;
  globals = u.globals;
  functions = map signature_of u.functions;
  locals = f.locals;
}

-- a local that is no scalar is an object of memory
abbrev pub is_lawful_local : List StructDef → Local → Bool
is_lawful_local ds l = is_object_type ds (type_of_local l) && (is_scalar (type_of_local l) || l.in_memory)

-- a function gives nothing or a scalar
abbrev pub is_result : List StructDef → PlainType → Bool
is_result ds ty = is_void ty || is_scalar ty && is_object_type ds ty

-- the bytes of an identifier (C99 6.4.2.1): a letter or `_`, then letters, digits and `_`
abbrev pub is_letter : ℕ → Bool
is_letter b = nat_le 65 b && nat_le b 90 || nat_le 97 b && nat_le b 122 || b == 95

abbrev pub is_letter_or_digit : ℕ → Bool
is_letter_or_digit b = is_letter b || nat_le 48 b && nat_le b 57

abbrev pub is_identifier : List ℕ → Bool
is_identifier [] = false
is_identifier (b ∷ bytes) = is_letter b && list_all is_letter_or_digit bytes

-- the body of a function is a block (C99 6.9.1)
abbrev pub is_block : Stmt → Bool
is_block (Block ss) = true
is_block s = false

-- a function of a unit: its parameters are its first locals, its body is a block that is well typed and declares each
-- other local once
pub record IsTypedFn (u : TypedUnit) (f : TypedFn) : Type 0 where
  pub name : IsTrue (is_identifier f.name)
  pub result : IsTrue (is_result u.structs (type_view f.result))
  pub params : f.params ≤ length f.locals
  pub scalars : IsTrue (list_all is_scalar (types_of_parameters f))
  pub count : length f.locals < 2 ^ 32
  pub locals : IsTrue (list_all (is_lawful_local u.structs) f.locals)
  pub block : IsTrue (is_block (stmt_view f.body))
  pub body : IsTrue (is_typed_stmt (context_of u f) (type_view f.result) no_jumps (stmt_view f.body))
  pub declares : (number : ℕ) →
      declarations number (stmt_view f.body) ≡ due_declarations f.params (length f.locals) number

-- ---- units

abbrev pub is_main : TypedFn → Bool
is_main f = bytes_eq f.name (codes "main")

-- `int main(void)`
abbrev pub is_start : TypedFn → Bool
is_start f = is_same_type (type_view f.result) int && f.params == 0

abbrev pub mains_of : TypedUnit → List TypedFn
mains_of u = filter is_main u.functions

-- exactly one function is `main`
pub record HasMain (u : TypedUnit) : Type 0 where
  pub one : length (mains_of u) ≡ 1
  pub type : IsTrue (list_all is_start (mains_of u))

-- the structs, objects and functions are well typed
pub record IsTypedUnit (u : TypedUnit) : Type 0 where
  pub structs : All (IsLawfulStruct u.structs) u.structs
  pub globals : AreLawful u.globals
  pub functions : All (IsTypedFn u) u.functions
  pub main : HasMain u

-- the statements, expressions and locals of all functions
abbrev pub unit_nodes : TypedUnit → ℕ
unit_nodes u = sum_by function_nodes u.functions

-- a lawful unit is a well typed one that numbers of 32 bits can name and a pass can count
pub record IsLawfulUnit (u : TypedUnit) : Type 0 where
  pub typed : IsTypedUnit u
  pub structs : length u.structs < 2 ^ 32
  pub functions : length u.functions < 2 ^ 32
  pub nodes : unit_nodes u ≤ 2 ^ 40
