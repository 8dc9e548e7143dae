-- What names of file scope mean is there: objects of types of the unit, words, and functions that may be called.
use Rattle.std.specs.Prelude.{◌≡◌, ℕ, IsTrue, List, [], map, length, slice_get, Option, Some, None}
use Rattle.std.specs.List.{list_all}
use Rattle.bk_arithmetic.specs.declared.integer_type.IntegerType.TheVariants.{Int}
use Rattle.bk_arithmetic.specs.Words.{is_word}
use Rattle.c_typed_tree.specs.declared.types.CType.{CType}
use Rattle.c_typed_tree.specs.declared.types.StructDef.{StructDef}
use Rattle.c_typed_tree.specs.declared.expressions.Callee.{Callee}
use Rattle.c_typed_tree.specs.declared.expressions.Callee.TheVariants as c
use Rattle.c_typed_tree.specs.Typing.{callee_signature}
use Rattle.c_typed_tree.specs.View.{type_view}
use Rattle.c_typed_tree.specs.Lawful.{is_object_type, is_result}
use Rattle.c_typing_state.specs.declared.env.Env.{Env}
use Rattle.c_typing_state.specs.declared.meanings.NameMeaning.{NameMeaning}
use Rattle.c_typing_state.specs.declared.meanings.NameMeaning.TheVariants as m
use Rattle.c_typing_state.specs.Scopes.{meaning_of}
use Rattle.c_typing_judgements.specs.Types.{JudgementState}
use Rattle.c_typing_globals.specs.declared.objects.UnitObject.{UnitObject}
use Rattle.c_typing_declarations.specs.declared.walk.UnitSoFar.{UnitSoFar}
use Rattle.c_types.specs.c_unit_meaning_laws.CStatementLaws.{is_parameter}
use Rattle.c_typing_expression_sound.specs.c_note_laws.Steps.{is_sized}
use Rattle.c_typing_expression_sound.specs.c_note_laws.Laws.{StandsFirst}
use Rattle.c_typing_expression_sound.specs.c_struct_laws.Growth.{Grow}
use Rattle.c_typing_expression_sound.specs.c_body_laws.Notes.{of_structs, IsWellDeclared}

-- ---- what is noted along declarations

pub record GoesTo (s later : JudgementState) : Type 0 where
  pub grow : Grow s.1.structs later.1.structs
  pub declared : IsWellDeclared s → IsWellDeclared later
  pub texts : StandsFirst s.1.texts later.1.texts
  pub first : later.1.first_text ≡ s.1.first_text
  pub sized : IsTrue (list_all is_sized s.1.texts) → IsTrue (list_all is_sized later.1.texts)

-- ---- what names mean

-- a function that may be called
pub record IsCallable (structs : List StructDef) (of : CType) (tys : List CType) : Type 0 where
  pub result : IsTrue (is_result structs (type_view of))
  pub parameters : IsTrue (list_all (is_parameter structs) tys)

-- a built-in function has its own type
abbrev pub IsOwnType : Callee → CType → List CType → Type 0
IsOwnType (c.Function k) of tys = Unit {0}
IsOwnType (c.Builtin b) of tys =
    callee_signature (of_structs []) (c.Builtin b)
    ≡ Some (record { result = type_view of; params = map type_view tys })

abbrev pub IsMeant : List StructDef → NameMeaning → Type 0
IsMeant structs m.Faulty = Unit {0}
IsMeant structs (m.Undefined number) = Unit {0}
IsMeant structs (m.Local number ty) = ⊥
IsMeant structs (m.Object number ty) = IsTrue (is_object_type structs (type_view ty))
IsMeant structs (m.Constant word) = IsTrue (is_word Int word)
IsMeant structs (m.Function callee of tys) = IsCallable structs of tys × IsOwnType callee of tys
IsMeant structs (m.Typedef ty) = Unit {0}

abbrev pub AreMeant : List StructDef → Env → Type 0
AreMeant structs env = (q : List ℕ) (x : NameMeaning) → meaning_of env q ≡ Some x → IsMeant structs x

-- ---- objects

-- an object of this type, as far as plain types tell
abbrev pub ObjectIsOfType : Option UnitObject → CType → Type 0
ObjectIsOfType None ty = ⊥
ObjectIsOfType (Some o) ty = type_view o.ty ≡ type_view ty

pub record HasObjects (u : UnitSoFar) (env : Env) : Type 0 where
  pub count : length u.objects ≡ u.names.objects
  pub objects : (q : List ℕ) (k : ℕ) (ty : CType) → meaning_of env q ≡ Some (m.Object k ty) →
      ObjectIsOfType (slice_get u.objects k) ty
