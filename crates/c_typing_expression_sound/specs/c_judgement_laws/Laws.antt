-- What judgements find is well typed (C99 6.5): of each form by its parts, in a lawful context. What a form finds is
-- well typed where the names in scope are those of the context, the structs of the notes are known there, and what was
-- taken is there.
use Rattle.std.specs.Prelude.{ℕ, IsTrue, List, Option, IfSome}
use Rattle.c_tree.specs.declared.expressions.UnaryOp.{UnaryOp}
use Rattle.c_tree.specs.declared.expressions.BinaryOp.{BinaryOp}
use Rattle.c_tree.specs.declared.expressions.AssignOp.{AssignOp}
use Rattle.c_tree.specs.declared.expressions.StepOp.{StepOp}
use Rattle.c_typed_tree.specs.View.{type_view}
use Rattle.c_typed_tree.specs.Typing.{Context}
use Rattle.c_typing_rules.specs.declared.c_typing_declared_types.declared.DeclaredType.{DeclaredType}
use Rattle.c_typing_rules.specs.declared.typed.TypedExpression.{TypedExpression}
use Rattle.c_typing_primary_rules.specs.Primary.{integer_constant, character_constant}
use Rattle.c_typing_state.specs.declared.env.Env.{Env}
use Rattle.c_typing_state.specs.declared.notes.Notes.{Notes}
use Rattle.c_typing_state.specs.Checks.{note_fault}
use Rattle.c_typing_state.specs.Scopes.{meaning_of}
use Rattle.c_typing_judgements.specs.Operators.{apply_prefix, binary_check, assignment_check, subscript_check, choice_check, cast_check, size_of_value, size_of_name, postfix_check, commas}
use Rattle.c_typing_judgements.specs.Names.{name_of}
use Rattle.c_typing_judgements.specs.Texts.{string}
use Rattle.c_typing_judgements.specs.Calls.{call_by_meaning}
use Rattle.c_typing_judgements.specs.Members.{field_named, arrow_named}
use Rattle.c_typing_expression_sound.specs.c_type_laws.Typed.{IsFitType}
use Rattle.c_typing_expression_sound.specs.c_judgement_laws.Covers.{is_whole, HasNames, Knows, Takes, IsLawfulContext, IsJudged, AreJudged, Judges}

-- an operand that was judged before these notes
abbrev pub IsJudgedOperand : Context → Env → Notes → TypedExpression → Type 0
IsJudgedOperand c env n a = HasNames c env → Knows c n → IsJudged c (Takes c n) a

-- ---- operators

abbrev pub PrefixIsJudged : Type 0
PrefixIsJudged =
    (c : Context) → IsLawfulContext c → (env : Env) (at : ℕ) (op : UnaryOp) (a : TypedExpression) (n : Notes) →
    IsJudgedOperand c env n a → Judges c (HasNames c env) (IsJudged c) n (apply_prefix at op a n)

abbrev pub BetweenIsJudged : Type 0
BetweenIsJudged =
    (c : Context) → IsLawfulContext c → (env : Env) (at : ℕ) (op : BinaryOp) (a b : TypedExpression) (n : Notes) →
    IsJudgedOperand c env n a → IsJudgedOperand c env n b → Judges c (HasNames c env)
    (IsJudged c) n (binary_check at op a b n)

abbrev pub AssignmentIsJudged : Type 0
AssignmentIsJudged =
    (c : Context) → IsLawfulContext c → (env : Env) (at : ℕ) (op : AssignOp) (a b : TypedExpression) (n : Notes) →
    IsJudgedOperand c env n a → IsJudgedOperand c env n b → Judges c (HasNames c env)
    (IsJudged c) n (assignment_check at op a b n)

abbrev pub ElementIsJudged : Type 0
ElementIsJudged =
    (c : Context) → IsLawfulContext c → (env : Env) (at : ℕ) (a b : TypedExpression) (n : Notes) →
    IsJudgedOperand c env n a → IsJudgedOperand c env n b → Judges c (HasNames c env)
    (IsJudged c) n (subscript_check at a b n)

abbrev pub ChoiceIsJudged : Type 0
ChoiceIsJudged =
    (c : Context) → IsLawfulContext c → (env : Env) (at : ℕ) (q a b : TypedExpression) (n : Notes) →
    IsJudgedOperand c env n q → IsJudgedOperand c env n a → IsJudgedOperand c env n b →
    Judges c (HasNames c env) (IsJudged c) n (choice_check at q a b n)

abbrev pub StepIsJudged : Type 0
StepIsJudged =
    (c : Context) → IsLawfulContext c → (env : Env) (at : ℕ) (op : StepOp) (a : TypedExpression) (n : Notes) →
    IsJudgedOperand c env n a → Judges c (HasNames c env) (IsJudged c) n (postfix_check at op a n)

abbrev pub CommaIsJudged : Type 0
CommaIsJudged =
    (c : Context) → IsLawfulContext c → (env : Env) (at : ℕ) (operands : Option (List TypedExpression)) (n : Notes) →
    (HasNames c env → Knows c n → IfSome operands (AreJudged c (Takes c n))) →
    Judges c (HasNames c env) (IsJudged c) n (commas at operands n)

-- ---- casts and sizes. The operand of `sizeof` is not evaluated, so what it takes need not be there

abbrev pub CastIsJudged : Type 0
CastIsJudged =
    (c : Context) → IsLawfulContext c → (env : Env) (at : ℕ) (to : DeclaredType) (a : TypedExpression) (n : Notes) →
    (HasNames c env → Knows c n → IsFitType c to) → IsJudgedOperand c env n a →
    Judges c (HasNames c env) (IsJudged c) n (cast_check at to a n)

abbrev pub SizeIsJudged : Type 0
SizeIsJudged =
    (c : Context) → IsLawfulContext c → (env : Env) (at : ℕ) (a : TypedExpression) (n : Notes) →
    (HasNames c env → Knows c n → IsTrue (is_whole (type_view a.ty))) →
    Judges c (HasNames c env) (IsJudged c) n (size_of_value at a n)

abbrev pub SizeOfNameIsJudged : Type 0
SizeOfNameIsJudged =
    (c : Context) → IsLawfulContext c → (env : Env) (at : ℕ) (ty : DeclaredType) (n : Notes) →
    (HasNames c env → Knows c n → IsFitType c ty) → Judges c (HasNames c env) (IsJudged c) n (size_of_name at ty n)

-- ---- members

abbrev pub FieldIsJudged : Type 0
FieldIsJudged =
    (c : Context) → IsLawfulContext c → (env : Env) (at : ℕ) (name : List ℕ) (a : TypedExpression) (n : Notes) →
    IsJudgedOperand c env n a → Judges c (HasNames c env) (IsJudged c) n (field_named at name a n)

abbrev pub ArrowIsJudged : Type 0
ArrowIsJudged =
    (c : Context) → IsLawfulContext c → (env : Env) (at : ℕ) (name : List ℕ) (a : TypedExpression) (n : Notes) →
    IsJudgedOperand c env n a → Judges c (HasNames c env) (IsJudged c) n (arrow_named at name a n)

-- ---- constants, texts, names and calls

abbrev pub IntegerIsJudged : Type 0
IntegerIsJudged =
    (c : Context) → IsLawfulContext c → (env : Env) (at : ℕ) (spelling : List ℕ) (n : Notes) →
    Judges c (HasNames c env) (IsJudged c) n (note_fault (integer_constant at spelling) n)

abbrev pub CharacterIsJudged : Type 0
CharacterIsJudged =
    (c : Context) → IsLawfulContext c → (env : Env) (at : ℕ) (spelling : List ℕ) (n : Notes) →
    Judges c (HasNames c env) (IsJudged c) n (note_fault (character_constant at spelling) n)

abbrev pub TextIsJudged : Type 0
TextIsJudged =
    (c : Context) → IsLawfulContext c → (env : Env) (at : ℕ) (spellings : List (List ℕ)) (n : Notes) →
    Judges c (HasNames c env) (IsJudged c) n (string at spellings n)

abbrev pub NameIsJudged : Type 0
NameIsJudged =
    (c : Context) → IsLawfulContext c → (env : Env) (at : ℕ) (name : List ℕ) (n : Notes) →
    Judges c (HasNames c env) (IsJudged c) n (name_of at (meaning_of env name) n)

abbrev pub CallIsJudged : Type 0
CallIsJudged =
    (c : Context) (env : Env) (at : ℕ) (name : List ℕ) (arguments : Option (List TypedExpression)) (n : Notes) →
    (HasNames c env → Knows c n → IfSome arguments (AreJudged c (Takes c n))) →
    Judges c (HasNames c env) (IsJudged c) n (call_by_meaning at (meaning_of env name) arguments n)
