-- What functions are is well typed (C99 6.8, 6.9.1), in the unit in which they stand.
use Rattle.std.specs.Prelude.{◌≡◌, ◌<◌, ◌^◌, Bool, ◌&&◌, IsTrue, List, [], length, Option, IfSome}
use Rattle.std.specs.List.{list_all}
use Rattle.c_tree.specs.declared.types.Declaration.{Declaration}
use Rattle.c_tree.specs.declared.statements.Stmt.{Stmt}
use Rattle.c_typed_tree.specs.declared.types.CType.{CType}
use Rattle.c_typed_tree.specs.declared.types.StructDef.{StructDef}
use Rattle.c_typed_tree.specs.declared.units.TypedFn.{TypedFn}
use Rattle.c_typed_tree.specs.declared.units.TypedUnit.{TypedUnit}
use Rattle.c_typed_tree.specs.View.{type_view}
use Rattle.c_typed_tree.specs.Typing.{Context, is_scalar}
use Rattle.c_typed_tree.specs.Lawful.{context_of, is_object_type, is_result, is_identifier, IsTypedFn}
use Rattle.c_typing_judgements.specs.Types.{JudgementState}
use Rattle.c_typing_expression_sound.specs.c_judgement_laws.Covers.{Knows, HaveTexts, IsLawfulContext}
use Rattle.c_typing_expression_sound.specs.c_expression_laws.Laws.{HasScope}
use Rattle.c_typing_statements.specs.declared.c_typing_function_bodies.functions.FunctionType.{FunctionType}
use Rattle.c_typing_statements.specs.c_typing_function_bodies.Functions.{judge_function}

-- a parameter is a scalar no deeper than a type may be
abbrev pub is_parameter : List StructDef → CType → Bool
is_parameter ds ty = is_object_type ds (type_view ty) && is_scalar (type_view ty)

-- what is known of the unit in which a function stands: its structs are lawful, it has the names that are in scope
-- before the body, and the structs and texts that were noted behind it
pub record IsGiven (u : TypedUnit) (d : Declaration) (of : Option FunctionType) (s later : JudgementState)
    (f : TypedFn) :
    Type 0 where
  pub structs : IsLawfulContext (context_of u f)
  pub scope : HasScope (context_of u f) s
  pub knows : Knows (context_of u f) later.1
  pub texts : HaveTexts (context_of u f) later.1.first_text later.1.texts
  pub name : IsTrue (is_identifier d.name)
  pub result : IfSome of (λ t. IsTrue (is_result u.structs (type_view t.result)))
  pub parameters : IfSome of (λ t. IsTrue (list_all (is_parameter u.structs) t.parameters))
  pub count : length f.locals < 2 ^ 32

-- a function that is found is well typed
abbrev pub FunctionIsTyped : Type 0
FunctionIsTyped =
    (u : TypedUnit) (d : Declaration) (of : Option FunctionType) (list : List Stmt) (s : JudgementState) →
    IfSome (judge_function d of list s).0 (λ f. IsGiven u d of s (judge_function d of list s).1 f → IsTypedFn u f)

-- what a body leaves: the names in scope as they were, and what a context has behind it, it had before
pub record Leaves (c : Context) (s later : JudgementState) : Type 0 where
  pub env : later.0 ≡ s.0
  pub first : later.1.first_text ≡ s.1.first_text
  pub addressed : later.1.addressed ≡ []
  pub knows : Knows c later.1 → Knows c s.1
  pub texts : HaveTexts c later.1.first_text later.1.texts → HaveTexts c s.1.first_text s.1.texts

abbrev pub FunctionLeaves : Type 0
FunctionLeaves =
    (c : Context) → IsLawfulContext c → (d : Declaration) (of : Option FunctionType) (list : List Stmt)
    (s : JudgementState) →
    Leaves c s (judge_function d of list s).1
