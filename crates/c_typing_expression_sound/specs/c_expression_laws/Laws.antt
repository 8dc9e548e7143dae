-- What whole expressions and type names are is well typed (C99 6.5, 6.7.6).
use Rattle.std.specs.Prelude.{ℕ, Option, IfSome}
use Rattle.c_tree.specs.declared.expressions.Expr as e
use Rattle.c_tree.specs.declared.types.TypeName.{TypeName}
use Rattle.c_tree.specs.declared.types.TypeNode as t
use Rattle.c_typed_tree.specs.Typing.{Context}
use Rattle.c_typing_rules.specs.declared.c_typing_declared_types.declared.DeclaredType.{DeclaredType}
use Rattle.c_typing_judgements.specs.Types.{JudgementState}
use Rattle.c_typing_expressions.specs.Expressions.{judge, derive, judge_type_name}
use Rattle.c_typing_expression_sound.specs.c_type_laws.Typed.{IsTypedIn, IsFitType}
use Rattle.c_typing_expression_sound.specs.c_judgement_laws.Covers.{HasNames, Knows, Takes, IsLawfulContext, IsJudged}
use Rattle.c_typing_expression_sound.specs.c_expression_laws.Types.{IsTypeIn, HasTypedefs}
use Rattle.c_typing_expression_sound.specs.c_expression_laws.Walks.{Walks}

-- what is asked of the names in scope
pub record HasScope (c : Context) (s : JudgementState) : Type 0 where
  pub names : HasNames c s.0
  pub typedefs : HasTypedefs c s.0.names

-- an expression is well typed in a lawful context that has the names in scope, the structs, and what was taken
abbrev pub ExpressionIsTyped : Type 0
ExpressionIsTyped =
    (c : Context) → IsLawfulContext c → (x : e.Expr) (s : JudgementState) → HasScope c s →
    Knows c (judge x s).1.1 → Takes c (judge x s).1.1 → IfSome (judge x s).0 (IsTypedIn c)

-- it leaves the names in scope as they were; what the context has behind it, it had before; and the types that it
-- finds are those of the context whatever was taken
abbrev pub ExpressionWalks : Type 0
ExpressionWalks =
    (c : Context) → IsLawfulContext c → (x : e.Expr) (s : JudgementState) →
    Walks c (HasScope c s) (IsJudged c) s (judge x s)

-- a type name gives a type that an expression may have
abbrev pub TypeNameIsFit : Type 0
TypeNameIsFit =
    (c : Context) → IsLawfulContext c → (name : TypeName) (s : JudgementState) →
    Walks c (HasScope c s) (λ taken ty. IsFitType c ty) s (judge_type_name name s)

-- a declarator makes a type of one
abbrev pub DeclaratorGivesType : Type 0
DeclaratorGivesType =
    (c : Context) → IsLawfulContext c → (at : ℕ) (node : t.TypeNode) (of : Option DeclaredType) (s : JudgementState) →
    IfSome of (IsTypeIn c) → Walks c (HasScope c s) (λ taken ty. IsTypeIn c ty) s (derive at node of s)
