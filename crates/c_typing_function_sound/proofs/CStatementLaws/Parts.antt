-- The expressions of statements, and `return`.
use Rattle.std.proofs.Common.{ℕ, Bool, true, false, IsTrue, Option, Some, None, IfSome, refl, if◌then◌else◌}
use Rattle.std.specs.Option.{option_map}
use Rattle.c_tree.specs.declared.expressions.Expr.{Expr}
use Rattle.c_tree.specs.declared.types.TypeNode.{TypeNode}
use Rattle.c_typed_tree.specs.declared.types.CType.{CType}
use Rattle.c_typed_tree.specs.declared.expressions.TExpr.{TExpr}
use Rattle.c_typed_tree.specs.declared.statements.TStmt.{TStmt}
use Rattle.c_typed_tree.specs.declared.statements.TStmt as t
use Rattle.c_typed_tree.specs.Types.{PlainType, Void}
use Rattle.c_typed_tree.specs.View.{type_view, expr_view, stmt_view}
use Rattle.c_typed_tree.specs.Typing.{Context, is_fit, is_void}
use Rattle.c_typed_tree.specs.TypingStatements.{Jumps, is_condition, is_value, is_optional_condition, is_optional_value, is_typed_stmt}
use Rattle.c_typing_rules.specs.declared.typed.TypedExpression.{TypedExpression}
use Rattle.c_typing_rules.specs.Conversions.{decay}
use Rattle.c_typing_rules.specs.Comparisons as rule
use Rattle.c_typing_primary_rules.specs.Switches as switches
use Rattle.c_typing_judgements.specs.c_typing_operators.Null.{take_value}
use Rattle.c_typing_state.specs.declared.notes.Notes.{Notes}
use Rattle.c_typing_state.specs.Checks.{pure, and_then, each, both_parts, note_fault}
use Rattle.c_typing_judgements.specs.Leaves.{leaf}
use Rattle.c_typing_expressions.specs.Expressions.{judge, derive}
use Rattle.c_typing_statement_rules.specs.Values.{condition_check, switch_check, full_expression, return_of, bad_return, return_value, return_nothing}
use Rattle.c_typing_statement_rules.specs.Forms.{some_part}
use Rattle.c_typing_statement_parts.specs.c_typing_local_rules.Locals.{BodyState}
use Rattle.c_typing_statement_parts.specs.Parts.{condition_of, full_value, operand_of, optional_condition, optional_value, return_statement, judge_type}
use Rattle.c_typing_expression_sound.specs.c_type_laws.Typed.{IsTypedIn, IsSwitched}
use Rattle.c_typing_expression_sound.specs.c_judgement_laws.Covers.{Takes, IsLawfulContext, IsJudged}
use Rattle.c_typing_expression_sound.proofs.CJudgementLaws.Notes.{Later, later_itself, later_fault}
use Rattle.c_typing_expression_sound.specs.c_expression_laws.Types.{IsTypeIn}
use Rattle.c_typing_expression_sound.specs.c_expression_laws.Laws.{HasScope}
use Rattle.c_typing_expression_sound.proofs.CExpressionLaws.Types.{IsFoundType, leaf_found}
use Rattle.c_typing_expression_sound.proofs.CExpressionLaws.Walks.{later_of}
use Rattle.c_typing_expression_sound.proofs.CExpressionLaws.Parts.{walk_after}
use Rattle.c_typing_expression_sound.proofs.CExpressionLaws.Expressions.{judge_walks, derive_walks}
use Rattle.c_typing_function_sound.proofs.CStatementRuleLaws.Parts.{condition_typed_in, switch_typed_in, expression_value, return_typed, empty_typed}
use Rattle.c_typing_function_sound.proofs.CStatementLaws.Moves.{Moves, moves_none, moves_as, moves_known, moves_then, moves_noted, moves_quiet, part_moves, moves_walked, later_ruled}

-- the type of what a function gives, if its declaration has no fault
abbrev pub result_type : Option CType → PlainType
result_type None = Void
result_type (Some ty) = type_view ty

module _ (c : Context) (lawful : IsLawfulContext c) (known : Type 0) where
  -- ---- expressions

  found_typed : (taken : Type 0) (o : Option TypedExpression) → taken → IfSome o (IsJudged c taken) → IfSome o (IsTypedIn c)
  found_typed taken None t h = tt
  found_typed taken (Some a) t h = h.typed t

  pub judge_moves : (x : Expr) (w : BodyState) → Moves c known (IfSome (judge x w.1).0 (IsTypedIn c)) w (w.0, (judge x w.1).1)
  judge_moves x w =
      let r = judge x w.1 in
      moves_known c known w (w.0, r.1) (λ h k found. found_typed (Takes c r.1.1) r.0 h.takes found)
      (moves_walked c known (IsJudged c) w r (judge_walks c lawful (HasScope c w.1) x w.1 (λ v. v.names) (λ v. v.typedefs)))

  abbrev pub IsCondition : TExpr → Type 0
  IsCondition x = IsTrue (is_condition c (expr_view x))

  abbrev pub IsValue : TExpr → Type 0
  IsValue x = IsTrue (is_value c (expr_view x))

  pub condition_moves : (x : Expr) (w : BodyState) → Moves c known (IfSome (condition_of x w.1).0 IsCondition) w (w.0, (condition_of x w.1).1)
  condition_moves x w =
      let u = (judge x w.1).1 in
      part_moves c known (IsTypedIn c) IsCondition (judge x w.1).0 condition_check w (w.0, u) (λ a n. later_ruled c known (rule.condition (decay a)) n) (λ a k h. condition_typed_in c a u.1 h) (judge_moves x w)

  valued : (o : Option TypedExpression) → IfSome o (IsTypedIn c) → IfSome (option_map full_expression o) IsValue
  valued None h = tt
  valued (Some a) h = expression_value c a h

  pub value_moves : (x : Expr) (w : BodyState) → Moves c known (IfSome (full_value x w.1).0 IsValue) w (w.0, (full_value x w.1).1)
  value_moves x w = moves_as c known w (w.0, (judge x w.1).1) (valued (judge x w.1).0) (judge_moves x w)

  pub operand_moves : (x : Expr) (w : BodyState) → Moves c known (IfSome (operand_of x w.1).0 (IsSwitched c)) w (w.0, (operand_of x w.1).1)
  operand_moves x w =
      let u = (judge x w.1).1 in
      part_moves c known (IsTypedIn c) (IsSwitched c) (judge x w.1).0 switch_check w (w.0, u) (λ a n. later_ruled c known (switches.switch_operand (decay a)) n) (λ a k h. switch_typed_in c a u.1 h) (judge_moves x w)

  -- ---- parts that may be missing

  abbrev pub IsOptionalCondition : Option TExpr → Type 0
  IsOptionalCondition x = IsTrue (is_optional_condition c (option_map expr_view x))

  abbrev pub IsOptionalValue : Option TExpr → Type 0
  IsOptionalValue x = IsTrue (is_optional_value c (option_map expr_view x))

  condition_there : (o : Option TExpr) → IfSome o IsCondition → IfSome (some_part o) IsOptionalCondition
  condition_there None h = tt
  condition_there (Some x) h = h

  value_there : (o : Option TExpr) → IfSome o IsValue → IfSome (some_part o) IsOptionalValue
  value_there None h = tt
  value_there (Some x) h = h

  pub optional_condition_moves : (x : Option Expr) (w : BodyState) → Moves c known (IfSome (optional_condition x w.1).0 IsOptionalCondition) w (w.0, (optional_condition x w.1).1)
  optional_condition_moves None w = moves_none c known w refl
  optional_condition_moves (Some x) w = moves_as c known w (w.0, (condition_of x w.1).1) (condition_there (condition_of x w.1).0) (condition_moves x w)

  pub optional_value_moves : (x : Option Expr) (w : BodyState) → Moves c known (IfSome (optional_value x w.1).0 IsOptionalValue) w (w.0, (optional_value x w.1).1)
  optional_value_moves None w = moves_none c known w refl
  optional_value_moves (Some x) w = moves_as c known w (w.0, (full_value x w.1).1) (value_there (full_value x w.1).0) (value_moves x w)

  -- ---- `return`

  module _ (j : Jumps) where
    later_nothing : (at : ℕ) (ty : CType) (n : Notes) → Later c n (return_nothing at ty n).1
    later_nothing at ty n = choose (is_void (type_view ty))
      where
        choose : (b : Bool) → Later c n (if b then (Some (t.Return None), n) else bad_return at n).1
        choose true = later_itself c n
        choose false = later_fault c at _ n

    later_value : (at : ℕ) (ty : CType) (a : TypedExpression) (n : Notes) → Later c n (return_value at ty a n).1
    later_value at ty a n = choose (is_void (type_view ty))
      where
        choose : (b : Bool) → Later c n (if b then bad_return at n else and_then (note_fault (take_value ty a) n) (λ value. pure (return_of value))).1
        choose true = later_fault c at _ n
        choose false = later_ruled c known (take_value ty a) n

    abbrev IsReturn : Option CType → TStmt → Type 0
    IsReturn of x = IsTrue (is_typed_stmt c (result_type of) j (stmt_view x))

    -- what is known of the type of the result
    abbrev IsGivenType : Option CType → Type 0
    IsGivenType of = IfSome of (λ ty. IsTrue (is_fit c.structs (type_view ty)))

    nothing_says : (at : ℕ) (of : Option CType) (n : Notes) → IfSome (each of (return_nothing at) n).0 (IsReturn of)
    nothing_says at None n = tt
    nothing_says at (Some ty) n = empty_typed c j at ty n

    nothing_later : (at : ℕ) (of : Option CType) (n : Notes) → Later c n (each of (return_nothing at) n).1
    nothing_later at None n = later_itself c n
    nothing_later at (Some ty) n = later_nothing at ty n

    value_says : (at : ℕ) (of : Option CType) (o : Option TypedExpression) (n : Notes) → IsGivenType of → IfSome o (IsTypedIn c) → IfSome (both_parts of o (return_value at) n).0 (IsReturn of)
    value_says at None o n g h = tt
    value_says at (Some ty) None n g h = tt
    value_says at (Some ty) (Some a) n g h = return_typed c j at ty a n g h

    value_later : (at : ℕ) (of : Option CType) (o : Option TypedExpression) (n : Notes) → Later c n (both_parts of o (return_value at) n).1
    value_later at None o n = later_itself c n
    value_later at (Some ty) None n = later_itself c n
    value_later at (Some ty) (Some a) n = later_value at ty a n

    pub return_moves : (of : Option CType) → (known → IsGivenType of) → (at : ℕ) (x : Option Expr) (w : BodyState) → Moves c known (IfSome (return_statement of at x w.1).0 (IsReturn of)) w (w.0, (return_statement of at x w.1).1)
    return_moves of g at None w = moves_noted c known w (each of (return_nothing at) w.1.1).1 (nothing_later at of w.1.1) (nothing_says at of w.1.1)
    return_moves of g at (Some x) w =
        let r = judge x w.1 in
        let v : BodyState = (w.0, (r.1.0, (both_parts of r.0 (return_value at) r.1.1).1)) in
        moves_known c known w v (λ h k p. value_says at of r.0 r.1.1 (g k) p.0)
        (moves_then c known w (w.0, r.1) v (judge_moves x w) (moves_quiet c known (w.0, r.1) (both_parts of r.0 (return_value at) r.1.1).1 (value_later at of r.0 r.1.1)))

  -- ---- types of declarations

  pub type_moves : (at : ℕ) (ty : TypeNode) (w : BodyState) → Moves c known (IfSome (judge_type at ty w.1).0 (IsTypeIn c)) w (w.0, (judge_type at ty w.1).1)
  type_moves at ty w =
      let names = HasScope c w.1 in
      let l = leaf w.1.0 at ty w.1.1 in
      let first = leaf_found c names w.1.0 at ty w.1.1 (λ v. v.typedefs) in
      let r = derive at ty l.0 (w.1.0, l.1) in
      moves_walked c known (IsFoundType c) w r
      (walk_after c names (IsFoundType c) w.1 l.1 r (later_of c names (IsFoundType c) w.1.1 l first)
      (derive_walks c lawful names at ty l.0 (w.1.0, l.1) (λ v. v.typedefs) first.found))
