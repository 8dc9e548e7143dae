-- Functions, in the unit in which they stand, and what a body leaves.
use Rattle.std.proofs.Common.{◌≡◌, ◌+◌, ℕ, Bool, true, false, IsTrue, List, [], ◌∷◌, ◌++◌, length, map, take, Option, Some, None, IfSome, refl, sym, ap, ◌∙◌, subst}
use Rattle.std.proofs.lemmas.List.{take-map}
use Rattle.std.specs.List.{list_all}
use Rattle.c_tree.specs.declared.types.Declaration.{Declaration}
use Rattle.c_tree.specs.declared.statements.Stmt.{Stmt}
use Rattle.c_typed_tree.specs.declared.types.StructDef.{StructDef}
use Rattle.c_typed_tree.specs.declared.statements.TStmt.{TStmt}
use Rattle.c_typed_tree.specs.declared.statements.TStmt as t
use Rattle.c_typed_tree.specs.declared.units.Local.{Local}
use Rattle.c_typed_tree.specs.declared.units.TypedFn.{TypedFn}
use Rattle.c_typed_tree.specs.declared.units.TypedUnit.{TypedUnit}
use Rattle.c_typed_tree.specs.Types.{PlainType, Void, Int, Pointer, Array, Struct}
use Rattle.c_typed_tree.specs.View.{type_view}
use Rattle.c_typed_tree.proofs.Views.{view_block}
use Rattle.c_typed_tree.specs.Typing.{Context, is_scalar, is_fit}
use Rattle.c_typed_tree.specs.TypingStatements as typing
use Rattle.c_typed_tree.specs.TypingStatements.{is_typed_stmt}
use Rattle.c_typed_tree.specs.Lawful.{type_of_local, context_of, is_object_type, is_result, is_block, IsTypedFn}
use Rattle.c_typing_state.specs.Checks.{walk}
use Rattle.c_typing_state.specs.Scopes.{enter}
use Rattle.c_typing_judgements.specs.Types.{JudgementState}
use Rattle.c_typing_statement_rules.specs.Jumps.{no_jumps}
use Rattle.c_typing_statement_parts.specs.c_typing_local_rules.Locals.{BodyState, with_addressed}
use Rattle.c_typing_statements.specs.Statements.{statement}
use Rattle.c_typing_statements.specs.declared.c_typing_function_bodies.functions.FunctionType.{FunctionType}
use Rattle.c_typing_statements.specs.c_typing_function_bodies.Functions.{declared_parameters, result_of, typed_function, without_addresses, judge_function}
use Rattle.c_typing_statements.specs.c_typing_function_bodies.Functions as own
use Rattle.c_typing_expression_sound.proofs.CTypeLaws.Truth.{front, back, also, along}
use Rattle.c_typing_expression_sound.specs.c_judgement_laws.Covers.{AreInMemory, HaveTexts, IsLawfulContext}
use Rattle.c_typing_expression_sound.proofs.CJudgementLaws.Structs.{object_fits}
use Rattle.c_typing_expression_sound.proofs.CExpressionLaws.Parts.{left_scope}
use Rattle.c_typing_function_sound.specs.c_local_laws.Laws.{DeclaresItsLocals}
use Rattle.c_typing_function_sound.proofs.CLocalLaws.Functions.{function_says}
use Rattle.c_typing_function_sound.specs.c_statement_laws.Laws.{is_parameter, IsGiven, Leaves}
use Rattle.c_typing_function_sound.proofs.CStatementLaws.Locals.{Grows, addressed_types, addressed_has, addressed_in_memory, addressed_lawful}
use Rattle.c_typing_function_sound.proofs.CStatementLaws.Moves.{Covers, Stands, Moves, moves_none, moves_then, moves_under, walk_moves}
use Rattle.c_typing_function_sound.proofs.CStatementLaws.Names.{declared_parameters_moves}
use Rattle.c_typing_function_sound.proofs.CStatementLaws.Forms.{IsStmt, AreStmts, stmts_more}
use Rattle.c_typing_function_sound.proofs.CStatementLaws.Statements.{statement_moves}
use Rattle.c_typing_function_sound.proofs.CStatementLaws.Parts.{result_type}

-- ---- types of results

-- what a function gives may be the type of an expression
result_fits : (ds : List StructDef) (ty : PlainType) → IsTrue (is_result ds ty) → IsTrue (is_fit ds ty)
result_fits ds Void h = refl
result_fits ds (Int n s) h = object_fits ds (Int n s) (back (is_scalar (Int n s)) (is_object_type ds (Int n s)) h)
result_fits ds (Pointer x) h = object_fits ds (Pointer x) (back (is_scalar (Pointer x)) (is_object_type ds (Pointer x)) h)
result_fits ds (Array x n) h = object_fits ds (Array x n) (back (is_scalar (Array x n)) (is_object_type ds (Array x n)) h)
result_fits ds (Struct n) h = object_fits ds (Struct n) (back (is_scalar (Struct n)) (is_object_type ds (Struct n)) h)

-- ---- parameters

take_front : {A : Type 0} (xs ys : List A) → take (length xs) (xs ++ ys) ≡ xs
take_front [] ys = refl
take_front (x ∷ xs) ys = ap (λ l. x ∷ l) (take_front xs ys)

abbrev AllScalars : List Local → Type 0
AllScalars ls = IsTrue (list_all (λ (l : Local). is_scalar (type_of_local l)) ls)

each_scalar : (ls : List Local) → AllScalars ls → IsTrue (list_all is_scalar (map type_of_local ls))
each_scalar [] h = refl
each_scalar (l ∷ ls) h =
    let own = is_scalar (type_of_local l) in
    let rest = list_all (λ (l : Local). is_scalar (type_of_local l)) ls in
    also own (list_all is_scalar (map type_of_local ls)) (front own rest h) (each_scalar ls (back own rest h))

-- the parameters are the first locals still, where addresses were taken
parameters_scalar : (first later : List Local) (numbers : List ℕ) → Grows first later → AllScalars first → IsTrue (list_all is_scalar (map type_of_local (take (length first) (with_addressed numbers later))))
parameters_scalar first later numbers g h =
    ap (list_all is_scalar)
    (sym (take-map type_of_local (length first) (with_addressed numbers later))
    ∙ (ap (take (length first)) (addressed_types numbers later)
    ∙ (take-map type_of_local (length first) later
    ∙ (ap (λ ls. map type_of_local (take (length first) ls)) g.same ∙ ap (map type_of_local) (take_front first g.more)))))
    ∙ each_scalar first h

-- ---- a body

abbrev Start : JudgementState → BodyState
Start s = ([], (enter s.0, s.1))

-- its parameters
abbrev ParametersOf : Declaration → Option FunctionType → JudgementState → Bool × BodyState
ParametersOf d of s = declared_parameters of (own.parameters_of d.ty) (Start s)

-- its statements
abbrev StatementsOf : Declaration → Option FunctionType → List Stmt → JudgementState → Option (List TStmt) × BodyState
StatementsOf d of list s = walk (statement (result_of of) no_jumps) list (Some []) (ParametersOf d of s).1

module _ (c : Context) (lawful : IsLawfulContext c) (d : Declaration) (of : Option FunctionType) (list : List Stmt) (s : JudgementState) where
  -- what statements know of the function
  abbrev HasResult : Type 0
  HasResult = IfSome (result_of of) (λ ty. IsTrue (is_fit c.structs (type_view ty)))

  abbrev KnowsTypes : Type 0
  KnowsTypes = HasResult × IfSome of (λ t. IsTrue (list_all (is_parameter c.structs) t.parameters))

  abbrev Are : List TStmt → Type 0
  Are xs = AreStmts c lawful HasResult (result_type (result_of of)) no_jumps xs

  entered_moves : Moves c KnowsTypes (AllScalars (ParametersOf d of s).1.0) (Start s) (ParametersOf d of s).1
  entered_moves = declared_parameters_moves c KnowsTypes lawful of (own.parameters_of d.ty) (Start s) (λ k. k.1) refl

  ended_moves : Moves c KnowsTypes (IfSome (StatementsOf d of list s).0 Are) (ParametersOf d of s).1 (StatementsOf d of list s).1
  ended_moves =
      moves_under c HasResult KnowsTypes (ParametersOf d of s).1 (StatementsOf d of list s).1 (λ k. k.0)
      (walk_moves c HasResult Are (IsStmt c lawful HasResult (result_type (result_of of)) no_jumps) (stmts_more c lawful HasResult (result_type (result_of of)) no_jumps) (statement (result_of of) no_jumps)
      (statement_moves c lawful (result_of of) no_jumps) list (Some []) (ParametersOf d of s).1 (ParametersOf d of s).1 (moves_none c HasResult (ParametersOf d of s).1 refl))

  body_moves : Moves c KnowsTypes (AllScalars (ParametersOf d of s).1.0 × IfSome (StatementsOf d of list s).0 Are) (Start s) (StatementsOf d of list s).1
  body_moves = moves_then c KnowsTypes (Start s) (ParametersOf d of s).1 (StatementsOf d of list s).1 entered_moves ended_moves

-- ---- a function

-- the function that is made of a body without a fault
abbrev FunctionOf : Declaration → FunctionType → List Stmt → JudgementState → List TStmt → TypedFn
FunctionOf d of list s found = record {
  name = d.name;
  result = of.result;
  params = length (ParametersOf d (Some of) s).1.0;
  locals = with_addressed (StatementsOf d (Some of) list s).1.1.1.addressed (StatementsOf d (Some of) list s).1.0;
  body = t.Block found;
}

made_typed : (u : TypedUnit) (d : Declaration) (of : FunctionType) (list : List Stmt) (s : JudgementState) (found : List TStmt) → (StatementsOf d (Some of) list s).0 ≡ Some found → DeclaresItsLocals (FunctionOf d of list s found)
    → IsGiven u d (Some of) s (judge_function d (Some of) list s).1 (FunctionOf d of list s found) → IsTypedFn u (FunctionOf d of list s found)
made_typed u d of list s found e declares given =
    let c = context_of u (FunctionOf d of list s found) in
    let v = (StatementsOf d (Some of) list s).1 in
    let moves = body_moves c given.structs d (Some of) list s in
    let covers : Covers c v = record {
      locals = addressed_has c v.1.1.addressed v.0 refl;
      knows = record { structs_known = given.knows.structs_known; tags_known = given.knows.tags_known; untagged_known = given.knows.untagged_known };
      takes = record { locals = addressed_in_memory c v.1.1.addressed v.0 refl; objects = given.texts };
    } in
    let stands : Stands c (KnowsTypes c given.structs d (Some of) list s) (Start s) = record {
      scope = record { names = given.scope.names; typedefs = given.scope.typedefs };
      lawful = refl;
      function = (result_fits u.structs (type_view of.result) given.result, given.parameters);
    } in
    let all = moves.found covers stands in
    record {
      name = given.name;
      result = given.result;
      params = declares.params;
      scalars = parameters_scalar (ParametersOf d (Some of) s).1.0 v.0 v.1.1.addressed (ended_moves c given.structs d (Some of) list s).grows all.0;
      count = given.count;
      locals = addressed_lawful u.structs v.1.1.addressed v.0 (moves.stands covers stands).lawful;
      block = along is_block (view_block found) refl;
      body = along (is_typed_stmt c (type_view of.result) typing.no_jumps) (view_block found) (subst (λ o. IfSome o (Are c given.structs d (Some of) list s)) e all.1);
      declares = declares.declares;
    }

typed_where : (u : TypedUnit) (d : Declaration) (of : Option FunctionType) (list : List Stmt) (s : JudgementState) (sound : Bool) (o : Option (List TStmt)) → (StatementsOf d of list s).0 ≡ o
    → IfSome (typed_function d.name (result_of of) sound (length (ParametersOf d of s).1.0) (with_addressed (StatementsOf d of list s).1.1.1.addressed (StatementsOf d of list s).1.0) o) DeclaresItsLocals
    → IfSome (typed_function d.name (result_of of) sound (length (ParametersOf d of s).1.0) (with_addressed (StatementsOf d of list s).1.1.1.addressed (StatementsOf d of list s).1.0) o)
    (λ f. IsGiven u d of s (judge_function d of list s).1 f → IsTypedFn u f)
typed_where u d None list s sound o e h = tt
typed_where u d (Some of) list s false o e h = tt
typed_where u d (Some of) list s true None e h = tt
typed_where u d (Some of) list s true (Some found) e h = made_typed u d of list s found e h

pub function_typed : (u : TypedUnit) (d : Declaration) (of : Option FunctionType) (list : List Stmt) (s : JudgementState) → IfSome (judge_function d of list s).0 (λ f. IsGiven u d of s (judge_function d of list s).1 f → IsTypedFn u f)
function_typed u d of list s = typed_where u d of list s (ParametersOf d of s).0 (StatementsOf d of list s).0 refl (function_says d of list s)

-- ---- what a body leaves

-- texts are objects whatever locals there are
texts_beside : (c : Context) (ls : List Local) (k : ℕ) (texts : List (List ℕ)) → HaveTexts c k texts → HaveTexts (record { structs = c.structs; globals = c.globals; functions = c.functions; locals = ls }) k texts
texts_beside c ls k [] h = tt
texts_beside c ls k (x ∷ xs) h = (h.0, texts_beside c ls (1 + k) xs h.1)

-- of no local the address is asked where there are none
none_in_memory : (c : Context) (ns : List ℕ) → AreInMemory (record { structs = c.structs; globals = c.globals; functions = c.functions; locals = [] }) ns
none_in_memory c [] = tt
none_in_memory c (n ∷ ns) = (refl, none_in_memory c ns)

pub function_leaves : (c : Context) → IsLawfulContext c → (d : Declaration) (of : Option FunctionType) (list : List Stmt) (s : JudgementState) → Leaves c s (judge_function d of list s).1
function_leaves c lawful d of list s =
    let v = (StatementsOf d of list s).1 in
    let moves = body_moves c lawful d of list s in
    let bare : Context = record { structs = c.structs; globals = c.globals; functions = c.functions; locals = [] } in
    let apart = body_moves bare lawful d of list s in
    record {
      env = left_scope s.0 v.1.0 moves.env;
      first = moves.later.first;
      addressed = refl;
      knows = λ k. moves.later.knows (record { structs_known = k.structs_known; tags_known = k.tags_known; untagged_known = k.untagged_known });
      texts = λ h. texts_beside bare c.locals s.1.first_text s.1.texts
          (apart.later.takes (record { locals = none_in_memory c v.1.1.addressed; objects = texts_beside c [] v.1.1.first_text v.1.1.texts h })).objects;
    }
