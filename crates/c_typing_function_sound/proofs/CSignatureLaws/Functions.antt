-- The parameters of a function are its first locals, with the types that its declarator gives.
use Rattle.std.proofs.Common.{◌≡◌, ◌<◌, ℕ, arith, Bool, true, false, ◌&&◌, IsTrue, List, [], ◌∷◌, ◌++◌, length, map, take, Option, Some, None, IfSome, is_some, refl, sym, ap, ◌∙◌, append_assoc, append-nil, if◌then◌else◌}
use Rattle.std.proofs.lemmas.List.{take-map}
use Rattle.c_typing_scopes.specs.Names.{find}
use Rattle.c_typing_faults.specs.declared.faults.Kind.TheVariants.{Redeclared}
use Rattle.c_tree.specs.declared.types.Declaration.{Declaration}
use Rattle.c_tree.specs.declared.types.Parameter.{Parameter}
use Rattle.c_tree.specs.declared.statements.Stmt.{Stmt}
use Rattle.c_typed_tree.specs.declared.types.CType.{CType}
use Rattle.c_typed_tree.specs.declared.statements.TStmt.{TStmt}
use Rattle.c_typed_tree.specs.declared.units.Local.{Local}
use Rattle.c_typed_tree.specs.Types.{PlainType}
use Rattle.c_typed_tree.specs.View.{type_view}
use Rattle.c_typed_tree.specs.Typing.{Context, is_fit}
use Rattle.c_typed_tree.specs.Lawful.{type_of_local}
use Rattle.c_typing_state.specs.Checks.{walk}
use Rattle.c_typing_state.specs.Notes.{with_fault}
use Rattle.c_typing_state.specs.Scopes.{enter, stands_here}
use Rattle.c_typing_judgements.specs.Types.{JudgementState}
use Rattle.c_typing_expression_sound.specs.c_judgement_laws.Covers.{IsLawfulContext}
use Rattle.c_typing_expression_sound.proofs.CTypeLaws.Truth.{no_true, front, back}
use Rattle.c_typing_statement_parts.specs.declared.c_typing_local_rules.locals.NewLocal.{NewLocal}
use Rattle.c_typing_statement_rules.specs.Jumps.{no_jumps}
use Rattle.c_typing_statement_parts.specs.c_typing_local_rules.Locals.{BodyState, with_notes, local_of_type, parameter_named, with_addressed}
use Rattle.c_typing_statements.specs.declared.c_typing_function_bodies.functions.FunctionType.{FunctionType}
use Rattle.c_typing_statements.specs.Statements.{statement}
use Rattle.c_typing_statements.specs.c_typing_function_bodies.Functions.{parameters_of, typed_parameters, typed_function, judge_function}
use Rattle.c_typing_function_sound.proofs.CStatementLaws.Locals.{Grows, addressed_types}
use Rattle.c_typing_function_sound.proofs.CStatementLaws.Moves.{moves_none, walk_moves}
use Rattle.c_typing_function_sound.proofs.CStatementLaws.Forms.{IsStmt, AreStmts, stmts_more}
use Rattle.c_typing_function_sound.proofs.CStatementLaws.Statements.{statement_moves}
use Rattle.c_typing_function_sound.specs.c_signature_laws.Laws.{HasItsType}

-- ---- parameters that are declared

abbrev types_of : List Local → List PlainType
types_of ls = map type_of_local ls

one_more : (ls : List Local) (l : Local) → types_of (ls ++ l ∷ []) ≡ types_of ls ++ type_of_local l ∷ []
one_more [] l = refl
one_more (x ∷ ls) l = ap (λ ts. type_of_local x ∷ ts) (one_more ls l)

named_adds : (at : ℕ) (name : Option (List ℕ)) (ty : CType) (w : BodyState) → IsTrue (is_some (parameter_named at name (Some ty) w).0) → types_of (parameter_named at name (Some ty) w).1.0 ≡ types_of w.0 ++ type_view ty ∷ []
named_adds at None ty w h = no_true h
named_adds at (Some name) ty w h = choose (stands_here w.1.0 (find name w.1.0.names)) h
  where
    either : Bool → Option NewLocal × BodyState
    either b = if b then (None, (w.0, (w.1.0, with_fault at Redeclared w.1.1))) else with_notes w.1.1 (local_of_type name (Some ty) (w.0, w.1.0))

    choose : (b : Bool) → IsTrue (is_some (either b).0) → types_of (either b).1.0 ≡ types_of w.0 ++ type_view ty ∷ []
    choose true h = no_true h
    choose false h = one_more w.0 _

-- where all are sound in the end, they were before
sound_before : (ps : List Parameter) (tys : List CType) (sound : Bool) (w : BodyState) → IsTrue (typed_parameters ps tys sound w).0 → IsTrue sound
sound_before [] [] sound w h = h
sound_before [] (ty ∷ tys) sound w h = no_true h
sound_before (p ∷ ps) [] sound w h = no_true h
sound_before (p ∷ ps) (ty ∷ tys) sound w h =
    let r = parameter_named p.at p.name (Some ty) w in
    front sound (is_some r.0) (sound_before ps tys (sound && is_some r.0) r.1 h)

parameters_typed : (ps : List Parameter) (tys : List CType) (sound : Bool) (w : BodyState) → IsTrue (typed_parameters ps tys sound w).0 → types_of (typed_parameters ps tys sound w).1.0 ≡ types_of w.0 ++ map type_view tys
parameters_typed [] [] sound w h = sym (append-nil (types_of w.0))
parameters_typed [] (ty ∷ tys) sound w h = no_true h
parameters_typed (p ∷ ps) [] sound w h = no_true h
parameters_typed (p ∷ ps) (ty ∷ tys) sound w h =
    let r = parameter_named p.at p.name (Some ty) w in
    let found = back sound (is_some r.0) (sound_before ps tys (sound && is_some r.0) r.1 h) in
    parameters_typed ps tys (sound && is_some r.0) r.1 h
    ∙ (ap (λ ts. ts ++ map type_view tys) (named_adds p.at p.name ty w found) ∙ append_assoc (types_of w.0) (type_view ty ∷ []) (map type_view tys))

-- ---- locals that are added behind them

take_front : {A : Type 0} (xs ys : List A) → take (length xs) (xs ++ ys) ≡ xs
take_front [] ys = refl
take_front (x ∷ xs) ys = ap (λ l. x ∷ l) (take_front xs ys)

first_types : (first later : List Local) (numbers : List ℕ) → Grows first later → types_of (take (length first) (with_addressed numbers later)) ≡ types_of first
first_types first later numbers g =
    sym (take-map type_of_local (length first) (with_addressed numbers later))
    ∙ (ap (take (length first)) (addressed_types numbers later)
    ∙ (take-map type_of_local (length first) later
    ∙ (ap (λ ls. types_of (take (length first) ls)) g.same ∙ ap types_of (take_front first g.more))))

abbrev nowhere : Context
nowhere = record { structs = []; globals = []; functions = []; locals = [] }

none_below : (k : ℕ) → k < 0 → ⊥
none_below k h = omega arith

nowhere_lawful : IsLawfulContext nowhere
nowhere_lawful = λ k d small. absurd (none_below k small)

body_grows : (ty : CType) (list : List Stmt) (w : BodyState) → Grows w.0 (walk (statement (Some ty) no_jumps) list (Some []) w).1.0
body_grows ty list w =
    (walk_moves nowhere (IsTrue (is_fit [] (type_view ty))) (λ xs. AreStmts nowhere nowhere_lawful (IsTrue (is_fit [] (type_view ty))) (type_view ty) no_jumps xs)
    (IsStmt nowhere nowhere_lawful (IsTrue (is_fit [] (type_view ty))) (type_view ty) no_jumps) (stmts_more nowhere nowhere_lawful (IsTrue (is_fit [] (type_view ty))) (type_view ty) no_jumps)
    (statement (Some ty) no_jumps) (statement_moves nowhere nowhere_lawful (Some ty) no_jumps) list (Some []) w w (moves_none nowhere (IsTrue (is_fit [] (type_view ty))) w refl)).grows

-- ---- functions

made_type : (d : Declaration) (of : FunctionType) (sound : Bool) (first later : List Local) (numbers : List ℕ) (found : Option (List TStmt)) → Grows first later → (IsTrue sound → types_of first ≡ map type_view of.parameters)
    → IfSome (typed_function d.name (Some of.result) sound (length first) (with_addressed numbers later) found) (HasItsType d of)
made_type d of false first later numbers found g h = tt
made_type d of true first later numbers None g h = tt
made_type d of true first later numbers (Some list) g h = record {
  name = refl;
  result = refl;
  parameters = first_types first later numbers g ∙ h refl;
}

pub function_has_type : (d : Declaration) (of : FunctionType) (list : List Stmt) (s : JudgementState) → IfSome (judge_function d (Some of) list s).0 (HasItsType d of)
function_has_type d of list s =
    let start : BodyState = ([], (enter s.0, s.1)) in
    let p = typed_parameters (parameters_of d.ty) of.parameters true start in
    let f = walk (statement (Some of.result) no_jumps) list (Some []) p.1 in
    made_type d of p.0 p.1.0 f.1.0 f.1.1.1.addressed f.0 (body_grows of.result list p.1) (parameters_typed (parameters_of d.ty) of.parameters true start)
