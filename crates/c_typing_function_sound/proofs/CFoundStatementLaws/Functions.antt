-- Functions, by their parameters and their statements.
use Rattle.std.proofs.Common.{ℕ, Bool, true, false, ◌&&◌, IsTrue, List, [], ◌∷◌, length, Option, Some, None, is_some, refl}
use Rattle.c_tree.specs.declared.types.Declaration.{Declaration}
use Rattle.c_tree.specs.declared.types.Parameter.{Parameter}
use Rattle.c_tree.specs.declared.statements.Stmt.{Stmt}
use Rattle.c_typed_tree.specs.declared.types.CType.{CType}
use Rattle.c_typed_tree.specs.declared.statements.TStmt.{TStmt}
use Rattle.c_typed_tree.specs.declared.units.Local.{Local}
use Rattle.c_typing_state.specs.Checks.{walk, append_part}
use Rattle.c_typing_state.specs.Scopes.{enter}
use Rattle.c_typing_judgements.specs.Types.{JudgementState}
use Rattle.c_typing_statement_rules.specs.Jumps.{no_jumps}
use Rattle.c_typing_statement_parts.specs.c_typing_local_rules.Locals.{BodyState, parameter_named, with_addressed}
use Rattle.c_typing_statements.specs.declared.c_typing_function_bodies.functions.FunctionType.{FunctionType}
use Rattle.c_typing_statements.specs.Statements.{statement}
use Rattle.c_typing_statements.specs.c_typing_function_bodies.Functions.{parameters_of, judge_parameter, parameters, typed_parameters, declared_parameters, result_of, typed_function, judge_function}
use Rattle.c_typing_expression_sound.specs.c_found_laws.Laws.{Tells, IsFound}
use Rattle.c_typing_expression_sound.proofs.CFoundLaws.Forms.{no_true, also, tells_none, tells_as, tells_then, tells_both, append_found, left_tells}
use Rattle.c_typing_function_sound.specs.c_found_statement_laws.Laws.{are_as_many, type_fits}
use Rattle.c_typing_function_sound.proofs.CFoundStatementLaws.Parts.{parameter_named_tells, parameter_tells}
use Rattle.c_typing_function_sound.proofs.CFoundStatementLaws.Statements.{statement_tells}

-- ---- parameters: without a type for the function nothing is said of what is found

parameters_tell : (ps : List Parameter) (sound : Bool) (v : JudgementState) (w : BodyState) → Tells (Unit {0}) v w.1 → Tells (Unit {0}) v (parameters ps sound w).1.1
parameters_tell [] sound v w h = h
parameters_tell (p ∷ ps) sound v w h =
    let r = judge_parameter p w in
    parameters_tell ps (sound && is_some r.0) v r.1 (tells_both v w.1 r.1.1 (λ x y. tt) h (parameter_tells p w))

typed_parameters_tell : (ps : List Parameter) (tys : List CType) (sound : Bool) (v : JudgementState) (w : BodyState) → Tells (IsTrue sound) v w.1
    → Tells (IsTrue (are_as_many ps tys) → IsTrue (typed_parameters ps tys sound w).0) v (typed_parameters ps tys sound w).1.1
typed_parameters_tell [] [] sound v w h = tells_as v w.1 (λ x k. x) h
typed_parameters_tell [] (ty ∷ tys) sound v w h = tells_as v w.1 (λ x k. no_true k) h
typed_parameters_tell (p ∷ ps) [] sound v w h = tells_as v w.1 (λ x k. no_true k) h
typed_parameters_tell (p ∷ ps) (ty ∷ tys) sound v w h =
    let r = parameter_named p.at p.name (Some ty) w in
    typed_parameters_tell ps tys (sound && is_some r.0) v r.1
    (tells_both v w.1 r.1.1 (λ x y. also sound (is_some r.0) x y) h (parameter_named_tells p.at p.name (Some ty) w.1 w (tells_none w.1 refl)))

-- what is known of the parameters of a declarator
abbrev HaveAllDeclared : Option FunctionType → List Parameter → Bool → Type 0
HaveAllDeclared None ps sound = Unit {0}
HaveAllDeclared (Some of) ps sound = IsTrue (are_as_many ps of.parameters) → IsTrue sound

declared_tells : (of : Option FunctionType) (ps : List Parameter) (w : BodyState) → Tells (HaveAllDeclared of ps (declared_parameters of ps w).0) w.1 (declared_parameters of ps w).1.1
declared_tells None ps w = parameters_tell ps true w.1 w (tells_none w.1 tt)
declared_tells (Some of) ps w = typed_parameters_tell ps of.parameters true w.1 w (tells_none w.1 refl)

-- ---- statements

module _ (of : Option CType) where
  list_tells : (xs : List Stmt) (found : Option (List TStmt)) (v : JudgementState) (w : BodyState) → Tells (IsFound of → IsFound found) v w.1
      → Tells (IsFound of → IsFound (walk (statement of no_jumps) xs found w).0) v (walk (statement of no_jumps) xs found w).1.1
  list_tells [] found v w h = h
  list_tells (x ∷ xs) found v w h =
      let r = statement of no_jumps x w in
      list_tells xs (append_part found r.0) v r.1 (tells_both v w.1 r.1.1 (λ g l k. append_found found r.0 (g k) (l k)) h (statement_tells of no_jumps x w))

-- ---- functions

made_found : (d : Declaration) (of : Option FunctionType) (sound : Bool) (params : ℕ) (ls : List Local) (found : Option (List TStmt)) → HaveAllDeclared of (parameters_of d.ty) sound → (IsFound (result_of of) → IsFound found) → IsTrue (type_fits of d)
    → IsFound (typed_function d.name (result_of of) sound params ls found)
made_found d None sound params ls found h g k = no_true k
made_found d (Some of) false params ls found h g k = no_true (h k)
made_found d (Some of) true params ls None h g k = no_true (g refl)
made_found d (Some of) true params ls (Some list) h g k = refl

pub function_tells : (d : Declaration) (of : Option FunctionType) (list : List Stmt) (s : JudgementState) → Tells (IsTrue (type_fits of d) → IsFound (judge_function d of list s).0) s (judge_function d of list s).1
function_tells d of list s =
    let start : BodyState = ([], (enter s.0, s.1)) in
    let p = declared_parameters of (parameters_of d.ty) start in
    let f = walk (statement (result_of of) no_jumps) list (Some []) p.1 in
    let inside : Tells (HaveAllDeclared of (parameters_of d.ty) p.0 × (IsFound (result_of of) → IsFound f.0)) start.1 f.1.1 =
    tells_then start.1 p.1.1 f.1.1 (declared_tells of (parameters_of d.ty) start) (list_tells (result_of of) list (Some []) p.1.1 p.1 (tells_none p.1.1 (λ k. refl))) in
    let outside = left_tells s f.1.1 inside in
    record {
      before = outside.before;
      stays = outside.stays;
      found = λ t h. made_found d of p.0 (length p.1.0) (with_addressed f.1.1.1.addressed f.1.0) f.0 (outside.found t h).0 (outside.found t h).1;
    }
