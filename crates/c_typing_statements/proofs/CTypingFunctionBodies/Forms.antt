-- What the body of a function answers, from what its parts answer.
use Rattle.std.proofs.Common.{◌≡◌, ℕ, List, [], Bool, Option, Some, Result, Ok, Err, length, sym, ap, ◌∙◌}
use Rattle.std.specs.Result.{IfOk}
use Rattle.c_tree.specs.declared.types.Declaration.{Declaration}
use Rattle.c_tree.specs.declared.types.Parameter.{Parameter}
use Rattle.c_tree.specs.declared.statements.Stmt.{Stmt}
use Rattle.c_typed_tree.specs.declared.types.CType.{CType}
use Rattle.c_typed_tree.specs.declared.statements.TStmt.{TStmt}
use Rattle.c_typed_tree.specs.declared.units.Local.{Local}
use Rattle.c_typed_tree.specs.declared.units.TypedFn.{TypedFn}
use Rattle.c_typing_state.specs.declared.env.Env.{Env}
use Rattle.c_typing_state.specs.declared.notes.Notes.{Notes}
use Rattle.c_typing_state.specs.Checks.{and_then, walk, Finds}
use Rattle.c_typing_state.specs.Scopes.{enter, leave}
use Rattle.c_typing_statement_parts.specs.c_typing_local_rules.Locals.{BodyState, with_addressed}
use Rattle.c_typing_statement_rules.specs.Jumps.{no_jumps}
use Rattle.c_typing_statements.specs.Statements.{statement}
use Rattle.c_typing_statements.specs.declared.c_typing_function_bodies.functions.FunctionType.{FunctionType}
use Rattle.c_typing_statements.specs.c_typing_function_bodies.Functions.{declared_parameters, parameters_of, result_of, typed_function, without_addresses, judge_function}

pub function_done : {E : Type 0} (d : Declaration) (of : Option FunctionType) (list : List Stmt) (ps : List Parameter) (env env_e env_p env_s env_l : Env) (n n_p n_s n_f : Notes) (outside params : ℕ) (ty : Option CType) (sound : Bool)
    (ls ls_p ls_s ls_f : List Local) (found : Option (List TStmt)) (r : Result (Option TypedFn) E)
    → ls ≡ [] → outside ≡ env.outside → env_e ≡ enter env → ps ≡ parameters_of d.ty → ty ≡ result_of of → declared_parameters of ps (ls, (env_e, n)) ≡ (sound, (ls_p, (env_p, n_p))) → params ≡ length ls_p
    → walk (statement ty no_jumps) list (Some []) (ls_p, (env_p, n_p)) ≡ (found, (ls_s, (env_s, n_s))) → env_l ≡ leave outside env_s → ls_f ≡ with_addressed n_s.addressed ls_s → n_f ≡ without_addresses n_s
    → IfOk r (λ a. a ≡ typed_function d.name ty sound params ls_f found) → Finds (judge_function d of list (env, n)) r (env_l, n_f)
function_done d of list ps env env_e env_p env_s env_l n n_p n_s n_f outside params ty sound ls ls_p ls_s ls_f found (Ok a) start count enters same result declares counts body leaves memory behind given =
    ap (λ t. and_then (declared_parameters of (parameters_of d.ty) ([], (enter env, n))) (λ k (u : BodyState). and_then (walk (statement t no_jumps) list (Some []) u) (λ xs (v : BodyState). (typed_function d.name t k (length u.0) (with_addressed v.1.1.addressed v.0) xs, (leave env.outside v.1.0, without_addresses v.1.1))))) (sym result)
    ∙ (ap (λ q. and_then q (λ k (u : BodyState). and_then (walk (statement ty no_jumps) list (Some []) u) (λ xs (v : BodyState). (typed_function d.name ty k (length u.0) (with_addressed v.1.1.addressed v.0) xs, (leave env.outside v.1.0, without_addresses v.1.1)))))
    (ap (λ p. declared_parameters of p ([], (enter env, n))) (sym same) ∙ (ap (λ z. declared_parameters of ps ([], (z, n))) (sym enters) ∙ (ap (λ z. declared_parameters of ps (z, (env_e, n))) (sym start) ∙ declares)))
    ∙ (ap (λ q. and_then q (λ xs (v : BodyState). (typed_function d.name ty sound (length ls_p) (with_addressed v.1.1.addressed v.0) xs, (leave env.outside v.1.0, without_addresses v.1.1)))) body
    ∙ (ap (λ k. (typed_function d.name ty sound k (with_addressed n_s.addressed ls_s) found, (leave env.outside env_s, without_addresses n_s))) (sym counts)
    ∙ (ap (λ z. (typed_function d.name ty sound params z found, (leave env.outside env_s, without_addresses n_s))) (sym memory)
    ∙ (ap (λ z. (z, (leave env.outside env_s, without_addresses n_s))) (sym given)
    ∙ (ap (λ o. (a, (leave o env_s, without_addresses n_s))) (sym count)
    ∙ (ap (λ z. (a, (z, without_addresses n_s))) (sym leaves) ∙ ap (λ z. (a, (env_l, z))) (sym behind))))))))
function_done d of list ps env env_e env_p env_s env_l n n_p n_s n_f outside params ty sound ls ls_p ls_s ls_f found (Err e) start count enters same result declares counts body leaves memory behind given = tt
