-- What a list of parameters makes of a type, from what its parts answer.
use Rattle.std.proofs.Common.{◌≡◌, ℕ, List, [], Option, Some, Result, Ok, Err, sym, ap, ◌∙◌}
use Rattle.c_tree.specs.declared.types.TypeNode as t
use Rattle.c_tree.specs.declared.types.Parameter.{Parameter}
use Rattle.c_typing_rules.specs.declared.c_typing_declared_types.declared.DeclaredType.{DeclaredType}
use Rattle.c_typed_tree.specs.declared.types.CType.{CType}
use Rattle.c_typing_state.specs.declared.env.Env.{Env}
use Rattle.c_typing_state.specs.declared.notes.Notes.{Notes}
use Rattle.c_typing_state.specs.Checks.{and_then, both_parts, walk, Finds}
use Rattle.c_typing_state.specs.Scopes.{enter, leave}
use Rattle.c_typing_judgements.specs.Types.{JudgementState, in_env, function}
use Rattle.c_typing_expressions.specs.Expressions.{derive}
use Rattle.c_typing_expressions.specs.model.Parts.{one_parameter}
use Rattle.c_typing_expressions.proofs.Rows.{derive-Takes}

pub takes_done : {E : Type 0} (v : t.TypeNode) (at : ℕ) (x : t.TypeNode) (list : List Parameter) (of : Option DeclaredType) (env env_e env_p env_l env_d : Env) (outside : ℕ) (n n_p n_d n_f : Notes)
    (found : Option (List CType)) (ty : Option DeclaredType) (r : Result (Option DeclaredType) E)
    → v ≡ t.Takes x list → outside ≡ env.outside → env_e ≡ enter env → walk one_parameter list (Some []) (env_e, n) ≡ (found, (env_p, n_p)) → env_l ≡ leave outside env_p
    → derive at x of (env_l, n_p) ≡ (ty, (env_d, n_d)) → Finds (both_parts found ty (function at) n_d) r n_f → Finds (derive at v of (env, n)) r (env_d, n_f)
takes_done v at x list of env env_e env_p env_l env_d outside n n_p n_d n_f found ty (Ok a) form count enters parts leaves inner given =
    ap (λ w. derive at w of (env, n)) form ∙ (derive-Takes at x list of (env, n)
    ∙ (ap (λ q. and_then q (λ f (u : JudgementState). and_then (derive at x of (leave env.outside u.0, u.1)) (λ k (w : JudgementState). in_env w.0 (both_parts f k (function at) w.1))))
    (ap (λ z. walk one_parameter list (Some []) (z, n)) (sym enters) ∙ parts)
    ∙ (ap (λ q. and_then q (λ k (w : JudgementState). in_env w.0 (both_parts found k (function at) w.1)))
    (ap (λ o. derive at x of (leave o env_p, n_p)) (sym count) ∙ (ap (λ z. derive at x of (z, n_p)) (sym leaves) ∙ inner))
    ∙ ap (in_env env_d) given)))
takes_done v at x list of env env_e env_p env_l env_d outside n n_p n_d n_f found ty (Err f) form count enters parts leaves inner given = tt
