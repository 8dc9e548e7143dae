-- The body of a function declares no parameter, and each other local once.
use Rattle.std.proofs.Common.{◌≡◌, ℕ, Bool, true, false, List, [], ◌∷◌, Option, Some, None, length, slice_get, refl, sym, ap, ◌∙◌, subst}
use Rattle.std.specs.Option.{IfSome}
use Rattle.std.proofs.lemmas.List.{length-set}
use Rattle.c_tree.specs.declared.types.Declaration.{Declaration}
use Rattle.c_tree.specs.declared.statements.Stmt.{Stmt}
use Rattle.c_typed_tree.specs.declared.types.CType.{CType}
use Rattle.c_typed_tree.specs.declared.statements.TStmt.{TStmt}
use Rattle.c_typed_tree.specs.declared.units.Local.{Local}
use Rattle.c_typed_tree.specs.Declarations.{declarations}
use Rattle.c_typed_tree.proofs.Views.{view_block}
use Rattle.c_typing_state.specs.Checks.{walk}
use Rattle.c_typing_state.specs.Scopes.{enter}
use Rattle.c_typing_judgements.specs.Types.{JudgementState}
use Rattle.c_typing_statement_rules.specs.Jumps.{no_jumps}
use Rattle.c_typing_statement_parts.specs.c_typing_local_rules.Locals.{memory_local_at, with_addressed}
use Rattle.c_typing_statements.specs.Statements.{statement}
use Rattle.c_typing_statements.specs.declared.c_typing_function_bodies.functions.FunctionType.{FunctionType}
use Rattle.c_typing_statements.specs.c_typing_function_bodies.Functions.{declared_parameters, parameters_of, result_of, typed_function, judge_function}
use Rattle.c_typing_function_sound.specs.c_local_laws.Laws.{DeclaresItsLocals}
use Rattle.c_typing_function_sound.proofs.CLocalLaws.Numbers.{Declares, declares_none, count_of, walk_says}
use Rattle.c_typing_function_sound.proofs.CLocalLaws.Statements.{stmt_here, stmts_here, stmts_push, statement_says}

-- ---- locals whose address was taken are as many as before

memory_length : (number : ℕ) (o : Option Local) (ls : List Local) → length (memory_local_at number o ls) ≡ length ls
memory_length number None ls = refl
memory_length number (Some l) ls = length-set ls number _

addressed_length : (numbers : List ℕ) (ls : List Local) → length (with_addressed numbers ls) ≡ length ls
addressed_length [] ls = refl
addressed_length (n ∷ ns) ls = addressed_length ns (memory_local_at n (slice_get ls n) ls) ∙ memory_length n (slice_get ls n) ls

-- ---- functions

-- what is known of a body for each number
abbrev Says : (params : ℕ) (ls : List Local) → Option (List TStmt) → Type 0
Says params ls found = (k : ℕ) → Declares k params (length ls) (count_of (stmts_here k) found)

typed_says : (name : List ℕ) (of : Option CType) (sound : Bool) (params : ℕ) (ls : List Local) (found : Option (List TStmt)) → Says params ls found
    → IfSome (typed_function name of sound params ls found) DeclaresItsLocals
typed_says name None sound params ls found h = tt
typed_says name (Some ty) false params ls found h = tt
typed_says name (Some ty) true params ls None h = tt
typed_says name (Some ty) true params ls (Some list) h = record {
  params = (h 0).grow;
  declares = λ k. ap (declarations k) (view_block list) ∙ (h k).due;
}

pub function_says : (d : Declaration) (of : Option FunctionType) (list : List Stmt) (s : JudgementState) → IfSome (judge_function d of list s).0 DeclaresItsLocals
function_says d of list s =
    let p = declared_parameters of (parameters_of d.ty) ([], (enter s.0, s.1)) in
    let f = walk (statement (result_of of) no_jumps) list (Some []) p.1 in
    typed_says d.name (result_of of) p.0 (length p.1.0) (with_addressed f.1.1.1.addressed f.1.0) f.0
    (λ k. subst (λ n. Declares k (length p.1.0) n (count_of (stmts_here k) f.0)) (sym (addressed_length f.1.1.1.addressed f.1.0))
    (walk_says k (statement (result_of of) no_jumps) (stmt_here k) (stmts_here k) (stmts_push k) (statement_says k (result_of of) no_jumps) list (Some []) p.1 (length p.1.0) (declares_none k (length p.1.0))))
