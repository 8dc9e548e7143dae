-- The locals that declarations add.
use Rattle.std.proofs.Common.{◌≡◌, ◌+◌, ◌==◌, ℕ, Bool, true, false, cond, if◌then◌else◌, List, [], ◌∷◌, ◌++◌, Option, Some, None, length, map, sum_by, refl, ap, ◌∙◌, arith, length-append}
use Rattle.std.specs.Option.{option_map}
use Rattle.std.proofs.lemmas.List.{map-append}
use Rattle.std.proofs.lemmas.List.Sums.{sum_by_push}
use Rattle.c_typing_scopes.specs.Names.{find}
use Rattle.c_tree.specs.declared.expressions.Expr.{Expr}
use Rattle.c_tree.specs.declared.statements.LocalDeclarator as tree
use Rattle.c_tree.specs.declared.statements.ForFirst.{ForFirst}
use Rattle.c_tree.specs.declared.statements.ForFirst.TheVariants as g
use Rattle.c_typed_tree.specs.declared.types.CType.{CType}
use Rattle.c_typed_tree.specs.declared.expressions.TExpr.{TExpr}
use Rattle.c_typed_tree.specs.declared.statements.TLocal.{TLocal}
use Rattle.c_typed_tree.specs.declared.units.Local.{Local}
use Rattle.c_typed_tree.specs.declared.statements.TFirst.{TFirst}
use Rattle.c_typed_tree.specs.Declarations.{declarations_here, first_declarations}
use Rattle.c_typed_tree.specs.View.{local_view, first_view}
use Rattle.c_typing_rules.specs.declared.typed.TypedExpression.{TypedExpression}
use Rattle.c_typing_state.specs.Checks.{walk, each, both_parts}
use Rattle.c_typing_faults.specs.declared.faults.Kind.TheVariants.{Redeclared}
use Rattle.c_typing_state.specs.Notes.{with_fault}
use Rattle.c_typing_state.specs.Scopes.{stands_here}
use Rattle.c_typing_state.specs.declared.env.Env.{Env}
use Rattle.c_typing_state.specs.declared.notes.Notes.{Notes}
use Rattle.c_typing_expressions.specs.Expressions.{judge}
use Rattle.c_typing_statement_parts.specs.declared.c_typing_local_rules.locals.NewLocal.{NewLocal}
use Rattle.c_typing_statement_parts.specs.c_typing_local_rules.Objects.{object_type}
use Rattle.c_typing_statement_rules.specs.Forms.{first_locals, first_value}
use Rattle.c_typing_statement_parts.specs.c_typing_local_rules.Locals.{BodyState, with_notes, local_of_type, local_named, with_initialiser, initialiser, local_with_value, without_initialiser}
use Rattle.c_typing_statement_parts.specs.Parts.{judge_type, initialiser_of, local_of, first_of, full_value}
use Rattle.c_typing_function_sound.proofs.CLocalLaws.Numbers.{Declares, Is, declares_as, declares_none, due_one, count_of, walk_says}

abbrev pub here : (k : ℕ) → TLocal → ℕ
here k l = declarations_here k (local_view l)

abbrev pub new_here : (k : ℕ) → NewLocal → ℕ
new_here k l = cond (l.number == k) 1 0

-- a new local has the number behind those that there are
next_number : (k n m : ℕ) → m ≡ n + 1 → Declares k n m (Some (cond (n == k) 1 0))
next_number k n m one = record { grow = omega arith; due = due_one k n m one }

-- nothing is found
none_here : (k a : ℕ) → Declares k a a None
none_here k a = record { grow = omega arith; due = tt }

of_type_says : (k : ℕ) (name : List ℕ) (ty : Option CType) (s : List Local × Env)
    → Declares k (length s.0) (length (local_of_type name ty s).1.0) (count_of (new_here k) (local_of_type name ty s).0)
of_type_says k name None s = none_here k (length s.0)
of_type_says k name (Some ty) s = next_number k (length s.0) _ (length-append s.0 _)

named_says : (k at : ℕ) (name : List ℕ) (ty : Option CType) (w : BodyState)
    → Declares k (length w.0) (length (local_named at name ty w).1.0) (count_of (new_here k) (local_named at name ty w).0)
named_says k at name ty w = by (stands_here w.1.0 (find name w.1.0.names))
  where
    either : Bool → Option NewLocal × BodyState
    either b = if b then (None, (w.0, (w.1.0, with_fault at Redeclared w.1.1))) else with_notes w.1.1 (local_of_type name ty (w.0, w.1.0))

    by : (b : Bool) → Declares k (length w.0) (length (either b).1.0) (count_of (new_here k) (either b).0)
    by true = none_here k (length w.0)
    by false = of_type_says k name ty (w.0, w.1.0)

-- the initialiser of a local declares no other one
with_value_says : (k number : ℕ) (r : Option TExpr) → Is (count_of (here k) (option_map (with_initialiser number) r)) (Some (cond (number == k) 1 0))
with_value_says k number None = tt
with_value_says k number (Some x) = refl

initialised_says : (k : ℕ) (new : Option NewLocal) (a : Option TypedExpression) (n : Notes) → Is (count_of (here k) (both_parts new a local_with_value n).0) (count_of (new_here k) new)
initialised_says k None a n = tt
initialised_says k (Some new) None n = tt
initialised_says k (Some new) (Some a) n = with_value_says k new.number (initialiser new.ty a n).0

plain_says : (k : ℕ) (new : Option NewLocal) → Is (count_of (here k) (option_map without_initialiser new)) (count_of (new_here k) new)
plain_says k None = tt
plain_says k (Some new) = refl

init_says : (k : ℕ) (new : Option NewLocal) (e : Option Expr) (w : BodyState) (a : ℕ) → Declares k a (length w.0) (count_of (new_here k) new)
    → Declares k a (length (initialiser_of new e w).1.0) (count_of (here k) (initialiser_of new e w).0)
init_says k new None w a h = declares_as k a (length w.0) _ _ (plain_says k new) h
init_says k new (Some x) w a h = declares_as k a (length w.0) _ _ (initialised_says k new (judge x w.1).0 (judge x w.1).1.1) h

pub local_says : (k : ℕ) (d : tree.LocalDeclarator) (w : BodyState) → Declares k (length w.0) (length (local_of d w).1.0) (count_of (here k) (local_of d w).0)
local_says k d w =
    let ty = judge_type d.declaration.at d.declaration.ty w.1 in
    let s = each ty.0 (object_type d.declaration.at) ty.1.1 in
    let new = local_named d.declaration.at d.declaration.name s.0 (w.0, (ty.1.0, s.1)) in
    init_says k new.0 d.init new.1 (length w.0) (named_says k d.declaration.at d.declaration.name s.0 (w.0, (ty.1.0, s.1)))

-- ---- the first part of a `for`

abbrev pub locals_here : (k : ℕ) → List TLocal → ℕ
locals_here k ls = sum_by (declarations_here k) (map local_view ls)

locals_push : (k : ℕ) (ls : List TLocal) (l : TLocal) → locals_here k (ls ++ l ∷ []) ≡ locals_here k ls + here k l
locals_push k ls l = ap (sum_by (declarations_here k)) (map-append local_view ls (l ∷ [])) ∙ sum_by_push (declarations_here k) (map local_view ls) (local_view l)

abbrev pub first_here : (k : ℕ) → TFirst → ℕ
first_here k p = first_declarations k (first_view p)

first_value_says : (k : ℕ) (v : Option TExpr) → Is (count_of (first_here k) (first_value v)) (Some 0)
first_value_says k None = tt
first_value_says k (Some x) = refl

first_locals_says : (k : ℕ) (ls : Option (List TLocal)) → Is (count_of (first_here k) (first_locals ls)) (count_of (locals_here k) ls)
first_locals_says k None = tt
first_locals_says k (Some ls) = refl

pub first_says : (k : ℕ) (p : ForFirst) (w : BodyState) → Declares k (length w.0) (length (first_of p w).1.0) (count_of (first_here k) (first_of p w).0)
first_says k g.Nothing w = declares_none k (length w.0)
first_says k (g.Value x) w = declares_as k (length w.0) (length w.0) (Some 0) _ (first_value_says k (full_value x w.1).0) (declares_none k (length w.0))
first_says k (g.Locals ds) w =
    declares_as k (length w.0) _ _ _ (first_locals_says k (walk local_of ds (Some []) w).0)
    (walk_says k local_of (here k) (locals_here k) (locals_push k) (local_says k) ds (Some []) w (length w.0) (declares_none k (length w.0)))
