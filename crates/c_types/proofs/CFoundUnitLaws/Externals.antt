-- Definitions of functions, each declaration at file scope, and lists of them.
use Rattle.std.proofs.Common.{◌≡◌, ◌≤◌, ℕ, arith, Bool, true, false, not, ◌&&◌, ◌||◌, IsTrue, List, [], ◌∷◌, length, bytes_eq, nat_lt, ◌==◌, IfSome, Option, Some, None, is_some, refl, sym, ap, ◌∙◌, subst, if◌then◌else◌}
use Rattle.std.proofs.lemmas.Slice.Eq.{bytes_eq-Decides}
use Rattle.std.proofs.lemmas.Bool.{le-ltb}
use Rattle.c_tree.specs.declared.declarations.Storage.{Storage}
use Rattle.c_tree.specs.declared.declarations.Init.{Init}
use Rattle.c_tree.specs.declared.declarations.FunctionEnd.{FunctionEnd}
use Rattle.c_tree.specs.declared.declarations.FunctionEnd.TheVariants as f
use Rattle.c_tree.specs.declared.declarations.External.{External}
use Rattle.c_tree.specs.declared.declarations.External.TheVariants as x
use Rattle.c_tree.specs.declared.types.Declaration.{Declaration}
use Rattle.c_tree.specs.declared.types.Parameter.{Parameter}
use Rattle.c_tree.specs.declared.types.TypeNode as t
use Rattle.c_tree.specs.declared.expressions.Expr.TheBlock as k
use Rattle.c_tree.specs.declared.statements.Stmt.{Stmt}
use Rattle.c_typing_rules.specs.declared.c_typing_declared_types.declared.DeclaredType.{DeclaredType}
use Rattle.c_typing_rules.specs.declared.c_typing_declared_types.declared.DeclaredType.TheVariants as d
use Rattle.c_typing_rules.specs.c_typing_declared_types.Depth.{is_declarable}
use Rattle.c_typing_definitions.specs.declared.names.Definitions.{Definitions}
use Rattle.c_typing_faults.specs.declared.faults.Kind.TheVariants.{BadType}
use Rattle.c_typed_tree.specs.declared.types.CType.{CType}
use Rattle.c_typed_tree.specs.declared.units.TypedFn.{TypedFn}
use Rattle.c_typing_state.specs.declared.env.Env.{Env}
use Rattle.c_typing_state.specs.declared.notes.Notes.{Notes}
use Rattle.c_typing_state.specs.Notes.{with_fault}
use Rattle.c_typing_judgements.specs.Leaves.{no_type}
use Rattle.c_typing_judgements.specs.Types.{JudgementState}
use Rattle.c_typing_struct_bodies.specs.Bodies.{TagScope, declared_type}
use Rattle.c_typing_statements.specs.declared.c_typing_function_bodies.functions.FunctionType.{FunctionType}
use Rattle.c_typing_statements.specs.c_typing_function_bodies.Functions.{parameters_of, judge_function}
use Rattle.c_typing_initialisers.specs.Unfit.{judge_init, no_place}
use Rattle.mem_objects.specs.declared.DataCell.{DataCell}
use Rattle.bk_arithmetic.specs.declared.integer_type.IntegerType.TheVariants.{Int}
use Rattle.bk_arithmetic.specs.Words.{is_word}
use Rattle.c_typing_struct_bodies.specs.Enums.{constant_meaning}
use Rattle.c_typing_state.specs.declared.meanings.NameMeaning.{NameMeaning}
use Rattle.c_typing_state.specs.declared.meanings.NameMeaning.TheVariants as m
use Rattle.c_typing_state.specs.Checks.{each}
use Rattle.c_typing_state.specs.Scopes.{with_meaning, stands_here}
use Rattle.c_typing_faults.specs.declared.faults.Kind.{Kind}
use Rattle.c_typing_judgements.specs.Types.{type_named}
use Rattle.c_typing_unit_names.specs.declared.names.NameDeclaration.{NameDeclaration}
use Rattle.c_typing_unit_names.specs.declared.names.UnitNames.{UnitNames}
use Rattle.std.specs.Bool.{beq}
use Rattle.c_typing_unit_names.specs.UnitNames.{is_same_declared, may_follow, object_name, function_name, value_name, first_meaning, with_declared, with_value}
use Rattle.c_typing_scopes.specs.Names.{Entry, find}
use Rattle.c_typing_declarations.specs.declared.walk.UnitSoFar.{UnitSoFar}
use Rattle.c_typing_declarations.specs.Walk.{UnitWalk, in_notes, with_notes, with_state, declare, with_names, is_main, add_numbered, next_object, object_number, fill_numbered, function_at, add_function, keep_function, body_kept}
use Rattle.c_typing_declarations.specs.Objects.{object_declared}
use Rattle.c_typing_declarations.specs.Functions.{init_refused, refusal_of, function_type, function_declared, function_by_type, function_with_type, name_judged, name_row, type_where, defined_type, with_main, main_seen, is_start}
use Rattle.c_typing_units.specs.Externals.{typedef_of, typedef_declared, prototype, refused_behind, with_init_refused, object_with, main_with, with_main_in, with_definition, type_with, type_of_function, body_judged, definition_with, definition, external_function, end_judged, with_end_judged, function_typed, external_behind_type, declarator_type, tags_declared, walk_external, externals}
use Rattle.c_typing_expression_sound.specs.c_found_laws.Laws.{IsClean, is_sound, are_sound_names, NamesAreSound, Tells, IsFound, YieldsFound}
use Rattle.c_typing_expression_sound.proofs.CTypeLaws.Truth.{three, either_left}
use Rattle.c_typing_expression_sound.proofs.CFoundLaws.Forms.{no_true, also, front, back, tells_none, tells_fault, tells_as, tells_then, tells_both, each_tells, type_named_tells}
use Rattle.c_typing_function_sound.specs.c_found_statement_laws.Laws.{are_as_many, type_fits}
use Rattle.c_typing_function_sound.proofs.CFoundStatementLaws.Functions.{function_tells}
use Rattle.c_types.specs.c_found_unit_laws.Steps.{DeclaresName, First, Again, declared_as, UnitSteps, Stays, Follows, AddsConstant, SeesMain, DeclaresType, DeclaresFunction, DefinesFunction, DeclaresObject, KeepsCells}
use Rattle.c_types.specs.model.c_found_unit_laws.Bodies.{is_function_type, is_body, is_body_in, has_body}
use Rattle.c_types.proofs.CFoundUnitLaws.Names.{function_env}
use Rattle.c_types.proofs.CFoundUnitLaws.Bodies.{declared_tells}
use Rattle.c_types.proofs.CFoundUnitLaws.Constants.{Enters, Same, More, declared_enters}
use Rattle.c_types.proofs.CFoundUnitLaws.Shapes.{declares_type, declared_fits}
use Rattle.c_types.proofs.CFoundUnitLaws.Initialisers.{judge_init_tells, unfit_tells}
use Rattle.c_types.proofs.CFoundUnitLaws.Declarations.{Steps, tells_refused, typedef_by, value_object_tells, array_object_tells, faulty_object_tells, function_by, prototype_tells, init_refused_tells, optional_refused_tells}

-- ---- definitions

named_tells : (env : Env) (at : ℕ) (name : Option (List ℕ)) (whole : Bool) (s : JudgementState) (n : Notes) → Tells (IsTrue whole) s (env, n) → Tells (IsTrue (name_judged at name whole n).0) s (env, (name_judged at name whole n).1)
named_tells env at None whole s n h = tells_both s (env, n) (env, with_fault at BadType n) (λ x y. y) h (tells_fault env at BadType n)
named_tells env at (Some name) whole s n h = h

name_row_tells : (env : Env) {m : _} (xs : k.Row_of-Parameter m) (whole : Bool) (s : JudgementState) (n : Notes) → Tells (IsTrue whole) s (env, n) → Tells (IsTrue (name_row xs whole n).0) s (env, (name_row xs whole n).1)
unfolding name_row
name_row_tells env k.end_of-Parameter whole s n h = h
name_row_tells env (k.more_of-Parameter at name ty rest) whole s n h =
    let r = name_judged at name whole n in
    name_row_tells env rest r.0 s r.1 (named_tells env at name whole s n h)

-- the type of a definition is this one, which fits the declarator, or there is none
data IsOrNone (node : t.TypeNode) (of : FunctionType) (o : Option DeclaredType) : Type 0 where
  Missing : o ≡ None → IsOrNone node of o
  There : o ≡ Some (declared_as of) → IsTrue (are_as_many (parameters_of node) of.parameters) → IsOrNone node of o

where_or : (node : t.TypeNode) (of : FunctionType) (whole : Bool) → IsTrue (are_as_many (parameters_of node) of.parameters) → IsOrNone node of (type_where (declared_as of) whole)
where_or node of false h = Missing refl
where_or node of true h = There refl h

defined_or : (env : Env) (at : ℕ) (node : t.TypeNode) (of : FunctionType) (n : Notes) → IsTrue (declares_type node of) → IsOrNone node of (defined_type at node (declared_as of) n).0
unfolding defined_type declares_type parameters_of
defined_or env at (t.Basic words) of n h = Missing refl
defined_or env at (t.Named name) of n h = Missing refl
defined_or env at (t.Enum' place tag constants) of n h = Missing refl
defined_or env at (t.Struct' place tag members) of n h = Missing refl
defined_or env at (t.Pointer' _ target) of n h = Missing refl
defined_or env at (t.Array' _ element size) of n h = Missing refl
defined_or env at (t.Takes' c result e parameters) of n h = where_or (t.Takes' c result e parameters) of (name_row parameters true n).0 h

-- where all parameters have names, there is a type
where_found : (ty : DeclaredType) (whole : Bool) → IsTrue whole → IsFound (type_where ty whole)
where_found ty false h = no_true h
where_found ty true h = refl

defined_tells : (env : Env) (at : ℕ) (node : t.TypeNode) (ty : DeclaredType) (n : Notes) → Tells (IsFound (defined_type at node ty n).0) (env, n) (env, (defined_type at node ty n).1)
unfolding defined_type
defined_tells env at (t.Basic words) ty n = tells_fault env at BadType n
defined_tells env at (t.Named name) ty n = tells_fault env at BadType n
defined_tells env at (t.Enum' place tag constants) ty n = tells_fault env at BadType n
defined_tells env at (t.Struct' place tag members) ty n = tells_fault env at BadType n
defined_tells env at (t.Pointer' _ target) ty n = tells_fault env at BadType n
defined_tells env at (t.Array' _ element size) ty n = tells_fault env at BadType n
defined_tells env at (t.Takes' _ result _ parameters) ty n =
    let r = name_row parameters true n in
    tells_as (env, n) (env, r.1) (where_found ty r.0) (name_row_tells env parameters true (env, n) n (tells_none (env, n) refl))

meaning_keeps : (ds : Definitions) (q name : List ℕ) (new : NameDeclaration) (u : UnitNames) → IsTrue (has_body q u) → IsTrue (has_body q (first_meaning ds name new u).1)
meaning_keeps ds q name new u h = choose new.is_typedef
  where
    object : (b : Bool) (ty : CType) → IsTrue (has_body q (object_name b ty u).1)
    object true ty = h
    object false ty = h

    judge_function : (b : Bool) (ty : CType) (tys : List CType) → IsTrue (has_body q (function_name b ty tys u).1)
    judge_function true ty tys = h
    judge_function false ty tys = h

    value : (ty : DeclaredType) → IsTrue (has_body q (value_name ds name ty u).1)
    value (d.Value ty) = object (is_some (find name ds.objects)) ty
    value (d.Unsized ty) = h
    value (d.Function ty tys) = judge_function (is_some (find name ds.functions)) ty tys

    choose : (b : Bool) → IsTrue (has_body q (if b then (m.Typedef new.ty, u) else value_name ds name new.ty u).1)
    choose true = h
    choose false = value new.ty

-- ---- names that have a body

pub same_kind : (a b : Bool) → IsTrue (beq a b) → IsTrue (not a) → IsTrue (not b)
same_kind true true h g = g
same_kind true false h g = no_true g
same_kind false true h g = no_true h
same_kind false false h g = g

pub same_function : (a b : DeclaredType) → IsTrue (is_same_declared a b) → IsTrue (is_function_type a) → IsTrue (is_function_type b)
same_function (d.Value a) b h g = no_true g
same_function (d.Unsized a) b h g = no_true g
same_function (d.Function a xs) (d.Value b) h g = no_true h
same_function (d.Function a xs) (d.Unsized b) h g = no_true h
same_function (d.Function a xs) (d.Function b ys) h g = refl

found_first : (name : List ℕ) (new : NameDeclaration) (rest : UnitNames) → IsTrue (is_body new) → IsTrue (has_body name (with_declared name new rest))
found_first name new rest h = choose (bytes_eq name name) ((bytes_eq-Decides name name).1 refl)
  where
    choose : (b : Bool) → b ≡ true → IsTrue (is_body_in (if b then Some (length rest.declared, new) else find name rest.declared))
    choose true e = h
    choose false e = no_true e

or_true : (b : Bool) → IsTrue (b || true)
or_true true = refl
or_true false = refl

body_again : (of : FunctionType) (b : Bool) → IsTrue b → IsTrue (is_body (with_value b (function_declared true (declared_as of))))
body_again of true h = refl
body_again of false h = no_true h

declared_body : (ds : Definitions) (name : List ℕ) (of : FunctionType) {u names : UnitNames} {env later : Env} → DeclaresName ds name (function_declared true (declared_as of)) u env names later → IsTrue (has_body name names)
declared_body ds name of (First {u = u} e g) = found_first name (function_declared true (declared_as of)) (first_meaning ds name (function_declared true (declared_as of)) u).1 refl
declared_body ds name of (Again {u = u} old e g) =
    found_first name (with_value (old.1.has_value || true) (function_declared true (declared_as of))) u (body_again of (old.1.has_value || true) (or_true old.1.has_value))

added_names : (o : Option ℕ) (made : TypedFn) (u : UnitSoFar) → (add_function o made u).names ≡ u.names
added_names None made u = refl
added_names (Some number) made u = refl

kept_names : (env : Env) (name : List ℕ) (made : TypedFn) (u : UnitSoFar) → (keep_function env name (Some made) u).names ≡ u.names
kept_names env name made u = added_names (function_at env name) made u

module _ (ds : Definitions) (e : Declaration) (storage : Option Storage) (list : List Stmt) where
  -- what a definition leaves: its steps, and that the name has a body
  abbrev Leaves : UnitSoFar → Env → UnitWalk → Type 0
  Leaves u env v = UnitSteps ds u env v.0 v.1.0 × IsTrue (has_body e.name v.0.names)

  -- the body of a function of this type
  kept_steps : (of : FunctionType) (u : UnitSoFar) (env : Env) (names : UnitNames) (s : JudgementState) (r : Option TypedFn × JudgementState) → DeclaresName ds e.name (function_declared true (declared_as of)) u.names env names s.0
      → judge_function e (Some of) list s ≡ r → r.1.0 ≡ s.0 → IsFound r.0 → Leaves u env (body_kept e.name (with_names names u) r)
  kept_steps of u env names s (None, later) h body same found = no_true found
  kept_steps of u env names s (Some made, later) h body same found = (
    subst (λ x. UnitSteps ds u env (keep_function x e.name (Some made) (with_names names u)) x) (sym same) (DefinesFunction e of list s.1 made h (ap (λ (p : Option TypedFn × JudgementState). p.0) body)),
    ap (has_body e.name) (kept_names later.0 e.name made (with_names names u)) ∙ declared_body ds e.name of h,
  )

  -- behind the type of a definition, which may be missing
  body_none : (u : UnitSoFar) (env : Env) (s : JudgementState) (w : UnitWalk) → Tells (IsTrue false) s w.1 → (let v = definition_with ds e storage list (None, w) in Tells (Leaves u env v) s v.1)
  body_none u env s w h =
      let mid = function_with_type ds e.at e.name storage true (None, w) in
      let r = judge_function e None list mid.1 in
      tells_both s mid.1 r.1 (λ x y. x) (tells_refused s w.1 mid.1.0 h) (function_tells e None list mid.1)

  body_there : (of : FunctionType) (s : JudgementState) (w : UnitWalk) → IsTrue (are_as_many (parameters_of e.ty) of.parameters) → Tells (Unit {0}) s w.1 → (let v = definition_with ds e storage list (Some (declared_as of), w) in Tells (Leaves w.0 w.1.0 v) s v.1)
  body_there of s w fit h =
      let mid = function_with_type ds e.at e.name storage true (Some (declared_as of), w) in
      let r = judge_function e (Some of) list mid.1 in
      tells_both s mid.1 r.1 (λ x y. kept_steps of w.0 w.1.0 mid.0.names mid.1 r x refl (function_env e (Some of) list mid.1) (y fit))
      (function_by ds e.at e.name storage true of.result of.parameters s w h) (function_tells e (Some of) list mid.1)

  body_by : (of : FunctionType) (o : Option DeclaredType) (s : JudgementState) (w : UnitWalk) → IsOrNone e.ty of o → Tells (IsFound o) s w.1 → (let v = definition_with ds e storage list (o, w) in Tells (Leaves w.0 w.1.0 v) s v.1)
  body_by of o s w (Missing same) h =
      subst (λ (o : Option DeclaredType). let v = definition_with ds e storage list (o, w) in Tells (Leaves w.0 w.1.0 v) s v.1) (sym same)
      (body_none w.0 w.1.0 s w (subst (λ (o : Option DeclaredType). Tells (IsFound o) s w.1) same h))
  body_by of o s w (There same fit) h =
      subst (λ (o : Option DeclaredType). let v = definition_with ds e storage list (o, w) in Tells (Leaves w.0 w.1.0 v) s v.1) (sym same)
      (body_there of s w fit (tells_as s w.1 (λ x. tt) h))

  -- with what is seen of `main` before
  seen : (u : UnitSoFar) (env : Env) (b : Bool) (v : UnitWalk) → Leaves (with_main b u) env v → Leaves u env v
  seen u env b v h = (Follows (SeesMain b) h.0, h.1)

  definition_tells : (of : FunctionType) (w : UnitWalk) → IsTrue (declares_type e.ty of) → (let v = definition ds e storage list (declared_as of) w in Tells (Leaves w.0 w.1.0 v) w.1 v.1)
  definition_tells of w fit = choose (is_declarable w.1.1.structs (declared_as of))
    where
      either : Bool → Option DeclaredType × Notes
      either b = if b then (Some (declared_as of), w.1.1) else no_type e.at BadType w.1.1

      after : Bool → UnitWalk
      after b = definition_with ds e storage list (with_definition e.at e.ty (with_main_in e.name (in_notes w (either b))))

      choose : (b : Bool) → Tells (Leaves w.0 w.1.0 (after b)) w.1 (after b).1
      choose true =
          let u = main_seen e.name (declared_as of) w.0 in
          let r = defined_type e.at e.ty (declared_as of) w.1.1 in
          tells_as w.1 (after true).1 (seen w.0 w.1.0 (is_main e.name && is_start (declared_as of)) (after true))
          (body_by of r.0 w.1 (u, (w.1.0, r.1)) (defined_or w.1.0 e.at e.ty of w.1.1 fit) (defined_tells w.1.0 e.at e.ty (declared_as of) w.1.1))
      choose false = body_none w.0 w.1.0 w.1 (w.0, (w.1.0, with_fault e.at BadType w.1.1)) (tells_fault w.1.0 e.at BadType w.1.1)

-- ---- what a declaration leaves, from the names behind its type on

-- a function with a body here has one
abbrev pub Holds : External → UnitNames → Type 0
Holds (x.Typedef e) names = Unit {0}
Holds (x.Object e storage init) names = Unit {0}
Holds (x.Function e storage f.Nothing) names = Unit {0}
Holds (x.Function e storage (f.Init init)) names = Unit {0}
Holds (x.Function e storage (f.Body list)) names = IsTrue (has_body e.name names)
Holds (x.Tags storage ty) names = Unit {0}

-- an initialiser of a function is always a fault
never_found : (o : Option ℕ) (kind : Kind) (n : Notes) → IsFound (each o (no_place kind) n).0 → IsTrue false
never_found None kind n h = h
never_found (Some at) kind n h = h

refused_never : {X : Type 0} (init : Init) (s : JudgementState) → Tells X s (init_refused init s)
refused_never init s =
    let r = judge_init init s in
    tells_as s (init_refused init s) (λ h. no_true (never_found r.0 (refusal_of init) r.1.1 h)) (unfit_tells (refusal_of init) init s)

module _ (ds : Definitions) where
  abbrev Goes : External → UnitSoFar → JudgementState → UnitWalk → Type 0
  Goes e u s v = UnitSteps ds u s.0 v.0 v.1.0 × Holds e v.0.names

  end_tells : {X : Type 0} (e : Declaration) (end : FunctionEnd) (s u : JudgementState) → Tells X s u → Tells X s (end_judged e end u)
  end_tells e f.Nothing s u h = h
  end_tells e (f.Init init) s u h = tells_both s u (judge_init init u).1 (λ x y. x) h (judge_init_tells init u)
  end_tells e (f.Body list) s u h = tells_both s u (judge_function e None list u).1 (λ x y. x) h (function_tells e None list u)

  function_with_tells : (e : Declaration) (storage : Option Storage) (end : FunctionEnd) (ty : DeclaredType) (w : UnitWalk) → ((of : FunctionType) → ty ≡ declared_as of → IsTrue (declares_type e.ty of))
      → (let v = external_function ds e storage end ty w in Tells (Goes (x.Function e storage end) w.0 w.1 v) w.1 v.1)
  function_with_tells e storage f.Nothing ty w fit = let v = prototype ds e.at e.name storage ty w in tells_as w.1 v.1 (λ h. (h, tt)) (prototype_tells ds e.at e.name storage ty w)
  function_with_tells e storage (f.Init init) ty w fit =
      let v = prototype ds e.at e.name storage ty w in
      tells_both w.1 v.1 (init_refused init v.1) (λ h g. g) (prototype_tells ds e.at e.name storage ty w) (refused_never init v.1)
  function_with_tells e storage (f.Body list) (d.Value ty) w fit =
      tells_as w.1 _ (λ h. h) (body_none ds e storage list w.0 w.1.0 w.1 (w.0, (w.1.0, with_fault e.at BadType w.1.1)) (tells_fault w.1.0 e.at BadType w.1.1))
  function_with_tells e storage (f.Body list) (d.Unsized ty) w fit =
      tells_as w.1 _ (λ h. h) (body_none ds e storage list w.0 w.1.0 w.1 (w.0, (w.1.0, with_fault e.at BadType w.1.1)) (tells_fault w.1.0 e.at BadType w.1.1))
  function_with_tells e storage (f.Body list) (d.Function of tys) w fit = definition_tells ds e storage list (type_with of tys) w (fit (type_with of tys) refl)

  function_after : (e : Declaration) (storage : Option Storage) (end : FunctionEnd) (o : Option DeclaredType) (s : JudgementState) (w : UnitWalk) → ((of : FunctionType) → o ≡ Some (declared_as of) → IsTrue (declares_type e.ty of)) → Tells (IsFound o) s w.1
      → (let v = function_typed ds e storage end o w in Tells (Goes (x.Function e storage end) w.0 w.1 v) s v.1)
  function_after e storage end None s w fit h =
      let mid = declare ds e.at e.name None w in
      end_tells e end s mid.1 (tells_refused s w.1 mid.1.0 h)
  function_after e storage end (Some ty) s w fit h =
      let v = external_function ds e storage end ty w in
      tells_both s w.1 v.1 (λ x y. y) h (function_with_tells e storage end ty w (λ of same. fit of (ap Some same)))

  object_after : (e : Declaration) (storage : Option Storage) (init : Option Init) (o : Option DeclaredType) (s : JudgementState) (w : UnitWalk) → Tells (IsFound o) s w.1
      → (let v = object_with ds e.at e.name storage init o w in Tells (Goes (x.Object e storage init) w.0 w.1 v) s v.1)
  object_after e storage init None s w h = faulty_object_tells ds e.at e.name init s w h
  object_after e storage init (Some (d.Value ty)) s w h =
      let v = object_with ds e.at e.name storage init (Some (d.Value ty)) w in
      tells_both s w.1 v.1 (λ x y. (y, tt)) h (value_object_tells ds e.at e.name storage init ty w)
  object_after e storage init (Some (d.Unsized ty)) s w h =
      let v = object_with ds e.at e.name storage init (Some (d.Unsized ty)) w in
      tells_both s w.1 v.1 (λ x y. (y, tt)) h (array_object_tells ds e.at e.name storage init ty w)
  object_after e storage None (Some (d.Function of tys)) s w h =
      let v = prototype ds e.at e.name storage (d.Function of tys) w in
      tells_both s w.1 v.1 (λ x y. (y, tt)) h (prototype_tells ds e.at e.name storage (d.Function of tys) w)
  object_after e storage (Some init) (Some (d.Function of tys)) s w h =
      let v = prototype ds e.at e.name storage (d.Function of tys) w in
      tells_both s v.1 (init_refused init v.1) (λ x y. y) (tells_both s w.1 v.1 (λ x y. y) h (prototype_tells ds e.at e.name storage (d.Function of tys) w)) (refused_never init v.1)

  typedef_after : (e : Declaration) (o : Option DeclaredType) (s : JudgementState) (w : UnitWalk) → Tells (IsFound o) s w.1 → (let v = typedef_declared ds e.at e.name o w in Tells (Goes (x.Typedef e) w.0 w.1 v) s v.1)
  typedef_after e o s w h =
      let r = each o (type_named e.at) w.1.1 in
      let v = typedef_declared ds e.at e.name o w in
      tells_as s v.1 (λ x. (x, tt)) (typedef_by ds e.at e.name r.0 s (w.0, (w.1.0, r.1)) (each_tells w.1.0 s o (type_named e.at) w.1.1 h (λ a. type_named_tells w.1.0 e.at a w.1.1)))

-- ---- constants of bodies, in a scope that is sound behind them

enters_outside : {a b : Env} → Enters a b → b.outside ≡ a.outside
enters_outside Same = refl
enters_outside (More name value h free word) = enters_outside h

free_place : (place outside : ℕ) → outside ≡ 0 → not (nat_lt place outside) ≡ false → IsTrue false
free_place place outside e h = no_true (sym (subst (λ n. not (nat_lt place n) ≡ false) e h) ∙ none_less place)
  where
    at_least : (place : ℕ) → 0 ≤ place
    at_least place = omega arith

    none_less : (place : ℕ) → not (nat_lt place 0) ≡ true
    none_less place = ap not (le-ltb place 0 (at_least place))

free_none : (name : List ℕ) (env : Env) (o : Option (ℕ × NameMeaning)) → env.outside ≡ 0 → stands_here env o ≡ false → o ≡ None
free_none name env None e h = refl
free_none name env (Some r) e h = no_true (free_place r.0 env.outside e h)

constant_step : (ds : Definitions) (u : UnitSoFar) (mid : Env) (name : List ℕ) (value : Option ℕ) → find name mid.names ≡ None → IfSome value (λ word. IsTrue (is_word Int word)) → IsTrue (is_sound (constant_meaning value)) → UnitSteps ds u mid u (with_meaning name (constant_meaning value) mid)
constant_step ds u mid name None e word sound = no_true sound
constant_step ds u mid name (Some n) e word sound = AddsConstant name n e word

enters_steps : (ds : Definitions) (u : UnitSoFar) {a b : Env} → Enters a b → a.outside ≡ 0 → IsTrue (are_sound_names b.names) → UnitSteps ds u a u b
enters_steps ds u Same e sound = Stays
enters_steps ds u (More {mid = mid} name value h free word) e sound =
    Follows (enters_steps ds u h e (back (is_sound (constant_meaning value)) (are_sound_names mid.names) sound))
    (constant_step ds u mid name value (free_none name mid (find name mid.names) (enters_outside h ∙ e) free) word (front (is_sound (constant_meaning value)) (are_sound_names mid.names) sound))

-- what is sound behind some steps was sound before
declared_before : (ds : Definitions) (name : List ℕ) (new : NameDeclaration) {u names : UnitNames} {env later : Env} → DeclaresName ds name new u env names later → IsTrue (are_sound_names later.names) → IsTrue (are_sound_names env.names)
declared_before ds name new (First {u = u} {env = env} e g) sound = back (is_sound (first_meaning ds name new u).0) (are_sound_names env.names) sound
declared_before ds name new (Again old e g) sound = sound

steps_before : (ds : Definitions) {u v : UnitSoFar} {env later : Env} → UnitSteps ds u env v later → IsTrue (are_sound_names later.names) → IsTrue (are_sound_names env.names)
steps_before ds Stays sound = sound
steps_before ds (Follows h g) sound = steps_before ds h (steps_before ds g sound)
steps_before ds (AddsConstant {env = env} name word e g) sound = back true (are_sound_names env.names) sound
steps_before ds (SeesMain b) sound = sound
steps_before ds (DeclaresType name ty h) sound = declared_before ds name (typedef_of ty) h sound
steps_before ds (DeclaresFunction name of h) sound = declared_before ds name (function_declared false (declared_as of)) h sound
steps_before ds (DefinesFunction e of list n made h same) sound = declared_before ds e.name (function_declared true (declared_as of)) h sound
steps_before ds (DeclaresObject name ty has_value h) sound = declared_before ds name (object_declared ty has_value) h sound
steps_before ds (KeepsCells name cells) sound = sound

-- ---- a declaration, from its beginning on

module _ (ds : Definitions) where
  abbrev pub Passes : External → UnitSoFar → Env → UnitSoFar → Env → Type 0
  Passes e u env v later = env.outside ≡ 0 → UnitSteps ds u env v later × Holds e v.names

  -- behind the constants that are in its type
  with_constants : (e : External) (u : UnitSoFar) (s mid : JudgementState) (v : UnitWalk) → Enters s.0 mid.0 → Tells (Goes ds e u mid v) s v.1 → Tells (Passes e u s.0 v.0 v.1.0) s v.1
  with_constants e u s mid v enters g = record {
    before = g.before;
    stays = g.stays;
    found = λ t k file. passes (g.found t k) (g.stays t k).0 file;
  }
    where
      passes : Goes ds e u mid v → IsTrue (are_sound_names v.1.0.names) → Passes e u s.0 v.0 v.1.0
      passes go sound file = (Follows (enters_steps ds u enters file (steps_before ds go.0 sound)) go.0, go.1)

  pub external_tells : (e : External) (s : UnitSoFar × TagScope) → (let v = walk_external ds e s in Tells (Passes e s.0 s.1.1.0 v.0 v.1.1.0) s.1.1 v.1.1)
  external_tells (x.Typedef e) s =
      let r = declarator_type e s.1 in
      with_constants (x.Typedef e) s.0 s.1.1 r.1.1 (typedef_declared ds e.at e.name r.0 (s.0, r.1.1)) (declared_enters e.at e.ty s.1) (typedef_after ds e r.0 s.1.1 (s.0, r.1.1) (declared_tells e.at e.ty s.1))
  external_tells (x.Object e storage init) s =
      let r = declarator_type e s.1 in
      with_constants (x.Object e storage init) s.0 s.1.1 r.1.1 (object_with ds e.at e.name storage init r.0 (s.0, r.1.1)) (declared_enters e.at e.ty s.1)
      (object_after ds e storage init r.0 s.1.1 (s.0, r.1.1) (declared_tells e.at e.ty s.1))
  external_tells (x.Function e storage end) s =
      let r = declarator_type e s.1 in
      with_constants (x.Function e storage end) s.0 s.1.1 r.1.1 (function_typed ds e storage end r.0 (s.0, r.1.1)) (declared_enters e.at e.ty s.1)
      (function_after ds e storage end r.0 s.1.1 (s.0, r.1.1) (λ of same. declared_fits e.at e.ty s.1 of same) (declared_tells e.at e.ty s.1))
  external_tells (x.Tags storage ty) s =
      let r = declared_type 0 ty s.1 in
      with_constants (x.Tags storage ty) s.0 s.1.1 r.1.1 (s.0, r.1.1) (declared_enters 0 ty s.1) (tells_as s.1.1 r.1.1 (λ h. (Stays, tt)) (declared_tells 0 ty s.1))

-- ---- what steps keep

declared_outside : (ds : Definitions) (name : List ℕ) (new : NameDeclaration) {u names : UnitNames} {env later : Env} → DeclaresName ds name new u env names later → later.outside ≡ env.outside
declared_outside ds name new (First e g) = refl
declared_outside ds name new (Again old e g) = refl

pub steps_outside : (ds : Definitions) {u v : UnitSoFar} {env later : Env} → UnitSteps ds u env v later → later.outside ≡ env.outside
steps_outside ds Stays = refl
steps_outside ds (Follows h g) = steps_outside ds g ∙ steps_outside ds h
steps_outside ds (AddsConstant name word e g) = refl
steps_outside ds (SeesMain b) = refl
steps_outside ds (DeclaresType name ty h) = declared_outside ds name (typedef_of ty) h
steps_outside ds (DeclaresFunction name of h) = declared_outside ds name (function_declared false (declared_as of)) h
steps_outside ds (DefinesFunction e of list n made h same) = declared_outside ds e.name (function_declared true (declared_as of)) h
steps_outside ds (DeclaresObject name ty has_value h) = declared_outside ds name (object_declared ty has_value) h
steps_outside ds (KeepsCells name cells) = refl

-- ---- a body that is there stays

-- of a declaration behind others of its name
behind_body : (old new : NameDeclaration) → IsTrue (may_follow old new) → IsTrue (is_body old) → IsTrue (is_body (with_value (old.has_value || new.has_value) new))
behind_body old new h g =
    three (not new.is_typedef) (old.has_value || new.has_value) (is_function_type new.ty)
    (same_kind old.is_typedef new.is_typedef (front (beq old.is_typedef new.is_typedef) (is_same_declared old.ty new.ty) kinds) (front (not old.is_typedef) old.has_value values))
    (either_left old.has_value new.has_value (back (not old.is_typedef) old.has_value values))
    (same_function old.ty new.ty (back (beq old.is_typedef new.is_typedef) (is_same_declared old.ty new.ty) kinds) (back (not old.is_typedef && old.has_value) (is_function_type old.ty) g))
  where
    kinds : IsTrue (beq old.is_typedef new.is_typedef && is_same_declared old.ty new.ty)
    kinds = front (beq old.is_typedef new.is_typedef && is_same_declared old.ty new.ty) (not (old.has_value && new.has_value)) h

    values : IsTrue (not old.is_typedef && old.has_value)
    values = front (not old.is_typedef && old.has_value) (is_function_type old.ty) g

found_new : (q name : List ℕ) (a : NameDeclaration) (u : UnitNames) → (IsTrue (bytes_eq q name) → IsTrue (is_body a)) → IsTrue (has_body q u) → IsTrue (has_body q (with_declared name a u))
found_new q name a u f h = choose (bytes_eq q name) refl
  where
    choose : (b : Bool) → bytes_eq q name ≡ b → IsTrue (is_body_in (if b then Some (length u.declared, a) else find q u.declared))
    choose true e = f e
    choose false e = h

declared_keeps : (ds : Definitions) (q name : List ℕ) (new : NameDeclaration) {u names : UnitNames} {env later : Env} → DeclaresName ds name new u env names later → IsTrue (has_body q u) → IsTrue (has_body q names)
declared_keeps ds q name new (First {u = u} e g) h =
    found_new q name new (first_meaning ds name new u).1 (λ same. no_true (sym (ap is_body_in (ap (λ n. find n u.declared) ((bytes_eq-Decides q name).0 same) ∙ e)) ∙ h)) (meaning_keeps ds q name new u h)
declared_keeps ds q name new (Again {u = u} old e g) h =
    found_new q name (with_value (old.1.has_value || new.has_value) new) u
    (λ same. behind_body old.1 new g (sym (ap is_body_in (ap (λ n. find n u.declared) ((bytes_eq-Decides q name).0 same) ∙ e)) ∙ h)) h

pub added_body : (o : Option ℕ) (name : List ℕ) (ty : CType) (u : UnitSoFar) → (add_numbered o name ty u).names ≡ u.names
added_body None name ty u = refl
added_body (Some number) name ty u = next (number == length u.objects)
  where
    next : (b : Bool) → (next_object b name ty u).names ≡ u.names
    next true = refl
    next false = refl

pub filled_names : (o : Option ℕ) (cells : List DataCell) (u : UnitSoFar) → (fill_numbered o cells u).names ≡ u.names
filled_names None cells u = refl
filled_names (Some number) cells u = refl

pub steps_keep_body : (ds : Definitions) (q : List ℕ) {u v : UnitSoFar} {env later : Env} → UnitSteps ds u env v later → IsTrue (has_body q u.names) → IsTrue (has_body q v.names)
steps_keep_body ds q Stays h = h
steps_keep_body ds q (Follows g k) h = steps_keep_body ds q k (steps_keep_body ds q g h)
steps_keep_body ds q (AddsConstant name word e g) h = h
steps_keep_body ds q (SeesMain b) h = h
steps_keep_body ds q (DeclaresType name ty g) h = declared_keeps ds q name (typedef_of ty) g h
steps_keep_body ds q (DeclaresFunction name of g) h = declared_keeps ds q name (function_declared false (declared_as of)) g h
steps_keep_body ds q (DefinesFunction {u = u} {names = names} {later = later} e of list n made g same) h =
    ap (has_body q) (kept_names later e.name made (with_names names u)) ∙ declared_keeps ds q e.name (function_declared true (declared_as of)) g h
steps_keep_body ds q (DeclaresObject {u = u} {names = names} {later = later} name ty has_value g) h =
    ap (has_body q) (added_body (object_number later name) name ty (with_names names u)) ∙ declared_keeps ds q name (object_declared ty has_value) g h
steps_keep_body ds q (KeepsCells {u = u} {env = env} name cells) h = ap (has_body q) (filled_names (object_number env name) cells u) ∙ h

-- ---- lists of declarations

abbrev pub AllHold : List External → UnitNames → Type 0
AllHold [] names = Unit {0}
AllHold (e ∷ es) names = Holds e names × AllHold es names

holds_later : (ds : Definitions) (e : External) {u v : UnitSoFar} {env later : Env} → UnitSteps ds u env v later → Holds e u.names → Holds e v.names
holds_later ds (x.Typedef e) steps h = tt
holds_later ds (x.Object e storage init) steps h = tt
holds_later ds (x.Function e storage f.Nothing) steps h = tt
holds_later ds (x.Function e storage (f.Init init)) steps h = tt
holds_later ds (x.Function e storage (f.Body list)) steps h = steps_keep_body ds e.name steps h
holds_later ds (x.Tags storage ty) steps h = tt

pub externals_tell : (ds : Definitions) (es : List External) (s : UnitSoFar × TagScope) → (let v = externals ds es s in Tells (s.1.1.0.outside ≡ 0 → UnitSteps ds s.0 s.1.1.0 v.0 v.1.1.0 × AllHold es v.0.names) s.1.1 v.1.1)
externals_tell ds [] s = tells_none s.1.1 (λ file. (Stays, tt))
externals_tell ds (e ∷ es) s =
    let u = walk_external ds e s in
    let v = externals ds es u in
    tells_both s.1.1 u.1.1 v.1.1 (λ h g file. both (h file) (λ file. g file) file) (external_tells ds e s) (externals_tell ds es u)
  where
    both : (let u = walk_external ds e s in let v = externals ds es u in UnitSteps ds s.0 s.1.1.0 u.0 u.1.1.0 × Holds e u.0.names → (u.1.1.0.outside ≡ 0 → UnitSteps ds u.0 u.1.1.0 v.0 v.1.1.0 × AllHold es v.0.names) → s.1.1.0.outside ≡ 0
        → UnitSteps ds s.0 s.1.1.0 v.0 v.1.1.0 × AllHold (e ∷ es) v.0.names)
    both h g file =
        let r = g (steps_outside ds h.0 ∙ file) in
        (Follows h.0 r.0, (holds_later ds e r.0 h.1, r.1))
