-- Definitions of functions, each declaration at file scope, and lists of them.
use Rattle.std.proofs.Common.{◌≡◌, ◌≤◌, ℕ, arith, Bool, true, false, not, IsTrue, List, [], ◌∷◌, nat_lt, IfSome, Option, Some, None, is_some, refl, sym, ap, ◌∙◌, subst, if◌then◌else◌}
use Rattle.std.proofs.lemmas.Bool.{le-ltb}
use Rattle.c_tree.specs.declared.declarations.Storage.{Storage}
use Rattle.c_tree.specs.declared.declarations.FunctionEnd.{FunctionEnd}
use Rattle.c_tree.specs.declared.declarations.FunctionEnd.TheVariants as f
use Rattle.c_tree.specs.declared.declarations.External.{External}
use Rattle.c_tree.specs.declared.declarations.External.TheVariants as x
use Rattle.c_tree.specs.declared.types.Declaration.{Declaration}
use Rattle.c_tree.specs.declared.types.TypeNode as t
use Rattle.c_tree.specs.declared.expressions.Expr.TheBlock as k
use Rattle.c_tree.specs.declared.statements.Stmt.{Stmt}
use Rattle.bk_arithmetic.specs.declared.integer_type.IntegerType.TheVariants.{Int}
use Rattle.bk_arithmetic.specs.Words.{is_word}
use Rattle.c_typing_scopes.specs.Names.{find}
use Rattle.c_typing_definitions.specs.declared.names.Definitions.{Definitions}
use Rattle.c_typing_rules.specs.declared.c_typing_declared_types.declared.DeclaredType.{DeclaredType}
use Rattle.c_typing_rules.specs.declared.c_typing_declared_types.declared.DeclaredType.TheVariants as d
use Rattle.c_typing_rules.specs.c_typing_declared_types.Depth.{is_declarable}
use Rattle.c_typing_faults.specs.declared.faults.Kind.TheVariants.{BadType}
use Rattle.c_typed_tree.specs.declared.types.CType.{CType}
use Rattle.c_typed_tree.specs.declared.units.TypedFn.{TypedFn}
use Rattle.c_typing_state.specs.declared.env.Env.{Env}
use Rattle.c_typing_state.specs.declared.meanings.NameMeaning.{NameMeaning}
use Rattle.c_typing_state.specs.declared.meanings.NameMeaning.TheVariants as m
use Rattle.c_typing_state.specs.declared.notes.Notes.{Notes}
use Rattle.c_typing_state.specs.Notes.{with_fault}
use Rattle.c_typing_state.specs.Scopes.{with_meaning, stands_here}
use Rattle.c_typing_judgements.specs.Leaves.{no_type}
use Rattle.c_typing_judgements.specs.Types.{JudgementState}
use Rattle.c_typing_struct_bodies.specs.Enums.{constant_meaning}
use Rattle.c_typing_struct_bodies.specs.Bodies.{TagScope, declared_type}
use Rattle.c_typing_statements.specs.declared.c_typing_function_bodies.functions.FunctionType.{FunctionType}
use Rattle.c_typing_statements.specs.c_typing_function_bodies.Functions.{parameters_of, judge_function}
use Rattle.c_typing_initialisers.specs.Unfit.{judge_init}
use Rattle.c_typing_unit_names.specs.declared.names.NameDeclaration.{NameDeclaration}
use Rattle.c_typing_unit_names.specs.declared.names.UnitNames.{UnitNames}
use Rattle.c_typing_unit_names.specs.UnitNames.{object_name, function_name, first_meaning, judge_declaration}
use Rattle.c_typing_declarations.specs.declared.walk.UnitSoFar.{UnitSoFar}
use Rattle.c_typing_declarations.specs.Walk.{UnitWalk, in_notes, declare, with_names, main_checked, keep_function, body_kept}
use Rattle.c_typing_declarations.specs.Functions.{function_declared, function_with_type, name_judged, name_row, type_where, defined_type, main_seen, init_refused}
use Rattle.c_typing_declarations.specs.Objects.{object_declared}
use Rattle.c_types.specs.c_found_unit_laws.Externals.{typedef_of, typedef_declared, prototype, object_with, type_with, with_main_in, with_definition, definition_with, definition, external_function, end_judged, function_typed, declarator_type, walk_external, externals}
use Rattle.c_typing_expression_sound.specs.c_expression_laws.Types.{IsTypeIn, HasTypedefs}
use Rattle.c_types.specs.c_unit_struct_laws.Notes.{of_structs, IsWellDeclared}
use Rattle.c_types.proofs.CUnitStructLaws.Bodies.{declared_found}
use Rattle.c_types.proofs.CUnitStructLaws.Units.{external_leads}
use Rattle.c_typing_expression_sound.specs.c_found_laws.Laws.{are_sound_names, is_sound, Tells, IsFound}
use Rattle.c_typing_expression_sound.proofs.CFoundLaws.Forms.{no_true, front, back, tells_none, tells_fault, tells_as, tells_then, tells_both}
use Rattle.c_typing_function_sound.specs.c_found_statement_laws.Laws.{are_as_many}
use Rattle.c_typing_function_sound.proofs.CFoundStatementLaws.Functions.{function_tells}
use Rattle.c_types.specs.c_found_unit_laws.Steps.{DeclaresName, First, Again, declared_as}
use Rattle.c_types.proofs.CFoundUnitLaws.Names.{function_env}
use Rattle.c_types.proofs.CFoundUnitLaws.Bodies.{declared_tells}
use Rattle.c_types.proofs.CFoundUnitLaws.Constants.{Enters, Same, More, declared_enters}
use Rattle.c_types.proofs.CFoundUnitLaws.Shapes.{declares_type, declared_fits}
use Rattle.c_types.proofs.CFoundUnitLaws.Initialisers.{judge_init_tells}
use Rattle.c_types.proofs.CFoundUnitLaws.Declarations.{tells_refused}
use Rattle.c_types.specs.c_unit_walk_laws.Shapes.{is_shaped, HasShapes}
use Rattle.c_types.specs.c_unit_walk_laws.Walks.{IsGivenType, WalkSteps, Stays, Follows, AddsConstant, AddsNotes, DeclaresType, DeclaresFunction, DefinesFunction, DeclaresObject, InitialisesObject}
use Rattle.c_types.proofs.CUnitWalkLaws.Counted.{IsCounted, IsCountedIn, AreCounted, IsListed, AllListed}
use Rattle.c_types.proofs.CUnitWalkLaws.Texts.{declared_texts}
use Rattle.c_types.proofs.CUnitWalkLaws.Shapes.{shapes_after, declared_shape}
use Rattle.c_types.proofs.CUnitWalkLaws.Names.{checked_declaration_tells}
use Rattle.c_types.proofs.CUnitWalkLaws.Declarations.{IsThere, given_type, anything, typedef_after, function_sound, prototype_after, object_after, refused_never}

-- ---- definitions: the parameters have names, and nothing is noted

abbrev AllNamed : (first n : Notes) → Bool → Type 0
AllNamed first n whole = IsTrue whole × (n ≡ first)

named_tells : (env : Env) (first : Notes) (at : ℕ) (name : Option (List ℕ)) (whole : Bool) (s : JudgementState) (n : Notes) → Tells (AllNamed first n whole) s (env, n) → (let r = name_judged at name whole n in Tells (AllNamed first r.1 r.0) s (env, r.1))
named_tells env first at None whole s n h = tells_both s (env, n) (env, with_fault at BadType n) (λ x y. y) h (tells_fault env at BadType n)
named_tells env first at (Some name) whole s n h = h

name_row_tells : (env : Env) (first : Notes) {m : _} (xs : k.Row_of-Parameter m) (whole : Bool) (s : JudgementState) (n : Notes) → Tells (AllNamed first n whole) s (env, n) → (let r = name_row xs whole n in Tells (AllNamed first r.1 r.0) s (env, r.1))
unfolding name_row
name_row_tells env first k.end_of-Parameter whole s n h = h
name_row_tells env first (k.more_of-Parameter at name ty rest) whole s n h =
    let r = name_judged at name whole n in
    name_row_tells env first rest r.0 s r.1 (named_tells env first at name whole s n h)

-- the type of a definition is this one, which fits the declarator, or there is none
data IsOrNone (node : t.TypeNode) (of : FunctionType) (o : Option DeclaredType) : Type 0 where
  Missing : o ≡ None → IsOrNone node of o
  There : o ≡ Some (declared_as of) → IsTrue (are_as_many (parameters_of node) of.parameters) → IsOrNone node of o

where_or : (node : t.TypeNode) (of : FunctionType) (whole : Bool) → IsTrue (are_as_many (parameters_of node) of.parameters) → IsOrNone node of (type_where (declared_as of) whole)
where_or node of false h = Missing refl
where_or node of true h = There refl h

defined_or : (at : ℕ) (node : t.TypeNode) (of : FunctionType) (n : Notes) → IsTrue (declares_type node of) → IsOrNone node of (defined_type at node (declared_as of) n).0
unfolding defined_type declares_type parameters_of
defined_or at (t.Basic words) of n h = Missing refl
defined_or at (t.Named name) of n h = Missing refl
defined_or at (t.Enum' place tag constants) of n h = Missing refl
defined_or at (t.Struct' place tag members) of n h = Missing refl
defined_or at (t.Pointer' _ target) of n h = Missing refl
defined_or at (t.Array' _ element size) of n h = Missing refl
defined_or at (t.Takes' c result e parameters) of n h = where_or (t.Takes' c result e parameters) of (name_row parameters true n).0 h

-- where all parameters have names, there is a type
where_found : (ty : DeclaredType) (whole : Bool) → IsTrue whole → IsFound (type_where ty whole)
where_found ty false h = no_true h
where_found ty true h = refl

abbrev IsDefined : (first n : Notes) → Option DeclaredType → Type 0
IsDefined first n o = IsFound o × (n ≡ first)

defined_tells : (env : Env) (at : ℕ) (node : t.TypeNode) (ty : DeclaredType) (n : Notes) → (let r = defined_type at node ty n in Tells (IsDefined n r.1 r.0) (env, n) (env, r.1))
unfolding defined_type
defined_tells env at (t.Basic words) ty n = tells_fault env at BadType n
defined_tells env at (t.Named name) ty n = tells_fault env at BadType n
defined_tells env at (t.Enum' place tag constants) ty n = tells_fault env at BadType n
defined_tells env at (t.Struct' place tag members) ty n = tells_fault env at BadType n
defined_tells env at (t.Pointer' _ target) ty n = tells_fault env at BadType n
defined_tells env at (t.Array' _ element size) ty n = tells_fault env at BadType n
defined_tells env at (t.Takes' _ result _ parameters) ty n =
    let r = name_row parameters true n in
    tells_as (env, n) (env, r.1) (λ x. (where_found ty r.0 x.0, x.1)) (name_row_tells env n parameters true (env, n) n (tells_none (env, n) (refl, refl)))

-- behind the type of a definition, which may be missing
body_none : {X : Type 0} (ds : Definitions) (e : Declaration) (storage : Option Storage) (list : List Stmt) (s : JudgementState) (w : UnitWalk) → Tells (IsTrue false) s w.1 → Tells X s (definition_with ds e storage list (None, w)).1
body_none ds e storage list s w h =
    let mid = function_with_type ds e.at e.name storage true (None, w) in
    let r = judge_function e None list mid.1 in
    tells_both s mid.1 r.1 (λ x y. x) (tells_refused s w.1 mid.1.0 h) (function_tells e None list mid.1)

module _ (ds : Definitions) (es : List External) (G : Type 0) (e : Declaration) (storage : Option Storage) (list : List Stmt) (counted : IsTrue (is_some (find e.name ds.functions))) where
  -- the body of a function of this type, at the same notes
  defined : (of : FunctionType) (u : UnitSoFar) (env : Env) (n k : Notes) (names : UnitNames) (later : Env) → IsGivenType n.structs (declared_as of) → DeclaresName ds e.name (function_declared true (declared_as of)) u.names env names later → k ≡ n
      → IsFound (judge_function e (Some of) list (later, k)).0 → (let q = judge_function e (Some of) list (later, k) in WalkSteps ds es (u, (env, n)) (body_kept e.name (with_names names (main_seen e.name (declared_as of) u)) q))
  defined of u env n k names later type declared same =
      subst (λ k. IsFound (judge_function e (Some of) list (later, k)).0 → (let q = judge_function e (Some of) list (later, k) in WalkSteps ds es (u, (env, n)) (body_kept e.name before q))) (sym same)
      (λ found. kept made.0 refl made.1.0 (function_env e (Some of) list (later, n)) found)
    where
      before : UnitSoFar
      before = with_names names (main_seen e.name (declared_as of) u)

      made : Option TypedFn × JudgementState
      made = judge_function e (Some of) list (later, n)

      kept : (o : Option TypedFn) → made.0 ≡ o → (left : Env) → left ≡ later → IsFound o → WalkSteps ds es (u, (env, n)) (keep_function left e.name o before, (left, made.1.1))
      kept None g left h found = no_true found
      kept (Some f) g left h found = subst (λ z. WalkSteps ds es (u, (env, n)) (keep_function z e.name (Some f) before, (z, made.1.1))) (sym h) (DefinesFunction e of list f type counted declared g)

  body_there : (of : FunctionType) (s : JudgementState) (u : UnitSoFar) (env : Env) (n k : Notes) → (G → IsGivenType n.structs (declared_as of)) → IsTrue (are_as_many (parameters_of e.ty) of.parameters) → Tells (k ≡ n) s (env, k)
      → (let v = definition_with ds e storage list (Some (declared_as of), (main_seen e.name (declared_as of) u, (env, k))) in Tells (G → WalkSteps ds es (u, (env, n)) v) s v.1)
  body_there of s u env n k given fit h =
      let new = function_declared true (declared_as of) in
      let r = judge_declaration ds e.at e.name (Some new) u.names (env, main_checked storage e.at e.name k) in
      let q = judge_function e (Some of) list r.1 in
      tells_both s r.1 q.1 (λ a b g. defined of u env n r.1.1 r.0 r.1.0 (given g) a.1.0 (a.1.1 ∙ a.0) (b fit))
      (tells_then s (env, k) r.1 h (checked_declaration_tells ds e.at e.name storage new u.names env k (function_sound ds es G (is_some (find e.name ds.functions)) of.result of.parameters u.names)))
      (function_tells e (Some of) list r.1)

  body_by : (of : FunctionType) (o : Option DeclaredType) (s : JudgementState) (u : UnitSoFar) (env : Env) (n k : Notes) → (G → IsGivenType n.structs (declared_as of)) → IsOrNone e.ty of o → Tells (IsDefined n k o) s (env, k)
      → (let v = definition_with ds e storage list (o, (main_seen e.name (declared_as of) u, (env, k))) in Tells (G → WalkSteps ds es (u, (env, n)) v) s v.1)
  body_by of o s u env n k given (Missing same) h =
      subst (λ (o : Option DeclaredType). let v = definition_with ds e storage list (o, (main_seen e.name (declared_as of) u, (env, k))) in Tells (G → WalkSteps ds es (u, (env, n)) v) s v.1) (sym same)
      (body_none ds e storage list s (main_seen e.name (declared_as of) u, (env, k)) (subst (λ (o : Option DeclaredType). Tells (IsFound o) s (env, k)) same (tells_as s (env, k) (λ x. x.0) h)))
  body_by of o s u env n k given (There same fit) h =
      subst (λ (o : Option DeclaredType). let v = definition_with ds e storage list (o, (main_seen e.name (declared_as of) u, (env, k))) in Tells (G → WalkSteps ds es (u, (env, n)) v) s v.1) (sym same)
      (body_there of s u env n k given fit (tells_as s (env, k) (λ x. x.1) h))

  definition_after : (of : FunctionType) (s : JudgementState) (w : UnitWalk) → (G → IsThere w.1.1.structs (declared_as of)) → IsTrue (declares_type e.ty of) → Tells (Unit {0}) s w.1
      → (let v = definition ds e storage list (declared_as of) w in Tells (G → WalkSteps ds es w v) s v.1)
  definition_after of s w there fit h = choose (is_declarable w.1.1.structs (declared_as of)) refl
    where
      either : Bool → Option DeclaredType × Notes
      either b = if b then (Some (declared_as of), w.1.1) else no_type e.at BadType w.1.1

      after : Bool → UnitWalk
      after b = definition_with ds e storage list (with_definition e.at e.ty (with_main_in e.name (in_notes w (either b))))

      choose : (b : Bool) → is_declarable w.1.1.structs (declared_as of) ≡ b → Tells (G → WalkSteps ds es w (after b)) s (after b).1
      choose true g =
          let r = defined_type e.at e.ty (declared_as of) w.1.1 in
          body_by of r.0 s w.0 w.1.0 w.1.1 r.1 (λ z. given_type w.1.1.structs (declared_as of) (there z) g) (defined_or e.at e.ty of w.1.1 fit)
          (tells_both s w.1 (w.1.0, r.1) (λ x y. y) h (defined_tells w.1.0 e.at e.ty (declared_as of) w.1.1))
      choose false g = body_none ds e storage list s (w.0, (w.1.0, with_fault e.at BadType w.1.1)) (tells_both s w.1 (w.1.0, with_fault e.at BadType w.1.1) (λ x y. y) h (tells_fault w.1.0 e.at BadType w.1.1))

-- ---- what a declaration leaves, from the names behind its type on

module _ (ds : Definitions) (es : List External) (G : Type 0) where
  end_tells : {X : Type 0} (e : Declaration) (end : FunctionEnd) (s u : JudgementState) → Tells X s u → Tells X s (end_judged e end u)
  end_tells e f.Nothing s u h = h
  end_tells e (f.Init init) s u h = tells_both s u (judge_init init u).1 (λ x y. x) h (judge_init_tells init u)
  end_tells e (f.Body list) s u h = tells_both s u (judge_function e None list u).1 (λ x y. x) h (function_tells e None list u)

  -- a body on what is no function
  no_function : {X : Type 0} (e : Declaration) (storage : Option Storage) (list : List Stmt) (s : JudgementState) (w : UnitWalk) → Tells (Unit {0}) s w.1 → Tells X s (definition_with ds e storage list (None, (w.0, (w.1.0, with_fault e.at BadType w.1.1)))).1
  no_function e storage list s w h = body_none ds e storage list s (w.0, (w.1.0, with_fault e.at BadType w.1.1)) (tells_both s w.1 (w.1.0, with_fault e.at BadType w.1.1) (λ x y. y) h (tells_fault w.1.0 e.at BadType w.1.1))

  function_with_after : (e : Declaration) (storage : Option Storage) (end : FunctionEnd) → IsCounted ds e end → (ty : DeclaredType) (s : JudgementState) (w : UnitWalk) → (G → IsThere w.1.1.structs ty) → ((of : FunctionType) → ty ≡ declared_as of → IsTrue (declares_type e.ty of)) → Tells (Unit {0}) s w.1
      → (let v = external_function ds e storage end ty w in Tells (G → WalkSteps ds es w v) s v.1)
  function_with_after e storage f.Nothing counted ty s w there fit h = prototype_after ds es G e.at e.name storage ty s w there h
  function_with_after e storage (f.Init init) counted ty s w there fit h =
      let v = prototype ds e.at e.name storage ty w in
      tells_both s v.1 (init_refused init v.1) (λ x y. y) (prototype_after ds es G e.at e.name storage ty s w there h) (refused_never init v.1)
  function_with_after e storage (f.Body list) counted (d.Value ty) s w there fit h = no_function e storage list s w h
  function_with_after e storage (f.Body list) counted (d.Unsized ty) s w there fit h = no_function e storage list s w h
  function_with_after e storage (f.Body list) counted (d.Function of tys) s w there fit h = definition_after ds es G e storage list counted (type_with of tys) s w there (fit (type_with of tys) refl) h

  function_after : (e : Declaration) (storage : Option Storage) (end : FunctionEnd) → IsCounted ds e end → (o : Option DeclaredType) (s : JudgementState) (w : UnitWalk) → (G → IfSome o (IsThere w.1.1.structs)) → ((of : FunctionType) → o ≡ Some (declared_as of) → IsTrue (declares_type e.ty of))
      → Tells (IsFound o) s w.1 → (let v = function_typed ds e storage end o w in Tells (G → WalkSteps ds es w v) s v.1)
  function_after e storage end counted None s w there fit h =
      let mid = declare ds e.at e.name None w in
      end_tells e end s mid.1 (tells_refused s w.1 mid.1.0 h)
  function_after e storage end counted (Some ty) s w there fit h = function_with_after e storage end counted ty s w there (λ of same. fit of (ap Some same)) (anything s w.1 h)

-- ---- constants of bodies, in a scope that is sound behind them

enters_outside : {a b : Env} → Enters a b → b.outside ≡ a.outside
enters_outside Same = refl
enters_outside (More name value h free word) = enters_outside h

free_place : (place outside : ℕ) → outside ≡ 0 → not (nat_lt place outside) ≡ false → IsTrue false
free_place place outside e h = no_true (sym (subst (λ n. not (nat_lt place n) ≡ false) e h) ∙ none_less place)
  where
    at_least : (place : ℕ) → 0 ≤ place
    at_least place = omega arith

    none_less : (place : ℕ) → not (nat_lt place 0) ≡ true
    none_less place = ap not (le-ltb place 0 (at_least place))

free_none : (name : List ℕ) (env : Env) (o : Option (ℕ × NameMeaning)) → env.outside ≡ 0 → stands_here env o ≡ false → o ≡ None
free_none name env None e h = refl
free_none name env (Some r) e h = no_true (free_place r.0 env.outside e h)

constant_step : (ds : Definitions) {es : List External} (u : UnitSoFar) (n : Notes) (mid : Env) (name : List ℕ) (value : Option ℕ) → find name mid.names ≡ None → IfSome value (λ word. IsTrue (is_word Int word)) → IsTrue (is_sound (constant_meaning value))
    → WalkSteps ds es (u, (mid, n)) (u, (with_meaning name (constant_meaning value) mid, n))
constant_step ds u n mid name None e word sound = no_true sound
constant_step ds u n mid name (Some k) e word sound = AddsConstant name k e word

enters_steps : (ds : Definitions) {es : List External} (u : UnitSoFar) (n : Notes) {a b : Env} → Enters a b → a.outside ≡ 0 → IsTrue (are_sound_names b.names) → WalkSteps ds es (u, (a, n)) (u, (b, n))
enters_steps ds u n Same e sound = Stays
enters_steps ds u n (More {mid = mid} name value h free word) e sound =
    Follows (enters_steps ds u n h e (back (is_sound (constant_meaning value)) (are_sound_names mid.names) sound))
    (constant_step ds u n mid name value (free_none name mid (find name mid.names) (enters_outside h ∙ e) free) word (front (is_sound (constant_meaning value)) (are_sound_names mid.names) sound))

-- the typedef names before are those behind
enters_typedefs : (ds : _) {a b : Env} → Enters a b → HasTypedefs ds b.names → HasTypedefs ds a.names
enters_typedefs ds Same h = h
enters_typedefs ds (More name value g free word) h = enters_typedefs ds g h.1

-- what is sound behind some steps was sound before
declared_before : (ds : Definitions) (name : List ℕ) (new : NameDeclaration) {u names : UnitNames} {env later : Env} → DeclaresName ds name new u env names later → IsTrue (are_sound_names later.names) → IsTrue (are_sound_names env.names)
declared_before ds name new (First {u = u} {env = env} e g) sound = back (is_sound (first_meaning ds name new u).0) (are_sound_names env.names) sound
declared_before ds name new (Again old e g) sound = sound

steps_before : (ds : Definitions) {es : List External} {w v : UnitWalk} → WalkSteps ds es w v → IsTrue (are_sound_names v.1.0.names) → IsTrue (are_sound_names w.1.0.names)
steps_before ds Stays sound = sound
steps_before ds (Follows h g) sound = steps_before ds h (steps_before ds g sound)
steps_before ds (AddsConstant {env = env} name word e g) sound = back true (are_sound_names env.names) sound
steps_before ds (AddsNotes g) sound = sound
steps_before ds (DeclaresType name ty g h) sound = declared_before ds name (typedef_of ty) h sound
steps_before ds (DeclaresFunction name of g h) sound = declared_before ds name (function_declared false (declared_as of)) h sound
steps_before ds (DefinesFunction e of list f g counted h same) sound = declared_before ds e.name (function_declared true (declared_as of)) h sound
steps_before ds (DeclaresObject name ty g h) sound = declared_before ds name (object_declared ty false) h sound
steps_before ds (InitialisesObject name ty x cells g h same listed) sound = declared_before ds name (object_declared ty true) h sound

-- ---- a declaration, from its beginning on

-- what is known before a declaration
pub record IsGood (s : JudgementState) : Type 0 where
  pub outside : s.0.outside ≡ 0
  pub declared : IsWellDeclared s
  pub shapes : HasShapes s.0

both_some : {A : Type 0} (P Q : A → Type 0) (o : Option A) → IfSome o P → IfSome o Q → IfSome o (λ x. P x × Q x)
both_some P Q None h g = tt
both_some P Q (Some x) h g = (h, g)

-- what is known of the type of a declaration
type_there : (at : ℕ) (ty : t.TypeNode) (s : TagScope) → IsGood s.1 → (let r = declared_type at ty s in IfSome r.0 (IsThere r.1.1.1.structs))
type_there at ty s h =
    let r = declared_type at ty s in
    both_some (IsTypeIn (of_structs r.1.1.1.structs)) (λ of. IsTrue (is_shaped of)) r.0 ((declared_found at ty s).type h.declared) (declared_shape at ty s h.shapes)

-- the steps of the type: its constants, and what is noted
type_steps : (ds : Definitions) {es : List External} (u : UnitSoFar) (at : ℕ) (ty : t.TypeNode) (s : TagScope) → s.1.0.outside ≡ 0 → IsTrue (are_sound_names (declared_type at ty s).1.1.0.names) → WalkSteps ds es (u, s.1) (u, (declared_type at ty s).1.1)
type_steps ds u at ty s file sound =
    let r = declared_type at ty s in
    let enters = declared_enters at ty s in
    let found = declared_found at ty s in
    let added = declared_texts at ty s in
    Follows (enters_steps ds u s.1.1 enters file sound) (AddsNotes (record {
      leads = record {
        grow = found.leads.grow;
        sound = λ h. found.leads.sound (record { noted = h.noted; typedefs = enters_typedefs (of_structs s.1.1.structs) enters h.typedefs });
      };
      texts = added.texts;
      first = added.first;
      sized = added.sized;
    }))

module _ (ds : Definitions) (es : List External) where
  -- behind the constants that are in its type
  with_type : (at : ℕ) (ty : t.TypeNode) (u : UnitSoFar) (s : TagScope) (v : UnitWalk) → Tells (IsGood s.1 → WalkSteps ds es (u, (declared_type at ty s).1.1) v) s.1 v.1 → Tells (IsGood s.1 → WalkSteps ds es (u, s.1) v) s.1 v.1
  with_type at ty u s v g = record {
    before = g.before;
    stays = g.stays;
    found = λ t k good. let rest = g.found t k good in Follows (type_steps ds u at ty s good.outside (steps_before ds rest (g.stays t k).0)) rest;
  }

  pub external_tells : (e : External) → IsCountedIn ds e → IsListed e es → (s : UnitSoFar × TagScope) → (let v = walk_external ds e s in Tells (IsGood s.1.1 → WalkSteps ds es (s.0, s.1.1) (v.0, v.1.1)) s.1.1 v.1.1)
  external_tells (x.Typedef e) counted listed s =
      let r = declarator_type e s.1 in
      with_type e.at e.ty s.0 s.1 (typedef_declared ds e.at e.name r.0 (s.0, r.1.1)) (typedef_after ds es (IsGood s.1.1) e.at e.name r.0 s.1.1 (s.0, r.1.1) (type_there e.at e.ty s.1) (declared_tells e.at e.ty s.1))
  external_tells (x.Object e storage init) counted listed s =
      let r = declarator_type e s.1 in
      with_type e.at e.ty s.0 s.1 (object_with ds e.at e.name storage init r.0 (s.0, r.1.1)) (object_after ds es (IsGood s.1.1) e.at e.name storage init listed r.0 s.1.1 (s.0, r.1.1) (type_there e.at e.ty s.1) (declared_tells e.at e.ty s.1))
  external_tells (x.Function e storage end) counted listed s =
      let r = declarator_type e s.1 in
      with_type e.at e.ty s.0 s.1 (function_typed ds e storage end r.0 (s.0, r.1.1))
      (function_after ds es (IsGood s.1.1) e storage end counted r.0 s.1.1 (s.0, r.1.1) (type_there e.at e.ty s.1) (λ of same. declared_fits e.at e.ty s.1 of same) (declared_tells e.at e.ty s.1))
  external_tells (x.Tags storage ty) counted listed s =
      let r = declared_type 0 ty s.1 in
      with_type 0 ty s.0 s.1 (s.0, r.1.1) (tells_as s.1.1 r.1.1 (λ h g. Stays) (declared_tells 0 ty s.1))

-- ---- what steps keep

declared_outside : (ds : Definitions) (name : List ℕ) (new : NameDeclaration) {u names : UnitNames} {env later : Env} → DeclaresName ds name new u env names later → later.outside ≡ env.outside
declared_outside ds name new (First e g) = refl
declared_outside ds name new (Again old e g) = refl

pub steps_outside : (ds : Definitions) {es : List External} {w v : UnitWalk} → WalkSteps ds es w v → v.1.0.outside ≡ w.1.0.outside
steps_outside ds Stays = refl
steps_outside ds (Follows h g) = steps_outside ds g ∙ steps_outside ds h
steps_outside ds (AddsConstant name word e g) = refl
steps_outside ds (AddsNotes g) = refl
steps_outside ds (DeclaresType name ty g h) = declared_outside ds name (typedef_of ty) h
steps_outside ds (DeclaresFunction name of g h) = declared_outside ds name (function_declared false (declared_as of)) h
steps_outside ds (DefinesFunction e of list f g counted h same) = declared_outside ds e.name (function_declared true (declared_as of)) h
steps_outside ds (DeclaresObject name ty g h) = declared_outside ds name (object_declared ty false) h
steps_outside ds (InitialisesObject name ty x cells g h same listed) = declared_outside ds name (object_declared ty true) h

-- typedef names mean types of functions as they are declared
abbrev MeansShaped : Definitions → List ℕ → NameDeclaration → Type 0
MeansShaped ds name new = (u : UnitNames) (ty : DeclaredType) → (first_meaning ds name new u).0 ≡ m.Typedef ty → IsTrue (is_shaped ty)

declared_shapes : (ds : Definitions) (name : List ℕ) (new : NameDeclaration) {u names : UnitNames} {env later : Env} → MeansShaped ds name new → DeclaresName ds name new u env names later → HasShapes env → HasShapes later
declared_shapes ds name new means (First {u = u} {env = env} e g) h = shapes_after name (first_meaning ds name new u).0 env (means u) h
declared_shapes ds name new means (Again old e g) h = h

typedef_shaped : (ds : Definitions) (name : List ℕ) (ty : DeclaredType) → IsTrue (is_shaped ty) → MeansShaped ds name (typedef_of ty)
typedef_shaped ds name ty h u other e = subst (λ o. IsTrue (is_shaped o)) (same e) h
  where
    same : {a b : DeclaredType} → m.Typedef a ≡ m.Typedef b → a ≡ b
    same e = cc

object_shaped : (ds : Definitions) (name : List ℕ) (ty : CType) (has_value : Bool) → MeansShaped ds name (object_declared ty has_value)
object_shaped ds name ty has_value u other = choose (is_some (find name ds.objects))
  where
    choose : (b : Bool) → (object_name b ty u).0 ≡ m.Typedef other → IsTrue (is_shaped other)
    choose true e = let clash : ⊥ = cc in absurd clash
    choose false e = let clash : ⊥ = cc in absurd clash

function_shaped : (ds : Definitions) (name : List ℕ) (has_body : Bool) (of : FunctionType) → MeansShaped ds name (function_declared has_body (declared_as of))
function_shaped ds name has_body of u other = choose (is_some (find name ds.functions))
  where
    choose : (b : Bool) → (function_name b of.result of.parameters u).0 ≡ m.Typedef other → IsTrue (is_shaped other)
    choose true e = let clash : ⊥ = cc in absurd clash
    choose false e = let clash : ⊥ = cc in absurd clash

pub steps_shapes : (ds : Definitions) {es : List External} {w v : UnitWalk} → WalkSteps ds es w v → HasShapes w.1.0 → HasShapes v.1.0
steps_shapes ds Stays h = h
steps_shapes ds (Follows g k) h = steps_shapes ds k (steps_shapes ds g h)
steps_shapes ds (AddsConstant {env = env} name word e g) h = shapes_after name (m.Constant word) env (λ ty e. let clash : ⊥ = cc in absurd clash) h
steps_shapes ds (AddsNotes g) h = h
steps_shapes ds (DeclaresType name ty g k) h = declared_shapes ds name (typedef_of ty) (typedef_shaped ds name ty g.shape) k h
steps_shapes ds (DeclaresFunction name of g k) h = declared_shapes ds name (function_declared false (declared_as of)) (function_shaped ds name false of) k h
steps_shapes ds (DefinesFunction e of list f g counted k same) h = declared_shapes ds e.name (function_declared true (declared_as of)) (function_shaped ds e.name true of) k h
steps_shapes ds (DeclaresObject name ty g k) h = declared_shapes ds name (object_declared ty false) (object_shaped ds name ty false) k h
steps_shapes ds (InitialisesObject name ty x cells g k same listed) h = declared_shapes ds name (object_declared ty true) (object_shaped ds name ty true) k h

-- ---- lists of declarations

pub externals_tell : (ds : Definitions) (all es : List External) → AreCounted ds es → AllListed es all → (s : UnitSoFar × TagScope) → (let v = externals ds es s in Tells (IsGood s.1.1 → WalkSteps ds all (s.0, s.1.1) (v.0, v.1.1)) s.1.1 v.1.1)
externals_tell ds all [] counted listed s = tells_none s.1.1 (λ good. Stays)
externals_tell ds all (e ∷ es) counted listed s =
    let u = walk_external ds e s in
    let v = externals ds es u in
    tells_both s.1.1 u.1.1 v.1.1 both (external_tells ds all e counted.0 listed.0 s) (externals_tell ds all es counted.1 listed.1 u)
  where
    both : (let u = walk_external ds e s in let v = externals ds es u in (IsGood s.1.1 → WalkSteps ds all (s.0, s.1.1) (u.0, u.1.1)) → (IsGood u.1.1 → WalkSteps ds all (u.0, u.1.1) (v.0, v.1.1)) → IsGood s.1.1 → WalkSteps ds all (s.0, s.1.1) (v.0, v.1.1))
    both h g good =
        let one = h good in
        Follows one (g (record {
          outside = steps_outside ds one ∙ good.outside;
          declared = (external_leads ds e s).sound good.declared;
          shapes = steps_shapes ds one good.shapes;
        }))
