-- A declaration at file scope without a fault takes the steps that are said, or something is noted.
use Rattle.std.proofs.Common.{◌≡◌, ℕ, Bool, true, false, not, ◌&&◌, ◌||◌, IsTrue, List, [], ◌∷◌, Option, Some, None, is_some, refl, sym, ap, ◌∙◌, subst, if◌then◌else◌}
use Rattle.std.specs.Option.{option_map}
use Rattle.c_tree.specs.declared.declarations.Storage.{Storage}
use Rattle.c_tree.specs.declared.declarations.Storage.TheVariants as s
use Rattle.c_tree.specs.declared.declarations.Init.{Init}
use Rattle.c_tree.specs.declared.types.Declaration.{Declaration}
use Rattle.c_tree.specs.declared.types.TypeNode as t
use Rattle.c_tree.specs.declared.expressions.Expr.TheBlock as k
use Rattle.c_tree.specs.declared.statements.Stmt.{Stmt}
use Rattle.c_typing_scopes.specs.Names.{find}
use Rattle.mem_objects.specs.declared.DataCell.{DataCell}
use Rattle.c_typing_rules.specs.declared.c_typing_declared_types.declared.DeclaredType.{DeclaredType}
use Rattle.c_typing_rules.specs.declared.c_typing_declared_types.declared.DeclaredType.TheVariants as d
use Rattle.c_typing_rules.specs.c_typing_declared_types.Declarators.{array_with}
use Rattle.c_typing_rules.specs.c_typing_declared_types.Depth.{is_declarable}
use Rattle.c_typing_definitions.specs.declared.names.Definitions.{Definitions}
use Rattle.c_typing_faults.specs.declared.faults.Kind.TheVariants.{BadType, Redeclared}
use Rattle.c_typed_tree.specs.declared.types.CType.{CType}
use Rattle.c_typed_tree.specs.declared.units.TypedFn.{TypedFn}
use Rattle.c_typing_state.specs.declared.env.Env.{Env}
use Rattle.c_typing_state.specs.declared.meanings.NameMeaning.{NameMeaning}
use Rattle.c_typing_state.specs.declared.meanings.NameMeaning.TheVariants as m
use Rattle.c_typing_state.specs.declared.notes.Notes.{Notes}
use Rattle.c_typing_state.specs.Checks.{each, and_then, pure}
use Rattle.c_typing_state.specs.Notes.{with_fault}
use Rattle.c_typing_state.specs.Scopes.{with_meaning, meaning_of}
use Rattle.c_typing_judgements.specs.Leaves.{no_type}
use Rattle.c_typing_judgements.specs.Types.{JudgementState, type_named}
use Rattle.c_typing_struct_bodies.specs.Members.{is_member_type}
use Rattle.c_typing_statements.specs.declared.c_typing_function_bodies.functions.FunctionType.{FunctionType}
use Rattle.c_typing_statements.specs.c_typing_function_bodies.Functions.{judge_function}
use Rattle.c_typing_unit_names.specs.declared.names.NameDeclaration.{NameDeclaration}
use Rattle.c_typing_unit_names.specs.declared.names.UnitNames.{UnitNames}
use Rattle.c_typing_unit_names.specs.UnitNames.{may_follow, object_name, function_name, first_meaning, named_first, with_declared, with_value, meaning_before, redeclare, first_by, first_declared, follows, known_by, known_declared, judge_declaration}
use Rattle.c_typing_initialisers.specs.Unfit.{judge_init}
use Rattle.c_typing_initialisers.specs.Initialisers.{object_cells, length_given}
use Rattle.c_typing_declarations.specs.declared.walk.UnitSoFar.{UnitSoFar}
use Rattle.c_typing_declarations.specs.Walk.{UnitWalk, in_notes, with_notes, declare, with_names, is_main, main_checked, add_object, with_unit_object, keep_cells, fill, keep_function, body_kept}
use Rattle.c_typing_declarations.specs.Objects.{no_object_type, object_type, type_there, array_type, init_judged, init_filled, object_declared, faulty_object, object_by_type, array_object, value_object}
use Rattle.c_typing_declarations.specs.Functions.{function_type, function_declared, function_by_type, function_with_type, init_refused, optional_refused, name_judged, name_row, type_where, defined_type, with_main, main_seen, refusal_of}
use Rattle.c_typing_units.specs.Externals.{typedef_of, prototype, type_with, type_of_function, body_judged, definition_with}
use Rattle.c_typing_expression_sound.specs.c_found_laws.Laws.{is_sound, are_sound_names, NamesAreSound, Tells, IsFound, YieldsFound}
use Rattle.c_typing_expression_sound.proofs.CFoundLaws.Forms.{no_true, also, holds, meaning_sound, tells_none, tells_fault, tells_as, tells_then, tells_both, tells_never, tells_named, type_named_tells}
use Rattle.c_typing_function_sound.specs.c_found_statement_laws.Laws.{type_fits}
use Rattle.c_typing_function_sound.proofs.CFoundStatementLaws.Functions.{function_tells}
use Rattle.c_types.specs.c_found_unit_laws.Steps.{DeclaresName, First, Again, declared_as, UnitSteps, Stays, Follows, SeesMain, DeclaresType, DeclaresFunction, DefinesFunction, DeclaresObject, KeepsCells}
use Rattle.c_types.proofs.CFoundUnitLaws.Names.{function_env}
use Rattle.c_types.proofs.CFoundUnitLaws.Initialisers.{judge_init_tells, unfit_tells, object_cells_tell, object_cells_leave}

-- where something is refused, nothing is said
pub tells_refused : {X : Type 0} (s u : JudgementState) (env : Env) → Tells (IsTrue false) s u → Tells X s (env, u.1)
tells_refused s u env h = record { before = h.before; stays = λ t g. no_true (h.found t g); found = λ t g. no_true (h.found t g) }

-- ---- names

module _ (ds : Definitions) (at : ℕ) (name : List ℕ) (new : NameDeclaration) (u : UnitNames) (s : JudgementState) where
  abbrev IsDone : UnitNames × JudgementState → Type 0
  IsDone r = Tells (DeclaresName ds name new u s.0 r.0 r.1.0) s r.1

  redeclared_tells : IsDone (redeclare at u s)
  redeclared_tells = tells_fault s.0 at Redeclared s.1

  first_tells : IsTrue (is_sound (first_meaning ds name new u).0) → find name u.declared ≡ None → (o : Option NameMeaning) → meaning_of s.0 name ≡ o → IsDone (first_by (meaning_before o) ds at name new u s)
  first_tells sound e None g = tells_named name (first_meaning ds name new u).0 s sound (First e g)
  first_tells sound e (Some m.Faulty) g = record {
    before = λ t. t;
    stays = λ t h. h;
    found = λ t h. no_true (subst (λ (o : Option NameMeaning). IsTrue (holds is_sound o)) g (meaning_sound s.0 name h.0));
  }
  first_tells sound e (Some (m.Undefined number)) g = redeclared_tells
  first_tells sound e (Some (m.Local number ty)) g = redeclared_tells
  first_tells sound e (Some (m.Object number ty)) g = redeclared_tells
  first_tells sound e (Some (m.Constant word)) g = redeclared_tells
  first_tells sound e (Some (m.Function callee of parameters)) g = redeclared_tells
  first_tells sound e (Some (m.Typedef ty)) g = redeclared_tells

  again_tells : (old : ℕ × NameDeclaration) → find name u.declared ≡ Some old → (b : Bool) → may_follow old.1 new ≡ b → IsDone (known_by (if b then Some (Some (old.1.has_value || new.has_value)) else Some None) ds at name new u s)
  again_tells old e true g = tells_none s (Again old e g)
  again_tells old e false g = redeclared_tells

  known_tells : IsTrue (is_sound (first_meaning ds name new u).0) → (o : Option (ℕ × NameDeclaration)) → find name u.declared ≡ o → IsDone (known_by (follows o new) ds at name new u s)
  known_tells sound None e = first_tells sound e (meaning_of s.0 name) refl
  known_tells sound (Some old) e = again_tells old e (may_follow old.1 new) refl

  pub declaration_tells : IsTrue (is_sound (first_meaning ds name new u).0) → IsDone (judge_declaration ds at name (Some new) u s)
  declaration_tells sound = known_tells sound (find name u.declared) refl

-- the steps from one state of the walk to another
abbrev pub Steps : Definitions → UnitWalk → UnitWalk → Type 0
Steps ds w v = UnitSteps ds w.0 w.1.0 v.0 v.1.0

main_checked_tells : (env : Env) (storage : Option Storage) (at : ℕ) (name : List ℕ) (n : Notes) → Tells (Unit {0}) (env, n) (env, main_checked storage at name n)
main_checked_tells env None at name n = tells_none (env, n) tt
main_checked_tells env (Some s.Extern) at name n = tells_none (env, n) tt
main_checked_tells env (Some s.Static) at name n = choose (is_main name)
  where
    either : Bool → Notes
    either b = if b then with_fault at Redeclared n else n

    choose : (b : Bool) → Tells (Unit {0}) (env, n) (env, either b)
    choose true = tells_fault env at Redeclared n
    choose false = tells_none (env, n) tt

-- ---- typedef names

pub typedef_by : (ds : Definitions) (at : ℕ) (name : List ℕ) (o : Option DeclaredType) (s : JudgementState) (w : UnitWalk) → Tells (IsFound o) s w.1 → (let v = declare ds at name (option_map typedef_of o) w in Tells (Steps ds w v) s v.1)
typedef_by ds at name None s w h = tells_refused s w.1 _ h
typedef_by ds at name (Some ty) s w h =
    let r = judge_declaration ds at name (Some (typedef_of ty)) w.0.names w.1 in
    tells_both s w.1 r.1 (λ x y. DeclaresType name ty y) h (declaration_tells ds at name (typedef_of ty) w.0.names w.1 refl)

-- ---- objects

object_type_tells : (env : Env) (at : ℕ) (ty : CType) (n : Notes) → Tells (IsFound (object_type at ty n).0) (env, n) (env, (object_type at ty n).1)
object_type_tells env at ty n = choose (is_member_type n.structs ty)
  where
    either : Bool → Option CType × Notes
    either b = if b then (Some ty, n) else no_object_type at n

    choose : (b : Bool) → Tells (IsFound (either b).0) (env, n) (env, (either b).1)
    choose true = tells_none (env, n) refl
    choose false = tells_fault env at BadType n

there_tells : (env : Env) (at : ℕ) (o : Option DeclaredType) (n : Notes) → Tells (IsFound (type_there at o n).0) (env, n) (env, (type_there at o n).1)
there_tells env at None n = tells_fault env at BadType n
there_tells env at (Some (d.Value ty)) n = object_type_tells env at ty n
there_tells env at (Some (d.Unsized x)) n = tells_fault env at BadType n
there_tells env at (Some (d.Function x xs)) n = tells_fault env at BadType n

init_judged_tells : (init : Option Init) (s : JudgementState) → Tells (Unit {0}) s (init_judged init s)
init_judged_tells None s = tells_none s tt
init_judged_tells (Some x) s = tells_as s (judge_init x s).1 (λ y. tt) (judge_init_tells x s)

filled_steps : (ds : Definitions) (name : List ℕ) (u : UnitSoFar) (env later : Env) (o : Option (List DataCell)) → later ≡ env → IsFound o → UnitSteps ds u env (keep_cells later name o u) later
filled_steps ds name u env later None e h = no_true h
filled_steps ds name u env later (Some cells) e h = subst (λ x. UnitSteps ds u env (keep_cells x name (Some cells) u) x) (sym e) (KeepsCells name cells)

init_filled_tells : (ds : Definitions) (name : List ℕ) (ty : CType) (init : Option Init) (w : UnitWalk) → (let v = init_filled name ty init w in Tells (Steps ds w v) w.1 v.1)
init_filled_tells ds name ty None w = tells_none w.1 Stays
init_filled_tells ds name ty (Some x) w =
    let r = object_cells ty x w.1 in
    tells_as w.1 r.1 (λ h. filled_steps ds name w.0 w.1.0 r.1.0 r.0 (object_cells_leave ty x w.1) h) (object_cells_tell ty x w.1)

object_sound : (ds : Definitions) (name : List ℕ) (ty : CType) (has_value defined : Bool) (u : UnitNames) → IsTrue (is_sound (object_name defined ty u).0)
object_sound ds name ty has_value true u = refl
object_sound ds name ty has_value false u = refl

object_by : (ds : Definitions) (at : ℕ) (name : List ℕ) (storage : Option Storage) (init : Option Init) (o : Option CType) (s : JudgementState) (w : UnitWalk) → Tells (IsFound o) s w.1 → (let v = object_by_type ds at name storage init o w in Tells (Steps ds w v) s v.1)
object_by ds at name storage init None s w h =
    let mid = declare ds at name None w in
    tells_both s mid.1 (init_judged init mid.1) (λ x y. x) (tells_refused s w.1 mid.1.0 h) (init_judged_tells init mid.1)
object_by ds at name storage init (Some ty) s w h =
    let n = main_checked storage at name w.1.1 in
    let new = object_declared ty (is_some init) in
    let r = judge_declaration ds at name (Some new) w.0.names (w.1.0, n) in
    let u = add_object r.1.0 name ty (with_names r.0 w.0) in
    let v = init_filled name ty init (u, r.1) in
    tells_both s r.1 v.1 (λ x y. Follows (DeclaresObject name ty (is_some init) x) y)
    (tells_both s (w.1.0, n) r.1 (λ x y. y) (tells_both s w.1 (w.1.0, n) (λ x y. y) h (main_checked_tells w.1.0 storage at name w.1.1))
    (declaration_tells ds at name new w.0.names (w.1.0, n) (object_sound ds name ty (is_some init) (is_some (find name ds.objects)) w.0.names)))
    (init_filled_tells ds name ty init (u, r.1))

pub value_object_tells : (ds : Definitions) (at : ℕ) (name : List ℕ) (storage : Option Storage) (init : Option Init) (ty : CType) (w : UnitWalk) → (let v = value_object ds at name storage init ty w in Tells (Steps ds w v) w.1 v.1)
value_object_tells ds at name storage init ty w = let r = object_type at ty w.1.1 in object_by ds at name storage init r.0 w.1 (w.0, (w.1.0, r.1)) (object_type_tells w.1.0 at ty w.1.1)

pub array_object_tells : (ds : Definitions) (at : ℕ) (name : List ℕ) (storage : Option Storage) (init : Option Init) (element : CType) (w : UnitWalk) → (let v = array_object ds at name storage init element w in Tells (Steps ds w v) w.1 v.1)
array_object_tells ds at name storage None element w = object_by ds at name storage None None w.1 (w.0, (w.1.0, with_fault at BadType w.1.1)) (tells_fault w.1.0 at BadType w.1.1)
array_object_tells ds at name storage (Some x) element w =
    let r = array_type at element (length_given element x) w.1.1 in
    object_by ds at name storage (Some x) r.0 w.1 (w.0, (w.1.0, r.1)) (there_tells w.1.0 at (array_with w.1.1.structs element (length_given element x)) w.1.1)

pub faulty_object_tells : {X : Type 0} (ds : Definitions) (at : ℕ) (name : List ℕ) (init : Option Init) (s : JudgementState) (w : UnitWalk) → Tells (IsTrue false) s w.1 → Tells X s (faulty_object ds at name init w).1
faulty_object_tells ds at name init s w h =
    let mid = declare ds at name None w in
    tells_both s mid.1 (init_judged init mid.1) (λ x y. x) (tells_refused s w.1 mid.1.0 h) (init_judged_tells init mid.1)

-- ---- functions

function_sound : (defined : Bool) (ty : CType) (tys : List CType) (u : UnitNames) → IsTrue (is_sound (function_name defined ty tys u).0)
function_sound true ty tys u = refl
function_sound false ty tys u = refl

-- the declaration of a function without a fault
pub function_by : (ds : Definitions) (at : ℕ) (name : List ℕ) (storage : Option Storage) (has_body : Bool) (of : CType) (tys : List CType) (s : JudgementState) (w : UnitWalk) → Tells (Unit {0}) s w.1
    → (let v = function_by_type ds at name storage has_body (Some (d.Function of tys)) w in Tells (DeclaresName ds name (function_declared has_body (d.Function of tys)) w.0.names w.1.0 v.0.names v.1.0) s v.1)
function_by ds at name storage has_body of tys s w h =
    let n = main_checked storage at name w.1.1 in
    let new = function_declared has_body (d.Function of tys) in
    let r = judge_declaration ds at name (Some new) w.0.names (w.1.0, n) in
    tells_both s (w.1.0, n) r.1 (λ x y. y) (tells_both s w.1 (w.1.0, n) (λ x y. y) h (main_checked_tells w.1.0 storage at name w.1.1))
    (declaration_tells ds at name new w.0.names (w.1.0, n) (function_sound (is_some (find name ds.functions)) of tys w.0.names))

pub prototype_tells : (ds : Definitions) (at : ℕ) (name : List ℕ) (storage : Option Storage) (ty : DeclaredType) (w : UnitWalk) → (let v = prototype ds at name storage ty w in Tells (Steps ds w v) w.1 v.1)
prototype_tells ds at name storage (d.Value ty) w = tells_refused w.1 (w.1.0, with_fault at BadType w.1.1) _ (tells_fault w.1.0 at BadType w.1.1)
prototype_tells ds at name storage (d.Unsized ty) w = tells_refused w.1 (w.1.0, with_fault at BadType w.1.1) _ (tells_fault w.1.0 at BadType w.1.1)
prototype_tells ds at name storage (d.Function of tys) w = choose (is_declarable w.1.1.structs (d.Function of tys))
  where
    either : Bool → Option DeclaredType × Notes
    either b = if b then (Some (d.Function of tys), w.1.1) else no_type at BadType w.1.1

    after : Bool → UnitWalk
    after b = function_with_type ds at name storage false (in_notes w (either b))

    choose : (b : Bool) → Tells (Steps ds w (after b)) w.1 (after b).1
    choose true = tells_as w.1 (after true).1 (λ x. DeclaresFunction name (type_with of tys) x) (function_by ds at name storage false of tys w.1 w (tells_none w.1 tt))
    choose false = tells_refused w.1 (w.1.0, with_fault at BadType w.1.1) _ (tells_fault w.1.0 at BadType w.1.1)

pub init_refused_tells : (x : Init) (s : JudgementState) → Tells (Unit {0}) s (init_refused x s)
init_refused_tells x s = tells_as s (init_refused x s) (λ y. tt) (unfit_tells (refusal_of x) x s)

pub optional_refused_tells : (x : Option Init) (s : JudgementState) → Tells (Unit {0}) s (optional_refused x s)
optional_refused_tells None s = tells_none s tt
optional_refused_tells (Some x) s = init_refused_tells x s
