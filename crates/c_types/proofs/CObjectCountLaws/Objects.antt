-- A declaration of an object without a fault declares its name as one, or something is noted.
use Rattle.std.proofs.Common.{◌≡◌, ℕ, Bool, true, false, ◌||◌, IsTrue, List, Option, Some, None, is_some, refl, ap, ◌∙◌, if◌then◌else◌}
use Rattle.c_typing_scopes.specs.Names.{find}
use Rattle.c_tree.specs.declared.types.Declaration.{Declaration}
use Rattle.c_tree.specs.declared.declarations.Init.{Init}
use Rattle.c_tree.specs.declared.declarations.Storage.{Storage}
use Rattle.c_tree.specs.declared.declarations.Storage.TheVariants as s
use Rattle.c_tree.specs.declared.declarations.External.TheVariants as x
use Rattle.mem_objects.specs.declared.DataCell.{DataCell}
use Rattle.c_typing_definitions.specs.declared.names.Definitions.{Definitions}
use Rattle.c_typing_rules.specs.declared.c_typing_declared_types.declared.DeclaredType.{DeclaredType}
use Rattle.c_typing_rules.specs.declared.c_typing_declared_types.declared.DeclaredType.TheVariants as d
use Rattle.c_typing_rules.specs.c_typing_declared_types.Declarators.{array_with}
use Rattle.c_typed_tree.specs.declared.types.CType.{CType}
use Rattle.c_typing_faults.specs.declared.faults.Kind.TheVariants.{BadType, Redeclared}
use Rattle.c_typing_state.specs.declared.env.Env.{Env}
use Rattle.c_typing_state.specs.declared.notes.Notes.{Notes}
use Rattle.c_typing_state.specs.Notes.{with_fault}
use Rattle.c_typing_judgements.specs.Types.{JudgementState}
use Rattle.c_typing_struct_bodies.specs.Bodies.{TagScope}
use Rattle.c_typing_struct_bodies.specs.Members.{is_member_type}
use Rattle.c_typing_initialisers.specs.Unfit.{judge_init}
use Rattle.c_typing_initialisers.specs.Initialisers.{object_cells, length_given}
use Rattle.c_typing_unit_names.specs.declared.names.UnitNames.{UnitNames}
use Rattle.c_typing_unit_names.specs.UnitNames.{object_name, first_meaning, with_value, judge_declaration}
use Rattle.c_typing_declarations.specs.declared.walk.UnitSoFar.{UnitSoFar}
use Rattle.c_typing_declarations.specs.Walk.{UnitWalk, with_names, declare, is_main, main_checked, object_number, add_object, keep_cells}
use Rattle.c_typing_declarations.specs.Objects.{no_object_type, object_type, type_there, array_type, init_judged, init_filled, object_declared, object_by_type, array_object, value_object}
use Rattle.c_typing_declarations.specs.Functions.{optional_refused}
use Rattle.c_types.specs.c_found_unit_laws.Externals.{prototype, object_with, declarator_type, walk_external}
use Rattle.c_typing_expression_sound.specs.c_found_laws.Laws.{is_sound, Tells, IsFound}
use Rattle.c_typing_expression_sound.proofs.CFoundLaws.Forms.{tells_none, tells_fault, tells_as, tells_both}
use Rattle.c_types.specs.c_found_unit_laws.Steps.{DeclaresName, First, Again}
use Rattle.c_types.proofs.CFoundUnitLaws.Bodies.{declared_tells}
use Rattle.c_types.proofs.CFoundUnitLaws.Initialisers.{judge_init_tells, object_cells_tell}
use Rattle.c_types.proofs.CFoundUnitLaws.Declarations.{tells_refused, declaration_tells, faulty_object_tells, prototype_tells, optional_refused_tells}
use Rattle.c_types.proofs.CFoundUnitLaws.Externals.{added_body, filled_names}
use Rattle.c_types.proofs.CObjectCountLaws.ObjectNames.{declares_object, declared_here}
use Rattle.c_types.proofs.CObjectCountLaws.Typedefs.{is_function_found}

-- ---- parts, where nothing is noted

checked_tells : (env : Env) (storage : Option Storage) (at : ℕ) (name : List ℕ) (n : Notes) → Tells (Unit {0}) (env, n) (env, main_checked storage at name n)
checked_tells env None at name n = tells_none (env, n) tt
checked_tells env (Some s.Extern) at name n = tells_none (env, n) tt
checked_tells env (Some s.Static) at name n = choose (is_main name)
  where
    either : Bool → Notes
    either b = if b then with_fault at Redeclared n else n

    choose : (b : Bool) → Tells (Unit {0}) (env, n) (env, either b)
    choose true = tells_fault env at Redeclared n
    choose false = tells_none (env, n) tt

type_tells : (env : Env) (at : ℕ) (ty : CType) (n : Notes) → Tells (IsFound (object_type at ty n).0) (env, n) (env, (object_type at ty n).1)
type_tells env at ty n = choose (is_member_type n.structs ty)
  where
    either : Bool → Option CType × Notes
    either b = if b then (Some ty, n) else no_object_type at n

    choose : (b : Bool) → Tells (IsFound (either b).0) (env, n) (env, (either b).1)
    choose true = tells_none (env, n) refl
    choose false = tells_fault env at BadType n

there_tells : (env : Env) (at : ℕ) (o : Option DeclaredType) (n : Notes) → Tells (IsFound (type_there at o n).0) (env, n) (env, (type_there at o n).1)
there_tells env at None n = tells_fault env at BadType n
there_tells env at (Some (d.Value ty)) n = type_tells env at ty n
there_tells env at (Some (d.Unsized y)) n = tells_fault env at BadType n
there_tells env at (Some (d.Function y ys)) n = tells_fault env at BadType n

judged_tells : (init : Option Init) (s : JudgementState) → Tells (Unit {0}) s (init_judged init s)
judged_tells None s = tells_none s tt
judged_tells (Some v) s = tells_as s (judge_init v s).1 (λ y. tt) (judge_init_tells v s)

filled_tells : (name : List ℕ) (ty : CType) (init : Option Init) (w : UnitWalk) → Tells (Unit {0}) w.1 (init_filled name ty init w).1
filled_tells name ty None w = tells_none w.1 tt
filled_tells name ty (Some v) w = tells_as w.1 (object_cells ty v w.1).1 (λ h. tt) (object_cells_tell ty v w.1)

kept_names : (env : Env) (name : List ℕ) (o : Option (List DataCell)) (u : UnitSoFar) → (keep_cells env name o u).names ≡ u.names
kept_names env name None u = refl
kept_names env name (Some cells) u = filled_names (object_number env name) cells u

init_names : (name : List ℕ) (ty : CType) (init : Option Init) (w : UnitWalk) → (init_filled name ty init w).0.names ≡ w.0.names
init_names name ty None w = refl
init_names name ty (Some v) w = let r = object_cells ty v w.1 in kept_names r.1.0 name r.0 w.0

object_sound : (ty : CType) (defined : Bool) (u : UnitNames) → IsTrue (is_sound (object_name defined ty u).0)
object_sound ty true u = refl
object_sound ty false u = refl

declared_object : (ds : Definitions) (name : List ℕ) (ty : CType) (has_value : Bool) {u names : UnitNames} {env later : Env} → DeclaresName ds name (object_declared ty has_value) u env names later → IsTrue (declares_object name names)
declared_object ds name ty has_value (First {u = u} e free) = let new = object_declared ty has_value in declared_here name new (first_meaning ds name new u).1 refl
declared_object ds name ty has_value (Again {u = u} old e may) =
    let new = object_declared ty has_value in declared_here name (with_value (old.1.has_value || has_value) new) u refl

-- ---- declarations of objects

module _ (ds : Definitions) (at : ℕ) (name : List ℕ) (storage : Option Storage) (init : Option Init) where
  of_declares : (o : Option CType) (s : JudgementState) (w : UnitWalk) → Tells (IsFound o) s w.1 → (let v = object_by_type ds at name storage init o w in Tells (IsTrue (declares_object name v.0.names)) s v.1)
  of_declares None s w h =
      let mid = declare ds at name None w in
      tells_both s mid.1 (init_judged init mid.1) (λ y z. y) (tells_refused s w.1 mid.1.0 h) (judged_tells init mid.1)
  of_declares (Some ty) s w h =
      let n = main_checked storage at name w.1.1 in
      let r = judge_declaration ds at name (Some (object_declared ty (is_some init))) w.0.names (w.1.0, n) in
      let u = add_object r.1.0 name ty (with_names r.0 w.0) in
      let v = init_filled name ty init (u, r.1) in
      tells_both s r.1 v.1
      (λ y z. ap (declares_object name) (init_names name ty init (u, r.1) ∙ added_body (object_number r.1.0 name) name ty (with_names r.0 w.0)) ∙ declared_object ds name ty (is_some init) y)
      (tells_both s (w.1.0, n) r.1 (λ y z. z) (tells_both s w.1 (w.1.0, n) (λ y z. z) h (checked_tells w.1.0 storage at name w.1.1))
      (declaration_tells ds at name (object_declared ty (is_some init)) w.0.names (w.1.0, n) (object_sound ty (is_some (find name ds.objects)) w.0.names)))
      (filled_tells name ty init (u, r.1))

  value_declares : (ty : CType) (w : UnitWalk) → (let v = value_object ds at name storage init ty w in Tells (IsTrue (declares_object name v.0.names)) w.1 v.1)
  value_declares ty w = let r = object_type at ty w.1.1 in of_declares r.0 w.1 (w.0, (w.1.0, r.1)) (type_tells w.1.0 at ty w.1.1)

array_declares : (ds : Definitions) (at : ℕ) (name : List ℕ) (storage : Option Storage) (init : Option Init) (element : CType) (w : UnitWalk) → (let v = array_object ds at name storage init element w in Tells (IsTrue (declares_object name v.0.names)) w.1 v.1)
array_declares ds at name storage None element w = of_declares ds at name storage None None w.1 (w.0, (w.1.0, with_fault at BadType w.1.1)) (tells_fault w.1.0 at BadType w.1.1)
array_declares ds at name storage (Some v) element w =
    let r = array_type at element (length_given element v) w.1.1 in
    of_declares ds at name storage (Some v) r.0 w.1 (w.0, (w.1.0, r.1)) (there_tells w.1.0 at (array_with w.1.1.structs element (length_given element v)) w.1.1)

module _ (ds : Definitions) (e : Declaration) (storage : Option Storage) (init : Option Init) where
  -- where its type is none of a function
  abbrev Declares : Option DeclaredType → UnitWalk → Type 0
  Declares o v = is_function_found o ≡ false → IsTrue (declares_object e.name v.0.names)

  object_declares : (o : Option DeclaredType) (s : JudgementState) (w : UnitWalk) → Tells (IsFound o) s w.1 → (let v = object_with ds e.at e.name storage init o w in Tells (Declares o v) s v.1)
  object_declares None s w h = faulty_object_tells ds e.at e.name init s w h
  object_declares (Some (d.Value ty)) s w h =
      let v = value_object ds e.at e.name storage init ty w in
      tells_both s w.1 v.1 (λ y z none. z) h (value_declares ds e.at e.name storage init ty w)
  object_declares (Some (d.Unsized ty)) s w h =
      let v = array_object ds e.at e.name storage init ty w in
      tells_both s w.1 v.1 (λ y z none. z) h (array_declares ds e.at e.name storage init ty w)
  object_declares (Some (d.Function of tys)) s w h =
      let v = prototype ds e.at e.name storage (d.Function of tys) w in
      tells_both s v.1 (optional_refused init v.1) (λ y z none. true_false none) (tells_both s w.1 v.1 (λ y z. y) h (prototype_tells ds e.at e.name storage (d.Function of tys) w)) (optional_refused_tells init v.1)
    where
      true_false : {X : Type 0} → true ≡ false → X
      true_false e = let clash : ⊥ = cc in absurd clash

  pub external_declares : (t : UnitSoFar × TagScope) → (let v = walk_external ds (x.Object e storage init) t in Tells (is_function_found (declarator_type e t.1).0 ≡ false → IsTrue (declares_object e.name v.0.names)) t.1.1 v.1.1)
  external_declares t = let r = declarator_type e t.1 in object_declares r.0 t.1.1 (t.0, r.1.1) (declared_tells e.at e.ty t.1)
