-- A declaration at file scope without a fault takes the steps that are said, or something is noted.
use Rattle.std.proofs.Common.{◌≡◌, ℕ, Bool, true, false, IsTrue, List, Option, Some, None, IfSome, is_some, refl, sym, ◌∙◌, subst, if◌then◌else◌}
use Rattle.std.specs.Option.{option_map}
use Rattle.c_tree.specs.declared.declarations.Storage.{Storage}
use Rattle.c_tree.specs.declared.declarations.Init.{Init}
use Rattle.c_tree.specs.declared.declarations.External.{External}
use Rattle.c_typing_scopes.specs.Names.{find}
use Rattle.mem_objects.specs.declared.DataCell.{DataCell}
use Rattle.c_typing_rules.specs.declared.c_typing_declared_types.declared.DeclaredType.{DeclaredType}
use Rattle.c_typing_rules.specs.declared.c_typing_declared_types.declared.DeclaredType.TheVariants as d
use Rattle.c_typing_rules.specs.c_typing_declared_types.Declarators.{array_with}
use Rattle.c_typing_rules.specs.c_typing_declared_types.Depth.{is_declarable}
use Rattle.c_typing_definitions.specs.declared.names.Definitions.{Definitions}
use Rattle.c_typing_faults.specs.declared.faults.Kind.{Kind}
use Rattle.c_typing_faults.specs.declared.faults.Kind.TheVariants.{BadType}
use Rattle.c_typed_tree.specs.declared.types.CType as ct
use Rattle.c_typed_tree.specs.declared.types.CType.{CType}
use Rattle.c_typed_tree.specs.declared.types.StructDef.{StructDef}
use Rattle.c_typed_tree.specs.Layout.{is_object}
use Rattle.c_typed_tree.specs.Typing.{is_valid_type}
use Rattle.c_typed_tree.specs.View.{type_view}
use Rattle.c_typed_tree.specs.model.View.{opens}
use Rattle.c_typing_state.specs.declared.env.Env.{Env}
use Rattle.c_typing_state.specs.declared.notes.Notes.{Notes}
use Rattle.c_typing_state.specs.Checks.{each}
use Rattle.c_typing_state.specs.Notes.{with_fault}
use Rattle.c_typing_judgements.specs.Leaves.{no_type}
use Rattle.c_typing_judgements.specs.Types.{JudgementState}
use Rattle.c_typing_struct_bodies.specs.Members.{is_member_type}
use Rattle.c_typing_initialisers.specs.Unfit.{judge_init, no_place}
use Rattle.c_typing_initialisers.specs.Initialisers.{object_cells, length_given}
use Rattle.c_typing_unit_names.specs.declared.names.UnitNames.{UnitNames}
use Rattle.c_typing_unit_names.specs.UnitNames.{object_name, function_name, judge_declaration}
use Rattle.c_typing_declarations.specs.declared.walk.UnitSoFar.{UnitSoFar}
use Rattle.c_typing_declarations.specs.Walk.{UnitWalk, in_notes, declare, with_names, main_checked, add_object, keep_cells}
use Rattle.c_typing_declarations.specs.Objects.{no_object_type, object_type, type_there, init_judged, object_declared, faulty_object, object_by_type, array_object, value_object}
use Rattle.c_typing_declarations.specs.Functions.{function_declared, function_with_type, refusal_of, init_refused}
use Rattle.c_types.specs.c_found_unit_laws.Externals.{typedef_of, typedef_declared, prototype, object_with, type_with}
use Rattle.c_typing_expression_sound.proofs.CTypeLaws.Truth.{also}
use Rattle.c_typing_expression_sound.specs.c_expression_laws.Types.{IsTypeIn}
use Rattle.c_types.specs.c_unit_struct_laws.Notes.{of_structs}
use Rattle.c_typing_expression_sound.specs.c_found_laws.Laws.{is_sound, Tells, IsFound}
use Rattle.c_typing_expression_sound.proofs.CFoundLaws.Forms.{no_true, tells_none, tells_fault, tells_as, tells_then, tells_both}
use Rattle.c_types.specs.c_found_unit_laws.Steps.{DeclaresName}
use Rattle.c_types.proofs.CFoundUnitLaws.Declarations.{tells_refused}
use Rattle.c_types.proofs.CFoundUnitLaws.Initialisers.{judge_init_tells, unfit_tells, object_cells_tell, object_cells_leave}
use Rattle.c_types.specs.c_unit_walk_laws.Shapes.{is_shaped}
use Rattle.c_types.specs.c_unit_walk_laws.Walks.{IsInitialiserIn, IsObjectType, IsGivenType, WalkSteps, DeclaresType, DeclaresFunction, DeclaresObject, InitialisesObject}
use Rattle.c_types.proofs.CUnitWalkLaws.Counted.{AreListed}
use Rattle.c_types.proofs.CUnitWalkLaws.Names.{declaration_tells, checked_declaration_tells}

-- what is known of the type of a declaration
abbrev pub IsThere : List StructDef → DeclaredType → Type 0
IsThere structs ty = IsTypeIn (of_structs structs) ty × IsTrue (is_shaped ty)

pub given_type : (structs : List StructDef) (ty : DeclaredType) → IsThere structs ty → IsTrue (is_declarable structs ty) → IsGivenType structs ty
given_type structs ty h e = record { there = h.0; declarable = e; shape = h.1 }

-- the same notes
pub at_notes : {ds : Definitions} {es : List External} {w : UnitWalk} {u : UnitSoFar} {later : Env} {n k : Notes} → k ≡ n → WalkSteps ds es w (u, (later, n)) → WalkSteps ds es w (u, (later, k))
at_notes {ds = ds} {es = es} {w = w} {u = u} {later = later} e h = subst (λ k. WalkSteps ds es w (u, (later, k))) (sym e) h

-- a fault is noted before
pub fault_tells : {X : Type 0} (s : JudgementState) (env later : Env) (at : ℕ) (n : Notes) → Tells (Unit {0}) s (env, n) → Tells X s (later, with_fault at BadType n)
fault_tells s env later at n h = tells_refused s (env, with_fault at BadType n) later (tells_both s (env, n) (env, with_fault at BadType n) (λ x y. y) h (tells_fault env at BadType n))

pub anything : {X : Type 0} (s u : JudgementState) → Tells X s u → Tells (Unit {0}) s u
anything s u h = tells_as s u (λ x. tt) h

-- ---- typedef names

pub typedef_after : (ds : Definitions) (es : List External) (G : Type 0) (at : ℕ) (name : List ℕ) (o : Option DeclaredType) (s : JudgementState) (w : UnitWalk) → (G → IfSome o (IsThere w.1.1.structs)) → Tells (IsFound o) s w.1
    → (let v = typedef_declared ds at name o w in Tells (G → WalkSteps ds es w v) s v.1)
typedef_after ds es G at name None s w f h = tells_refused s w.1 _ h
typedef_after ds es G at name (Some ty) s w f h = choose (is_declarable w.1.1.structs ty) refl
  where
    either : Bool → Option DeclaredType × Notes
    either b = if b then (Some ty, w.1.1) else no_type at BadType w.1.1

    after : Bool → UnitWalk
    after b = declare ds at name (option_map typedef_of (either b).0) (w.0, (w.1.0, (either b).1))

    choose : (b : Bool) → is_declarable w.1.1.structs ty ≡ b → Tells (G → WalkSteps ds es w (after b)) s (after b).1
    choose true e =
        let r = judge_declaration ds at name (Some (typedef_of ty)) w.0.names w.1 in
        tells_both s w.1 r.1 (λ x y g. at_notes y.1 (DeclaresType name ty (given_type w.1.1.structs ty (f g) e) y.0)) h (declaration_tells ds at name (typedef_of ty) w.0.names w.1 refl)
    choose false e = fault_tells s w.1.0 (after false).1.0 at w.1.1 (anything s w.1 h)

-- ---- objects

array_is : (structs : List StructDef) (element : CType) (size : ℕ) → IsTrue (is_valid_type structs (type_view element)) → IsTrue (is_object structs (type_view (ct.Array element size))) → IsTrue (is_valid_type structs (type_view (ct.Array element size)))
unfolding opens
array_is structs element size h e = also (is_valid_type structs (type_view element)) (is_object structs (type_view (ct.Array element size))) h e

-- an initialiser of a function is always a fault
never_found : (o : Option ℕ) (kind : Kind) (n : Notes) → IsFound (each o (no_place kind) n).0 → IsTrue false
never_found None kind n h = h
never_found (Some at) kind n h = h

pub refused_never : {X : Type 0} (init : Init) (s : JudgementState) → Tells X s (init_refused init s)
refused_never init s =
    let r = judge_init init s in
    tells_as s (init_refused init s) (λ h. no_true (never_found r.0 (refusal_of init) r.1.1 h)) (unfit_tells (refusal_of init) init s)

module _ (ds : Definitions) (es : List External) (G : Type 0) where
  -- a type of objects, where its parts are there
  object_type_tells : (env : Env) (at : ℕ) (ty : CType) (n : Notes) → (G → IsTrue (is_valid_type n.structs (type_view ty))) → (let r = object_type at ty n in Tells (IsFound r.0 × (r.1 ≡ n) × (G → IfSome r.0 (IsObjectType n.structs))) (env, n) (env, r.1))
  object_type_tells env at ty n f = choose (is_member_type n.structs ty) refl
    where
      either : Bool → Option CType × Notes
      either b = if b then (Some ty, n) else no_object_type at n

      choose : (b : Bool) → is_member_type n.structs ty ≡ b → Tells (IsFound (either b).0 × ((either b).1 ≡ n) × (G → IfSome (either b).0 (IsObjectType n.structs))) (env, n) (env, (either b).1)
      choose true e = tells_none (env, n) (refl, refl, λ g. record { there = f g; member = e })
      choose false e = tells_fault env at BadType n

  init_judged_tells : (init : Option Init) (s : JudgementState) → Tells (Unit {0}) s (init_judged init s)
  init_judged_tells None s = tells_none s tt
  init_judged_tells (Some x) s = tells_as s (judge_init x s).1 (λ y. tt) (judge_init_tells x s)

  object_sound : (ty : CType) (defined : Bool) (u : UnitNames) → IsTrue (is_sound (object_name defined ty u).0)
  object_sound ty true u = refl
  object_sound ty false u = refl

  -- an object with its initialiser, at the same notes
  initialised : (name : List ℕ) (ty : CType) (x : Init) (u : UnitSoFar) (env : Env) (n k : Notes) (names : UnitNames) (later : Env) → IsObjectType n.structs ty → DeclaresName ds name (object_declared ty true) u.names env names later → IsInitialiserIn x es → k ≡ n
      → IsFound (object_cells ty x (later, k)).0
      → (let q = object_cells ty x (later, k) in WalkSteps ds es (u, (env, n)) (keep_cells q.1.0 name q.0 (add_object later name ty (with_names names u)), q.1))
  initialised name ty x u env n k names later object declared listed e =
      subst (λ k. IsFound (object_cells ty x (later, k)).0 → (let q = object_cells ty x (later, k) in WalkSteps ds es (u, (env, n)) (keep_cells q.1.0 name q.0 added, q.1))) (sym e)
      (λ found. filled cells.0 refl cells.1.0 (object_cells_leave ty x (later, n)) found)
    where
      added : UnitSoFar
      added = add_object later name ty (with_names names u)

      cells : Option (List DataCell) × JudgementState
      cells = object_cells ty x (later, n)

      filled : (o : Option (List DataCell)) → cells.0 ≡ o → (same : Env) → same ≡ later → IsFound o → WalkSteps ds es (u, (env, n)) (keep_cells same name o added, (same, cells.1.1))
      filled None e same f found = no_true found
      filled (Some list) e same f found = subst (λ z. WalkSteps ds es (u, (env, n)) (keep_cells z name (Some list) added, (z, cells.1.1))) (sym f) (InitialisesObject name ty x list object declared e listed)

  -- the type of an object, at the notes that were there
  abbrev pub Typed : (n k : Notes) → Option CType → Type 0
  Typed n k o = IsFound o × (k ≡ n) × (G → IfSome o (IsObjectType n.structs))

  object_by : (at : ℕ) (name : List ℕ) (storage : Option Storage) (init : Option Init) → AreListed init es → (o : Option CType) (s : JudgementState) (u : UnitSoFar) (env : Env) (n k : Notes) → Tells (Typed n k o) s (env, k)
      → (let v = object_by_type ds at name storage init o (u, (env, k)) in Tells (G → WalkSteps ds es (u, (env, n)) v) s v.1)
  object_by at name storage init listed None s u env n k h =
      let mid = declare ds at name None (u, (env, k)) in
      tells_both s mid.1 (init_judged init mid.1) (λ x y. x) (tells_refused s (env, k) mid.1.0 (tells_as s (env, k) (λ x. x.0) h)) (init_judged_tells init mid.1)
  object_by at name storage None listed (Some ty) s u env n k h =
      let new = object_declared ty false in
      let r = judge_declaration ds at name (Some new) u.names (env, main_checked storage at name k) in
      tells_both s (env, k) r.1 (λ x y g. at_notes (y.1 ∙ x.1) (DeclaresObject name ty (x.2 g) y.0)) h
      (checked_declaration_tells ds at name storage new u.names env k (object_sound ty (is_some (find name ds.objects)) u.names))
  object_by at name storage (Some x) listed (Some ty) s u env n k h =
      let new = object_declared ty true in
      let r = judge_declaration ds at name (Some new) u.names (env, main_checked storage at name k) in
      let q = object_cells ty x r.1 in
      tells_both s r.1 q.1 (λ a b g. initialised name ty x u env n r.1.1 r.0 r.1.0 (a.0.2 g) a.1.0 listed (a.1.1 ∙ a.0.1) b)
      (tells_then s (env, k) r.1 h (checked_declaration_tells ds at name storage new u.names env k (object_sound ty (is_some (find name ds.objects)) u.names)))
      (object_cells_tell ty x r.1)

  value_after : (at : ℕ) (name : List ℕ) (storage : Option Storage) (init : Option Init) → AreListed init es → (ty : CType) (s : JudgementState) (w : UnitWalk) → (G → IsTrue (is_valid_type w.1.1.structs (type_view ty))) → Tells (Unit {0}) s w.1
      → (let v = value_object ds at name storage init ty w in Tells (G → WalkSteps ds es w v) s v.1)
  value_after at name storage init listed ty s w f h =
      let r = object_type at ty w.1.1 in
      object_by at name storage init listed r.0 s w.0 w.1.0 w.1.1 r.1 (tells_both s w.1 (w.1.0, r.1) (λ x y. y) h (object_type_tells w.1.0 at ty w.1.1 f))

  there_tells : (env : Env) (at : ℕ) (o : Option DeclaredType) (n : Notes) → (G → IfSome o (IsTypeIn (of_structs n.structs))) → (let r = type_there at o n in Tells (Typed n r.1 r.0) (env, n) (env, r.1))
  there_tells env at None n f = tells_fault env at BadType n
  there_tells env at (Some (d.Value ty)) n f = object_type_tells env at ty n f
  there_tells env at (Some (d.Unsized x)) n f = tells_fault env at BadType n
  there_tells env at (Some (d.Function x xs)) n f = tells_fault env at BadType n

  -- an array of a type whose parts are there
  array_there : (structs : List StructDef) (element : CType) (size : ℕ) → IsTrue (is_valid_type structs (type_view element)) → IfSome (array_with structs element size) (IsTypeIn (of_structs structs))
  array_there structs element size h = choose (is_object structs (type_view (ct.Array element size))) refl
    where
      choose : (b : Bool) → is_object structs (type_view (ct.Array element size)) ≡ b → IfSome (if b then Some (d.Value (ct.Array element size)) else None) (IsTypeIn (of_structs structs))
      choose true e = array_is structs element size h e
      choose false e = tt

  array_after : (at : ℕ) (name : List ℕ) (storage : Option Storage) (init : Option Init) → AreListed init es → (element : CType) (s : JudgementState) (w : UnitWalk) → (G → IsTrue (is_valid_type w.1.1.structs (type_view element))) → Tells (Unit {0}) s w.1
      → (let v = array_object ds at name storage init element w in Tells (G → WalkSteps ds es w v) s v.1)
  array_after at name storage None listed element s w f h =
      object_by at name storage None tt None s w.0 w.1.0 w.1.1 (with_fault at BadType w.1.1) (tells_both s w.1 (w.1.0, with_fault at BadType w.1.1) (λ x y. y) h (tells_fault w.1.0 at BadType w.1.1))
  array_after at name storage (Some x) listed element s w f h =
      let o = array_with w.1.1.structs element (length_given element x) in
      let r = type_there at o w.1.1 in
      object_by at name storage (Some x) listed r.0 s w.0 w.1.0 w.1.1 r.1
      (tells_both s w.1 (w.1.0, r.1) (λ a b. b) h (there_tells w.1.0 at o w.1.1 (λ g. array_there w.1.1.structs element (length_given element x) (f g))))

  faulty_after : {X : Type 0} (at : ℕ) (name : List ℕ) (init : Option Init) (s : JudgementState) (w : UnitWalk) → Tells (IsTrue false) s w.1 → Tells X s (faulty_object ds at name init w).1
  faulty_after at name init s w h =
      let mid = declare ds at name None w in
      tells_both s mid.1 (init_judged init mid.1) (λ x y. x) (tells_refused s w.1 mid.1.0 h) (init_judged_tells init mid.1)

  -- ---- functions

  pub function_sound : (defined : Bool) (ty : CType) (tys : List CType) (u : UnitNames) → IsTrue (is_sound (function_name defined ty tys u).0)
  function_sound true ty tys u = refl
  function_sound false ty tys u = refl

  pub prototype_after : (at : ℕ) (name : List ℕ) (storage : Option Storage) (ty : DeclaredType) (s : JudgementState) (w : UnitWalk) → (G → IsThere w.1.1.structs ty) → Tells (Unit {0}) s w.1 → (let v = prototype ds at name storage ty w in Tells (G → WalkSteps ds es w v) s v.1)
  prototype_after at name storage (d.Value ty) s w f h = fault_tells s w.1.0 _ at w.1.1 h
  prototype_after at name storage (d.Unsized ty) s w f h = fault_tells s w.1.0 _ at w.1.1 h
  prototype_after at name storage (d.Function of tys) s w f h = choose (is_declarable w.1.1.structs (d.Function of tys)) refl
    where
      either : Bool → Option DeclaredType × Notes
      either b = if b then (Some (d.Function of tys), w.1.1) else no_type at BadType w.1.1

      after : Bool → UnitWalk
      after b = function_with_type ds at name storage false (in_notes w (either b))

      choose : (b : Bool) → is_declarable w.1.1.structs (d.Function of tys) ≡ b → Tells (G → WalkSteps ds es w (after b)) s (after b).1
      choose true e =
          let new = function_declared false (d.Function of tys) in
          tells_both s w.1 (after true).1 (λ x y g. at_notes y.1 (DeclaresFunction name (type_with of tys) (given_type w.1.1.structs (d.Function of tys) (f g) e) y.0)) h
          (checked_declaration_tells ds at name storage new w.0.names w.1.0 w.1.1 (function_sound (is_some (find name ds.functions)) of tys w.0.names))
      choose false e = fault_tells s w.1.0 (after false).1.0 at w.1.1 h

  pub object_after : (at : ℕ) (name : List ℕ) (storage : Option Storage) (init : Option Init) → AreListed init es → (o : Option DeclaredType) (s : JudgementState) (w : UnitWalk) → (G → IfSome o (IsThere w.1.1.structs)) → Tells (IsFound o) s w.1
      → (let v = object_with ds at name storage init o w in Tells (G → WalkSteps ds es w v) s v.1)
  object_after at name storage init listed None s w f h = faulty_after at name init s w h
  object_after at name storage init listed (Some (d.Value ty)) s w f h = value_after at name storage init listed ty s w (λ g. (f g).0) (anything s w.1 h)
  object_after at name storage init listed (Some (d.Unsized ty)) s w f h = array_after at name storage init listed ty s w (λ g. (f g).0) (anything s w.1 h)
  object_after at name storage None listed (Some (d.Function of tys)) s w f h = prototype_after at name storage (d.Function of tys) s w f (anything s w.1 h)
  object_after at name storage (Some init) listed (Some (d.Function of tys)) s w f h =
      let v = prototype ds at name storage (d.Function of tys) w in
      tells_both s v.1 (init_refused init v.1) (λ x y. y) (prototype_after at name storage (d.Function of tys) s w f (anything s w.1 h)) (refused_never init v.1)
