-- The cells of the objects of a unit are lawful.
use Rattle.std.proofs.Common.{◌≡◌, ℕ, zero, suc, ◌≤◌, ◌==◌, nat_le, arith, Bool, true, false, ◌&&◌, IsTrue, List, [], ◌∷◌, ◌++◌, length, slice_get, slice_set, Option, Some, None, IfSome, refl, sym, ◌∙◌, subst}
use Rattle.mem_objects.specs.declared.DataCell.{DataCell}
use Rattle.mem_objects.specs.declared.DataObject.{DataObject}
use Rattle.c_tree.specs.declared.declarations.Init.{Init}
use Rattle.c_tree.specs.declared.declarations.External.{External}
use Rattle.c_typing_definitions.specs.declared.names.Definitions.{Definitions}
use Rattle.c_typing_rules.specs.declared.c_typing_declared_types.declared.DeclaredType.TheVariants as d
use Rattle.c_typed_tree.specs.declared.types.CType.{CType}
use Rattle.c_typed_tree.specs.declared.types.StructDef.{StructDef}
use Rattle.c_typed_tree.specs.declared.units.TypedFn.{TypedFn}
use Rattle.c_typed_tree.specs.declared.units.TypedUnit.{TypedUnit}
use Rattle.c_typed_tree.specs.Layout.{is_object, size_of}
use Rattle.c_typed_tree.specs.Typing.{Context, is_valid_type, depth_of, most_depth}
use Rattle.c_typed_tree.specs.View.{type_view}
use Rattle.c_typing_rules.specs.c_typing_declared_types.Depth.{is_deep_at_most}
use Rattle.c_typing_state.specs.declared.env.Env.{Env}
use Rattle.c_typing_state.specs.declared.notes.Notes.{Notes}
use Rattle.c_typing_state.specs.declared.meanings.NameMeaning.{NameMeaning}
use Rattle.c_typing_state.specs.declared.meanings.NameMeaning.TheVariants as m
use Rattle.c_typing_state.specs.Scopes.{meaning_of}
use Rattle.c_typing_judgements.specs.Types.{JudgementState}
use Rattle.c_typing_globals.specs.declared.objects.UnitObject.{UnitObject}
use Rattle.c_typing_globals.specs.Globals.{with_cells, replace_cells, set_cells}
use Rattle.c_typing_initialisers.specs.Initialisers.{object_cells}
use Rattle.c_typing_declarations.specs.declared.walk.UnitSoFar.{UnitSoFar}
use Rattle.c_typing_declarations.specs.Walk.{UnitWalk, with_names, defined_object, object_number, add_numbered, next_object, add_object, fill_numbered, function_at, add_function}
use Rattle.c_typing_declarations.specs.Functions.{main_seen}
use Rattle.c_typing_declarations.specs.Objects.{object_declared}
use Rattle.c_typing_expression_sound.specs.c_type_laws.Typed.{may_be_memory}
use Rattle.c_typing_expression_sound.proofs.CTypeLaws.Truth.{front, back}
use Rattle.c_typing_expression_sound.specs.c_judgement_laws.Covers.{AreInMemory, HasNames, Knows, HaveTexts, IsLawfulContext}
use Rattle.c_types.specs.c_unit_object_laws.CExpressionLaws.{HasScope}
use Rattle.c_types.specs.c_unit_object_laws.CNoteLaws.{StandsFirst}
use Rattle.c_types.proofs.CUnitObjectLaws.Initialisers.{cells_steps}
use Rattle.c_typing_initialiser_sound.specs.c_initial_value_laws.Cells.{AreInitialCells}
use Rattle.c_typing_initialiser_sound.specs.c_initialiser_laws.Laws.{HoldsBytes}
use Rattle.c_typing_initialiser_sound.proofs.CInitialiserLaws.Walks.{object_lawful}
use Rattle.c_types.specs.c_unit_object_laws.Growth.{Grow}
use Rattle.c_types.proofs.CUnitObjectLaws.Growth.{grow_then}
use Rattle.c_types.specs.c_unit_object_laws.Notes.{of_structs, IsWellDeclared}
use Rattle.c_types.proofs.CUnitObjectLaws.Notes.{typedefs_grow, noted_known}
use Rattle.c_types.specs.c_object_count_laws.Steps.{declared_as}
use Rattle.c_typing_initialiser_sound.specs.c_global_laws.Laws.{IsLawfulIn, AreLawfulIn}
use Rattle.c_types.specs.c_unit_object_laws.Walks.{IsInitialiserIn, IsObjectType, WalkSteps, Stays, Follows, AddsConstant, AddsNotes, DeclaresType, DeclaresFunction, DefinesFunction, DeclaresObject, InitialisesObject}
use Rattle.c_types.proofs.CUnitObjectLaws.Texts.{stands_then}
use Rattle.c_types.specs.c_unit_object_laws.Meanings.{Keeps, MeaningAgrees, HasTypes}
use Rattle.c_types.proofs.CUnitObjectLaws.Names.{none_some, some_same, keeps_then, steps_mean}
use Rattle.c_types.proofs.CUnitObjectLaws.CUnitMeaningLawsTypes.{declared_types, steps_types}
use Rattle.c_types.proofs.CUnitObjectLaws.Functions.{agrees_here}
use Rattle.c_types.specs.c_unit_object_laws.Meant.{GoesTo, ObjectIsOfType, HasObjects}
use Rattle.c_types.proofs.CUnitObjectLaws.Goes.{goes_steps, declared_name_leads, object_plain, steps_go}
use Rattle.c_types.proofs.CUnitObjectLaws.Types.{object_stays}
use Rattle.c_types.proofs.CUnitObjectLaws.Objects.{declared_object, steps_objects}
use Rattle.c_types.proofs.CTypedUnitLaws.Contexts.{context_with, names_before, first_texts}

-- ---- what is known of the rest of a walk

-- names keep their meanings to the end, structs grow to those of the unit, and texts stay first
pub record LeadsToEnd (structs : List StructDef) (end s : JudgementState) : Type 0 where
  pub keeps : Keeps s.0 end.0
  pub grow : Grow s.1.structs structs
  pub texts : StandsFirst s.1.texts end.1.texts
  pub first : end.1.first_text ≡ s.1.first_text

pub end_before : (structs : List StructDef) (end s u : JudgementState) → Keeps s.0 u.0 → GoesTo s u → LeadsToEnd structs end u → LeadsToEnd structs end s
end_before structs end s u keeps goes h = record {
  keeps = keeps_then s.0 u.0 end.0 keeps h.keeps;
  grow = grow_then s.1.structs u.1.structs structs goes.grow h.grow;
  texts = stands_then s.1.texts u.1.texts end.1.texts goes.texts h.texts;
  first = h.first ∙ goes.first;
}

pub walk_before : (ds : Definitions) {es : List External} (structs : List StructDef) (end : JudgementState) {w v : UnitWalk} → WalkSteps ds es w v → LeadsToEnd structs end v.1 → LeadsToEnd structs end w.1
walk_before ds structs end {w = w} {v = v} steps h = end_before structs end w.1 v.1 (steps_mean ds steps) (steps_go ds steps) h

-- what a context has at the end it has before
pub texts_before : (x : Context) (end s : JudgementState) → LeadsToEnd x.structs end s → HaveTexts x end.1.first_text end.1.texts → HaveTexts x s.1.first_text s.1.texts
texts_before x end s h texts =
    subst (λ n. HaveTexts x n s.1.texts) h.first (first_texts x end.1.first_text s.1.texts h.texts.more (subst (λ ts. HaveTexts x end.1.first_text ts) h.texts.same texts))

pub scope_before : (x : Context) (end s : JudgementState) → LeadsToEnd x.structs end s → HasNames x end.0 → IsWellDeclared s → HasScope x s
scope_before x end s h names declared = record {
  names = names_before x s.0 end.0 h.keeps names;
  typedefs = typedefs_grow (of_structs s.1.structs) x h.grow s.0.names declared.typedefs;
}

pub known_before : (x : Context) (end s : JudgementState) → LeadsToEnd x.structs end s → IsWellDeclared s → Knows x s.1
known_before x end s h declared = noted_known x s.1 declared.noted h.grow

-- ---- lists of objects

more_lawful : (structs : List StructDef) (all : List DataObject) (os : List UnitObject) (o : UnitObject) → AreLawfulIn structs all os → IsLawfulIn structs all o → AreLawfulIn structs all (os ++ o ∷ [])
more_lawful structs all [] o h g = (g, tt)
more_lawful structs all (x ∷ os) o h g = (h.0, more_lawful structs all os o h.1 g)

set_lawful : (structs : List StructDef) (all : List DataObject) (os : List UnitObject) (n : ℕ) (o : UnitObject) (cells : List DataCell) → slice_get os n ≡ Some o → AreInitialCells all (size_of structs (type_view o.ty)) cells → AreLawfulIn structs all os → AreLawfulIn structs all (slice_set os n (with_cells cells o))
set_lawful structs all [] n o cells e g h = none_some e
set_lawful structs all (x ∷ os) zero o cells e g h = (record { type = own.type; object = own.object; cells = g }, h.1)
  where
    own : IsLawfulIn structs all o
    own = subst (IsLawfulIn structs all) (some_same e) h.0
set_lawful structs all (x ∷ os) (suc n) o cells e g h = (h.0, set_lawful structs all os n o cells e g h.1)

cells_lawful : (structs : List StructDef) (all : List DataObject) (os : List UnitObject) (n : ℕ) (ty : CType) (cells : List DataCell) → ObjectIsOfType (slice_get os n) ty → AreInitialCells all (size_of structs (type_view ty)) cells → AreLawfulIn structs all os → AreLawfulIn structs all (set_cells n cells os)
cells_lawful structs all os n ty cells of g h = by (slice_get os n) refl of
  where
    by : (o : Option UnitObject) → slice_get os n ≡ o → ObjectIsOfType o ty → AreLawfulIn structs all (replace_cells n cells o os)
    by None e of = absurd of
    by (Some o) e of = set_lawful structs all os n o cells e (subst (λ v. AreInitialCells all (size_of structs v) cells) (sym of) g) h

no_cells : (all : List DataObject) (n : ℕ) → AreInitialCells all n []
no_cells all n = record { within = least n; lawful = λ at c e. none_some e }
  where
    least : (n : ℕ) → 0 ≤ n
    least n = omega arith

new_lawful : (known structs : List StructDef) (all : List DataObject) (name : List ℕ) (ty : CType) → Grow known structs → IsObjectType known ty → IsLawfulIn structs all (record { name = name; ty = ty; cells = [] })
new_lawful known structs all name ty grow h =
    let x = type_view ty in
    let both = front (is_valid_type structs x && is_object structs x) (nat_le (depth_of structs x) most_depth) (object_stays known structs grow ty h) in
    record { type = front (is_valid_type structs x) (is_object structs x) both; object = back (is_valid_type structs x) (is_object structs x) both; cells = no_cells all (size_of structs x) }

added_lawful : (structs : List StructDef) (all : List DataObject) (o : Option ℕ) (name : List ℕ) (ty : CType) (u : UnitSoFar) → IsLawfulIn structs all (record { name = name; ty = ty; cells = [] }) → AreLawfulIn structs all u.objects → AreLawfulIn structs all (add_numbered o name ty u).objects
added_lawful structs all None name ty u new h = h
added_lawful structs all (Some number) name ty u new h = next (number == length u.objects)
  where
    next : (b : Bool) → AreLawfulIn structs all (next_object b name ty u).objects
    next true = more_lawful structs all u.objects (record { name = name; ty = ty; cells = [] }) h new
    next false = h

-- the object that the name means gets the cells
filled_lawful : (structs : List StructDef) (all : List DataObject) (ty : CType) (cells : List DataCell) (u : UnitSoFar) (o : Option NameMeaning) → ((k : ℕ) (of : CType) → o ≡ Some (m.Object k of) → ObjectIsOfType (slice_get u.objects k) of) → MeaningAgrees (d.Value ty) o
    → AreInitialCells all (size_of structs (type_view ty)) cells → AreLawfulIn structs all u.objects → AreLawfulIn structs all (fill_numbered (defined_object o) cells u).objects
filled_lawful structs all ty cells u None f agrees g h = h
filled_lawful structs all ty cells u (Some m.Faulty) f agrees g h = h
filled_lawful structs all ty cells u (Some (m.Undefined number)) f agrees g h = h
filled_lawful structs all ty cells u (Some (m.Local number of)) f agrees g h = h
filled_lawful structs all ty cells u (Some (m.Object k of)) f agrees g h = cells_lawful structs all u.objects k of cells (f k of refl) (subst (λ v. AreInitialCells all (size_of structs v) cells) agrees g) h
filled_lawful structs all ty cells u (Some (m.Constant word)) f agrees g h = h
filled_lawful structs all ty cells u (Some (m.Function callee of tys)) f agrees g h = h
filled_lawful structs all ty cells u (Some (m.Typedef of)) f agrees g h = h

kept_lawful : (structs : List StructDef) (all : List DataObject) (o : Option ℕ) (f : TypedFn) (u : UnitSoFar) → AreLawfulIn structs all u.objects → AreLawfulIn structs all (add_function o f u).objects
kept_lawful structs all None f u h = h
kept_lawful structs all (Some number) f u h = h

-- ---- initialisers

no_locals : (x : Context) (numbers : List ℕ) → x.locals ≡ [] → AreInMemory x numbers
no_locals x [] e = tt
no_locals x (n ∷ numbers) e = (subst (λ ls. IsTrue (may_be_memory (slice_get ls n))) (sym e) refl, no_locals x numbers e)

module _ (ds : Definitions) (es : List External) (typed : TypedUnit) (end : JudgementState) (lawful : IsLawfulContext (context_with typed [])) (names : HasNames (context_with typed []) end.0)
    (texts : HaveTexts (context_with typed []) end.1.first_text end.1.texts) (bytes : (x : Init) → IsInitialiserIn x es → HoldsBytes x) where
  abbrev here : Context
  here = context_with typed []

  -- the cells that an initialiser gives
  given_cells : (ty : CType) (x : Init) (later : Env) (n : Notes) → IsInitialiserIn x es → IsObjectType n.structs ty → IsWellDeclared (later, n) → LeadsToEnd typed.structs end (later, (object_cells ty x (later, n)).1.1)
      → IfSome (object_cells ty x (later, n)).0 (AreInitialCells typed.globals (size_of typed.structs (type_view ty)))
  given_cells ty x later n listed object well h =
      let behind = (object_cells ty x (later, n)).1.1 in
      let goes = goes_steps later n behind (cells_steps ty x (later, n)) in
      let before = end_before typed.structs end (later, n) (later, behind) (λ q y e. e) goes h in
      object_lawful here lawful ty x (later, n) (record {
        scope = scope_before here end (later, n) before names well;
        lawful = well.noted.structs;
        type = object.there;
        object = front (is_object n.structs (type_view ty)) (is_deep_at_most n.structs most_depth ty) object.member;
        texts = bytes x listed;
        knows = known_before here end (later, behind) h (goes.declared well);
        takes = record { locals = no_locals here behind.addressed refl; objects = texts_before here end (later, behind) h texts };
      })

  pub steps_cells : {w v : UnitWalk} → WalkSteps ds es w v → IsWellDeclared w.1 → HasTypes w.0.names w.1.0 → HasObjects w.0 w.1.0 → LeadsToEnd typed.structs end v.1 → AreLawfulIn typed.structs typed.globals w.0.objects → AreLawfulIn typed.structs typed.globals v.0.objects
  steps_cells Stays well types os h g = g
  steps_cells (Follows one two) well types os h g =
      steps_cells two ((steps_go ds one).declared well) (steps_types ds one types) (steps_objects ds one os) h (steps_cells one well types os (walk_before ds typed.structs end two h) g)
  steps_cells (AddsConstant name word e k) well types os h g = g
  steps_cells (AddsNotes k) well types os h g = g
  steps_cells (DeclaresType name ty k r) well types os h g = g
  steps_cells (DeclaresFunction name of k r) well types os h g = g
  steps_cells (DefinesFunction {u = u} {names = names} {later = later} e of list f k counted r made) well types os h g =
      kept_lawful typed.structs typed.globals (function_at later e.name) f (with_names names (main_seen e.name (declared_as of) u)) g
  steps_cells (DeclaresObject {u = u} {n = n} {names = names} {later = later} name ty k r) well types os h g =
      added_lawful typed.structs typed.globals (object_number later name) name ty (with_names names u) (new_lawful n.structs typed.structs typed.globals name ty h.grow k) g
  steps_cells (InitialisesObject {u = u} {env = env} {n = n} {names = names} {later = later} name ty x cells k r made listed) well types os h g =
      let behind = (object_cells ty x (later, n)).1.1 in
      let goes = goes_steps later n behind (cells_steps ty x (later, n)) in
      let grow = grow_then n.structs behind.structs typed.structs goes.grow h.grow in
      let there = (declared_name_leads ds name (object_declared ty true) n (object_plain ds name ty true n) r).declared well in
      let added = added_lawful typed.structs typed.globals (object_number later name) name ty (with_names names u) (new_lawful n.structs typed.structs typed.globals name ty grow k) g in
      let objects = declared_object ds name ty true u r os in
      filled_lawful typed.structs typed.globals ty cells (add_object later name ty (with_names names u)) (meaning_of later name) (λ j of e. objects.objects name j of e) (agrees_here ds name (object_declared ty true) r (declared_types ds name (object_declared ty true) r types))
      (subst (λ (o : Option (List DataCell)). IfSome o (AreInitialCells typed.globals (size_of typed.structs (type_view ty)))) made (given_cells ty x later n listed k there h)) added
