-- The functions of a unit are well typed.
use Rattle.std.proofs.Common.{◌≡◌, ℕ, ◌<◌, ◌^◌, ◌==◌, Bool, true, false, IsTrue, List, [], ◌∷◌, ◌++◌, length, Option, Some, None, IfSome, subst}
use Rattle.c_tree.specs.declared.types.Declaration.{Declaration}
use Rattle.c_tree.specs.declared.statements.Stmt.{Stmt}
use Rattle.c_tree.specs.declared.declarations.External.{External}
use Rattle.c_typing_definitions.specs.declared.names.Definitions.{Definitions}
use Rattle.c_typed_tree.specs.declared.types.CType.{CType}
use Rattle.c_typed_tree.specs.declared.units.Local.{Local}
use Rattle.c_typed_tree.specs.declared.units.TypedFn.{TypedFn}
use Rattle.c_typed_tree.specs.declared.units.TypedUnit.{TypedUnit}
use Rattle.c_typed_tree.specs.Lawful.{is_identifier, IsTypedFn}
use Rattle.c_typing_state.specs.declared.env.Env.{Env}
use Rattle.c_typing_state.specs.declared.notes.Notes.{Notes}
use Rattle.c_typing_judgements.specs.Types.{JudgementState}
use Rattle.c_typing_statements.specs.declared.c_typing_function_bodies.functions.FunctionType.{FunctionType}
use Rattle.c_typing_statements.specs.c_typing_function_bodies.Functions.{judge_function}
use Rattle.c_typing_declarations.specs.declared.walk.UnitFunction.{UnitFunction}
use Rattle.c_typing_declarations.specs.declared.walk.UnitSoFar.{UnitSoFar}
use Rattle.c_typing_declarations.specs.Walk.{UnitWalk, with_names, object_number, add_numbered, next_object, add_object, fill_numbered, function_at, add_function}
use Rattle.c_typing_declarations.specs.Functions.{main_seen, function_declared}
use Rattle.mem_objects.specs.declared.DataCell.{DataCell}
use Rattle.c_typing_expression_sound.specs.c_judgement_laws.Covers.{HasNames, HaveTexts, IsLawfulContext}
use Rattle.c_typing_function_sound.specs.c_statement_laws.Laws.{IsGiven}
use Rattle.c_typing_function_sound.proofs.CStatementLaws.Functions.{function_typed}
use Rattle.c_types.specs.c_unit_object_laws.CSignatureLaws.{HasItsType}
use Rattle.c_types.proofs.CUnitObjectLaws.CSignatureLawsFunctions.{function_has_type}
use Rattle.c_types.proofs.CUnitObjectLaws.Statements.{function_steps}
use Rattle.c_types.specs.c_unit_object_laws.Notes.{IsWellDeclared}
use Rattle.c_types.specs.c_object_count_laws.Steps.{declared_as}
use Rattle.c_types.specs.c_unit_object_laws.Walks.{IsGivenType, WalkSteps, Stays, Follows, AddsConstant, AddsNotes, DeclaresType, DeclaresFunction, DefinesFunction, DeclaresObject, InitialisesObject}
use Rattle.c_types.proofs.CUnitObjectLaws.Goes.{goes_steps, declared_name_leads, function_plain, steps_go}
use Rattle.c_types.proofs.CUnitObjectLaws.Types.{callable_stays}
use Rattle.c_types.proofs.CTypedUnitLaws.Contexts.{context_with}
use Rattle.c_types.proofs.CTypedUnitLaws.Cells.{LeadsToEnd, end_before, walk_before, texts_before, scope_before, known_before}

-- a function is well typed in the unit, where its name is an identifier and its locals are few
abbrev pub IsTypedIn : TypedUnit → UnitFunction → Type 0
IsTypedIn typed g = IsTrue (is_identifier g.function.name) → length g.function.locals < 2 ^ 32 → IsTypedFn typed g.function

abbrev pub AreTypedIn : TypedUnit → List UnitFunction → Type 0
AreTypedIn typed [] = Unit {0}
AreTypedIn typed (g ∷ gs) = IsTypedIn typed g × AreTypedIn typed gs

more_typed : (typed : TypedUnit) (gs : List UnitFunction) (g : UnitFunction) → AreTypedIn typed gs → IsTypedIn typed g → AreTypedIn typed (gs ++ g ∷ [])
more_typed typed [] g h k = (k, tt)
more_typed typed (x ∷ gs) g h k = (h.0, more_typed typed gs g h.1 k)

kept_typed : (typed : TypedUnit) (o : Option ℕ) (f : TypedFn) (u : UnitSoFar) → ((k : ℕ) → IsTypedIn typed (record { number = k; function = f })) → AreTypedIn typed u.functions → AreTypedIn typed (add_function o f u).functions
kept_typed typed None f u new h = h
kept_typed typed (Some number) f u new h = more_typed typed u.functions (record { number = number; function = f }) h (new number)

object_typed : (typed : TypedUnit) (o : Option ℕ) (name : List ℕ) (ty : CType) (u : UnitSoFar) → AreTypedIn typed u.functions → AreTypedIn typed (add_numbered o name ty u).functions
object_typed typed None name ty u h = h
object_typed typed (Some number) name ty u h = next (number == length u.objects)
  where
    next : (b : Bool) → AreTypedIn typed (next_object b name ty u).functions
    next true = h
    next false = h

cells_typed : (typed : TypedUnit) (o : Option ℕ) (cells : List DataCell) (u : UnitSoFar) → AreTypedIn typed u.functions → AreTypedIn typed (fill_numbered o cells u).functions
cells_typed typed None cells u h = h
cells_typed typed (Some number) cells u h = h

module _ (ds : Definitions) (es : List External) (typed : TypedUnit) (end : JudgementState) (lawful : IsLawfulContext (context_with typed [])) (names : (locals : List Local) → HasNames (context_with typed locals) end.0)
    (texts : (locals : List Local) → HaveTexts (context_with typed locals) end.1.first_text end.1.texts) where
  -- a body behind the declaration of its name
  body_typed : (e : Declaration) (of : FunctionType) (list : List Stmt) (f : TypedFn) (later : Env) (n : Notes) → IsGivenType n.structs (declared_as of) → (judge_function e (Some of) list (later, n)).0 ≡ Some f → IsWellDeclared (later, n)
      → LeadsToEnd typed.structs end (later, (judge_function e (Some of) list (later, n)).1.1) → IsTrue (is_identifier f.name) → length f.locals < 2 ^ 32 → IsTypedFn typed f
  body_typed e of list f later n given made well h name count =
      let behind = (judge_function e (Some of) list (later, n)).1.1 in
      let goes = goes_steps later n behind (function_steps e (Some of) list (later, n)) in
      let before = end_before typed.structs end (later, n) (later, behind) (λ q y e. e) goes h in
      let type = subst (λ (o : Option TypedFn). IfSome o (HasItsType e of)) made (function_has_type e of list (later, n)) in
      let callable = callable_stays n.structs typed.structs before.grow of.result of.parameters given in
      let here = context_with typed f.locals in
      subst (λ (o : Option TypedFn). IfSome o (λ z. IsGiven typed e (Some of) (later, n) (judge_function e (Some of) list (later, n)).1 z → IsTypedFn typed z)) made (function_typed typed e (Some of) list (later, n)) (record {
        structs = lawful;
        scope = scope_before here end (later, n) before (names f.locals) well;
        knows = known_before here end (later, behind) h (goes.declared well);
        texts = texts_before here end (later, behind) h (texts f.locals);
        name = subst (λ q. IsTrue (is_identifier q)) type.name name;
        result = callable.result;
        parameters = callable.parameters;
        count = count;
      })

  pub steps_bodies : {w v : UnitWalk} → WalkSteps ds es w v → IsWellDeclared w.1 → LeadsToEnd typed.structs end v.1 → AreTypedIn typed w.0.functions → AreTypedIn typed v.0.functions
  steps_bodies Stays well h g = g
  steps_bodies (Follows one two) well h g = steps_bodies two ((steps_go ds one).declared well) h (steps_bodies one well (walk_before ds typed.structs end two h) g)
  steps_bodies (AddsConstant name word e k) well h g = g
  steps_bodies (AddsNotes k) well h g = g
  steps_bodies (DeclaresType name ty k r) well h g = g
  steps_bodies (DeclaresFunction name of k r) well h g = g
  steps_bodies (DefinesFunction {u = u} {n = n} {names = names} {later = later} e of list f k counted r made) well h g =
      let there = (declared_name_leads ds e.name (function_declared true (declared_as of)) n (function_plain ds e.name true of n) r).declared well in
      kept_typed typed (function_at later e.name) f (with_names names (main_seen e.name (declared_as of) u)) (λ number. body_typed e of list f later n k made there h) g
  steps_bodies (DeclaresObject {u = u} {names = names} {later = later} name ty k r) well h g = object_typed typed (object_number later name) name ty (with_names names u) g
  steps_bodies (InitialisesObject {u = u} {names = names} {later = later} name ty x cells k r made listed) well h g =
      cells_typed typed (object_number later name) cells (add_object later name ty (with_names names u)) (object_typed typed (object_number later name) name ty (with_names names u) g)
