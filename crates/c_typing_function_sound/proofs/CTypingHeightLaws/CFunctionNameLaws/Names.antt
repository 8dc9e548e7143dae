-- A declaration at file scope adds one function at most, and that has its name.
use Rattle.std.proofs.Common.{◌≡◌, ℕ, ◌==◌, Bool, true, false, IsTrue, List, [], ◌∷◌, length, Option, Some, None, IfSome, is_some, refl, sym, ap, ◌∙◌, subst, All}
use Rattle.std.proofs.lemmas.List.Elements.{All-nil, All-head, All-tail, All-push}
use Rattle.c_tree.specs.declared.types.Declaration.{Declaration}
use Rattle.c_tree.specs.declared.statements.Stmt.{Stmt}
use Rattle.c_tree.specs.declared.declarations.Init.{Init}
use Rattle.c_tree.specs.declared.declarations.Storage.{Storage}
use Rattle.c_tree.specs.declared.declarations.FunctionEnd.{FunctionEnd}
use Rattle.c_tree.specs.declared.declarations.FunctionEnd.TheVariants as f
use Rattle.c_tree.specs.declared.declarations.External.{External}
use Rattle.c_tree.specs.declared.declarations.External.TheVariants as x
use Rattle.c_tree.specs.declared.declarations.TranslationUnit.{TranslationUnit}
use Rattle.mem_objects.specs.declared.DataCell.{DataCell}
use Rattle.c_typing_definitions.specs.declared.names.Definitions.{Definitions}
use Rattle.c_typing_definitions.specs.Definitions.{definitions}
use Rattle.c_typing_rules.specs.declared.c_typing_declared_types.declared.DeclaredType.{DeclaredType}
use Rattle.c_typing_rules.specs.declared.c_typing_declared_types.declared.DeclaredType.TheVariants as d
use Rattle.c_typed_tree.specs.declared.types.CType.{CType}
use Rattle.c_typed_tree.specs.declared.statements.TStmt.{TStmt}
use Rattle.c_typed_tree.specs.declared.units.Local.{Local}
use Rattle.c_typed_tree.specs.declared.units.TypedFn.{TypedFn}
use Rattle.c_typing_state.specs.declared.env.Env.{Env}
use Rattle.c_typing_judgements.specs.Types.{JudgementState}
use Rattle.c_typing_state.specs.Checks.{walk}
use Rattle.c_typing_state.specs.Scopes.{enter}
use Rattle.c_typing_statement_rules.specs.Jumps.{no_jumps}
use Rattle.c_typing_statement_parts.specs.c_typing_local_rules.Locals.{with_addressed}
use Rattle.c_typing_statements.specs.Statements.{statement}
use Rattle.c_typing_struct_bodies.specs.Bodies.{TagScope}
use Rattle.c_typing_initialisers.specs.Initialisers.{object_cells, length_given}
use Rattle.c_typing_statements.specs.declared.c_typing_function_bodies.functions.FunctionType.{FunctionType}
use Rattle.c_typing_statements.specs.c_typing_function_bodies.Functions.{parameters_of, declared_parameters, result_of, typed_function, judge_function}
use Rattle.c_typing_declarations.specs.declared.walk.UnitFunction.{UnitFunction}
use Rattle.c_typing_declarations.specs.declared.walk.UnitSoFar.{UnitSoFar}
use Rattle.c_typing_declarations.specs.Walk.{UnitWalk, in_notes, with_notes, declare, main_checked, next_object, object_number, add_numbered, with_unit_object, fill_numbered, keep_cells, function_at, add_function, keep_function}
use Rattle.c_typing_declarations.specs.Objects.{no_object_type, object_type, array_type, object_declared, init_filled, object_by_type, array_object}
use Rattle.c_typing_declarations.specs.Functions.{function_type, function_by_type, function_with_type}
use Rattle.c_typing_units.specs.c_typing_externals.Externals.{prototype, object_with, main_with, with_main_in, with_definition, type_of_function, definition, function_typed, declarator_type, walk_external, externals}
use Rattle.c_typing_units.specs.Units.{unit_start, whole_unit}
use Rattle.c_typing_function_sound.specs.c_typing_height_laws.c_function_name_laws.Laws.{passes}

-- ---- functions are as they were

numbered_same : (o : Option ℕ) (name : List ℕ) (ty : CType) (u : UnitSoFar) → (add_numbered o name ty u).functions ≡ u.functions
numbered_same None name ty u = refl
numbered_same (Some number) name ty u = either (number == length u.objects)
  where
    either : (b : Bool) → (next_object b name ty u).functions ≡ u.functions
    either true = refl
    either false = refl

filled_same : (o : Option ℕ) (cells : List DataCell) (u : UnitSoFar) → (fill_numbered o cells u).functions ≡ u.functions
filled_same None cells u = refl
filled_same (Some number) cells u = refl

kept_same : (env : Env) (name : List ℕ) (o : Option (List DataCell)) (u : UnitSoFar) → (keep_cells env name o u).functions ≡ u.functions
kept_same env name None u = refl
kept_same env name (Some cells) u = filled_same (object_number env name) cells u

init_same : (name : List ℕ) (ty : CType) (init : Option Init) (w : UnitWalk) → (init_filled name ty init w).0.functions ≡ w.0.functions
init_same name ty None w = refl
init_same name ty (Some v) w = kept_same (object_cells ty v w.1).1.0 name (object_cells ty v w.1).0 w.0

object_same : (ds : Definitions) (at : ℕ) (name : List ℕ) (storage : Option Storage) (init : Option Init) (o : Option CType) (w : UnitWalk) → (object_by_type ds at name storage init o w).0.functions ≡ w.0.functions
object_same ds at name storage init None w = refl
object_same ds at name storage init (Some ty) w =
    let v = declare ds at name (Some (object_declared ty (is_some init))) (with_notes (main_checked storage at name w.1.1) w) in
    init_same name ty init (with_unit_object name ty v) ∙ numbered_same (object_number v.1.0 name) name ty v.0

array_same : (ds : Definitions) (at : ℕ) (name : List ℕ) (storage : Option Storage) (init : Option Init) (element : CType) (w : UnitWalk) → (array_object ds at name storage init element w).0.functions ≡ w.0.functions
array_same ds at name storage None element w = let r = in_notes w (no_object_type at w.1.1) in object_same ds at name storage None r.0 r.1
array_same ds at name storage (Some v) element w = let r = in_notes w (array_type at element (length_given element v) w.1.1) in object_same ds at name storage (Some v) r.0 r.1

declared_same : (ds : Definitions) (at : ℕ) (name : List ℕ) (storage : Option Storage) (has_body : Bool) (o : Option DeclaredType) (w : UnitWalk) → (function_by_type ds at name storage has_body o w).0.functions ≡ w.0.functions
declared_same ds at name storage has_body None w = refl
declared_same ds at name storage has_body (Some ty) w = refl

prototype_same : (ds : Definitions) (at : ℕ) (name : List ℕ) (storage : Option Storage) (ty : DeclaredType) (w : UnitWalk) → (prototype ds at name storage ty w).0.functions ≡ w.0.functions
prototype_same ds at name storage ty w = let r = in_notes w (function_type at ty w.1.1) in declared_same ds at name storage false r.0 r.1

typed_same : (ds : Definitions) (at : ℕ) (name : List ℕ) (storage : Option Storage) (init : Option Init) (o : Option DeclaredType) (w : UnitWalk) → (object_with ds at name storage init o w).0.functions ≡ w.0.functions
typed_same ds at name storage init None w = refl
typed_same ds at name storage init (Some (d.Value ty)) w = let r = in_notes w (object_type at ty w.1.1) in object_same ds at name storage init r.0 r.1
typed_same ds at name storage init (Some (d.Unsized element)) w = array_same ds at name storage init element w
typed_same ds at name storage init (Some (d.Function of parameters)) w = prototype_same ds at name storage (d.Function of parameters) w

main_same : (name : List ℕ) (o : Option DeclaredType) (u : UnitSoFar) → (main_with name o u).functions ≡ u.functions
main_same name None u = refl
main_same name (Some ty) u = refl

-- ---- a function has the name of its definition

made_name : (name : List ℕ) (ty : Option CType) (sound : Bool) (params : ℕ) (ls : List Local) (found : Option (List TStmt)) → IfSome (typed_function name ty sound params ls found) (λ f. f.name ≡ name)
made_name name None sound params ls found = tt
made_name name (Some ty) false params ls found = tt
made_name name (Some ty) true params ls None = tt
made_name name (Some ty) true params ls (Some list) = refl

made_function : (d : Declaration) (of : Option FunctionType) (list : List Stmt) (s : JudgementState) → IfSome (judge_function d of list s).0 (λ f. f.name ≡ d.name)
made_function d of list s =
    let p = declared_parameters of (parameters_of d.ty) ([], (enter s.0, s.1)) in
    let v = walk (statement (result_of of) no_jumps) list (Some []) p.1 in
    made_name d.name (result_of of) p.0 (length p.1.0) (with_addressed v.1.1.1.addressed v.1.0) v.0

-- ---- what holds of each function that is made of a definition holds of those of a unit

-- of a definition of which one thing holds, a function is made of which another holds
abbrev pub MakesFunctions : (TypedFn → Type 0) → (External → Type 0) → Type 0
MakesFunctions P Q =
    (e : Declaration) (storage : Option Storage) (list : List Stmt) → Q (x.Function e storage (f.Body list)) → (of : Option FunctionType) (s : JudgementState) → IfSome (judge_function e of list s).0 P

module _ (P : TypedFn → Type 0) (Q : External → Type 0) (made_of : MakesFunctions P Q) where
  abbrev Holds : UnitFunction → Type 0
  Holds one = P one.function

  abbrev AllHold : List UnitFunction → Type 0
  AllHold fs = All Holds fs

  kept_hold : (env : Env) (name : List ℕ) (o : Option TypedFn) (u : UnitSoFar) → IfSome o P → AllHold u.functions → AllHold (keep_function env name o u).functions
  kept_hold env name None u g h = h
  kept_hold env name (Some made) u g h = added (function_at env name)
    where
      added : (o : Option ℕ) → AllHold (add_function o made u).functions
      added None = h
      added (Some number) = All-push Holds u.functions (record { number = number; function = made }) h g

  definition_holds : (ds : Definitions) (e : Declaration) (storage : Option Storage) (list : List Stmt) (ty : DeclaredType) (w : UnitWalk) → Q (x.Function e storage (f.Body list)) → AllHold w.0.functions → AllHold (definition ds e storage list ty w).0.functions
  definition_holds ds e storage list ty w g h =
      let r = in_notes w (function_type e.at ty w.1.1) in
      let t = with_definition e.at e.ty (with_main_in e.name r) in
      let v = function_with_type ds e.at e.name storage true t in
      let made = judge_function e (type_of_function t.0) list v.1 in
      kept_hold made.1.0 e.name made.0 v.0 (made_of e storage list g (type_of_function t.0) v.1)
      (subst AllHold (sym (declared_same ds e.at e.name storage true t.0 t.1 ∙ main_same e.name r.0 w.0)) h)

  function_holds : (ds : Definitions) (e : Declaration) (storage : Option Storage) (end : FunctionEnd) (o : Option DeclaredType) (w : UnitWalk) → Q (x.Function e storage end) → AllHold w.0.functions → AllHold (function_typed ds e storage end o w).0.functions
  function_holds ds e storage end None w g h = h
  function_holds ds e storage f.Nothing (Some ty) w g h = subst AllHold (sym (prototype_same ds e.at e.name storage ty w)) h
  function_holds ds e storage (f.Init init) (Some ty) w g h = subst AllHold (sym (prototype_same ds e.at e.name storage ty w)) h
  function_holds ds e storage (f.Body list) (Some ty) w g h = definition_holds ds e storage list ty w g h

  external_holds : (ds : Definitions) (e : External) (s : UnitSoFar × TagScope) → Q e → AllHold s.0.functions → AllHold (walk_external ds e s).0.functions
  external_holds ds (x.Typedef e) s g h = h
  external_holds ds (x.Object e storage init) s g h =
      let r = declarator_type e s.1 in subst AllHold (sym (typed_same ds e.at e.name storage init r.0 (s.0, r.1.1))) h
  external_holds ds (x.Function e storage end) s g h = let r = declarator_type e s.1 in function_holds ds e storage end r.0 (s.0, r.1.1) g h
  external_holds ds (x.Tags storage ty) s g h = h

  externals_hold : (ds : Definitions) (es : List External) (s : UnitSoFar × TagScope) → All Q es → AllHold s.0.functions → AllHold (externals ds es s).0.functions
  externals_hold ds [] s g h = h
  externals_hold ds (e ∷ es) s g h =
      externals_hold ds es (walk_external ds e s) (All-tail Q e es g) (external_holds ds e s (All-head Q e es g) h)

  pub unit_functions : (tree : TranslationUnit) → All Q tree.externals → All Holds (whole_unit tree).0.functions
  unit_functions tree h =
      let ds = definitions tree.externals in
      externals_hold ds tree.externals (unit_start ds) h (All-nil Holds)

-- ---- all names pass a test

name_passes : (test : List ℕ → Bool) (name : List ℕ) (o : Option TypedFn) → IsTrue (test name) → IfSome o (λ f. f.name ≡ name) → IfSome o (λ f. IsTrue (test f.name))
name_passes test name None g e = tt
name_passes test name (Some made) g e = ap test e ∙ g

pub unit_names : (test : List ℕ → Bool) (tree : TranslationUnit) → All (λ e. IsTrue (passes test e)) tree.externals → All (λ f. IsTrue (test f.function.name)) (whole_unit tree).0.functions
unit_names test tree h =
    unit_functions (λ f. IsTrue (test f.name)) (λ e. IsTrue (passes test e))
    (λ e storage list g of s. name_passes test e.name (judge_function e of list s).0 g (made_function e of list s)) tree h
