-- Typedef names, objects and functions at file scope.
use Rattle.std.proofs.Common.{◌≡◌, ℕ, Bool, true, false, IsTrue, List, [], Option, Some, None, IfSome, is_some, refl, if◌then◌else◌}
use Rattle.std.specs.Option.{option_map}
use Rattle.std.proofs.lemmas.List.Elements.{All-nil}
use Rattle.c_tree.specs.declared.declarations.FunctionEnd.{FunctionEnd}
use Rattle.c_tree.specs.declared.declarations.FunctionEnd.TheVariants as f
use Rattle.c_tree.specs.declared.declarations.Init.{Init}
use Rattle.c_tree.specs.declared.declarations.Storage.{Storage}
use Rattle.c_tree.specs.declared.expressions.Expr.TheBlock as k
use Rattle.c_tree.specs.declared.statements.Stmt.{Stmt}
use Rattle.c_tree.specs.declared.types.Declaration.{Declaration}
use Rattle.c_tree.specs.declared.types.TypeNode as t
use Rattle.c_typed_tree.specs.declared.types.CType as ct
use Rattle.c_typed_tree.specs.declared.types.CType.{CType}
use Rattle.c_typed_tree.specs.Lawful.{IsLawfulStruct}
use Rattle.c_typing_rules.specs.declared.c_typing_declared_types.declared.DeclaredType.{DeclaredType}
use Rattle.c_typing_rules.specs.declared.c_typing_declared_types.declared.DeclaredType.TheVariants as d
use Rattle.c_typing_rules.specs.c_typing_declared_types.Declarators.{array_with}
use Rattle.c_typing_rules.specs.c_typing_declared_types.Depth.{is_declarable}
use Rattle.c_typing_faults.specs.declared.faults.Kind.TheVariants.{BadType, Redeclared}
use Rattle.c_typing_definitions.specs.declared.names.Definitions.{Definitions}
use Rattle.c_typing_state.specs.declared.notes.Notes.{Notes}
use Rattle.c_typing_state.specs.Checks.{each}
use Rattle.c_typing_state.specs.Notes.{with_fault}
use Rattle.c_typing_judgements.specs.Leaves.{no_type}
use Rattle.c_typing_judgements.specs.Types.{JudgementState, type_named}
use Rattle.c_typing_struct_bodies.specs.Members.{is_member_type}
use Rattle.c_typing_statements.specs.declared.c_typing_function_bodies.functions.FunctionType.{FunctionType}
use Rattle.c_typing_statements.specs.c_typing_function_bodies.Functions.{judge_function}
use Rattle.c_typing_initialisers.specs.Initialisers.{object_cells, length_given}
use Rattle.c_typing_initialisers.specs.Unfit.{judge_init}
use Rattle.c_typing_unit_names.specs.declared.names.NameDeclaration.{NameDeclaration}
use Rattle.c_typing_declarations.specs.Walk.{UnitWalk, in_notes, with_notes, declare, is_static, is_main, main_checked, with_unit_object}
use Rattle.c_typing_declarations.specs.Objects.{no_object_type, object_type, type_there, array_type, init_judged, init_filled, object_declared, faulty_object, object_by_type, object_with_type, array_object, value_object}
use Rattle.c_typing_declarations.specs.Functions.{function_type, function_declared, function_by_type, function_with_type, refusal_of, init_refused, optional_refused, name_row, defined_type}
use Rattle.c_typing_units.specs.Externals.{typedef_of, typedef_declared, prototype, object_with, with_main_in, with_definition, type_of_function, definition, end_judged, function_typed}
use Rattle.c_typing_expression_sound.specs.c_judgement_laws.Covers.{IsLawfulContext}
use Rattle.c_typing_expression_sound.specs.c_expression_laws.Types.{IsTypeIn}
use Rattle.c_typing_function_sound.proofs.CStatementLaws.Functions.{function_leaves}
use Rattle.c_typing_expression_sound.specs.c_note_laws.Steps.{NoteSteps}
use Rattle.c_typing_expression_sound.proofs.CNoteLaws.Forms.{each_adds, named_type_adds}
use Rattle.c_typing_function_sound.proofs.CStepLaws.Statements.{function_steps}
use Rattle.c_typing_function_sound.proofs.CStepLaws.Initialisers.{init_steps, unfit_steps, cells_steps}
use Rattle.c_typing_initialiser_sound.proofs.CInitialiserLaws.Walks.{object_leaves}
use Rattle.c_typing_expression_sound.proofs.CStructLaws.Growth.{grow_then}
use Rattle.c_typing_expression_sound.specs.c_body_laws.Notes.{of_structs, LeadsOn}
use Rattle.c_typing_expression_sound.proofs.CBodyLaws.Notes.{type_grows, steps_keep}
use Rattle.c_typing_expression_sound.proofs.CBodyLaws.Types.{leads_itself, leads_then, leads_steps}
use Rattle.c_types.proofs.CUnitStructLaws.Names.{LeadsWhere, GivenHasType, declaration_leads}

-- ---- what is judged on the way

empty_lawful : IsLawfulContext (of_structs [])
empty_lawful = All-nil (IsLawfulStruct [])

init_env : (x : Init) (s : JudgementState) → (judge_init x s).1.0 ≡ s.0
init_env x s = (object_leaves (of_structs []) empty_lawful ct.Void x s).1.env

judged_leads : (x : Init) (s : JudgementState) → LeadsOn s (judge_init x s).1
judged_leads x s = leads_steps s (judge_init x s).1 (init_env x s) (init_steps x s)

refused_leads : (x : Init) (s : JudgementState) → LeadsOn s (init_refused x s)
refused_leads x s = leads_steps s (init_refused x s) (init_env x s) (unfit_steps (refusal_of x) x s)

cells_lead : (ty : CType) (x : Init) (s : JudgementState) → LeadsOn s (object_cells ty x s).1
cells_lead ty x s = leads_steps s (object_cells ty x s).1 (object_leaves (of_structs []) empty_lawful ty x s).0.env (cells_steps ty x s)

body_leads : (e : Declaration) (of : Option FunctionType) (list : List Stmt) (s : JudgementState) → LeadsOn s (judge_function e of list s).1
body_leads e of list s = leads_steps s (judge_function e of list s).1 (function_leaves (of_structs []) empty_lawful e of list s).env (function_steps e of list s)

optional_judged_leads : (o : Option Init) (s : JudgementState) → LeadsOn s (init_judged o s)
optional_judged_leads None s = leads_itself s
optional_judged_leads (Some x) s = judged_leads x s

optional_refused_leads : (o : Option Init) (s : JudgementState) → LeadsOn s (optional_refused o s)
optional_refused_leads None s = leads_itself s
optional_refused_leads (Some x) s = refused_leads x s

main_steps : (storage : Option Storage) (at : ℕ) (name : List ℕ) (n : Notes) → NoteSteps n (main_checked storage at name n)
main_steps storage at name n = choose (is_static storage) (is_main name)
  where
    choose : (a b : Bool) → NoteSteps n (if a then (if b then with_fault at Redeclared n else n) else n)
    choose true true = NoteSteps.AddsFault at Redeclared
    choose true false = NoteSteps.Stays
    choose false b = NoteSteps.Stays

main_leads : (storage : Option Storage) (at : ℕ) (name : List ℕ) (s : JudgementState) → LeadsOn s (s.0, main_checked storage at name s.1)
main_leads storage at name s = leads_steps s (s.0, main_checked storage at name s.1) refl (main_steps storage at name s.1)

-- a name that is no typedef name, or whose declaration has a fault
abbrev IsValue : Option NameDeclaration → Type 0
IsValue new = IfSome new (λ d. d.is_typedef ≡ false)

value_given : (s : JudgementState) (new : Option NameDeclaration) → IsValue new → GivenHasType s.1.structs new
value_given s None h = tt
value_given s (Some new) h = λ typedef. absurd (clash new.is_typedef h typedef)
  where
    clash : (b : Bool) → b ≡ false → IsTrue b → ⊥
    clash b e h = cc

declared_leads : (ds : Definitions) (at : ℕ) (name : List ℕ) (new : Option NameDeclaration) (w : UnitWalk) → IsValue new → LeadsOn w.1 (declare ds at name new w).1
declared_leads ds at name new w h =
    let d = declaration_leads ds at name new w.0.names w.1 in
    record { grow = d.grow; sound = λ s. d.sound s (value_given w.1 new h) }

-- ---- typedef names

named_type_in : (at : ℕ) (ty : Option DeclaredType) (n : Notes) (P : DeclaredType → Type 0) → IfSome ty P → IfSome (each ty (type_named at) n).0 P
named_type_in at None n P h = tt
named_type_in at (Some x) n P h = choose (is_declarable n.structs x)
  where
    choose : (b : Bool) → IfSome (if b then (Some x, n) else no_type at BadType n).0 P
    choose true = h
    choose false = tt

typedef_given : (s : JudgementState) (o : Option DeclaredType) → IfSome o (IsTypeIn (of_structs s.1.structs)) → GivenHasType s.1.structs (option_map typedef_of o)
typedef_given s None h = tt
typedef_given s (Some x) h = λ typedef. h

types_grow : (n later : Notes) (o : Option DeclaredType) → NoteSteps n later → IfSome o (IsTypeIn (of_structs n.structs)) → IfSome o (IsTypeIn (of_structs later.structs))
types_grow n later None steps h = tt
types_grow n later (Some x) steps h = type_grows (of_structs n.structs) (of_structs later.structs) (steps_keep steps).grow x h

pub typedef_leads : (ds : Definitions) (at : ℕ) (name : List ℕ) (ty : Option DeclaredType) (w : UnitWalk)
    → LeadsWhere (IfSome ty (IsTypeIn (of_structs w.1.1.structs))) w.1 (typedef_declared ds at name ty w).1
typedef_leads ds at name ty w =
    let r = each ty (type_named at) w.1.1 in
    let u : JudgementState = (w.1.0, r.1) in
    let steps = each_adds ty (type_named at) w.1.1 (λ x. named_type_adds at x w.1.1) in
    let one = leads_steps w.1 u refl steps in
    let two = declaration_leads ds at name (option_map typedef_of r.0) w.0.names u in
    record {
      grow = grow_then w.1.1.structs u.1.structs (typedef_declared ds at name ty w).1.1.structs one.grow two.grow;
      sound = λ s h. two.sound (one.sound s) (typedef_given u r.0 (types_grow w.1.1 r.1 r.0 steps (named_type_in at ty w.1.1 (IsTypeIn (of_structs w.1.1.structs)) h)));
    }

-- ---- objects

object_type_steps : (at : ℕ) (ty : CType) (n : Notes) → NoteSteps n (object_type at ty n).1
object_type_steps at ty n = choose (is_member_type n.structs ty)
  where
    choose : (b : Bool) → NoteSteps n (if b then (Some ty, n) else no_object_type at n).1
    choose true = NoteSteps.Stays
    choose false = NoteSteps.AddsFault at BadType

type_there_steps : (at : ℕ) (o : Option DeclaredType) (n : Notes) → NoteSteps n (type_there at o n).1
type_there_steps at None n = NoteSteps.AddsFault at BadType
type_there_steps at (Some (d.Value ty)) n = object_type_steps at ty n
type_there_steps at (Some (d.Unsized element)) n = NoteSteps.AddsFault at BadType
type_there_steps at (Some (d.Function of parameters)) n = NoteSteps.AddsFault at BadType

faulty_object_leads : (ds : Definitions) (at : ℕ) (name : List ℕ) (init : Option Init) (w : UnitWalk) → LeadsOn w.1 (faulty_object ds at name init w).1
faulty_object_leads ds at name init w =
    let u = (declare ds at name None w).1 in
    leads_then w.1 u (init_judged init u) (declared_leads ds at name None w tt) (optional_judged_leads init u)

filled_leads : (name : List ℕ) (ty : CType) (init : Option Init) (w : UnitWalk) → LeadsOn w.1 (init_filled name ty init w).1
filled_leads name ty None w = leads_itself w.1
filled_leads name ty (Some x) w = cells_lead ty x w.1

object_of_leads : (ds : Definitions) (at : ℕ) (name : List ℕ) (storage : Option Storage) (init : Option Init) (o : Option CType) (w : UnitWalk) → LeadsOn w.1 (object_by_type ds at name storage init o w).1
object_of_leads ds at name storage init None w = faulty_object_leads ds at name init w
object_of_leads ds at name storage init (Some ty) w =
    let u = with_notes (main_checked storage at name w.1.1) w in
    let v = declare ds at name (Some (object_declared ty (is_some init))) u in
    let x = with_unit_object name ty v in
    leads_then w.1 u.1 (init_filled name ty init x).1 (main_leads storage at name w.1)
    (leads_then u.1 v.1 (init_filled name ty init x).1 (declared_leads ds at name (Some (object_declared ty (is_some init))) u refl) (filled_leads name ty init x))

-- an object behind steps that judge its type
object_behind : (ds : Definitions) (at : ℕ) (name : List ℕ) (storage : Option Storage) (init : Option Init) (w : UnitWalk) (r : Option CType × Notes) → NoteSteps w.1.1 r.1 → LeadsOn w.1 (object_with_type ds at name storage init (in_notes w r)).1
object_behind ds at name storage init w r steps =
    let u : UnitWalk = (w.0, (w.1.0, r.1)) in
    leads_then w.1 u.1 (object_by_type ds at name storage init r.0 u).1 (leads_steps w.1 u.1 refl steps) (object_of_leads ds at name storage init r.0 u)

value_leads : (ds : Definitions) (at : ℕ) (name : List ℕ) (storage : Option Storage) (init : Option Init) (ty : CType) (w : UnitWalk) → LeadsOn w.1 (value_object ds at name storage init ty w).1
value_leads ds at name storage init ty w = object_behind ds at name storage init w (object_type at ty w.1.1) (object_type_steps at ty w.1.1)

array_leads : (ds : Definitions) (at : ℕ) (name : List ℕ) (storage : Option Storage) (init : Option Init) (element : CType) (w : UnitWalk) → LeadsOn w.1 (array_object ds at name storage init element w).1
array_leads ds at name storage None element w = object_behind ds at name storage None w (no_object_type at w.1.1) (NoteSteps.AddsFault at BadType)
array_leads ds at name storage (Some x) element w =
    object_behind ds at name storage (Some x) w (array_type at element (length_given element x) w.1.1) (type_there_steps at (array_with w.1.1.structs element (length_given element x)) w.1.1)

-- ---- functions

function_type_steps : (at : ℕ) (ty : DeclaredType) (n : Notes) → NoteSteps n (function_type at ty n).1
function_type_steps at (d.Value ty) n = NoteSteps.AddsFault at BadType
function_type_steps at (d.Unsized element) n = NoteSteps.AddsFault at BadType
function_type_steps at (d.Function of parameters) n = named_type_adds at (d.Function of parameters) n

function_of_leads : (ds : Definitions) (at : ℕ) (name : List ℕ) (storage : Option Storage) (has_body : Bool) (o : Option DeclaredType) (w : UnitWalk) → LeadsOn w.1 (function_by_type ds at name storage has_body o w).1
function_of_leads ds at name storage has_body None w = declared_leads ds at name None w tt
function_of_leads ds at name storage has_body (Some ty) w =
    let u = with_notes (main_checked storage at name w.1.1) w in
    leads_then w.1 u.1 (function_by_type ds at name storage has_body (Some ty) w).1 (main_leads storage at name w.1) (declared_leads ds at name (Some (function_declared has_body ty)) u refl)

prototype_leads : (ds : Definitions) (at : ℕ) (name : List ℕ) (storage : Option Storage) (ty : DeclaredType) (w : UnitWalk) → LeadsOn w.1 (prototype ds at name storage ty w).1
prototype_leads ds at name storage ty w =
    let r = function_type at ty w.1.1 in
    let u : UnitWalk = (w.0, (w.1.0, r.1)) in
    leads_then w.1 u.1 (prototype ds at name storage ty w).1 (leads_steps w.1 u.1 refl (function_type_steps at ty w.1.1)) (function_of_leads ds at name storage false r.0 u)

pub object_leads : (ds : Definitions) (at : ℕ) (name : List ℕ) (storage : Option Storage) (init : Option Init) (ty : Option DeclaredType) (w : UnitWalk) → LeadsOn w.1 (object_with ds at name storage init ty w).1
object_leads ds at name storage init None w = faulty_object_leads ds at name init w
object_leads ds at name storage init (Some (d.Value ty)) w = value_leads ds at name storage init ty w
object_leads ds at name storage init (Some (d.Unsized element)) w = array_leads ds at name storage init element w
object_leads ds at name storage init (Some (d.Function of parameters)) w =
    let u = (prototype ds at name storage (d.Function of parameters) w).1 in
    leads_then w.1 u (optional_refused init u) (prototype_leads ds at name storage (d.Function of parameters) w) (optional_refused_leads init u)

name_row_steps : {m : _} (xs : k.Row_of-Parameter m) (whole : Bool) (n : Notes) → NoteSteps n (name_row xs whole n).1
unfolding name_row
name_row_steps k.end_of-Parameter whole n = NoteSteps.Stays
name_row_steps (k.more_of-Parameter at None ty rest) whole n = NoteSteps.Follows (NoteSteps.AddsFault at BadType) (name_row_steps rest false (with_fault at BadType n))
name_row_steps (k.more_of-Parameter at (Some name) ty rest) whole n = name_row_steps rest whole n

defined_steps : (at : ℕ) (node : t.TypeNode) (ty : DeclaredType) (n : Notes) → NoteSteps n (defined_type at node ty n).1
unfolding defined_type
defined_steps at (t.Basic words) ty n = NoteSteps.AddsFault at BadType
defined_steps at (t.Named name) ty n = NoteSteps.AddsFault at BadType
defined_steps at (t.Enum' place tag constants) ty n = NoteSteps.AddsFault at BadType
defined_steps at (t.Struct' place tag members) ty n = NoteSteps.AddsFault at BadType
defined_steps at (t.Pointer' _ target) ty n = NoteSteps.AddsFault at BadType
defined_steps at (t.Array' _ element length) ty n = NoteSteps.AddsFault at BadType
defined_steps at (t.Takes' _ result _ parameters) ty n = name_row_steps parameters true n

definition_leads : (ds : Definitions) (e : Declaration) (storage : Option Storage) (list : List Stmt) (ty : DeclaredType) (w : UnitWalk) → LeadsOn w.1 (definition ds e storage list ty w).1
definition_leads ds e storage list ty w =
    let a = function_type e.at ty w.1.1 in
    let b = with_main_in e.name (in_notes w a) in
    let r = with_definition e.at e.ty b in
    let steps = NoteSteps.Follows (function_type_steps e.at ty w.1.1) (each_adds b.0 (defined_type e.at e.ty) b.1.1.1 (λ x. defined_steps e.at e.ty x b.1.1.1)) in
    let v = function_with_type ds e.at e.name storage true r in
    let of = type_of_function r.0 in
    leads_then w.1 r.1.1 (judge_function e of list v.1).1 (leads_steps w.1 r.1.1 refl steps)
    (leads_then r.1.1 v.1 (judge_function e of list v.1).1 (function_of_leads ds e.at e.name storage true r.0 r.1) (body_leads e of list v.1))

end_leads : (e : Declaration) (end : FunctionEnd) (s : JudgementState) → LeadsOn s (end_judged e end s)
end_leads e f.Nothing s = leads_itself s
end_leads e (f.Init init) s = judged_leads init s
end_leads e (f.Body list) s = body_leads e None list s

pub function_leads : (ds : Definitions) (e : Declaration) (storage : Option Storage) (end : FunctionEnd) (ty : Option DeclaredType) (w : UnitWalk) → LeadsOn w.1 (function_typed ds e storage end ty w).1
function_leads ds e storage end None w =
    let u = (declare ds e.at e.name None w).1 in
    leads_then w.1 u (end_judged e end u) (declared_leads ds e.at e.name None w tt) (end_leads e end u)
function_leads ds e storage f.Nothing (Some ty) w = prototype_leads ds e.at e.name storage ty w
function_leads ds e storage (f.Init init) (Some ty) w =
    let u = (prototype ds e.at e.name storage ty w).1 in
    leads_then w.1 u (init_refused init u) (prototype_leads ds e.at e.name storage ty w) (refused_leads init u)
function_leads ds e storage (f.Body list) (Some ty) w = definition_leads ds e storage list ty w
