-- A typedef name of a function type is one that definitions know, so a type that is found is one of a function only where
-- the definitions say so.
use Rattle.std.proofs.Common.{◌≡◌, ℕ, Bool, true, false, ◌&&◌, ◌==◌, IsTrue, List, ◌∷◌, length, bytes_eq, Option, Some, None, is_some, IfSome, refl, sym, ap, ◌∙◌, subst, if◌then◌else◌}
use Rattle.std.specs.Option.{option_map}
use Rattle.std.proofs.lemmas.Slice.Eq.{bytes_eq-Decides}
use Rattle.c_typing_scopes.specs.Names.{find}
use Rattle.c_tree.specs.declared.expressions.Expr.TheBlock as k
use Rattle.c_tree.specs.declared.types.TypeNode as t
use Rattle.c_tree.specs.declared.types.Declaration.{Declaration}
use Rattle.c_tree.specs.declared.statements.Stmt.{Stmt}
use Rattle.c_tree.specs.declared.declarations.Init as i
use Rattle.c_tree.specs.declared.declarations.Storage.{Storage}
use Rattle.c_tree.specs.declared.declarations.FunctionEnd.{FunctionEnd}
use Rattle.c_tree.specs.declared.declarations.FunctionEnd.TheVariants as f
use Rattle.c_tree.specs.declared.declarations.External.{External}
use Rattle.c_tree.specs.declared.declarations.External.TheVariants as x
use Rattle.c_typing_definitions.specs.declared.names.Definitions.{Definitions}
use Rattle.c_typing_definitions.specs.Definitions.{NameSet, is_function, typedef_seen, object_seen, function_seen, add_external}
use Rattle.c_typing_definitions.specs.Definitions as defined
use Rattle.c_typing_rules.specs.declared.c_typing_declared_types.declared.DeclaredType.{DeclaredType}
use Rattle.c_typing_rules.specs.declared.c_typing_declared_types.declared.DeclaredType.TheVariants as d
use Rattle.c_typing_rules.specs.c_typing_declared_types.Declarators.{pointer_to, array_of}
use Rattle.c_typing_rules.specs.c_typing_declared_types.Depth.{is_declarable}
use Rattle.c_typed_tree.specs.declared.types.CType.{CType}
use Rattle.c_typed_tree.specs.declared.types.StructDef.{StructDef}
use Rattle.c_typed_tree.specs.Layout.{is_object}
use Rattle.c_typed_tree.specs.View.{type_view}
use Rattle.c_typed_tree.specs.declared.types.CType as c
use Rattle.c_typing_state.specs.declared.env.Env.{Env}
use Rattle.c_typing_state.specs.declared.meanings.NameMeaning.{NameMeaning}
use Rattle.c_typing_state.specs.declared.meanings.NameMeaning.TheVariants as m
use Rattle.c_typing_state.specs.declared.meanings.Tag.{Tag}
use Rattle.c_typing_state.specs.declared.meanings.Tag.TheVariants as g
use Rattle.c_typing_state.specs.declared.meanings.UntaggedStruct.{UntaggedStruct}
use Rattle.c_typing_state.specs.declared.notes.Notes.{Notes}
use Rattle.c_typing_state.specs.Checks.{each, both_parts}
use Rattle.c_typing_state.specs.Scopes.{with_meaning, meaning_of}
use Rattle.c_typing_judgements.specs.Leaves.{typedef_type, tag_named, enum_tagged, enum_type, struct_numbered, struct_tagged, struct_at, struct_type, leaf, no_type}
use Rattle.c_typing_judgements.specs.Types.{JudgementState, required_type, pointer, array, type_named}
use Rattle.c_typing_expressions.specs.Expressions.{derive, judge_length_held}
use Rattle.c_typing_struct_bodies.specs.Bodies.{TagScope, bodies, declared_type}
use Rattle.c_typing_struct_bodies.specs.Enums.{constant_meaning}
use Rattle.c_typing_initialisers.specs.Initialisers.{length_given}
use Rattle.c_typing_unit_names.specs.declared.names.NameDeclaration.{NameDeclaration}
use Rattle.c_typing_unit_names.specs.declared.names.UnitNames.{UnitNames}
use Rattle.c_typing_unit_names.specs.UnitNames.{object_name, function_name, value_name, first_meaning, meaning_before, first_by, follows, known_by, faulty_by, judge_declaration}
use Rattle.c_typing_declarations.specs.declared.walk.UnitSoFar.{UnitSoFar}
use Rattle.c_typing_declarations.specs.Walk.{UnitWalk, in_notes, with_notes, main_checked, declare, with_unit_object}
use Rattle.c_typing_declarations.specs.Objects.{no_object_type, object_type, array_type, object_declared, init_judged, init_filled, object_by_type}
use Rattle.c_typing_declarations.specs.Functions.{function_type, function_declared, function_by_type, function_with_type, optional_refused}
use Rattle.c_types.specs.c_found_unit_laws.Externals.{typedef_of, typedef_declared, prototype, object_with, with_main_in, with_definition, type_of_function, definition, external_function, end_judged, function_typed, declarator_type, walk_external}
use Rattle.c_typing_faults.specs.declared.faults.Kind.TheVariants.{BadType}
use Rattle.c_typing_expression_sound.proofs.CTypeLaws.Truth.{no_true}
use Rattle.c_types.specs.model.c_found_unit_laws.Bodies.{is_function_type}
use Rattle.c_types.proofs.CFoundUnitLaws.Names.{function_env}
use Rattle.c_types.proofs.CFoundUnitLaws.Constants.{Enters, Same, More, behind_leaves, declared_enters}
use Rattle.c_types.proofs.CFoundUnitLaws.Initialisers.{judge_init_leaves, object_cells_leave}
use Rattle.c_types.proofs.CObjectCountLaws.Counts.{own_meaning, other_meaning}

-- ---- typedef names of function types

abbrev pub is_function_name : Option NameMeaning → Bool
is_function_name None = false
is_function_name (Some m.Faulty) = false
is_function_name (Some (m.Undefined number)) = false
is_function_name (Some (m.Local number ty)) = false
is_function_name (Some (m.Object number ty)) = false
is_function_name (Some (m.Constant word)) = false
is_function_name (Some (m.Function callee of tys)) = false
is_function_name (Some (m.Typedef ty)) = is_function_type ty

-- a type of a function was found
abbrev pub is_function_found : Option DeclaredType → Bool
is_function_found None = false
is_function_found (Some ty) = is_function_type ty

-- those in scope are among these names
abbrev pub AreKnown : NameSet → Env → Type 0
AreKnown ns env = (q : List ℕ) → IsTrue (is_function_name (meaning_of env q)) → IsTrue (is_some (find q ns))

pub more_known : (ns : NameSet) (name : List ℕ) (v : NameMeaning) (env : Env) → (IsTrue (is_function_name (Some v)) → IsTrue (is_some (find name ns))) → AreKnown ns env → AreKnown ns (with_meaning name v env)
more_known ns name v env own h q g = choose (bytes_eq q name) refl
  where
    choose : (b : Bool) → bytes_eq q name ≡ b → IsTrue (is_some (find q ns))
    choose true e =
        let same = (bytes_eq-Decides q name).0 e in
        subst (λ n. IsTrue (is_some (find n ns))) (sym same) (own (sym (ap is_function_name (ap (meaning_of (with_meaning name v env)) same ∙ own_meaning name v env)) ∙ g))
    choose false e = h q (sym (ap is_function_name (other_meaning q name v env e)) ∙ g)

constant_known : (ns : NameSet) (name : List ℕ) (value : Option ℕ) (env : Env) → AreKnown ns env → AreKnown ns (with_meaning name (constant_meaning value) env)
constant_known ns name None env h = more_known ns name m.Faulty env (λ k. no_true k) h
constant_known ns name (Some word) env h = more_known ns name (m.Constant word) env (λ k. no_true k) h

enters_known : (ns : NameSet) {a b : Env} → Enters a b → AreKnown ns a → AreKnown ns b
enters_known ns Same h = h
enters_known ns (More {mid = mid} name value g free word) h = constant_known ns name value mid (enters_known ns g h)

same_known : (ns : NameSet) {a b : Env} → b ≡ a → AreKnown ns a → AreKnown ns b
same_known ns e h = subst (AreKnown ns) (sym e) h

-- ---- the type of a declaration

named_found : (at : ℕ) (o : Option NameMeaning) (n : Notes) → IsTrue (is_function_found (typedef_type at o n).0) → IsTrue (is_function_name o)
named_found at None n h = no_true h
named_found at (Some m.Faulty) n h = no_true h
named_found at (Some (m.Undefined number)) n h = no_true h
named_found at (Some (m.Local number ty)) n h = no_true h
named_found at (Some (m.Object number ty)) n h = no_true h
named_found at (Some (m.Constant word)) n h = no_true h
named_found at (Some (m.Function callee of tys)) n h = no_true h
named_found at (Some (m.Typedef ty)) n h = h

no_enum : {X : Type 0} (at : ℕ) (name : List ℕ) (o : Option Tag) (n : Notes) → IsTrue (is_function_found (enum_tagged at name o n).0) → X
no_enum at name None n h = no_true h
no_enum at name (Some g.Enum) n h = no_true h
no_enum at name (Some (g.Struct number)) n h = no_true h

enum_found : {X : Type 0} (at : ℕ) (tag : Option (List ℕ)) (n : Notes) → IsTrue (is_function_found (enum_type at tag n).0) → X
enum_found at None n h = no_true h
enum_found at (Some name) n h = no_enum at name (tag_named (find name n.tags)) n h

no_struct : {X : Type 0} (at : ℕ) (name : List ℕ) (o : Option Tag) (n : Notes) → IsTrue (is_function_found (struct_tagged at name o n).0) → X
no_struct at name None n h = no_true h
no_struct at name (Some g.Enum) n h = no_true h
no_struct at name (Some (g.Struct number)) n h = no_true h

no_untagged : {X : Type 0} (at : ℕ) (o : Option UntaggedStruct) (n : Notes) → IsTrue (is_function_found (struct_at at o n).0) → X
no_untagged at None n h = no_true h
no_untagged {X} at (Some last) n h = choose (last.at == at) h
  where
    choose : (b : Bool) → IsTrue (is_function_found (if b then (struct_numbered last.number, n) else no_type at BadType n).0) → X
    choose true h = no_true h
    choose false h = no_true h

struct_found : {X : Type 0} (at : ℕ) (tag : Option (List ℕ)) (n : Notes) → IsTrue (is_function_found (struct_type at tag n).0) → X
struct_found at None n h = no_untagged at n.untagged n h
struct_found at (Some name) n h = no_struct at name (tag_named (find name n.tags)) n h

there_found : {X : Type 0} (at : ℕ) (o : Option DeclaredType) (n : Notes) → (IsTrue (is_function_found o) → X) → IsTrue (is_function_found (required_type at o n).0) → X
there_found at None n f h = no_true h
there_found at (Some ty) n f h = f h

no_pointer : {X : Type 0} (ty : DeclaredType) → IsTrue (is_function_found (pointer_to ty)) → X
no_pointer (d.Value ty) h = no_true h
no_pointer (d.Unsized element) h = no_true h
no_pointer (d.Function of tys) h = no_true h

pointer_found : {X : Type 0} (at : ℕ) (o : Option DeclaredType) (n : Notes) → IsTrue (is_function_found (each o (pointer at) n).0) → X
pointer_found at None n h = no_true h
pointer_found at (Some ty) n h = there_found at (pointer_to ty) n (no_pointer ty) h

no_array : {X : Type 0} (structs : List StructDef) (ty : DeclaredType) (count : Option ℕ) → IsTrue (is_function_found (array_of structs ty count)) → X
no_array {X} structs (d.Value ty) None h = choose (is_object structs (type_view ty)) h
  where
    choose : (b : Bool) → IsTrue (is_function_found (if b then Some (d.Unsized ty) else None)) → X
    choose true h = no_true h
    choose false h = no_true h
no_array {X} structs (d.Value ty) (Some n) h = choose (is_object structs (type_view (c.Array ty n))) h
  where
    choose : (b : Bool) → IsTrue (is_function_found (if b then Some (d.Value (c.Array ty n)) else None)) → X
    choose true h = no_true h
    choose false h = no_true h
no_array structs (d.Unsized element) count h = no_true h
no_array structs (d.Function of tys) count h = no_true h

array_found : {X : Type 0} (at : ℕ) (count : Option (Option ℕ)) (o : Option DeclaredType) (n : Notes) → IsTrue (is_function_found (both_parts count o (array at) n).0) → X
array_found at None o n h = no_true h
array_found at (Some count) None n h = no_true h
array_found at (Some count) (Some ty) n h = there_found at (array_of n.structs ty count) n (no_array n.structs ty count) h

derived_found : (ns : NameSet) (at : ℕ) (node : t.TypeNode) (env : Env) (n : Notes) → AreKnown ns env → (let l = leaf env at node n in IsTrue (is_function_found (derive at node l.0 (env, l.1)).0)) → IsTrue (is_function ns node)
unfolding leaf derive is_function
derived_found ns at (t.Basic words) env n known h = no_true h
derived_found ns at (t.Named name) env n known h = known name (named_found at (meaning_of env name) n h)
derived_found ns at (t.Enum' place tag constants) env n known h = enum_found place tag n h
derived_found ns at (t.Struct' place tag members) env n known h = struct_found place tag n h
derived_found ns at (t.Pointer' _ (k.more_of-TypeNode y k.end_of-TypeNode)) env n known h =
    let l = leaf env at y n in let r = derive at y l.0 (env, l.1) in pointer_found at r.0 r.1.1 h
derived_found ns at (t.Array' _ (k.more_of-TypeNode y k.end_of-TypeNode) size) env n known h =
    let l = leaf env at y n in
    let count = judge_length_held size (env, l.1) in
    let r = derive at y l.0 count.1 in array_found at count.0 r.0 r.1.1 h
derived_found ns at (t.Takes' _ (k.more_of-TypeNode y k.end_of-TypeNode) _ list) env n known h = refl

bodies_known : (ns : NameSet) (at : ℕ) (ty : t.TypeNode) (s : TagScope) → AreKnown ns s.1.0 → AreKnown ns (bodies ty s).1.0
bodies_known ns at ty s h = enters_known ns (subst (λ (env : Env). Enters s.1.0 env) (behind_leaves at ty (bodies ty s)) (declared_enters at ty s)) h

pub type_known : (ns : NameSet) (at : ℕ) (ty : t.TypeNode) (s : TagScope) → AreKnown ns s.1.0 → AreKnown ns (declared_type at ty s).1.1.0
type_known ns at ty s h = enters_known ns (declared_enters at ty s) h

-- a type of a function is spelled as one
pub type_found : (ns : NameSet) (at : ℕ) (ty : t.TypeNode) (s : TagScope) → AreKnown ns s.1.0 → IsTrue (is_function_found (declared_type at ty s).0) → IsTrue (is_function ns ty)
type_found ns at ty s known h = let u = bodies ty s in derived_found ns at ty u.1.0 u.1.1 (bodies_known ns at ty s known) h

-- ---- the names in scope behind a declaration

abbrev is_typedef_of_function : NameDeclaration → Bool
is_typedef_of_function a = a.is_typedef && is_function_type a.ty

first_known : (ds : Definitions) (name : List ℕ) (new : NameDeclaration) (u : UnitNames) → IsTrue (is_function_name (Some (first_meaning ds name new u).0)) → IsTrue (is_typedef_of_function new)
first_known ds name new u h = choose new.is_typedef new.ty h
  where
    object : (b : Bool) (ty : CType) → IsTrue (is_function_name (Some (object_name b ty u).0)) → IsTrue false
    object true ty h = h
    object false ty h = h

    function : (b : Bool) (ty : CType) (tys : List CType) → IsTrue (is_function_name (Some (function_name b ty tys u).0)) → IsTrue false
    function true ty tys h = h
    function false ty tys h = h

    choose : (b : Bool) (ty : DeclaredType) → IsTrue (is_function_name (Some (if b then (m.Typedef ty, u) else value_name ds name ty u).0)) → IsTrue (b && is_function_type ty)
    choose true ty h = h
    choose false (d.Value ty) h = object (is_some (find name ds.objects)) ty h
    choose false (d.Unsized ty) h = h
    choose false (d.Function ty tys) h = function (is_some (find name ds.functions)) ty tys h

module _ (ns : NameSet) (ds : Definitions) (at : ℕ) (name : List ℕ) where
  faulty_known : (o : Option NameMeaning) (env : Env) → AreKnown ns env → AreKnown ns (faulty_by (meaning_before o) name env)
  faulty_known None env h = more_known ns name m.Faulty env (λ k. no_true k) h
  faulty_known (Some m.Faulty) env h = h
  faulty_known (Some (m.Undefined number)) env h = h
  faulty_known (Some (m.Local number ty)) env h = h
  faulty_known (Some (m.Object number ty)) env h = h
  faulty_known (Some (m.Constant word)) env h = h
  faulty_known (Some (m.Function callee of tys)) env h = h
  faulty_known (Some (m.Typedef ty)) env h = h

  -- of a typedef name of a function type it is asked that it is among the names
  abbrev IsKnown : NameDeclaration → Type 0
  IsKnown new = IsTrue (is_typedef_of_function new) → IsTrue (is_some (find name ns))

  first_by_known : (o : Option NameMeaning) (new : NameDeclaration) (u : UnitNames) (s : JudgementState) → IsKnown new → AreKnown ns s.0 → AreKnown ns (first_by (meaning_before o) ds at name new u s).1.0
  first_by_known None new u s own h = more_known ns name (first_meaning ds name new u).0 s.0 (λ k. own (first_known ds name new u k)) h
  first_by_known (Some m.Faulty) new u s own h = h
  first_by_known (Some (m.Undefined number)) new u s own h = h
  first_by_known (Some (m.Local number ty)) new u s own h = h
  first_by_known (Some (m.Object number ty)) new u s own h = h
  first_by_known (Some (m.Constant word)) new u s own h = h
  first_by_known (Some (m.Function callee of tys)) new u s own h = h
  first_by_known (Some (m.Typedef ty)) new u s own h = h

  known_by_known : (o : Option (Option Bool)) (new : NameDeclaration) (u : UnitNames) (s : JudgementState) → IsKnown new → AreKnown ns s.0 → AreKnown ns (known_by o ds at name new u s).1.0
  known_by_known None new u s own h = first_by_known (meaning_of s.0 name) new u s own h
  known_by_known (Some None) new u s own h = h
  known_by_known (Some (Some has_value)) new u s own h = h

  declaration_known : (o : Option NameDeclaration) (u : UnitNames) (s : JudgementState) → IfSome o IsKnown → AreKnown ns s.0 → AreKnown ns (judge_declaration ds at name o u s).1.0
  declaration_known None u s own h = faulty_known (meaning_of s.0 name) s.0 h
  declaration_known (Some new) u s own h = known_by_known (follows (find name u.declared) new) new u s own h

-- ---- initialisers leave the names

judged_leaves : (init : Option i.Init) (s : JudgementState) → (init_judged init s).0 ≡ s.0
judged_leaves None s = refl
judged_leaves (Some v) s = judge_init_leaves v s

refused_leaves : (init : Option i.Init) (s : JudgementState) → (optional_refused init s).0 ≡ s.0
refused_leaves None s = refl
refused_leaves (Some v) s = judge_init_leaves v s

filled_leaves : (name : List ℕ) (ty : CType) (init : Option i.Init) (w : UnitWalk) → (init_filled name ty init w).1.0 ≡ w.1.0
filled_leaves name ty None w = refl
filled_leaves name ty (Some v) w = object_cells_leave ty v w.1

-- ---- each declaration

module _ (ns : NameSet) (ds : Definitions) (at : ℕ) (name : List ℕ) where
  not_known : {X : Type 0} → IsTrue false → X
  not_known h = no_true h

  of_known : (storage : Option Storage) (init : Option i.Init) (o : Option CType) (w : UnitWalk) → AreKnown ns w.1.0 → AreKnown ns (object_by_type ds at name storage init o w).1.0
  of_known storage init None w h = same_known ns (judged_leaves init (declare ds at name None w).1) (declaration_known ns ds at name None w.0.names w.1 tt h)
  of_known storage init (Some ty) w h =
      let v = declare ds at name (Some (object_declared ty (is_some init))) (with_notes (main_checked storage at name w.1.1) w) in
      same_known ns (filled_leaves name ty init (with_unit_object name ty v))
      (declaration_known ns ds at name (Some (object_declared ty (is_some init))) w.0.names (w.1.0, main_checked storage at name w.1.1) not_known h)

  function_known : (storage : Option Storage) (has_body : Bool) (o : Option DeclaredType) (w : UnitWalk) → AreKnown ns w.1.0 → AreKnown ns (function_by_type ds at name storage has_body o w).1.0
  function_known storage has_body None w h = declaration_known ns ds at name None w.0.names w.1 tt h
  function_known storage has_body (Some ty) w h =
      declaration_known ns ds at name (Some (function_declared has_body ty)) w.0.names (w.1.0, main_checked storage at name w.1.1) not_known h

  prototype_known : (storage : Option Storage) (ty : DeclaredType) (w : UnitWalk) → AreKnown ns w.1.0 → AreKnown ns (prototype ds at name storage ty w).1.0
  prototype_known storage ty w h = let r = in_notes w (function_type at ty w.1.1) in function_known storage false r.0 r.1 h

  object_known : (storage : Option Storage) (init : Option i.Init) (o : Option DeclaredType) (w : UnitWalk) → AreKnown ns w.1.0 → AreKnown ns (object_with ds at name storage init o w).1.0
  object_known storage init None w h = same_known ns (judged_leaves init (declare ds at name None w).1) (declaration_known ns ds at name None w.0.names w.1 tt h)
  object_known storage init (Some (d.Value ty)) w h = let r = in_notes w (object_type at ty w.1.1) in of_known storage init r.0 r.1 h
  object_known storage None (Some (d.Unsized element)) w h = let r = in_notes w (no_object_type at w.1.1) in of_known storage None r.0 r.1 h
  object_known storage (Some v) (Some (d.Unsized element)) w h = let r = in_notes w (array_type at element (length_given element v) w.1.1) in of_known storage (Some v) r.0 r.1 h
  object_known storage init (Some (d.Function of tys)) w h =
      same_known ns (refused_leaves init (prototype ds at name storage (d.Function of tys) w).1) (prototype_known storage (d.Function of tys) w h)

  given_known : (o : Option DeclaredType) (n : Notes) → (IsTrue (is_function_found o) → IsTrue (is_some (find name ns))) → IfSome (option_map typedef_of (each o (type_named at) n).0) (IsKnown ns ds at name)
  given_known None n own = tt
  given_known (Some ty) n own = choose (is_declarable n.structs ty)
    where
      either : Bool → Option DeclaredType × Notes
      either b = if b then (Some ty, n) else no_type at BadType n

      choose : (b : Bool) → IfSome (option_map typedef_of (either b).0) (IsKnown ns ds at name)
      choose true = own
      choose false = tt

  typedef_known : (o : Option DeclaredType) (w : UnitWalk) → (IsTrue (is_function_found o) → IsTrue (is_some (find name ns))) → AreKnown ns w.1.0 → AreKnown ns (typedef_declared ds at name o w).1.0
  typedef_known o w own h =
      let r = each o (type_named at) w.1.1 in
      declaration_known ns ds at name (option_map typedef_of r.0) w.0.names (w.1.0, r.1) (given_known o w.1.1 own) h

module _ (ns : NameSet) (ds : Definitions) (e : Declaration) (storage : Option Storage) where
  ended_known : (end : FunctionEnd) (s : JudgementState) → AreKnown ns s.0 → AreKnown ns (end_judged e end s).0
  ended_known f.Nothing s h = h
  ended_known (f.Init init) s h = same_known ns (judge_init_leaves init s) h
  ended_known (f.Body list) s h = same_known ns (function_env e None list s) h

  definition_known : (list : List Stmt) (ty : DeclaredType) (w : UnitWalk) → AreKnown ns w.1.0 → AreKnown ns (definition ds e storage list ty w).1.0
  definition_known list ty w h =
      let r = with_definition e.at e.ty (with_main_in e.name (in_notes w (function_type e.at ty w.1.1))) in
      let v = function_with_type ds e.at e.name storage true r in
      same_known ns (function_env e (type_of_function r.0) list v.1) (function_known ns ds e.at e.name storage true r.0 r.1 h)

  with_known : (end : FunctionEnd) (ty : DeclaredType) (w : UnitWalk) → AreKnown ns w.1.0 → AreKnown ns (external_function ds e storage end ty w).1.0
  with_known f.Nothing ty w h = prototype_known ns ds e.at e.name storage ty w h
  with_known (f.Init init) ty w h = same_known ns (judge_init_leaves init (prototype ds e.at e.name storage ty w).1) (prototype_known ns ds e.at e.name storage ty w h)
  with_known (f.Body list) ty w h = definition_known list ty w h

  typed_known : (end : FunctionEnd) (o : Option DeclaredType) (w : UnitWalk) → AreKnown ns w.1.0 → AreKnown ns (function_typed ds e storage end o w).1.0
  typed_known end None w h = ended_known end (declare ds e.at e.name None w).1 (declaration_known ns ds e.at e.name None w.0.names w.1 tt h)
  typed_known end (Some ty) w h = with_known end ty w h

-- ---- the names that definitions know

found_in : (name : List ℕ) (ns : NameSet) → IsTrue (is_some (find name (defined.add_to_names name ns)))
found_in name ns = choose (is_some (find name ns)) refl
  where
    choose : (b : Bool) → is_some (find name ns) ≡ b → IsTrue (is_some (find name (if b then ns else record { name = name; value = tt {0} } ∷ ns)))
    choose true e = e
    choose false e = ap (λ (b : Bool). is_some (if b then Some (length ns, tt {0}) else find name ns)) ((bytes_eq-Decides name name).1 refl)

more_in : (q name : List ℕ) (ns : NameSet) → IsTrue (is_some (find q ns)) → IsTrue (is_some (find q (defined.add_to_names name ns)))
more_in q name ns h = choose (is_some (find name ns))
  where
    either : (b : Bool) → IsTrue (is_some (if b then Some (length ns, tt {0}) else find q ns))
    either true = refl
    either false = h

    choose : (b : Bool) → IsTrue (is_some (find q (if b then ns else record { name = name; value = tt {0} } ∷ ns)))
    choose true = h
    choose false = either (bytes_eq q name)

object_types : (e : Declaration) (storage : Option Storage) (init : Option i.Init) (d : Definitions) → (object_seen e storage init d).function_types ≡ d.function_types
object_types e storage init d = either (is_function d.function_types e.ty) (defined.is_definition storage init)
  where
    either : (b c : Bool) → (if b then d else if c then defined.with_object e.name d else d).function_types ≡ d.function_types
    either true c = refl
    either false true = refl
    either false false = refl

function_types_same : (e : Declaration) (end : FunctionEnd) (d : Definitions) → (function_seen e end d).function_types ≡ d.function_types
function_types_same e f.Nothing d = refl
function_types_same e (f.Init init) d = refl
function_types_same e (f.Body list) d = refl

module _ (ds : Definitions) where
  typedef_seen_known : (e : Declaration) (d : Definitions) (s : UnitSoFar × TagScope) → AreKnown d.function_types s.1.1.0 → AreKnown (typedef_seen e d).function_types (walk_external ds (x.Typedef e) s).1.1.0
  typedef_seen_known e d s h = choose (is_function d.function_types e.ty) refl
    where
      r : Option DeclaredType × TagScope
      r = declarator_type e s.1

      after : UnitWalk
      after = typedef_declared ds e.at e.name r.0 (s.0, r.1.1)

      choose : (b : Bool) → is_function d.function_types e.ty ≡ b → AreKnown (if b then defined.with_function_type e.name d else d).function_types after.1.0
      choose true g =
          let ns = defined.add_to_names e.name d.function_types in
          typedef_known ns ds e.at e.name r.0 (s.0, r.1.1) (λ k. found_in e.name d.function_types) (λ q k. more_in q e.name d.function_types (type_known d.function_types e.at e.ty s.1 h q k))
      choose false g =
          typedef_known d.function_types ds e.at e.name r.0 (s.0, r.1.1) (λ k. no_true (sym g ∙ type_found d.function_types e.at e.ty s.1 h k)) (type_known d.function_types e.at e.ty s.1 h)

  pub external_known : (e : External) (d : Definitions) (s : UnitSoFar × TagScope) → AreKnown d.function_types s.1.1.0 → AreKnown (add_external e d).function_types (walk_external ds e s).1.1.0
  external_known (x.Typedef e) d s h = typedef_seen_known e d s h
  external_known (x.Object e storage init) d s h =
      let r = declarator_type e s.1 in
      subst (λ ns. AreKnown ns (walk_external ds (x.Object e storage init) s).1.1.0) (sym (object_types e storage init d))
      (object_known d.function_types ds e.at e.name storage init r.0 (s.0, r.1.1) (type_known d.function_types e.at e.ty s.1 h))
  external_known (x.Function e storage end) d s h =
      let r = declarator_type e s.1 in
      subst (λ ns. AreKnown ns (walk_external ds (x.Function e storage end) s).1.1.0) (sym (function_types_same e end d))
      (typed_known d.function_types ds e storage end r.0 (s.0, r.1.1) (type_known d.function_types e.at e.ty s.1 h))
  external_known (x.Tags storage ty) d s h = type_known d.function_types 0 ty s.1 h
