-- What declarations at file scope without a fault change of the unit, of the names in scope and of what was noted.
use Rattle.std.specs.Prelude.{◌≡◌, ℕ, true, false, IsTrue, List, ◌∷◌, Option, Some, None, is_some}
use Rattle.std.specs.List.{list_all}
use Rattle.bk_arithmetic.specs.declared.integer_type.IntegerType.TheVariants.{Int}
use Rattle.bk_arithmetic.specs.Words.{is_word}
use Rattle.c_tree.specs.declared.types.Declaration.{Declaration}
use Rattle.c_tree.specs.declared.statements.Stmt.{Stmt}
use Rattle.c_tree.specs.declared.declarations.Init.{Init}
use Rattle.c_tree.specs.declared.declarations.Storage.{Storage}
use Rattle.c_tree.specs.declared.declarations.External.{External}
use Rattle.c_tree.specs.declared.declarations.External.TheVariants as External
use Rattle.mem_objects.specs.declared.DataCell.{DataCell}
use Rattle.c_typing_scopes.specs.Names.{find}
use Rattle.c_typed_tree.specs.declared.types.CType.{CType}
use Rattle.c_typed_tree.specs.declared.types.StructDef.{StructDef}
use Rattle.c_typed_tree.specs.declared.units.TypedFn.{TypedFn}
use Rattle.c_typed_tree.specs.Typing.{is_valid_type}
use Rattle.c_typed_tree.specs.View.{type_view}
use Rattle.c_typing_rules.specs.declared.c_typing_declared_types.declared.DeclaredType.{DeclaredType}
use Rattle.c_typing_rules.specs.c_typing_declared_types.Depth.{is_declarable}
use Rattle.c_typing_definitions.specs.declared.names.Definitions.{Definitions}
use Rattle.c_typing_state.specs.declared.env.Env.{Env}
use Rattle.c_typing_state.specs.declared.notes.Notes.{Notes}
use Rattle.c_typing_state.specs.declared.meanings.NameMeaning.TheVariants as m
use Rattle.c_typing_state.specs.Scopes.{with_meaning}
use Rattle.c_typing_struct_bodies.specs.Members.{is_member_type}
use Rattle.c_typing_statements.specs.declared.c_typing_function_bodies.functions.FunctionType.{FunctionType}
use Rattle.c_typing_statements.specs.c_typing_function_bodies.Functions.{judge_function}
use Rattle.c_typing_initialisers.specs.Initialisers.{object_cells}
use Rattle.c_typing_unit_names.specs.declared.names.UnitNames.{UnitNames}
use Rattle.c_typing_declarations.specs.declared.walk.UnitSoFar.{UnitSoFar}
use Rattle.c_typing_declarations.specs.Walk.{UnitWalk, with_names, add_object, keep_cells, keep_function}
use Rattle.c_typing_declarations.specs.Functions.{main_seen, function_declared}
use Rattle.c_typing_declarations.specs.Objects.{object_declared}
use Rattle.c_types.specs.c_found_unit_laws.Externals.{typedef_of}
use Rattle.c_typing_expression_sound.specs.c_expression_laws.Types.{IsTypeIn}
use Rattle.c_typing_expression_sound.specs.c_note_laws.Steps.{is_sized}
use Rattle.c_typing_expression_sound.specs.c_note_laws.Laws.{StandsFirst}
use Rattle.c_types.specs.c_unit_struct_laws.Notes.{of_structs, LeadsOn}
use Rattle.c_types.specs.c_found_unit_laws.Steps.{DeclaresName, declared_as}
use Rattle.c_types.specs.c_unit_walk_laws.Shapes.{is_shaped}

-- what is noted: structs stay lawful, and texts come behind those that were noted, each of a size that an object has
pub record NotesGoOn (env : Env) (n later : Notes) : Type 0 where
  pub leads : LeadsOn (env, n) (env, later)
  pub texts : StandsFirst n.texts later.texts
  pub first : later.first_text ≡ n.first_text
  pub sized : IsTrue (list_all is_sized n.texts) → IsTrue (list_all is_sized later.texts)

-- the type of an object that is declared
pub record IsObjectType (structs : List StructDef) (ty : CType) : Type 0 where
  pub there : IsTrue (is_valid_type structs (type_view ty))
  pub member : IsTrue (is_member_type structs ty)

-- a type that is declared
pub record IsGivenType (structs : List StructDef) (ty : DeclaredType) : Type 0 where
  pub there : IsTypeIn (of_structs structs) ty
  pub declarable : IsTrue (is_declarable structs ty)
  pub shape : IsTrue (is_shaped ty)

-- an object of a unit is declared with this initialiser
pub data IsInitialiserIn (x : Init) : List External → Type 0 where
  Here : {e : Declaration} {storage : Option Storage} {es : List External} →
      IsInitialiserIn x (External.Object e storage (Some x) ∷ es)
  There : {e : External} {es : List External} → IsInitialiserIn x es → IsInitialiserIn x (e ∷ es)

-- `all` are the declarations of the unit
pub data WalkSteps (ds : Definitions) (all : List External) : UnitWalk → UnitWalk → Type 0 where
  Stays : {w : UnitWalk} → WalkSteps ds all w w
  Follows : {w x v : UnitWalk} → WalkSteps ds all w x → WalkSteps ds all x v → WalkSteps ds all w v
  -- an enumeration constant, whose value is one of the type `int`
  AddsConstant : {u : UnitSoFar} {env : Env} {n : Notes} (name : List ℕ) (word : ℕ) → find name env.names ≡ None →
      IsTrue (is_word Int word) → WalkSteps ds all (u, (env, n)) (u, (with_meaning name (m.Constant word) env, n))
  -- what the type of a declaration notes
  AddsNotes : {u : UnitSoFar} {env : Env} {n later : Notes} → NotesGoOn env n later →
      WalkSteps ds all (u, (env, n)) (u, (env, later))
  DeclaresType : {u : UnitSoFar} {env : Env} {n : Notes} {names : UnitNames} {later : Env} (name : List ℕ)
      (ty : DeclaredType) → IsGivenType n.structs ty → DeclaresName ds name (typedef_of ty) u.names env names later →
      WalkSteps ds all (u, (env, n)) (with_names names u, (later, n))
  DeclaresFunction : {u : UnitSoFar} {env : Env} {n : Notes} {names : UnitNames} {later : Env} (name : List ℕ)
      (of : FunctionType) → IsGivenType n.structs (declared_as of) →
      DeclaresName ds name (function_declared false (declared_as of)) u.names env names later →
      WalkSteps ds all (u, (env, n)) (with_names names u, (later, n))
  -- a function is declared, and then its body is judged
  DefinesFunction : {u : UnitSoFar} {env : Env} {n : Notes} {names : UnitNames} {later : Env} (e : Declaration)
      (of : FunctionType) (list : List Stmt) (f : TypedFn) → IsGivenType n.structs (declared_as of) →
      IsTrue (is_some (find e.name ds.functions)) →
      DeclaresName ds e.name (function_declared true (declared_as of)) u.names env names later →
      (judge_function e (Some of) list (later, n)).0 ≡ Some f →
      WalkSteps ds all (u, (env, n)) (
        keep_function later e.name (Some f) (with_names names (main_seen e.name (declared_as of) u)),
        (later, (judge_function e (Some of) list (later, n)).1.1),
      )
  DeclaresObject : {u : UnitSoFar} {env : Env} {n : Notes} {names : UnitNames} {later : Env} (name : List ℕ)
      (ty : CType) → IsObjectType n.structs ty →
      DeclaresName ds name (object_declared ty false) u.names env names later →
      WalkSteps ds all (u, (env, n)) (add_object later name ty (with_names names u), (later, n))
  -- an object is declared, and then its initialiser is judged
  InitialisesObject : {u : UnitSoFar} {env : Env} {n : Notes} {names : UnitNames} {later : Env} (name : List ℕ)
      (ty : CType) (x : Init) (cells : List DataCell) → IsObjectType n.structs ty →
      DeclaresName ds name (object_declared ty true) u.names env names later →
      (object_cells ty x (later, n)).0 ≡ Some cells → IsInitialiserIn x all →
      WalkSteps ds all (u, (env, n)) (
        keep_cells later name (Some cells) (add_object later name ty (with_names names u)),
        (later, (object_cells ty x (later, n)).1.1),
      )
