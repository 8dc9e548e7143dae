-- What declarations at file scope without a fault change of the unit and of the names in scope.
use Rattle.std.specs.Prelude.{◌≡◌, ℕ, Bool, true, false, ◌||◌, IsTrue, List, Some, None}
use Rattle.bk_arithmetic.specs.declared.integer_type.IntegerType.TheVariants.{Int}
use Rattle.bk_arithmetic.specs.Words.{is_word}
use Rattle.c_tree.specs.declared.types.Declaration.{Declaration}
use Rattle.c_tree.specs.declared.statements.Stmt.{Stmt}
use Rattle.mem_objects.specs.declared.DataCell.{DataCell}
use Rattle.c_typing_scopes.specs.Names.{find}
use Rattle.c_typed_tree.specs.declared.types.CType.{CType}
use Rattle.c_typed_tree.specs.declared.units.TypedFn.{TypedFn}
use Rattle.c_typing_rules.specs.declared.c_typing_declared_types.declared.DeclaredType.{DeclaredType}
use Rattle.c_typing_rules.specs.declared.c_typing_declared_types.declared.DeclaredType.TheVariants as d
use Rattle.c_typing_state.specs.declared.env.Env.{Env}
use Rattle.c_typing_state.specs.declared.meanings.NameMeaning.TheVariants as m
use Rattle.c_typing_state.specs.declared.notes.Notes.{Notes}
use Rattle.c_typing_state.specs.Scopes.{with_meaning, meaning_of}
use Rattle.c_typing_definitions.specs.declared.names.Definitions.{Definitions}
use Rattle.c_typing_statements.specs.declared.c_typing_function_bodies.functions.FunctionType.{FunctionType}
use Rattle.c_typing_statements.specs.c_typing_function_bodies.Functions.{judge_function}
use Rattle.c_typing_unit_names.specs.declared.names.NameDeclaration.{NameDeclaration}
use Rattle.c_typing_unit_names.specs.declared.names.UnitNames.{UnitNames}
use Rattle.c_typing_unit_names.specs.UnitNames.{may_follow, named_first, with_declared, with_value}
use Rattle.c_typing_declarations.specs.declared.walk.UnitSoFar.{UnitSoFar}
use Rattle.c_typing_declarations.specs.Walk.{with_names, add_object, keep_cells, keep_function}
use Rattle.c_typing_declarations.specs.Functions.{with_main, function_declared}
use Rattle.c_typing_declarations.specs.Objects.{object_declared}
use Rattle.c_typing_units.specs.Externals.{typedef_of}

-- a name that is declared for the first time, or again
pub data DeclaresName (ds : Definitions) (name : List ℕ) (new : NameDeclaration) : UnitNames → Env → UnitNames → Env →
    Type 0 where
  First : {u : UnitNames} {env : Env} → find name u.declared ≡ None → meaning_of env name ≡ None →
      DeclaresName ds name new u env (named_first ds name new u env).0 (named_first ds name new u env).1
  Again : {u : UnitNames} {env : Env} (old : ℕ × NameDeclaration) → find name u.declared ≡ Some old →
      IsTrue (may_follow old.1 new) →
      DeclaresName ds name new u env (with_declared name (with_value (old.1.has_value || new.has_value) new) u) env

-- the type of a declaration of a function
abbrev pub declared_as : FunctionType → DeclaredType
declared_as of = d.Function of.result of.parameters

pub data UnitSteps (ds : Definitions) : UnitSoFar → Env → UnitSoFar → Env → Type 0 where
  Stays : {u : UnitSoFar} {env : Env} → UnitSteps ds u env u env
  Follows : {u v w : UnitSoFar} {env mid later : Env} →
      UnitSteps ds u env v mid → UnitSteps ds v mid w later → UnitSteps ds u env w later
  -- an enumeration constant, whose value is one of the type `int`
  AddsConstant : {u : UnitSoFar} {env : Env} (name : List ℕ) (word : ℕ) → find name env.names ≡ None →
      IsTrue (is_word Int word) → UnitSteps ds u env u (with_meaning name (m.Constant word) env)
  SeesMain : {u : UnitSoFar} {env : Env} (is_defined : Bool) → UnitSteps ds u env (with_main is_defined u) env
  DeclaresType : {u : UnitSoFar} {env : Env} {names : UnitNames} {later : Env} (name : List ℕ) (ty : DeclaredType) →
      DeclaresName ds name (typedef_of ty) u.names env names later → UnitSteps ds u env (with_names names u) later
  DeclaresFunction : {u : UnitSoFar} {env : Env} {names : UnitNames} {later : Env} (name : List ℕ) (of : FunctionType) →
      DeclaresName ds name (function_declared false (declared_as of)) u.names env names later →
      UnitSteps ds u env (with_names names u) later
  -- a function is declared, and then its body is judged
  DefinesFunction : {u : UnitSoFar} {env : Env} {names : UnitNames} {later : Env} (e : Declaration) (of : FunctionType)
      (list : List Stmt) (n : Notes) (f : TypedFn) →
      DeclaresName ds e.name (function_declared true (declared_as of)) u.names env names later →
      (judge_function e (Some of) list (later, n)).0 ≡ Some f →
      UnitSteps ds u env (keep_function later e.name (Some f) (with_names names u)) later
  DeclaresObject : {u : UnitSoFar} {env : Env} {names : UnitNames} {later : Env} (name : List ℕ) (ty : CType)
      (has_value : Bool) → DeclaresName ds name (object_declared ty has_value) u.names env names later →
      UnitSteps ds u env (add_object later name ty (with_names names u)) later
  KeepsCells : {u : UnitSoFar} {env : Env} (name : List ℕ) (cells : List DataCell) →
      UnitSteps ds u env (keep_cells env name (Some cells) u) env
