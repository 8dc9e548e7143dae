-- What is said of the code of functions (C99 6.9.1, 6.5.2.2).
use Rattle.std.specs.Prelude.{◌≡◌, ◌≤◌, ◌<◌, ℕ, suc, true, List, map, take, length, slice_get, Some}
use Rattle.mem_model.specs.declared.value.Value.{Value}
use Rattle.mem_objects.specs.declared.TheConstants.{MOST_DATA}
use Rattle.machine_model.specs.Machine.{Frame}
use Rattle.suifvm_meaning.specs.Behave.{FunctionCode, Registers}
use Rattle.c_typed_tree.specs.declared.types.StructDef.{StructDef}
use Rattle.c_typed_tree.specs.declared.units.Local.{Local}
use Rattle.c_typed_tree.specs.declared.units.TypedFn.{TypedFn}
use Rattle.c_typed_tree.specs.Types.{Int}
use Rattle.c_typed_tree.specs.View.{type_view, stmt_view}
use Rattle.c_typed_tree.specs.Layout.{size_of}
use Rattle.c_typed_tree.specs.Statements.{Stmt}
use Rattle.c_typed_tree.specs.Lawful.{is_main, types_of_parameters}
use Rattle.c_semantics.specs.Runs.{Run, turn, ◌>>=◌, ◌>>◌}
use Rattle.c_semantics.specs.Objects.{Scope}
use Rattle.c_semantics.specs.Evaluates.{Functions}
use Rattle.c_semantics.specs.Executes.{StatementFlow, Level, exec, within_call, body_of, value_of_call}
use Rattle.lowering_code.specs.Items.{block_total}
use Rattle.lowering_code.specs.Functions.{objects_of, end_code, items_of, function_blocks}
use Rattle.lowering_expression_laws.specs.Parts.{Setting}
use Rattle.lowering_expression_laws.specs.Laws.{IsScalarType}
use Rattle.lowering_statement_laws.specs.Parts.{inner_declarations, StmtMeets}
use Rattle.lowering_expression_laws.specs.lowering_call_laws.Laws.{FunctionMeets}

-- the code of a function as a run sees it
abbrev pub code_for : List StructDef → TypedFn → FunctionCode
code_for ds f = record { sizes = map (λ o. o.size) (objects_of ds f.locals); blocks = function_blocks ds f }

-- a call of the function with a number, beside what the C meaning has one level down
abbrev pub callee_setting : Setting → (number : ℕ) → TypedFn → (own : ℕ) → (waiting : List (Frame Registers)) →
    Functions
    → (level : ℕ) → Setting
callee_setting c k f own waiting below level = record {
  rooms = c.rooms;
  functions = c.functions;
  number = k;
  own = own;
  code = code_for c.structs f;
  last = block_total (items_of c.structs f);
  end = end_code (length f.locals) (is_main f);
  waiting = waiting;
  statics = c.statics;
  structs = c.structs;
  locals = f.locals;
  result = type_view f.result;
  calls = below;
  level = level;
}

-- parameters are scalars and declared by no statement, objects are no larger than the data may be, and `main` gives
-- an `int`
pub record MayBeCalled (ds : List StructDef) (f : TypedFn) : Type 0 where
  pub scalars : (k : ℕ) (l : Local) → slice_get (take f.params f.locals) k ≡ Some l → IsScalarType (type_view l.ty)
  pub small : (k : ℕ) (l : Local) → slice_get f.locals k ≡ Some l → l.in_memory ≡ true
      → size_of ds (type_view l.ty) ≤ MOST_DATA
  pub apart : (k : ℕ) → k < f.params → inner_declarations k (stmt_view f.body) ≡ 0
  pub main : is_main f ≡ true → type_view f.result ≡ Int 4 true

-- the code of a function stands among that of all, and a call of the function is a turn and the body one level down
pub record IsCalled (c : Setting) (k : ℕ) (f : TypedFn) (prev : Level) : Type 0 where
  pub found : slice_get c.functions k ≡ Some (code_for c.structs f)
  pub may : MayBeCalled c.structs f
  pub is : (vs : List Value) → c.calls k vs ≡
      (turn >> within_call c.rooms k (body_of c.structs prev k f vs >>= value_of_call (is_main f)))

-- its code does what it means, and its meaning is that of its body
pub record IsMet (c : Setting) (k : ℕ) (f : TypedFn) (prev : Level) : Type 0 where
  pub meets : FunctionMeets c k (types_of_parameters f) (type_view f.result)
  pub body : (vs : List Value) → meets.body vs ≡ (body_of c.structs prev k f vs >>= value_of_call (is_main f))

-- below is what functions do one level down from the body, and again what statements do
abbrev pub FunctionsMeet : Type 0
FunctionsMeet =
    (c : Setting) (k : ℕ) (f : TypedFn) (prev : Level) (below : Functions) (again : Scope → Stmt → Run StatementFlow)
    (level : ℕ) →
    IsCalled c k f prev → c.level ≡ suc level →
    ((scope : Scope) → prev k scope (stmt_view f.body) ≡ exec c.structs f.locals below again scope (stmt_view f.body)) →
    ((own : ℕ) (waiting : List (Frame Registers)) →
    StmtMeets (callee_setting c k f own waiting below level) again (stmt_view f.body)) → IsMet c k f prev

abbrev pub FunctionsWithoutTurnsMeet : Type 0
FunctionsWithoutTurnsMeet =
    (c : Setting) (k : ℕ) (f : TypedFn) (prev : Level) → IsCalled c k f prev → c.level ≡ 0 → IsMet c k f prev
