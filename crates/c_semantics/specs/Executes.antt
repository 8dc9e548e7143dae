-- The meaning of statements and of calls (C99 6.8, 6.5.2.2), by levels: what the body of a called function does, and
-- the next round of a loop, is handed in from one level down.
use Rattle.std.specs.Prelude.{ℕ, zero, suc, ◌==◌, ◌||◌, Bool, true, false, List, [], ◌∷◌, ◌++◌, map, take, slice_get, Option, Some, None, if◌then◌else◌}
use Rattle.mem_model.specs.declared.value.Value.{Value}
use Rattle.mem_model.specs.declared.value.Value.TheVariants.{Word, Unset}
use Rattle.mem_model.specs.World.{Rooms, with_meter, enter_call, leave_call, World}
use Rattle.mem_model.specs.Ending.{Gives}
use Rattle.c_typed_tree.specs.declared.statements.TLabel.{TLabel}
use Rattle.c_typed_tree.specs.declared.statements.TLabel.TheVariants as l
use Rattle.c_typed_tree.specs.declared.types.StructDef.{StructDef}
use Rattle.c_typed_tree.specs.declared.units.Local.{Local}
use Rattle.c_typed_tree.specs.declared.units.TypedFn.{TypedFn}
use Rattle.c_typed_tree.specs.declared.units.TypedUnit.{TypedUnit}
use Rattle.c_typed_tree.specs.Expressions.{Expr}
use Rattle.c_typed_tree.specs.Statements.{LocalDeclaration, First, Stmt, Else, no_else, else_stmt, Stmts, no_stmts, more_stmts, Sections, no_sections, more_sections}
use Rattle.c_typed_tree.specs.Statements as q
use Rattle.c_typed_tree.specs.View.{type_view, stmt_view}
use Rattle.c_typed_tree.specs.Layout.{size_of}
use Rattle.c_typed_tree.specs.Lawful.{is_main}
use Rattle.c_semantics.specs.Reasons.{UsesNoValue}
use Rattle.c_semantics.specs.Runs.{Run, and_then, ◌>>=◌, ◌>>◌, pure, undefined_behaviour, no_turn, turn, use_value, use_number, write_register}
use Rattle.c_semantics.specs.Objects.{write, Scope, no_scope, with_local_object, with_locals, local_place}
use Rattle.c_semantics.specs.Operators.{test}
use Rattle.c_semantics.specs.Evaluates.{Functions, eval, choose}

-- how a statement ends: by going on, or by a jump (C99 6.8.6)
pub data StatementFlow : Type 0 where
  Goes : StatementFlow
  Breaks : StatementFlow
  Continues : StatementFlow
  Returns : Option Value → StatementFlow

-- what a loop does behind its body
abbrev pub after_body : Run StatementFlow → StatementFlow → Run StatementFlow
after_body again Goes = again
after_body again Continues = again
after_body again Breaks = pure Goes
after_body again (Returns v) = pure (Returns v)

-- what a list of statements does behind one of them
abbrev pub and_next : Run StatementFlow → StatementFlow → Run StatementFlow
and_next next Goes = next
and_next next Breaks = pure Breaks
and_next next Continues = pure Continues
and_next next (Returns v) = pure (Returns v)

-- a `break` in a `switch` ends that alone
abbrev pub after_switch : StatementFlow → Run StatementFlow
after_switch Goes = pure Goes
after_switch Breaks = pure Goes
after_switch Continues = pure Continues
after_switch (Returns v) = pure (Returns v)

-- ---- what a statement has

-- the locals that are declared directly in a block
abbrev pub declared_by : Stmt → List ℕ
declared_by (q.Declare d) = d.number ∷ []
declared_by s = []

abbrev pub declared_in : Stmts → List ℕ
declared_in no_stmts = []
declared_in (more_stmts s ss) = declared_by s ++ declared_in ss

abbrev pub declared_first : First → List ℕ
declared_first (q.Locals ds) = map (λ d. d.number) ds
declared_first first = []

-- the label that a `switch` goes to: that of the value where there is one, else the default (C99 6.8.4.2)
abbrev pub is_chosen_label : Option ℕ → TLabel → Bool
is_chosen_label (Some n) (l.Case m) = n == m
is_chosen_label None l.Default = true
is_chosen_label _ label = false

abbrev pub has_label : Option ℕ → Sections → Bool
has_label target no_sections = false
has_label target (more_sections label ss rest) = is_chosen_label target label || has_label target rest

abbrev pub target_in : ℕ → Sections → Option ℕ
target_in n sections = if has_label (Some n) sections then Some n else None

-- ---- calls

-- what a statement of a function does, one level down
abbrev pub Level : Type 0
Level = (function : ℕ) → Scope → Stmt → Run StatementFlow

-- the parameters have the values of the arguments: each is an object, or a register (C99 6.9.1)
abbrev pub with_parameters : {A : Type 0} → List StructDef → (number : ℕ) → List Local → List Value → (Scope → Run A)
    → Scope → Run A
with_parameters ds k [] vs run scope = run scope
with_parameters ds k (p ∷ ps) [] run scope = undefined_behaviour UsesNoValue
with_parameters ds k (p ∷ ps) (v ∷ vs) run scope =
    if p.in_memory
    then with_local_object (size_of ds (type_view p.ty)) k
    (λ inner. local_place inner k (Some p) >>= (λ at. write ds (type_view p.ty) at v)
    >> with_parameters ds (suc k) ps vs run inner) scope
    else write_register k v >> with_parameters ds (suc k) ps vs run scope

-- a call has registers and a room of its own
abbrev pub enter_function : Rooms → (function : ℕ) → World → World
enter_function rooms n w = with_meter w (enter_call rooms n w.meter)

abbrev pub leave_function : Rooms → (function : ℕ) → World → World
leave_function rooms n w = with_meter w (leave_call rooms n w.meter)

abbrev pub within_call : {A : Type 0} → Rooms → (function : ℕ) → Run A → Run A
within_call rooms n run = λ s.
    and_then (run (record { registers = λ k. Unset; world = enter_function rooms n s.world }))
    (λ a t. Gives a (record { registers = s.registers; world = leave_function rooms n t.world }))

-- the value of a call: of one that ended without a value none, but of `main` 0 (C99 5.1.2.2.3)
abbrev pub no_value : (main : Bool) → Value
no_value main = if main then Word 0 else Unset

abbrev pub value_of_call : (main : Bool) → StatementFlow → Run Value
value_of_call main (Returns (Some v)) = pure v
value_of_call main (Returns None) = pure (no_value main)
value_of_call main Goes = pure (no_value main)
value_of_call main Breaks = undefined_behaviour UsesNoValue
value_of_call main Continues = undefined_behaviour UsesNoValue

-- the body of a function on arguments
abbrev pub body_of : List StructDef → Level → (function : ℕ) → TypedFn → List Value → Run StatementFlow
body_of ds prev n f vs =
    with_parameters ds 0 (take f.params f.locals) vs (λ scope. prev n scope (stmt_view f.body)) no_scope

-- a call takes a turn, and then the function is entered
abbrev pub call_with_turn : List StructDef → Rooms → Level → (function : ℕ) → Option TypedFn → List Value → Run Value
call_with_turn ds rooms prev n None vs = undefined_behaviour UsesNoValue
call_with_turn ds rooms prev n (Some f) vs =
    turn >> within_call rooms n (body_of ds prev n f vs >>= value_of_call (is_main f))

abbrev pub calls_of : TypedUnit → Rooms → Level → Functions
calls_of unit rooms prev n vs = call_with_turn unit.structs rooms prev n (slice_get unit.functions n) vs

-- ---- statements

-- a condition that may be missing, and a step
module _ (ds : List StructDef) (ls : List Local) (functions : Functions) where
  abbrev pub holds : Scope → Expr → Run Bool
  holds scope x = eval ds ls functions scope x >>= test

  abbrev pub loop_condition : Scope → Option Expr → Run Bool
  loop_condition scope None = pure true
  loop_condition scope (Some x) = holds scope x

  abbrev pub loop_step : Scope → Option Expr → Run (Unit {0})
  loop_step scope None = pure tt
  loop_step scope (Some x) = eval ds ls functions scope x >> pure tt

  -- the initialiser of a local is written to it (C99 6.7.8)
  abbrev pub initialise_object : Scope → (local : ℕ) → Option Local → Option Expr → Run (Unit {0})
  initialise_object scope k None init = pure tt
  initialise_object scope k (Some l) None = pure tt
  initialise_object scope k (Some l) (Some x) =
      eval ds ls functions scope x >>= (λ v. local_place scope k (Some l) >>= (λ p. write ds (type_view l.ty) p v))

  abbrev pub run_declaration : Scope → LocalDeclaration → Run (Unit {0})
  run_declaration scope d = initialise_object scope d.number (slice_get ls d.number) d.init

  abbrev pub run_declarations : Scope → List LocalDeclaration → Run (Unit {0})
  run_declarations scope [] = pure tt
  run_declarations scope (d ∷ more) = run_declaration scope d >> run_declarations scope more

  -- the first part of a `for`
  abbrev pub first : Scope → First → Run (Unit {0})
  first scope q.Nothing = pure tt
  first scope (q.Value x) = eval ds ls functions scope x >> pure tt
  first scope (q.Locals more) = run_declarations scope more

  abbrev pub flow_of_return : Scope → Option Expr → Run StatementFlow
  flow_of_return scope None = pure (Returns None)
  flow_of_return scope (Some x) =
      eval ds ls functions scope x >>= use_value UsesNoValue >>= (λ v. pure (Returns (Some v)))

  -- again is what a statement does one level down
  module _ (again : Scope → Stmt → Run StatementFlow) where
    abbrev mutual
      pub exec : Scope → Stmt → Run StatementFlow
      exec scope (q.Block ss) = with_locals ds ls (declared_in ss) (λ inner. execs inner ss) scope
      exec scope (q.If x s otherwise) = holds scope x >>= choose (exec scope s) (exec_else scope otherwise)
      exec scope (q.While x s) =
          holds scope x >>= choose (turn >> (exec scope s >>= after_body (again scope (q.While x s)))) (pure Goes)
      exec scope (q.Do s x) =
          turn >> (exec scope s >>= after_body (holds scope x >>= choose (again scope (q.Do s x)) (pure Goes)))
      exec scope (q.For start x after s) =
          with_locals ds ls (declared_first start)
          (λ inner. first inner start >> (loop_condition inner x >>= choose
          (turn >> (exec inner s >>= after_body (loop_step inner after >> again inner (q.For q.Nothing x after s))))
          (pure Goes)))
          scope
      exec scope (q.Switch x sections) =
          eval ds ls functions scope x >>= use_number
          >>= (λ n. exec_from scope (target_in n sections) sections) >>= after_switch
      exec scope q.Break = pure Breaks
      exec scope q.Continue = pure Continues
      exec scope (q.Return x) = flow_of_return scope x
      exec scope (q.Expression x) = eval ds ls functions scope x >> pure Goes
      exec scope q.Empty = pure Goes
      exec scope (q.Declare d) = run_declaration scope d >> pure Goes

      pub exec_else : Scope → Else → Run StatementFlow
      exec_else scope no_else = pure Goes
      exec_else scope (else_stmt s) = exec scope s

      pub execs : Scope → Stmts → Run StatementFlow
      execs scope no_stmts = pure Goes
      execs scope (more_stmts s ss) = exec scope s >>= and_next (execs scope ss)

      -- the sections of a `switch`, and those from a label on
      pub exec_sections : Scope → Sections → Run StatementFlow
      exec_sections scope no_sections = pure Goes
      exec_sections scope (more_sections label ss rest) = execs scope ss >>= and_next (exec_sections scope rest)

      pub exec_from : Scope → Option ℕ → Sections → Run StatementFlow
      exec_from scope target no_sections = pure Goes
      exec_from scope target (more_sections label ss rest) =
          if is_chosen_label target label then (execs scope ss >>= and_next (exec_sections scope rest))
          else exec_from scope target rest

-- ---- levels

abbrev pub function_locals : Option TypedFn → List Local
function_locals None = []
function_locals (Some f) = f.locals

-- what the statements of a unit do, given what they do one level down
abbrev pub level_above : TypedUnit → Rooms → Level → Level
level_above unit rooms prev n scope s =
    exec unit.structs (function_locals (slice_get unit.functions n)) (calls_of unit rooms prev) (prev n) scope s

-- what they do in at most so many levels; below these there is no turn
abbrev pub level : TypedUnit → Rooms → ℕ → Level
level unit rooms zero n scope s = no_turn
level unit rooms (suc m) n scope s = level_above unit rooms (level unit rooms m) n scope s
