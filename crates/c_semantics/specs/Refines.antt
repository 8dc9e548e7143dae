-- When a part of a program refines another one. Nothing is asked where the other one is not well typed. Where it is,
-- the one is well typed too, with the same type; it weighs no more and names nothing else; a place stays a place and an
-- integer constant the same constant; and it means the same in every state, wherever the other is not undefined, with a
-- peak that is not above. The rooms are a parameter of the run, so that holds for every list of rooms.
use Rattle.std.specs.Prelude.{◌≡◌, ◌≤◌, ℕ, List, [], ◌∷◌, map, slice_get, Option, Some, None, IsTrue}
use Rattle.mem_model.specs.declared.value.Value.{Value}
use Rattle.mem_model.specs.World.{World, Rooms, with_meter}
use Rattle.mem_model.specs.Ending.{Ending, Done, Trap, Undefined, More, Evaluation, Gives, Ends}
use Rattle.c_tree.specs.declared.expressions.UnaryOp.{UnaryOp}
use Rattle.c_tree.specs.declared.expressions.BinaryOp.{BinaryOp}
use Rattle.c_tree.specs.declared.expressions.AssignOp.{AssignOp}
use Rattle.c_tree.specs.declared.expressions.StepOp.{StepOp}
use Rattle.c_typed_tree.specs.declared.expressions.Callee.{Callee}
use Rattle.c_typed_tree.specs.declared.statements.TLabel.{TLabel}
use Rattle.c_typed_tree.specs.declared.units.TypedFn.{TypedFn}
use Rattle.c_typed_tree.specs.declared.units.TypedUnit.{TypedUnit}
use Rattle.c_typed_tree.specs.Types.{PlainType, Void}
use Rattle.c_typed_tree.specs.Expressions.{Expr, Call, Unary, Binary, Assign, Conditional, Cast, Convert, Index, Field, Arrow, Postfix, Comma, Exprs, no_exprs, more_exprs, type_of}
use Rattle.c_typed_tree.specs.Statements.{LocalDeclaration, First, Stmt, Else, no_else, else_stmt, Stmts, no_stmts, more_stmts, Sections, no_sections, more_sections}
use Rattle.c_typed_tree.specs.Statements as q
use Rattle.c_typed_tree.specs.View.{type_view, stmt_view}
use Rattle.c_typed_tree.specs.Constants.{is_built, constant}
use Rattle.c_typed_tree.specs.Typing.{Context, is_place, is_in_memory, is_typed}
use Rattle.c_typed_tree.specs.TypingStatements.{Jumps, is_typed_stmt}
use Rattle.c_typed_tree.specs.Lawful.{is_block, signature_of, IsTypedUnit}
use Rattle.c_typed_tree.specs.Declarations.{declarations}
use Rattle.c_typed_tree.specs.Names.{Referent, names, stmt_names}
use Rattle.c_typed_tree.specs.Weight.{expr_weight, stmt_weight, function_weight}
use Rattle.c_semantics.specs.Runs.{CallState, in_world, Run}
use Rattle.c_semantics.specs.Objects.{Scope}
use Rattle.c_semantics.specs.Evaluates.{Functions, eval, place}
use Rattle.c_semantics.specs.Executes.{declared_by, function_locals, level}
use Rattle.c_semantics.specs.Behaves.{run_main}

-- ---- runs

-- a world, and a state, with another peak
abbrev pub with_peak : (peak : ℕ) → World → World
with_peak p w = with_meter w (record { turns = w.meter.turns; room = w.meter.room; peak = p })

abbrev pub lower_peak : (peak : ℕ) → CallState → CallState
lower_peak p s = in_world s (with_peak p s.world)

-- something holds with a peak that is not above
pub record WithPeak (most : ℕ) (P : ℕ → Type 0) : Type 0 where
  pub peak : ℕ
  pub low : peak ≤ most
  pub holds : P peak

-- the one evaluation is the other, in value, state, ending, output and turns, with a peak that is not above, unless the
-- other is undefined
abbrev pub GivesBelow : {A : Type 0} → Evaluation A CallState → Evaluation A CallState → Type 0
GivesBelow c (Gives a t) = WithPeak t.world.meter.peak (λ p. c ≡ Gives a (lower_peak p t))
GivesBelow c (Ends (Done w status)) = WithPeak w.meter.peak (λ p. c ≡ Ends (Done (with_peak p w) status))
GivesBelow c (Ends (Trap w code)) = WithPeak w.meter.peak (λ p. c ≡ Ends (Trap (with_peak p w) code))
GivesBelow c (Ends (Undefined w at)) = Unit {0}
GivesBelow c (Ends (More w)) = WithPeak w.meter.peak (λ p. c ≡ Ends (More (with_peak p w)))

-- the one run is the other, from every state, unless that is undefined
pub record RunRefines {A : Type 0} (c b : Run A) : Type 0 where
  pub by : (s : CallState) → GivesBelow (c s) (b s)

-- the same where the one is run from a state with a lower peak
pub record IsBelow {A : Type 0} (c b : Run A) : Type 0 where
  pub by : (s : CallState) (p : ℕ) → p ≤ s.world.meter.peak → GivesBelow (c (lower_peak p s)) (b s)

-- functions that do not look at the peak, as those of every unit
abbrev pub IgnorePeak : Functions → Type 0
IgnorePeak f = (n : ℕ) (vs : List Value) → IsBelow (f n vs) (f n vs)

-- ---- expressions

-- an expression refines another one, where that stands in a context in which it is well typed
pub record RefinesIn (c : Context) (x y : Expr) : Type 0 where
  pub typed : IsTrue (is_typed c x)
  pub types : type_of x ≡ type_of y
  pub named : (a : Referent) → IsTrue (names a x) → IsTrue (names a y)
  pub weight : expr_weight c.structs x ≤ expr_weight c.structs y
  -- a place stays a place, and one in memory stays one in memory
  pub places : IsTrue (is_place y) → IsTrue (is_place x)
  pub memory : IsTrue (is_in_memory c.locals y) → IsTrue (is_in_memory c.locals x)
  -- an integer constant stays one of its value, and what is built as constants are stays so built
  pub constants : (n : ℕ) → constant y ≡ Some n → constant x ≡ Some n
  pub built : IsTrue (is_built y) → IsTrue (is_built x)
  -- the same value, and the same place
  pub value : (f : Functions) → IgnorePeak f → (scope : Scope)
      → RunRefines (eval c.structs c.locals f scope x) (eval c.structs c.locals f scope y)
  pub stands : (f : Functions) → IgnorePeak f → (scope : Scope)
      → RunRefines (place c.structs c.locals f scope x) (place c.structs c.locals f scope y)

abbrev pub ExprRefines : Expr → Expr → Type 0
ExprRefines x y = (c : Context) → IsTrue (is_typed c y) → RefinesIn c x y

-- ---- statements

-- what the numbers in a function of a unit name, and the type of its result
abbrev pub context_at : TypedUnit → Option TypedFn → Context
context_at unit f = record {
  structs = unit.structs;
  globals = unit.globals;
  functions = map signature_of unit.functions;
  locals = function_locals f;
}

abbrev pub result_at : Option TypedFn → PlainType
result_at None = Void
result_at (Some f) = type_view f.result

-- a statement is well typed in the function with a number, where it may leave by these jumps
abbrev pub IsTypedAt : TypedUnit → (function : ℕ) → Jumps → Stmt → Type 0
IsTypedAt unit n j s =
    IsTrue (is_typed_stmt (context_at unit (slice_get unit.functions n)) (result_at (slice_get unit.functions n)) j s)

-- a statement refines another one that declares the same locals directly, and each local within it as often, at every
-- level
pub record StmtRefinesIn (unit : TypedUnit) (n : ℕ) (j : Jumps) (s t : Stmt) : Type 0 where
  pub typed : IsTypedAt unit n j s
  pub declares : declared_by s ≡ declared_by t
  pub declarations : (number : ℕ) → declarations number s ≡ declarations number t
  pub named : (a : Referent) → IsTrue (stmt_names a s) → IsTrue (stmt_names a t)
  pub weight : stmt_weight unit.structs s ≤ stmt_weight unit.structs t
  pub does : (rooms : Rooms) (m : ℕ) (scope : Scope) →
      RunRefines (level unit rooms m n scope s) (level unit rooms m n scope t)

abbrev pub StmtRefines : Stmt → Stmt → Type 0
StmtRefines s t = (unit : TypedUnit) (n : ℕ) (j : Jumps) → IsTypedAt unit n j t → StmtRefinesIn unit n j s t

-- ---- functions and units

-- a function refines another one with the same name, types and locals, and a block for a block
pub record FnRefines (f g : TypedFn) : Type 0 where
  pub name : f.name ≡ g.name
  pub result : f.result ≡ g.result
  pub params : f.params ≡ g.params
  pub locals : f.locals ≡ g.locals
  pub block : IsTrue (is_block (stmt_view g.body)) → IsTrue (is_block (stmt_view f.body))
  pub body : StmtRefines (stmt_view f.body) (stmt_view g.body)

-- functions by number, each refining its own
pub data FnsRefine : List TypedFn → List TypedFn → Type 0 where
  no_function : FnsRefine [] []
  one_function : {f g : TypedFn} {fs gs : List TypedFn} → FnRefines f g → FnsRefine fs gs
      → FnsRefine (f ∷ fs) (g ∷ gs)

-- the unit with other functions
abbrev pub with_functions : TypedUnit → List TypedFn → TypedUnit
with_functions unit fs = record { structs = unit.structs; globals = unit.globals; functions = fs }

-- the one ending is the other, with a peak that is not above, unless the other is undefined
abbrev pub EndingRefines : Ending → Ending → Type 0
EndingRefines e (Done w status) = WithPeak w.meter.peak (λ p. e ≡ Done (with_peak p w) status)
EndingRefines e (Trap w code) = WithPeak w.meter.peak (λ p. e ≡ Trap (with_peak p w) code)
EndingRefines e (Undefined w at) = Unit {0}
EndingRefines e (More w) = WithPeak w.meter.peak (λ p. e ≡ More (with_peak p w))

-- each function weighs no more than its own
pub data WeighNoMore (unit : TypedUnit) : List TypedFn → List TypedFn → Type 0 where
  none_weighs : WeighNoMore unit [] []
  one_weighs : {f g : TypedFn} {fs gs : List TypedFn}
      → function_weight unit.structs f ≤ function_weight unit.structs g → WeighNoMore unit fs gs
      → WeighNoMore unit (f ∷ fs) (g ∷ gs)

-- a unit refines another one with the same structs and objects: it is well typed, each function weighs no more, and
-- its run is the same for every list of rooms, input and number of turns
pub record UnitRefines (a b : TypedUnit) : Type 0 where
  pub typed : IsTypedUnit a
  pub weight : WeighNoMore b a.functions b.functions
  pub runs : (rooms : Rooms) (input : List ℕ) (turns : ℕ) →
      EndingRefines (run_main a rooms input turns) (run_main b rooms input turns)

-- refined functions refine a well typed unit
abbrev pub UnitsRefine : Type 0
UnitsRefine =
    (unit : TypedUnit) (fs : List TypedFn) → IsTypedUnit unit → FnsRefine fs unit.functions
    → UnitRefines (with_functions unit fs) unit

-- ---- expressions with a refinement within

mutual
  -- the one is the other, but that parts of it are refined
  pub data ExprWithin : Expr → Expr → Type 0 where
    here : {x y : Expr} → ExprRefines x y → ExprWithin x y
    call : {ty : PlainType} {callee : Callee} {xs ys : Exprs} → ExprsWithin xs ys
        → ExprWithin (Call ty callee xs) (Call ty callee ys)
    unary : {ty : PlainType} {op : UnaryOp} {x y : Expr} → ExprWithin x y → ExprWithin (Unary ty op x) (Unary ty op y)
    binary : {ty : PlainType} {op : BinaryOp} {x y v w : Expr} → ExprWithin x y → ExprWithin v w
        → ExprWithin (Binary ty op x v) (Binary ty op y w)
    assign : {ty : PlainType} {op : AssignOp} {x y v w : Expr} → ExprWithin x y → ExprWithin v w
        → ExprWithin (Assign ty op x v) (Assign ty op y w)
    conditional : {ty : PlainType} {x y v w t z : Expr} → ExprWithin x y → ExprWithin v w → ExprWithin t z
        → ExprWithin (Conditional ty x v t) (Conditional ty y w z)
    cast : {ty : PlainType} {x y : Expr} → ExprWithin x y → ExprWithin (Cast ty x) (Cast ty y)
    convert : {ty : PlainType} {x y : Expr} → ExprWithin x y → ExprWithin (Convert ty x) (Convert ty y)
    index : {ty : PlainType} {x y v w : Expr} → ExprWithin x y → ExprWithin v w
        → ExprWithin (Index ty x v) (Index ty y w)
    field : {ty : PlainType} {m : ℕ} {x y : Expr} → ExprWithin x y → ExprWithin (Field ty x m) (Field ty y m)
    arrow : {ty : PlainType} {m : ℕ} {x y : Expr} → ExprWithin x y → ExprWithin (Arrow ty x m) (Arrow ty y m)
    postfix : {ty : PlainType} {op : StepOp} {x y : Expr} → ExprWithin x y
        → ExprWithin (Postfix ty op x) (Postfix ty op y)
    comma : {ty : PlainType} {xs ys : Exprs} → ExprsWithin xs ys → ExprWithin (Comma ty xs) (Comma ty ys)

  pub data ExprsWithin : Exprs → Exprs → Type 0 where
    none : ExprsWithin no_exprs no_exprs
    more : {x y : Expr} {xs ys : Exprs} → ExprWithin x y → ExprsWithin xs ys
        → ExprsWithin (more_exprs x xs) (more_exprs y ys)

-- ---- statements with a refinement within

-- what may be missing on both sides alike
pub data OptionWithin : Option Expr → Option Expr → Type 0 where
  missing : OptionWithin None None
  present : {x y : Expr} → ExprWithin x y → OptionWithin (Some x) (Some y)

-- a declaration of the same local
pub record DeclaredWithin (d e : LocalDeclaration) : Type 0 where
  pub number : d.number ≡ e.number
  pub init : OptionWithin d.init e.init

pub data AllDeclaredWithin : List LocalDeclaration → List LocalDeclaration → Type 0 where
  no_more : AllDeclaredWithin [] []
  one_more : {d e : LocalDeclaration} {ds es : List LocalDeclaration} → DeclaredWithin d e → AllDeclaredWithin ds es
      → AllDeclaredWithin (d ∷ ds) (e ∷ es)

pub data FirstWithin : First → First → Type 0 where
  nothing_first : FirstWithin q.Nothing q.Nothing
  value_first : {x y : Expr} → ExprWithin x y → FirstWithin (q.Value x) (q.Value y)
  locals_first : {ds es : List LocalDeclaration} → AllDeclaredWithin ds es → FirstWithin (q.Locals ds) (q.Locals es)

mutual
  pub data StmtWithin : Stmt → Stmt → Type 0 where
    refined : {s t : Stmt} → StmtRefines s t → StmtWithin s t
    block : {ss ts : Stmts} → StmtsWithin ss ts → StmtWithin (q.Block ss) (q.Block ts)
    choice : {x y : Expr} {s t : Stmt} {a b : Else} → ExprWithin x y → StmtWithin s t → ElseWithin a b
        → StmtWithin (q.If x s a) (q.If y t b)
    while_loop : {x y : Expr} {s t : Stmt} → ExprWithin x y → StmtWithin s t → StmtWithin (q.While x s) (q.While y t)
    do_loop : {x y : Expr} {s t : Stmt} → StmtWithin s t → ExprWithin x y → StmtWithin (q.Do s x) (q.Do t y)
    for_loop : {a b : First} {x y v w : Option Expr} {s t : Stmt} → FirstWithin a b → OptionWithin x y
        → OptionWithin v w → StmtWithin s t → StmtWithin (q.For a x v s) (q.For b y w t)
    switch_on : {x y : Expr} {ss ts : Sections} → ExprWithin x y → SectionsWithin ss ts
        → StmtWithin (q.Switch x ss) (q.Switch y ts)
    returns : {x y : Option Expr} → OptionWithin x y → StmtWithin (q.Return x) (q.Return y)
    expression : {x y : Expr} → ExprWithin x y → StmtWithin (q.Expression x) (q.Expression y)
    declaration : {d e : LocalDeclaration} → DeclaredWithin d e → StmtWithin (q.Declare d) (q.Declare e)

  pub data ElseWithin : Else → Else → Type 0 where
    no_other : ElseWithin no_else no_else
    other : {s t : Stmt} → StmtWithin s t → ElseWithin (else_stmt s) (else_stmt t)

  pub data StmtsWithin : Stmts → Stmts → Type 0 where
    no_statement : StmtsWithin no_stmts no_stmts
    then_stmts : {s t : Stmt} {ss ts : Stmts} → StmtWithin s t → StmtsWithin ss ts
        → StmtsWithin (more_stmts s ss) (more_stmts t ts)

  pub data SectionsWithin : Sections → Sections → Type 0 where
    no_section_left : SectionsWithin no_sections no_sections
    one_section : {label : TLabel} {ss ts : Stmts} {a b : Sections} → StmtsWithin ss ts → SectionsWithin a b
        → SectionsWithin (more_sections label ss a) (more_sections label ts b)
