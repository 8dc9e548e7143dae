-- The weight of a tree: each statement, block, operator, call, cast, name, literal, written conversion, local and
-- parameter counts 1, and a struct that is copied a part of its size besides.
use Rattle.std.specs.Prelude.{ℕ, ◌+◌, ◌-◌, List, sum_by, slice_get, Option, Some, None}
use Rattle.c_tree.specs.declared.expressions.AssignOp.{AssignOp}
use Rattle.c_tree.specs.declared.expressions.AssignOp.TheVariants as a
use Rattle.c_typed_tree.specs.declared.types.StructDef.{StructDef}
use Rattle.c_typed_tree.specs.declared.statements.TLabel.{TLabel}
use Rattle.c_typed_tree.specs.declared.statements.TLabel.TheVariants.{Case, Default}
use Rattle.c_typed_tree.specs.declared.units.TypedFn.{TypedFn}
use Rattle.c_typed_tree.specs.declared.units.TypedUnit.{TypedUnit}
use Rattle.c_typed_tree.specs.Types.{PlainType, Void, Int, Pointer, Array, Struct}
use Rattle.c_typed_tree.specs.Expressions.{Expr, Number, Local, Global, Call, Unary, Binary, Assign, Conditional, Cast, Convert, Index, Field, Arrow, Postfix, Comma, Exprs, no_exprs, more_exprs, type_of}
use Rattle.c_typed_tree.specs.Statements.{LocalDeclaration, First, Nothing, Value, Locals, Stmt, Block, If, While, Do, For, Switch, Break, Continue, Return, Expression, Empty, Declare, Else, no_else, else_stmt, Stmts, no_stmts, more_stmts, Sections, no_sections, more_sections}
use Rattle.std.specs.Int.{div_ceil}
use Rattle.c_typed_tree.specs.Layout.{struct_size}
use Rattle.c_typed_tree.specs.View.{stmt_view}

-- what the copy of a value of a type counts: of a struct an eighth of its bytes, rounded up
abbrev pub copy_weight : List StructDef → PlainType → ℕ
copy_weight ds Void = 0
copy_weight ds (Int bytes signed) = 0
copy_weight ds (Pointer target) = 0
copy_weight ds (Array element length) = 0
copy_weight ds (Struct number) = div_ceil (struct_size (slice_get ds number)) 8

-- only a simple assignment copies a struct
abbrev pub assign_weight : List StructDef → AssignOp → PlainType → ℕ
assign_weight ds a.Set ty = copy_weight ds ty
assign_weight ds _ ty = 0

abbrev pub exprs_count : Exprs → ℕ
exprs_count no_exprs = 0
exprs_count (more_exprs e es) = 1 + exprs_count es

-- the operators of a comma expression are one fewer than its operands
unfoldable mutual
  pub expr_weight : List StructDef → Expr → ℕ
  expr_weight ds (Number ty value) = 1
  expr_weight ds (Local ty number) = 1
  expr_weight ds (Global ty number) = 1
  expr_weight ds (Call ty callee es) = 1 + exprs_weight ds es
  expr_weight ds (Unary ty op e) = 1 + expr_weight ds e
  expr_weight ds (Binary ty op e f) = 1 + (expr_weight ds e + expr_weight ds f)
  expr_weight ds (Assign ty op e f) = 1 + (assign_weight ds op ty + (expr_weight ds e + expr_weight ds f))
  expr_weight ds (Conditional ty e f g) = 1 + (expr_weight ds e + (expr_weight ds f + expr_weight ds g))
  expr_weight ds (Cast ty e) = 1 + expr_weight ds e
  expr_weight ds (Convert ty e) = 1 + expr_weight ds e
  expr_weight ds (Index ty e f) = 1 + (expr_weight ds e + expr_weight ds f)
  expr_weight ds (Field ty e member) = 1 + expr_weight ds e
  expr_weight ds (Arrow ty e member) = 1 + expr_weight ds e
  expr_weight ds (Postfix ty op e) = 1 + expr_weight ds e
  expr_weight ds (Comma ty es) = exprs_count es - 1 + exprs_weight ds es

  pub exprs_weight : List StructDef → Exprs → ℕ
  exprs_weight ds no_exprs = 0
  exprs_weight ds (more_exprs e es) = expr_weight ds e + exprs_weight ds es

abbrev pub optional_weight : List StructDef → Option Expr → ℕ
optional_weight ds None = 0
optional_weight ds (Some e) = expr_weight ds e

-- an initialiser of a struct copies it
abbrev pub init_weight : List StructDef → Option Expr → ℕ
init_weight ds None = 0
init_weight ds (Some e) = copy_weight ds (type_of e) + expr_weight ds e

-- a local counts 1, with its initialiser
abbrev pub declared_weight : List StructDef → LocalDeclaration → ℕ
declared_weight ds d = 1 + init_weight ds d.init

abbrev pub first_weight : List StructDef → First → ℕ
first_weight ds Nothing = 0
first_weight ds (Value e) = expr_weight ds e
first_weight ds (Locals ls) = sum_by (declared_weight ds) ls

-- the constant of a `case` counts as a literal
abbrev pub label_weight : TLabel → ℕ
label_weight (Case value) = 1
label_weight Default = 0

unfoldable mutual
  pub stmt_weight : List StructDef → Stmt → ℕ
  stmt_weight ds (Block ts) = 1 + stmts_weight ds ts
  stmt_weight ds (If e t h) = 1 + (expr_weight ds e + (stmt_weight ds t + else_weight ds h))
  stmt_weight ds (While e t) = 1 + (expr_weight ds e + stmt_weight ds t)
  stmt_weight ds (Do t e) = 1 + (stmt_weight ds t + expr_weight ds e)
  stmt_weight ds (For first condition step t) =
      1 + (first_weight ds first + (optional_weight ds condition + (optional_weight ds step + stmt_weight ds t)))
  stmt_weight ds (Switch e ss) = 1 + (expr_weight ds e + sections_weight ds ss)
  stmt_weight ds Break = 1
  stmt_weight ds Continue = 1
  stmt_weight ds (Return e) = 1 + optional_weight ds e
  stmt_weight ds (Expression e) = 1 + expr_weight ds e
  stmt_weight ds Empty = 1
  stmt_weight ds (Declare d) = declared_weight ds d

  pub else_weight : List StructDef → Else → ℕ
  else_weight ds no_else = 0
  else_weight ds (else_stmt t) = stmt_weight ds t

  pub stmts_weight : List StructDef → Stmts → ℕ
  stmts_weight ds no_stmts = 0
  stmts_weight ds (more_stmts t ts) = stmt_weight ds t + stmts_weight ds ts

  pub sections_weight : List StructDef → Sections → ℕ
  sections_weight ds no_sections = 0
  sections_weight ds (more_sections label ts ss) = label_weight label + (stmts_weight ds ts + sections_weight ds ss)

-- the weight of a function, over its parameters and its body
abbrev pub function_weight : List StructDef → TypedFn → ℕ
function_weight ds f = f.params + stmt_weight ds (stmt_view f.body)

-- the weight of a unit
abbrev pub unit_weight : TypedUnit → ℕ
unit_weight u = 1 + sum_by (λ f. 1 + function_weight u.structs f) u.functions
