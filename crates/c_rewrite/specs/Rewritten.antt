-- A rewritten unit: each outermost expression is what the three rules make of it, one after the other, each from the
-- leaves up; nothing else changes.
use Rattle.std.specs.Prelude.{◌≡◌, List, map, option_map}
use Rattle.std.specs.List.{AllZip}
use Rattle.pass_trees.specs.Up.{up}
use Rattle.c_typed_tree.specs.declared.units.Local.{Local}
use Rattle.c_typed_tree.specs.declared.units.TypedFn.{TypedFn}
use Rattle.c_typed_tree.specs.declared.units.TypedUnit.{TypedUnit}
use Rattle.c_typed_tree.specs.c_typed_height.Heights.{expr_height}
use Rattle.c_typed_tree.specs.Expressions.{Expr}
use Rattle.c_typed_tree.specs.Statements.{LocalDeclaration, First, Nothing, Value, Locals, Stmt, Block, If, While, Do, For, Switch, Break, Continue, Return, Expression, Empty, Declare, Else, no_else, else_stmt, Stmts, no_stmts, more_stmts, Sections, no_sections, more_sections}
use Rattle.c_typed_tree.specs.View.{stmt_view}
use Rattle.c_rewrite_rules.specs.Nodes.{children_of, with_child}
use Rattle.c_rewrite_rules.specs.Rules.{folded, simplified, pruned}

-- what a rule makes of an expression from the leaves up
abbrev pub up_by : (Expr → Expr) → Expr → Expr
up_by turned x = up children_of with_child expr_height turned x

-- an expression in a function with these locals
abbrev pub rewritten : List Local → Expr → Expr
rewritten ls x = up_by pruned (up_by (simplified ls) (up_by folded x))

-- statements with other outermost expressions
module _ (f : Expr → Expr) where
  abbrev pub with_init : LocalDeclaration → LocalDeclaration
  with_init d = record { number = d.number; init = option_map f d.init }

  abbrev pub with_first : First → First
  with_first Nothing = Nothing
  with_first (Value x) = Value (f x)
  with_first (Locals ds) = Locals (map with_init ds)

  abbrev mutual
    pub with_exprs : Stmt → Stmt
    with_exprs (Block ss) = Block (all_with_exprs ss)
    with_exprs (If x s h) = If (f x) (with_exprs s) (else_with_exprs h)
    with_exprs (While x s) = While (f x) (with_exprs s)
    with_exprs (Do s x) = Do (with_exprs s) (f x)
    with_exprs (For first x y s) = For (with_first first) (option_map f x) (option_map f y) (with_exprs s)
    with_exprs (Switch x ss) = Switch (f x) (sections_with_exprs ss)
    with_exprs Break = Break
    with_exprs Continue = Continue
    with_exprs (Return x) = Return (option_map f x)
    with_exprs (Expression x) = Expression (f x)
    with_exprs Empty = Empty
    with_exprs (Declare d) = Declare (with_init d)

    pub else_with_exprs : Else → Else
    else_with_exprs no_else = no_else
    else_with_exprs (else_stmt s) = else_stmt (with_exprs s)

    pub all_with_exprs : Stmts → Stmts
    all_with_exprs no_stmts = no_stmts
    all_with_exprs (more_stmts s ss) = more_stmts (with_exprs s) (all_with_exprs ss)

    pub sections_with_exprs : Sections → Sections
    sections_with_exprs no_sections = no_sections
    sections_with_exprs (more_sections label ss rest) = more_sections label (all_with_exprs ss) (sections_with_exprs rest)

-- functions and units
pub record IsRewrittenFn (f g : TypedFn) : Type 0 where
  pub name : g.name ≡ f.name
  pub result : g.result ≡ f.result
  pub params : g.params ≡ f.params
  pub locals : g.locals ≡ f.locals
  pub body : stmt_view g.body ≡ with_exprs (rewritten f.locals) (stmt_view f.body)

pub record IsRewritten (unit made : TypedUnit) : Type 0 where
  pub structs : made.structs ≡ unit.structs
  pub globals : made.globals ≡ unit.globals
  pub functions : AllZip IsRewrittenFn unit.functions made.functions
