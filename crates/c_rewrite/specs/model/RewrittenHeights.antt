-- A rewritten unit is at most twice as high as the unit.
use Rattle.std.proofs.Common.{◌≤◌, ◌*◌, List, [], ◌∷◌, map, Option, Some, None, option_map, ap, arith}
use Rattle.std.specs.List.{AllZip}
use Rattle.c_typed_tree.specs.declared.units.TypedFn.{TypedFn}
use Rattle.c_typed_tree.specs.declared.units.TypedUnit.{TypedUnit}
use Rattle.c_typed_tree.specs.Expressions.{Expr}
use Rattle.c_typed_tree.specs.Statements.{LocalDeclaration, First, Nothing, Value, Locals, Stmt, Block, If, While, Do, For, Switch, Break, Continue, Return, Expression, Empty, Declare, Else, no_else, else_stmt, Stmts, no_stmts, more_stmts, Sections, no_sections, more_sections}
use Rattle.c_typed_tree.specs.View.{stmt_view}
use Rattle.c_typed_tree.specs.c_typed_height.Heights.{list_height, expr_height, optional_height, declared_height, first_part_height, stmt_height, else_height, stmts_height, sections_height, function_height, typed_unit_height}
use Rattle.c_rewrite.specs.Rewritten.{rewritten, with_init, with_first, with_exprs, else_with_exprs, all_with_exprs, sections_with_exprs, IsRewrittenFn, IsRewritten}
use Rattle.c_rewrite.specs.model.RewrittenUnits.{rewritten_low}

module _ (f : Expr → Expr) (low : (x : Expr) → expr_height (f x) ≤ 2 * expr_height x) where
  option_low : (o : Option Expr) → optional_height (option_map f o) ≤ 2 * optional_height o
  option_low None = omega arith
  option_low (Some x) = low x

  declared_low : (d : LocalDeclaration) → declared_height (with_init f d) ≤ 2 * declared_height d
  declared_low d = let h = option_low d.init in omega (arith, h)

  all_declared_low : (ds : List LocalDeclaration) → list_height declared_height (map (with_init f) ds) ≤ 2 * list_height declared_height ds
  all_declared_low [] = omega arith
  all_declared_low (d ∷ ds) = let h = declared_low d in let g = all_declared_low ds in omega (arith, h, g)

  first_low : (first : First) → first_part_height (with_first f first) ≤ 2 * first_part_height first
  first_low Nothing = omega arith
  first_low (Value x) = low x
  first_low (Locals ds) = all_declared_low ds

  mutual
    pub stmt_low : (s : Stmt) → stmt_height (with_exprs f s) ≤ 2 * stmt_height s
    stmt_low (Block ss) = let h = stmts_low ss in omega (arith, h)
    stmt_low (If x s a) = let h = low x in let g = stmt_low s in let k = else_low a in omega (arith, h, g, k)
    stmt_low (While x s) = let h = low x in let g = stmt_low s in omega (arith, h, g)
    stmt_low (Do s x) = let h = low x in let g = stmt_low s in omega (arith, h, g)
    stmt_low (For first x y s) =
        let h = first_low first in let g = option_low x in let k = option_low y in let l = stmt_low s in omega (arith, h, g, k, l)
    stmt_low (Switch x ss) = let h = low x in let g = sections_low ss in omega (arith, h, g)
    stmt_low Break = omega arith
    stmt_low Continue = omega arith
    stmt_low (Return x) = let h = option_low x in omega (arith, h)
    stmt_low (Expression x) = let h = low x in omega (arith, h)
    stmt_low Empty = omega arith
    stmt_low (Declare d) = declared_low d

    else_low : (a : Else) → else_height (else_with_exprs f a) ≤ 2 * else_height a
    else_low no_else = omega arith
    else_low (else_stmt s) = stmt_low s

    stmts_low : (ss : Stmts) → stmts_height (all_with_exprs f ss) ≤ 2 * stmts_height ss
    stmts_low no_stmts = omega arith
    stmts_low (more_stmts s ss) = let h = stmt_low s in let g = stmts_low ss in omega (arith, h, g)

    sections_low : (ss : Sections) → sections_height (sections_with_exprs f ss) ≤ 2 * sections_height ss
    sections_low no_sections = omega arith
    sections_low (more_sections label ss rest) = let h = stmts_low ss in let g = sections_low rest in omega (arith, h, g)

function_low : (f g : TypedFn) → IsRewrittenFn f g → function_height g ≤ 2 * function_height f
function_low f g h =
    let body = stmt_low (rewritten f.locals) (rewritten_low f.locals) (stmt_view f.body) in
    let e = ap stmt_height h.body in
    omega (arith, body, e)

functions_low : (fs gs : List TypedFn) → AllZip IsRewrittenFn fs gs → list_height function_height gs ≤ 2 * list_height function_height fs
functions_low [] [] h = omega arith
functions_low [] (g ∷ gs) h = absurd h
functions_low (f ∷ fs) [] h = absurd h
functions_low (f ∷ fs) (g ∷ gs) h = let k = function_low f g h.0 in let l = functions_low fs gs h.1 in omega (arith, k, l)

pub unit_low : (unit made : TypedUnit) → IsRewritten unit made → typed_unit_height made ≤ 2 * typed_unit_height unit
unit_low unit made h = functions_low unit.functions made.functions h.functions
