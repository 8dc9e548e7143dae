-- A rewritten unit refines the unit: each of its expressions refines the one in whose place it stands.
use Rattle.std.proofs.Common.{◌≡◌, ◌≤◌, ◌+◌, ◌*◌, ℕ, IsTrue, List, [], ◌∷◌, map, Option, Some, None, option_map, refl, sym, ap, ◌∙◌, subst, arith}
use Rattle.std.specs.List.{AllZip}
use Rattle.pass_trees.proofs.Up.{IsFrom, up_is_from}
use Rattle.c_typed_tree.specs.declared.units.Local.{Local}
use Rattle.c_typed_tree.specs.declared.units.TypedFn.{TypedFn}
use Rattle.c_typed_tree.specs.declared.units.TypedUnit.{TypedUnit}
use Rattle.c_typed_tree.specs.c_typed_height.Heights.{expr_height}
use Rattle.c_typed_tree.specs.Expressions.{Expr}
use Rattle.c_typed_tree.specs.Statements.{LocalDeclaration, First, Nothing, Value, Locals, Stmt, Block, If, While, Do, For, Switch, Break, Continue, Return, Expression, Empty, Declare, Else, no_else, else_stmt, Stmts, no_stmts, more_stmts, Sections, no_sections, more_sections}
use Rattle.c_typed_tree.specs.View.{stmt_view}
use Rattle.c_typed_tree.specs.Lawful.{IsTypedUnit, is_block}
use Rattle.c_semantics.specs.Refines.{ExprRefines, StmtRefines, FnRefines, FnsRefine, no_function, one_function, UnitRefines, with_functions, ExprWithin, OptionWithin, DeclaredWithin, AllDeclaredWithin, FirstWithin, StmtWithin, ElseWithin, StmtsWithin, SectionsWithin}
use Rattle.c_semantics.specs.Refines as form
use Rattle.c_semantics.proofs.RefinesOrder.{expr_on, stmt_itself}
use Rattle.c_semantics.proofs.RefinesStmt.{stmt_refines}
use Rattle.c_semantics.proofs.RefinesUnit.{unit_refines}
use Rattle.c_rewrite_rules.specs.Nodes.{children_of, with_child, placeholder}
use Rattle.c_rewrite_rules.specs.Rules.{folded, simplified, pruned}
use Rattle.c_rewrite.specs.Rewritten.{up_by, rewritten, with_init, with_first, with_exprs, else_with_exprs, all_with_exprs, sections_with_exprs, IsRewrittenFn, IsRewritten}
use Rattle.c_rewrite_rules.specs.model.NodeLaws.{node_laws}
use Rattle.c_rewrite_rules.specs.model.Folded.{folded_refines}
use Rattle.c_rewrite_rules.specs.model.Simplified.{simplified_refines}
use Rattle.c_rewrite_rules.specs.model.Pruned.{pruned_refines}
use Rattle.c_rewrite_rules.specs.model.Heights.{folded_low, simplified_low, pruned_low}

-- ---- expressions

from_rule : (turned : Expr → Expr) (growth : ℕ) → ((m : Expr) → ExprRefines (turned m) m) → ((m : Expr) → expr_height (turned m) ≤ expr_height m + growth)
    → (x : Expr) → IsFrom children_of with_child placeholder expr_height ExprRefines node_laws growth (up_by turned x) x
from_rule turned growth refines grows x = up_is_from children_of with_child placeholder expr_height ExprRefines node_laws turned growth refines grows x

pub rewritten_refines : (ls : List Local) (x : Expr) → ExprRefines (rewritten ls x) x
rewritten_refines ls x =
    let first = from_rule folded 0 folded_refines folded_low x in
    let second = from_rule (simplified ls) 0 (simplified_refines ls) (simplified_low ls) (up_by folded x) in
    let third = from_rule pruned 1 pruned_refines pruned_low (up_by (simplified ls) (up_by folded x)) in
    expr_on (rewritten ls x) (up_by folded x) x
    (expr_on (rewritten ls x) (up_by (simplified ls) (up_by folded x)) (up_by folded x) third.refined second.refined) first.refined

pub rewritten_low : (ls : List Local) (x : Expr) → expr_height (rewritten ls x) ≤ 2 * expr_height x
rewritten_low ls x =
    let first = (from_rule folded 0 folded_refines folded_low x).low in
    let second = (from_rule (simplified ls) 0 (simplified_refines ls) (simplified_low ls) (up_by folded x)).low in
    let third = (from_rule pruned 1 pruned_refines pruned_low (up_by (simplified ls) (up_by folded x))).low in
    omega arith

-- ---- statements

module _ (f : Expr → Expr) (refines : (x : Expr) → ExprRefines (f x) x) where
  expr_within : (x : Expr) → ExprWithin (f x) x
  expr_within x = form.here (refines x)

  option_within : (o : Option Expr) → OptionWithin (option_map f o) o
  option_within None = form.missing
  option_within (Some x) = form.present (expr_within x)

  declared_within : (d : LocalDeclaration) → DeclaredWithin (with_init f d) d
  declared_within d = record { number = refl; init = option_within d.init }

  all_declared_within : (ds : List LocalDeclaration) → AllDeclaredWithin (map (with_init f) ds) ds
  all_declared_within [] = form.no_more
  all_declared_within (d ∷ ds) = form.one_more (declared_within d) (all_declared_within ds)

  first_within : (first : First) → FirstWithin (with_first f first) first
  first_within Nothing = form.nothing_first
  first_within (Value x) = form.value_first (expr_within x)
  first_within (Locals ds) = form.locals_first (all_declared_within ds)

  mutual
    stmt_within : (s : Stmt) → StmtWithin (with_exprs f s) s
    stmt_within (Block ss) = form.block (stmts_within ss)
    stmt_within (If x s h) = form.choice (expr_within x) (stmt_within s) (else_within h)
    stmt_within (While x s) = form.while_loop (expr_within x) (stmt_within s)
    stmt_within (Do s x) = form.do_loop (stmt_within s) (expr_within x)
    stmt_within (For first x y s) = form.for_loop (first_within first) (option_within x) (option_within y) (stmt_within s)
    stmt_within (Switch x ss) = form.switch_on (expr_within x) (sections_within ss)
    stmt_within Break = form.refined (stmt_itself Break)
    stmt_within Continue = form.refined (stmt_itself Continue)
    stmt_within (Return x) = form.returns (option_within x)
    stmt_within (Expression x) = form.expression (expr_within x)
    stmt_within Empty = form.refined (stmt_itself Empty)
    stmt_within (Declare d) = form.declaration (declared_within d)

    else_within : (h : Else) → ElseWithin (else_with_exprs f h) h
    else_within no_else = form.no_other
    else_within (else_stmt s) = form.other (stmt_within s)

    stmts_within : (ss : Stmts) → StmtsWithin (all_with_exprs f ss) ss
    stmts_within no_stmts = form.no_statement
    stmts_within (more_stmts s ss) = form.then_stmts (stmt_within s) (stmts_within ss)

    sections_within : (ss : Sections) → SectionsWithin (sections_with_exprs f ss) ss
    sections_within no_sections = form.no_section_left
    sections_within (more_sections label ss rest) = form.one_section (stmts_within ss) (sections_within rest)

  pub stmt_rewritten : (s : Stmt) → StmtRefines (with_exprs f s) s
  stmt_rewritten s = stmt_refines (stmt_within s)

  block_stays : (s : Stmt) → IsTrue (is_block s) → IsTrue (is_block (with_exprs f s))
  block_stays (Block ss) h = h
  block_stays (If x s a) h = h
  block_stays (While x s) h = h
  block_stays (Do s x) h = h
  block_stays (For first x y s) h = h
  block_stays (Switch x ss) h = h
  block_stays Break h = h
  block_stays Continue h = h
  block_stays (Return x) h = h
  block_stays (Expression x) h = h
  block_stays Empty h = h
  block_stays (Declare d) h = h

-- ---- functions and units

function_rewritten : (f g : TypedFn) → IsRewrittenFn f g → FnRefines g f
function_rewritten f g h = record {
  name = h.name;
  result = h.result;
  params = h.params;
  locals = h.locals;
  block = λ b. subst (λ s. IsTrue (is_block s)) (sym h.body) (block_stays (rewritten f.locals) (rewritten_refines f.locals) (stmt_view f.body) b);
  body = subst (λ s. StmtRefines s (stmt_view f.body)) (sym h.body) (stmt_rewritten (rewritten f.locals) (rewritten_refines f.locals) (stmt_view f.body));
}

functions_rewritten : (fs gs : List TypedFn) → AllZip IsRewrittenFn fs gs → FnsRefine gs fs
functions_rewritten [] [] h = no_function
functions_rewritten [] (g ∷ gs) h = absurd h
functions_rewritten (f ∷ fs) [] h = absurd h
functions_rewritten (f ∷ fs) (g ∷ gs) h = one_function (function_rewritten f g h.0) (functions_rewritten fs gs h.1)

same_unit : (unit made : TypedUnit) → made.structs ≡ unit.structs → made.globals ≡ unit.globals → with_functions unit made.functions ≡ made
same_unit unit made s g =
    ap (λ v. record { structs = v; globals = unit.globals; functions = made.functions }) (sym s)
    ∙ ap (λ v. record { structs = made.structs; globals = v; functions = made.functions }) (sym g)

-- the rewritten unit refines the unit
pub unit_rewritten : (unit made : TypedUnit) → IsTypedUnit unit → IsRewritten unit made → UnitRefines made unit
unit_rewritten unit made typed h =
    subst (λ u. UnitRefines u unit) (same_unit unit made h.structs h.globals)
    (unit_refines unit made.functions typed (functions_rewritten unit.functions made.functions h.functions))
