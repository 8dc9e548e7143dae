-- Lists of statements, sections, declarations and labels.
use Rattle.std.proofs.Common.{◌≡◌, ◌≤◌, ◌<◌, ℕ, zero, suc, List, [], ◌∷◌, length, get_or, map, refl, sym, ap, ◌∙◌, arith}
use Rattle.c_typed_tree.specs.declared.statements.TStmt as s
use Rattle.c_typed_tree.specs.declared.statements.TSection.{TSection}
use Rattle.c_typed_tree.specs.declared.statements.TLocal.{TLocal}
use Rattle.c_typed_tree.specs.declared.expressions.TExpr.{TExpr}
use Rattle.c_typed_tree.specs.Statements as q
use Rattle.c_typed_tree.specs.View.{expr_view, local_view, stmt_view}
use Rattle.c_typed_tree.specs.model.View.{stmts_view}
use Rattle.c_typed_tree.specs.model.Lists.{sections_view}
use Rattle.c_typed_tree.proofs.Views.{view_block, view_switch}
use Rattle.suifvm_ir.specs.declared.insn.VmBranchOp.TheVariants.{IfFalse}
use Rattle.c_typed_tree.specs.Expressions.{Expr, type_of}
use Rattle.lowering_code.specs.declared.item.CodeItem.{CodeItem}
use Rattle.lowering_code.specs.Expressions.{branch_by_value_code}
use Rattle.lowering_expressions.specs.declared.scope.LoweringScope.{LoweringScope}
use Rattle.lowering_expressions.specs.Scopes.{expr_code}
use Rattle.lowering_statements.specs.Scopes.{stmt_code}
use Rattle.lowering_statements.specs.model.Scopes.{else_code, else_name}
use Rattle.lowering_statements.specs.Levels.{declared_levels, locals_levels, stmt_levels, stmts_levels, sections_levels}

-- the element at a place
pub stmt_at : (xs : List s.TStmt) (i : ℕ) (x : s.TStmt) → i < length xs → stmt_levels (stmt_view (get_or xs i x)) ≤ stmts_levels (stmts_view xs)
stmt_at [] i x h = absurd (omega arith)
stmt_at (y ∷ xs) zero x h = omega arith
stmt_at (y ∷ xs) (suc i) x h = omega (arith, stmt_at xs i x (omega arith))

pub section_at : (xs : List TSection) (i : ℕ) (x : TSection) → i < length xs → stmts_levels (stmts_view ((get_or xs i x).statements)) ≤ sections_levels (sections_view xs)
section_at [] i x h = absurd (omega arith)
section_at (y ∷ xs) zero x h = omega arith
section_at (y ∷ xs) (suc i) x h = omega (arith, section_at xs i x (omega arith))

pub local_at : (xs : List TLocal) (i : ℕ) (x : TLocal) → i < length xs → declared_levels (local_view (get_or xs i x)) ≤ locals_levels (map local_view xs)
local_at [] i x h = absurd (omega arith)
local_at (y ∷ xs) zero x h = omega arith
local_at (y ∷ xs) (suc i) x h = omega (arith, local_at xs i x (omega arith))

-- the parts of a tree that hold a list
pub block_is : (v : s.TStmt) (xs ys : List s.TStmt) → v ≡ s.Block xs → ys ≡ xs → stmt_view v ≡ q.Block (stmts_view ys)
block_is v xs ys h same = ap stmt_view h ∙ view_block xs ∙ ap (λ l. q.Block (stmts_view l)) (sym same)

pub switch_is : (v : s.TStmt) (x : TExpr) (xs ys : List TSection) → v ≡ s.Switch x xs → ys ≡ xs → stmt_view v ≡ q.Switch (expr_view x) (sections_view ys)
switch_is v x xs ys h same = ap stmt_view h ∙ view_switch x xs ∙ ap (λ l. q.Switch (expr_view x) (sections_view l)) (sym same)

-- an `if` with its second branch, or without
pub if_code : (s : LoweringScope) (brk con : ℕ) (x : Expr) (y : q.Stmt) (h : q.Else) (rest : List CodeItem)
    → stmt_code s brk con (q.If x y h) rest ≡ expr_code s 0 x (branch_by_value_code s.registers.locals IfFalse 0 (type_of x) (else_name s brk con h rest) (stmt_code s brk con y (else_code s brk con h rest)))
if_code s brk con x y q.no_else rest = refl
if_code s brk con x y (q.else_stmt z) rest = refl
