-- The nodes of a list that code sees are those of the row that the definitions go over.
use Rattle.std.proofs.Common.{◌≡◌, ℕ, List, [], ◌∷◌, ◌++◌, Option, Some, None, refl, sym, ◌+◌, ◌<◌, length, take, get_or, ap, ◌∙◌, append_assoc, append-nil}
use Rattle.std.specs.Prelude.{codes}
use Rattle.c_tree.specs.Words.{name_or_dash}
use mathlib.Core.Former.{Count}
use Rattle.c_tree.specs.declared.expressions.Expr as e
use Rattle.c_tree.specs.declared.types.Declaration.{Declaration}
use Rattle.c_tree.specs.declared.types.Constant.{Constant}
use Rattle.c_tree.specs.declared.types.Parameter.{Parameter}
use Rattle.c_tree.specs.declared.expressions.Expr.TheBlock as k
use Rattle.c_tree.specs.declared.statements.Stmt as s
use Rattle.c_tree.specs.declared.statements.Stmt.TheBlock as b
use Rattle.c_tree.specs.declared.statements.Section.{Section}
use Rattle.c_tree.specs.declared.declarations.Init as i
use Rattle.c_tree.specs.declared.declarations.Init.TheBlock as j
use Rattle.c_tree.specs.Nodes.{node, lone, type_node, none, more, nodes_of, expr_node, expr_row, constant_row, member_row, parameter_row, stmt_row, stmt_node, section_row, label_node, init_row, init_node}
use Rattle.c_tree.specs.model.Parts.{constant_node, member_node, parameter_node, section_node, children_of, else_nodes}
use Rattle.c_tree.specs.model.Open.{opens}

expr_row_is : (n : Count) (xs : k.Row_of-Expr n) → expr_row xs ≡ nodes_of expr_node (k.items-the_row-Expr n xs)
unfolding expr_node
expr_row_is n k.end_of-Expr = refl
expr_row_is n (k.more_of-Expr x xs) = ap (more (expr_node x)) (expr_row_is _ xs)

pub expr_row-hidden : (xs : List e.Expr) → expr_row (k.hidden-the_row-Expr-0 xs) ≡ nodes_of expr_node xs
expr_row-hidden xs = expr_row_is _ (k.hidden-the_row-Expr-0 xs) ∙ ap (nodes_of expr_node) (k.items_hidden-the_row-Expr-0 xs)

member_row_is : (n : Count) (xs : k.Row_of-Declaration n) → member_row xs ≡ nodes_of member_node (k.items-the_row-Declaration n xs)
unfolding expr_node
member_row_is n k.end_of-Declaration = refl
member_row_is n (k.more_of-Declaration at name ty rest) = ap (more (node (codes "member " ++ name) (lone (type_node ty)))) (member_row_is _ rest)

pub member_row-hidden : (xs : List Declaration) → member_row (k.hidden-the_row-Declaration-4 xs) ≡ nodes_of member_node xs
member_row-hidden xs = member_row_is _ (k.hidden-the_row-Declaration-4 xs) ∙ ap (nodes_of member_node) (k.items_hidden-the_row-Declaration-4 xs)

parameter_row_is : (n : Count) (xs : k.Row_of-Parameter n) → parameter_row xs ≡ nodes_of parameter_node (k.items-the_row-Parameter n xs)
unfolding expr_node
parameter_row_is n k.end_of-Parameter = refl
parameter_row_is n (k.more_of-Parameter at name ty rest) = ap (more (node (codes "parameter " ++ name_or_dash name) (lone (type_node ty)))) (parameter_row_is _ rest)

pub parameter_row-hidden : (xs : List Parameter) → parameter_row (k.hidden-the_row-Parameter-6 xs) ≡ nodes_of parameter_node xs
parameter_row-hidden xs = parameter_row_is _ (k.hidden-the_row-Parameter-6 xs) ∙ ap (nodes_of parameter_node) (k.items_hidden-the_row-Parameter-6 xs)

constant_row_is : (n : Count) (xs : k.Row_of-Constant n) → constant_row xs ≡ nodes_of constant_node (k.items-the_row-Constant n xs)
unfolding expr_node
constant_row_is n k.end_of-Constant = refl
constant_row_is n (k.more_of-Constant at name k.Constant-value-None' rest) = ap (more (node (codes "constant " ++ name) none)) (constant_row_is _ rest)
constant_row_is n (k.more_of-Constant at name (k.Constant-value-Some' x) rest) = ap (more (node (codes "constant " ++ name) (lone (expr_node x)))) (constant_row_is _ rest)

pub constant_row-hidden : (xs : List Constant) → constant_row (k.hidden-the_row-Constant-3 xs) ≡ nodes_of constant_node xs
constant_row-hidden xs = constant_row_is _ (k.hidden-the_row-Constant-3 xs) ∙ ap (nodes_of constant_node) (k.items_hidden-the_row-Constant-3 xs)

stmt_row_is : (n : Count) (xs : b.Row_of-Stmt n) → stmt_row xs ≡ nodes_of stmt_node (b.items-the_row-Stmt n xs)
unfolding stmt_node
stmt_row_is n b.end_of-Stmt = refl
stmt_row_is n (b.more_of-Stmt x xs) = ap (more (stmt_node x)) (stmt_row_is _ xs)

pub stmt_row-hidden : (xs : List s.Stmt) → stmt_row (b.hidden-the_row-Stmt-0 xs) ≡ nodes_of stmt_node xs
stmt_row-hidden xs = stmt_row_is _ (b.hidden-the_row-Stmt-0 xs) ∙ ap (nodes_of stmt_node) (b.items_hidden-the_row-Stmt-0 xs)

section_row_is : (n : Count) (xs : b.Row_of-Section n) → section_row xs ≡ nodes_of section_node (b.items-the_row-Section n xs)
unfolding stmt_node
section_row_is n b.end_of-Section = refl
section_row_is n (b.more_of-Section label c statements rest) =
    ap (λ ns. more (label_node label ns) (section_row rest)) (stmt_row_is _ statements ∙ ap (nodes_of stmt_node) (sym (b.items_shown-the_row-Stmt-0 c statements))) ∙ ap (more (label_node label (nodes_of stmt_node (b.shown-the_row-Stmt-0 c statements)))) (section_row_is _ rest)

pub section_row-hidden : (xs : List Section) → section_row (b.hidden-the_row-Section-2 xs) ≡ nodes_of section_node xs
section_row-hidden xs = section_row_is _ (b.hidden-the_row-Section-2 xs) ∙ ap (nodes_of section_node) (b.items_hidden-the_row-Section-2 xs)

pub if-children : (c : e.Expr) (y : s.Stmt) (o : Option s.Stmt) → children_of (stmt_node (s.If c y o)) ≡ more (expr_node c) (more (stmt_node y) (else_nodes o))
unfolding opens
if-children c y None = refl
if-children c y (Some z) = refl

init_row_is : (n : Count) (xs : i.Row_of-Init n) → init_row xs ≡ nodes_of init_node (i.items-the_row-Init n xs)
unfolding init_node
init_row_is n i.end_of-Init = refl
init_row_is n (i.more_of-Init x xs) = ap (more (init_node x)) (init_row_is _ xs)

pub init_row-hidden : (xs : List i.Init) → init_row (j.hidden-the_row-Init-0 xs) ≡ nodes_of init_node xs
init_row-hidden xs = init_row_is _ (j.hidden-the_row-Init-0 xs) ∙ ap (nodes_of init_node) (j.items_hidden-the_row-Init-0 xs)

pub ruleset rows = (expr_row-hidden, member_row-hidden, parameter_row-hidden, constant_row-hidden, append_assoc, append-nil)
