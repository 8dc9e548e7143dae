-- A rewritten unit has no more nodes than the unit: to have no more nodes is an order of expressions that goes through
-- every node, as refinement is, so the walks of the rules keep it.
use Rattle.std.proofs.Common.{◌≡◌, ◌≤◌, ◌+◌, ℕ, zero, suc, Bool, true, false, ◌&&◌, ◌==◌, List, [], ◌∷◌, length, map, Option, Some, None, option_map, if◌then◌else◌, refl, ap, subst, arith}
use Rattle.std.specs.Prelude.{slice_get, sum_by}
use Rattle.std.specs.List.{AllZip}
use Rattle.std.proofs.lemmas.Option.{none-some}
use Rattle.std.proofs.lemmas.List.Sums.{sum_by-cons}
use Rattle.pass_trees.specs.Trees.{TreeLaws}
use Rattle.pass_trees.proofs.Up.{up_is_from}
use Rattle.c_tree.specs.declared.expressions.BinaryOp.{BinaryOp}
use Rattle.c_tree.specs.declared.expressions.BinaryOp.TheVariants as b
use Rattle.c_typed_tree.specs.declared.units.Local as l
use Rattle.c_typed_tree.specs.declared.units.TypedFn.{TypedFn}
use Rattle.c_typed_tree.specs.declared.units.TypedUnit.{TypedUnit}
use Rattle.c_typed_tree.specs.Types.{PlainType}
use Rattle.c_typed_tree.specs.Expressions.{Expr, Number, Local, Global, Call, Unary, Binary, Assign, Conditional, Cast, Convert, Index, Field, Arrow, Postfix, Comma, Exprs, no_exprs, more_exprs, type_of}
use Rattle.c_typed_tree.specs.Statements.{LocalDeclaration, First, Nothing, Value, Locals, Stmt, Block, If, While, Do, For, Switch, Break, Continue, Return, Expression, Empty, Declare, Else, no_else, else_stmt, Stmts, no_stmts, more_stmts, Sections, no_sections, more_sections}
use Rattle.c_typed_tree.specs.View.{stmt_view}
use Rattle.c_typed_tree.specs.Constants.{is_integer, constant}
use Rattle.c_typed_tree.specs.Typing.{is_same_type}
use Rattle.c_typed_tree.specs.Counts.{expr_nodes, exprs_nodes, optional_nodes, declared_nodes, first_part_nodes, stmt_nodes, else_nodes, stmts_nodes, sections_nodes, function_nodes}
use Rattle.c_typed_tree.specs.Lawful.{IsLawfulUnit}
use Rattle.c_typed_tree.specs.c_typed_height.Heights.{expr_height}
use Rattle.c_rewrite_rules.specs.Nodes.{operand_list, children_of, pick_first, pick_second, pick_third, with_listed, with_child, placeholder}
use Rattle.c_rewrite_rules.specs.Rules.{literal_of, is_literal_with, is_over_literals, literal_or, folded, keeps_left, keeps_right, is_zero_product, first_operand, is_left_out, simplified_twice, simplified, arm_by, truth_of, pruned_binary, pruned}
use Rattle.c_rewrite.specs.Rewritten.{up_by, rewritten, with_init, with_first, with_exprs, else_with_exprs, all_with_exprs, sections_with_exprs, IsRewrittenFn, IsRewritten}
use Rattle.c_rewrite_rules.specs.model.NodeLaws.{same_in, of_counted, node_laws}
use Rattle.c_rewrite_rules.specs.model.Heights.{folded_low, simplified_low, pruned_low}
use Rattle.c_rewrite.specs.model.RewrittenUnits.{unit_rewritten}

-- ---- an order that goes through every node

abbrev pub HasNoMore : Expr → Expr → Type 0
HasNoMore x y = expr_nodes x ≤ expr_nodes y

put_fewer : {x c : Expr} (d : Expr) → Some x ≡ Some c → HasNoMore d c → expr_nodes d ≤ expr_nodes x
put_fewer d e h = subst (λ v. expr_nodes d ≤ expr_nodes v) (same_in e) h

one_fewer : (x : Expr) (k : ℕ) (c d : Expr) → slice_get (x ∷ []) k ≡ Some c → HasNoMore d c → expr_nodes (pick_first k x d) ≤ expr_nodes x
one_fewer x zero c d is h = put_fewer d is h
one_fewer x (suc k) c d is h = omega arith

two_fewer : (x y : Expr) (k : ℕ) (c d : Expr) → slice_get (x ∷ y ∷ []) k ≡ Some c → HasNoMore d c
    → expr_nodes (pick_first k x d) + expr_nodes (pick_second k y d) ≤ expr_nodes x + expr_nodes y
two_fewer x y zero c d is h = let l = put_fewer d is h in omega (arith, l)
two_fewer x y (suc zero) c d is h = let l = put_fewer d is h in omega (arith, l)
two_fewer x y (suc (suc k)) c d is h = omega arith

three_fewer : (x y z : Expr) (k : ℕ) (c d : Expr) → slice_get (x ∷ y ∷ z ∷ []) k ≡ Some c → HasNoMore d c
    → expr_nodes (pick_first k x d) + expr_nodes (pick_second k y d) + expr_nodes (pick_third k z d) ≤ expr_nodes x + expr_nodes y + expr_nodes z
three_fewer x y z zero c d is h = let l = put_fewer d is h in omega (arith, l)
three_fewer x y z (suc zero) c d is h = let l = put_fewer d is h in omega (arith, l)
three_fewer x y z (suc (suc zero)) c d is h = let l = put_fewer d is h in omega (arith, l)
three_fewer x y z (suc (suc (suc k))) c d is h = omega arith

operand_fewer : (xs : Exprs) (k : ℕ) (c d : Expr) → slice_get (operand_list xs) k ≡ Some c → HasNoMore d c
    → exprs_nodes (with_listed xs k d) ≤ exprs_nodes xs
operand_fewer no_exprs k c d is h = omega arith
operand_fewer (more_exprs x xs) zero c d is h = let l = put_fewer d is h in omega (arith, l)
operand_fewer (more_exprs x xs) (suc k) c d is h = let l = operand_fewer xs k c d is h in omega (arith, l)

fewer : (n : Expr) (k : ℕ) (c d : Expr) → slice_get (children_of n) k ≡ Some c → HasNoMore d c → HasNoMore (with_child n k d) n
fewer (Number ty n) k c d is h = absurd (none-some c is)
fewer (Local ty j) k c d is h = absurd (none-some c is)
fewer (Global ty j) k c d is h = absurd (none-some c is)
fewer (Call ty callee xs) k c d is h = let l = operand_fewer xs k c d (of_counted _ _ k c is) h in omega (arith, l)
fewer (Unary ty op x) k c d is h = let l = one_fewer x k c d is h in omega (arith, l)
fewer (Binary ty op x y) k c d is h = let l = two_fewer x y k c d is h in omega (arith, l)
fewer (Assign ty op x y) k c d is h = let l = two_fewer x y k c d is h in omega (arith, l)
fewer (Conditional ty x y z) k c d is h = let l = three_fewer x y z k c d is h in omega (arith, l)
fewer (Cast ty x) k c d is h = let l = one_fewer x k c d is h in omega (arith, l)
fewer (Convert ty x) k c d is h = let l = one_fewer x k c d is h in omega (arith, l)
fewer (Index ty x y) k c d is h = let l = two_fewer x y k c d is h in omega (arith, l)
fewer (Field ty x member) k c d is h = let l = one_fewer x k c d is h in omega (arith, l)
fewer (Arrow ty x member) k c d is h = let l = one_fewer x k c d is h in omega (arith, l)
fewer (Postfix ty op x) k c d is h = let l = one_fewer x k c d is h in omega (arith, l)
fewer (Comma ty xs) k c d is h = let l = operand_fewer xs k c d (of_counted _ _ k c is) h in omega (arith, l)

pub count_laws : TreeLaws children_of with_child placeholder expr_height HasNoMore
count_laws = record {
  sets = node_laws.sets;
  sets_again = node_laws.sets_again;
  sets_same = node_laws.sets_same;
  leaf_ends = refl;
  tall = node_laws.tall;
  lower = node_laws.lower;
  raised = node_laws.raised;
  itself = λ n. omega arith;
  onwards = λ x y z h g. omega (arith, h, g);
  through = fewer;
}

-- ---- the rules

some_nodes : (x : Expr) → 1 ≤ expr_nodes x
some_nodes (Number ty n) = omega arith
some_nodes (Local ty j) = omega arith
some_nodes (Global ty j) = omega arith
some_nodes (Call ty callee xs) = omega arith
some_nodes (Unary ty op x) = omega arith
some_nodes (Binary ty op x y) = omega arith
some_nodes (Assign ty op x y) = omega arith
some_nodes (Conditional ty x y z) = omega arith
some_nodes (Cast ty x) = omega arith
some_nodes (Convert ty x) = omega arith
some_nodes (Index ty x y) = omega arith
some_nodes (Field ty x member) = omega arith
some_nodes (Arrow ty x member) = omega arith
some_nodes (Postfix ty op x) = omega arith
some_nodes (Comma ty xs) = omega arith

folded_fewer : (x : Expr) → HasNoMore (folded x) x
folded_fewer x = by (is_over_literals x) (constant x)
  where
    by : (t : Bool) (v : Option ℕ) → expr_nodes (if t then literal_or x v else x) ≤ expr_nodes x
    by true (Some n) = some_nodes x
    by true None = omega arith
    by false v = omega arith

arm_fewer : (o : Option ℕ) (whole y z : Expr) (most : ℕ) → expr_nodes whole ≤ most → expr_nodes y ≤ most → expr_nodes z ≤ most
    → expr_nodes (arm_by o whole y z) ≤ most
arm_fewer None whole y z most h g k = h
arm_fewer (Some n) whole y z most h g k = by (n == 0)
  where
    by : (t : Bool) → expr_nodes (if t then z else y) ≤ most
    by true = k
    by false = g

-- `!!y` has no more nodes than an operator with another operand
truth_fewer : (ty : PlainType) (x y : Expr) → expr_nodes (truth_of ty y) ≤ 1 + expr_nodes x + expr_nodes y
truth_fewer ty x y = let h = some_nodes x in omega (arith, h)

binary_fewer : (ty : PlainType) (op : BinaryOp) (x y : Expr) → HasNoMore (pruned_binary ty op x y) (Binary ty op x y)
binary_fewer ty b.LogicalAnd x y =
    arm_fewer (literal_of x) (Binary ty b.LogicalAnd x y) (truth_of ty y) (Number ty 0) _ (omega arith) (truth_fewer ty x y) (omega arith)
binary_fewer ty b.LogicalOr x y =
    arm_fewer (literal_of x) (Binary ty b.LogicalOr x y) (Number ty 1) (truth_of ty y) _ (omega arith) (omega arith) (truth_fewer ty x y)
binary_fewer ty op x y = omega arith

pruned_fewer : (x : Expr) → HasNoMore (pruned x) x
pruned_fewer (Conditional ty x y z) = arm_fewer (literal_of x) (Conditional ty x y z) y z _ (omega arith) (omega arith) (omega arith)
pruned_fewer (Binary ty op x y) = binary_fewer ty op x y
pruned_fewer x = omega arith

by_rows : (p q r : Bool) (x y z w : Expr) (most : ℕ) → expr_nodes x ≤ most → expr_nodes y ≤ most → expr_nodes z ≤ most → expr_nodes w ≤ most
    → expr_nodes (if p then x else if q then y else if r then z else w) ≤ most
by_rows true q r x y z w most h g k l = h
by_rows false true r x y z w most h g k l = g
by_rows false false true x y z w most h g k l = k
by_rows false false false x y z w most h g k l = l

either_fewer : (p : Bool) (x y : Expr) (most : ℕ) → expr_nodes x ≤ most → expr_nodes y ≤ most → expr_nodes (if p then x else y) ≤ most
either_fewer true x y most h g = h
either_fewer false x y most h g = g

first_fewer : (x : Expr) → expr_nodes (first_operand x) ≤ expr_nodes x
first_fewer (Convert ty x) = omega arith
first_fewer x = omega arith

simplified_fewer : (ls : List l.Local) (x : Expr) → HasNoMore (simplified ls x) x
simplified_fewer ls (Binary ty op x y) =
    by_rows (is_literal_with (keeps_left op) y) (is_literal_with (keeps_right op) x) (is_zero_product ls op x y) x y (Number ty 0) (Binary ty op x y) _
    (omega arith) (omega arith) (omega arith) (omega arith)
simplified_fewer ls (Convert ty x) =
    let h = first_fewer x in
    either_fewer (is_integer ty && is_same_type (type_of x) ty) x (simplified_twice ty x) _ (omega arith)
    (either_fewer (is_left_out ty x) (Convert ty (first_operand x)) (Convert ty x) _ (omega (arith, h)) (omega arith))
simplified_fewer ls x = omega arith

from_rule : (turned : Expr → Expr) (growth : ℕ) → ((m : Expr) → HasNoMore (turned m) m) → ((m : Expr) → expr_height (turned m) ≤ expr_height m + growth)
    → (x : Expr) → HasNoMore (up_by turned x) x
from_rule turned growth fewer_in grows x = (up_is_from children_of with_child placeholder expr_height HasNoMore count_laws turned growth fewer_in grows x).refined

rewritten_fewer : (ls : List l.Local) (x : Expr) → HasNoMore (rewritten ls x) x
rewritten_fewer ls x =
    let first = from_rule folded 0 folded_fewer folded_low x in
    let second = from_rule (simplified ls) 0 (simplified_fewer ls) (simplified_low ls) (up_by folded x) in
    let third = from_rule pruned 1 pruned_fewer pruned_low (up_by (simplified ls) (up_by folded x)) in
    omega (arith, first, second, third)

-- ---- statements

module _ (f : Expr → Expr) (low : (x : Expr) → expr_nodes (f x) ≤ expr_nodes x) where
  option_fewer : (o : Option Expr) → optional_nodes (option_map f o) ≤ optional_nodes o
  option_fewer None = omega arith
  option_fewer (Some x) = low x

  declared_fewer : (d : LocalDeclaration) → declared_nodes (with_init f d) ≤ declared_nodes d
  declared_fewer d = option_fewer d.init

  all_declared_fewer : (ds : List LocalDeclaration) → sum_by declared_nodes (map (with_init f) ds) ≤ sum_by declared_nodes ds
  all_declared_fewer [] = omega arith
  all_declared_fewer (d ∷ ds) =
      let h = declared_fewer d in
      let g = all_declared_fewer ds in
      let one = sum_by-cons declared_nodes (with_init f d) (map (with_init f) ds) in
      let other = sum_by-cons declared_nodes d ds in
      omega (arith, h, g, one, other)

  first_part_fewer : (first : First) → first_part_nodes (with_first f first) ≤ first_part_nodes first
  first_part_fewer Nothing = omega arith
  first_part_fewer (Value x) = low x
  first_part_fewer (Locals ds) = all_declared_fewer ds

  mutual
    stmt_fewer : (s : Stmt) → stmt_nodes (with_exprs f s) ≤ stmt_nodes s
    stmt_fewer (Block ss) = let h = stmts_fewer ss in omega (arith, h)
    stmt_fewer (If x s a) = let h = low x in let g = stmt_fewer s in let k = else_fewer a in omega (arith, h, g, k)
    stmt_fewer (While x s) = let h = low x in let g = stmt_fewer s in omega (arith, h, g)
    stmt_fewer (Do s x) = let h = low x in let g = stmt_fewer s in omega (arith, h, g)
    stmt_fewer (For first x y s) =
        let h = first_part_fewer first in let g = option_fewer x in let k = option_fewer y in let n = stmt_fewer s in omega (arith, h, g, k, n)
    stmt_fewer (Switch x ss) = let h = low x in let g = sections_fewer ss in omega (arith, h, g)
    stmt_fewer Break = omega arith
    stmt_fewer Continue = omega arith
    stmt_fewer (Return x) = let h = option_fewer x in omega (arith, h)
    stmt_fewer (Expression x) = let h = low x in omega (arith, h)
    stmt_fewer Empty = omega arith
    stmt_fewer (Declare d) = let h = declared_fewer d in omega (arith, h)

    else_fewer : (a : Else) → else_nodes (else_with_exprs f a) ≤ else_nodes a
    else_fewer no_else = omega arith
    else_fewer (else_stmt s) = stmt_fewer s

    stmts_fewer : (ss : Stmts) → stmts_nodes (all_with_exprs f ss) ≤ stmts_nodes ss
    stmts_fewer no_stmts = omega arith
    stmts_fewer (more_stmts s ss) = let h = stmt_fewer s in let g = stmts_fewer ss in omega (arith, h, g)

    sections_fewer : (ss : Sections) → sections_nodes (sections_with_exprs f ss) ≤ sections_nodes ss
    sections_fewer no_sections = omega arith
    sections_fewer (more_sections label ss rest) = let h = stmts_fewer ss in let g = sections_fewer rest in omega (arith, h, g)

-- ---- units

function_fewer : (f g : TypedFn) → IsRewrittenFn f g → function_nodes g ≤ function_nodes f
function_fewer f g h =
    let body = stmt_fewer (rewritten f.locals) (rewritten_fewer f.locals) (stmt_view f.body) in
    let e = ap stmt_nodes h.body in
    let n = ap length h.locals in
    omega (arith, body, e, n)

functions_fewer : (fs gs : List TypedFn) → AllZip IsRewrittenFn fs gs → sum_by function_nodes gs ≤ sum_by function_nodes fs
functions_fewer [] [] h = omega arith
functions_fewer [] (g ∷ gs) h = absurd h
functions_fewer (f ∷ fs) [] h = absurd h
functions_fewer (f ∷ fs) (g ∷ gs) h =
    let k = function_fewer f g h.0 in
    let n = functions_fewer fs gs h.1 in
    let one = sum_by-cons function_nodes g gs in
    let other = sum_by-cons function_nodes f fs in
    omega (arith, k, n, one, other)

as_many_functions : (fs gs : List TypedFn) → AllZip IsRewrittenFn fs gs → length gs ≡ length fs
as_many_functions [] [] h = refl
as_many_functions [] (g ∷ gs) h = absurd h
as_many_functions (f ∷ fs) [] h = absurd h
as_many_functions (f ∷ fs) (g ∷ gs) h = ap suc (as_many_functions fs gs h.1)

-- a rewritten unit is lawful where the unit is
pub lawful_rewritten : (unit made : TypedUnit) → IsLawfulUnit unit → IsRewritten unit made → IsLawfulUnit made
lawful_rewritten unit made lawful h =
    let structs = ap length h.structs in
    let functions = as_many_functions unit.functions made.functions h.functions in
    let nodes = functions_fewer unit.functions made.functions h.functions in
    record {
      typed = (unit_rewritten unit made lawful.typed h).typed;
      structs = omega (arith, structs, lawful.structs);
      functions = omega (arith, functions, lawful.functions);
      nodes = omega (arith, nodes, lawful.nodes);
    }
