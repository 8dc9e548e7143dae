-- What a statement declares within itself is among all that it declares.
use Rattle.std.proofs.Common.{ℕ, ◌≤◌, arith}
use Rattle.c_typed_tree.specs.Statements.{Stmt}
use Rattle.c_typed_tree.specs.Statements as q
use Rattle.c_typed_tree.specs.Declarations.{declarations}
use Rattle.lowering_statement_laws.specs.Parts.{inner_declarations}

pub inner_least : (number : ℕ) (x : Stmt) → inner_declarations number x ≤ declarations number x
inner_least number (q.Block ss) = omega arith
inner_least number (q.If e s h) = omega arith
inner_least number (q.While e s) = omega arith
inner_least number (q.Do s e) = omega arith
inner_least number (q.For first condition step s) = omega arith
inner_least number (q.Switch e ss) = omega arith
inner_least number q.Break = omega arith
inner_least number q.Continue = omega arith
inner_least number (q.Return e) = omega arith
inner_least number (q.Expression e) = omega arith
inner_least number q.Empty = omega arith
inner_least number (q.Declare d) = omega arith
