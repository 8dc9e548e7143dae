-- How often locals are declared in a block and within its statements.
use Rattle.std.proofs.Common.{◌≡◌, ℕ, zero, suc, ◌+◌, ◌==◌, List, [], ◌∷◌, ◌++◌, cond, sum_by, map, refl, sym, ap, ◌∙◌, arith}
use Rattle.std.proofs.lemmas.List.Sums.{sum_by-cons}
use Rattle.c_typed_tree.specs.Statements.{LocalDeclaration, Stmt, Stmts, no_stmts, more_stmts, Locals}
use Rattle.c_typed_tree.specs.Statements as q
use Rattle.c_typed_tree.specs.Declarations.{declarations, declarations_here, first_declarations, stmts_declarations}
use Rattle.c_semantics.specs.Executes.{declared_by, declared_in, declared_first}
use Rattle.lowering_statement_laws.specs.Parts.{inner_declarations, inner_of_all}

-- how often a number is in a list
abbrev pub times : (number : ℕ) → List ℕ → ℕ
times number [] = zero
times number (k ∷ ks) = cond (k == number) 1 0 + times number ks

-- a statement declares a local in its block, or within itself
here_and_inner : (number : ℕ) (x : Stmt) (ks : List ℕ) → times number (declared_by x ++ ks) + inner_declarations number x ≡ declarations number x + times number ks
here_and_inner number (q.Block ss) ks = omega arith
here_and_inner number (q.If e s h) ks = omega arith
here_and_inner number (q.While e s) ks = omega arith
here_and_inner number (q.Do s e) ks = omega arith
here_and_inner number (q.For first condition step s) ks = omega arith
here_and_inner number (q.Switch e ss) ks = omega arith
here_and_inner number q.Break ks = omega arith
here_and_inner number q.Continue ks = omega arith
here_and_inner number (q.Return e) ks = omega arith
here_and_inner number (q.Expression e) ks = omega arith
here_and_inner number q.Empty ks = omega arith
here_and_inner number (q.Declare d) ks = omega arith

pub all_declared : (number : ℕ) (ss : Stmts) → times number (declared_in ss) + inner_of_all number ss ≡ stmts_declarations number ss
all_declared number no_stmts = omega arith
all_declared number (more_stmts s ss) = let h = all_declared number ss in let one = here_and_inner number s (declared_in ss) in omega (arith, h, one)

pub first_declared : (number : ℕ) (ds : List LocalDeclaration) → times number (declared_first (Locals ds)) ≡ first_declarations number (Locals ds)
first_declared number [] = refl
first_declared number (d ∷ ds) = let h = first_declared number ds in let one = sum_by-cons (declarations_here number) d ds in omega (arith, h, one)
