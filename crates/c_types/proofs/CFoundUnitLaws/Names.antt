-- Expressions, declarators and functions leave the names in scope as they were.
use Rattle.std.proofs.Common.{◌≡◌, ◌<◌, ℕ, arith, List, [], Option}
use Rattle.c_tree.specs.declared.expressions.Expr.{Expr}
use Rattle.c_tree.specs.declared.types.TypeNode.{TypeNode}
use Rattle.c_tree.specs.declared.types.Declaration.{Declaration}
use Rattle.c_tree.specs.declared.statements.Stmt.{Stmt}
use Rattle.c_typing_rules.specs.declared.c_typing_declared_types.declared.DeclaredType.{DeclaredType}
use Rattle.c_typed_tree.specs.Typing.{Context}
use Rattle.c_typing_expression_sound.specs.c_judgement_laws.Covers.{IsLawfulContext}
use Rattle.c_typing_judgements.specs.Types.{JudgementState}
use Rattle.c_typing_expressions.specs.Expressions.{judge, derive}
use Rattle.c_typing_function_sound.proofs.CStatementLaws.Expressions.{judge_walks, derive_walks}
use Rattle.c_typing_statements.specs.declared.c_typing_function_bodies.functions.FunctionType.{FunctionType}
use Rattle.c_typing_statements.specs.c_typing_function_bodies.Functions.{judge_function}
use Rattle.c_typing_function_sound.proofs.CStatementLaws.Functions.{function_leaves}

-- the names are left whatever the context is
abbrev nowhere : Context
nowhere = record { structs = []; globals = []; functions = []; locals = [] }

none_below : (k : ℕ) → k < 0 → ⊥
none_below k h = omega arith

nowhere_lawful : IsLawfulContext nowhere
nowhere_lawful = λ k d small. absurd (none_below k small)

pub judge_leaves : (x : Expr) (s : JudgementState) → (judge x s).1.0 ≡ s.0
judge_leaves x s = (judge_walks nowhere nowhere_lawful ⊥ x s (λ v. absurd v) (λ v. absurd v)).env

pub derive_leaves : (at : ℕ) (node : TypeNode) (of : Option DeclaredType) (s : JudgementState) → (derive at node of s).1.0 ≡ s.0
derive_leaves at node of s = (derive_walks nowhere nowhere_lawful ⊥ at node of s (λ v. absurd v) (λ v known. absurd v)).env

pub function_env : (d : Declaration) (of : Option FunctionType) (list : List Stmt) (s : JudgementState) → (judge_function d of list s).1.0 ≡ s.0
function_env d of list s = (function_leaves nowhere nowhere_lawful d of list s).env
