-- What is said of the code of statements.
use Rattle.std.specs.Prelude.{◌≡◌, ℕ, List, slice_get, Some, None}
use Rattle.suifvm_ir.specs.declared.insn.VmInsn.{VmInsn}
use Rattle.c_typed_tree.specs.declared.types.StructDef.{StructDef}
use Rattle.c_typed_tree.specs.declared.units.Local.{Local}
use Rattle.c_typed_tree.specs.Types.{Void}
use Rattle.c_typed_tree.specs.Expressions.{Expr, type_of}
use Rattle.c_typed_tree.specs.Statements.{Stmt, If, Break, Continue, Return, Expression, Empty, no_else, else_stmt, Stmts, no_stmts, more_stmts}
use Rattle.c_semantics.specs.Runs.{Run}
use Rattle.c_semantics.specs.Objects.{Scope}
use Rattle.c_semantics.specs.Executes.{StatementFlow}
use Rattle.lowering_code.specs.Statements.{stmt_code}
use Rattle.lowering_states.specs.lowering_expression_places.Behind.{IsLeft}
use Rattle.lowering_expression_laws.specs.Parts.{Setting, ExprMeets}
use Rattle.lowering_expression_laws.specs.Laws.{IsScalarType}
use Rattle.lowering_statement_laws.specs.Parts.{StmtMeets, StmtsMeet}

abbrev pub StatementCodeIsLeft : Type 0
StatementCodeIsLeft =
    (blocks : List (List VmInsn)) (last : ℕ) (end : List VmInsn) (locals : ℕ) (ds : List StructDef) (ls : List Local)
    (break_to continue_to : ℕ) (x : Stmt) → IsLeft blocks last end
    (λ is. stmt_code locals ds ls break_to continue_to x is)

pub record Statements (c : Setting) (again : Scope → Stmt → Run StatementFlow) : Type 0 where
  pub expressions : (x : Expr) → ExprMeets c x → StmtMeets c again (Expression x)
  pub empty : StmtMeets c again Empty
  pub breaks : StmtMeets c again Break
  pub continues : StmtMeets c again Continue
  -- without a value from a function of type void, and with one of its type from any other
  pub returns : c.result ≡ Void → StmtMeets c again (Return None)
  pub values : (x : Expr) → type_of x ≡ c.result → IsScalarType (type_of x) → ExprMeets c x
      → StmtMeets c again (Return (Some x))
  pub choices : (x : Expr) (s t : Stmt) → IsScalarType (type_of x) → ExprMeets c x → StmtMeets c again s
      → StmtMeets c again t → StmtMeets c again (If x s (else_stmt t))
  pub conditions : (x : Expr) (s : Stmt) → IsScalarType (type_of x) → ExprMeets c x → StmtMeets c again s
      → StmtMeets c again (If x s no_else)
  pub none : StmtsMeet c again no_stmts
  pub more : (s : Stmt) (ss : Stmts) → StmtMeets c again s → StmtsMeet c again ss
      → StmtsMeet c again (more_stmts s ss)

abbrev pub StatementsMeet : Type 0
StatementsMeet =
    (c : Setting) (again : Scope → Stmt → Run StatementFlow) → slice_get c.functions c.number ≡ Some c.code →
    Statements c again
