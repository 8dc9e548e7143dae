-- What is said of the code of blocks, of declarations, and of a `for` that declares (C99 6.7.8, 6.8.2, 6.8.5.3).
use Rattle.std.specs.Prelude.{◌≡◌, ◌≤◌, ℕ, true, List, [], ◌∷◌, slice_get, Option, Some, None}
use Rattle.mem_objects.specs.declared.TheConstants.{MOST_DATA}
use Rattle.c_typed_tree.specs.declared.types.StructDef.{StructDef}
use Rattle.c_typed_tree.specs.declared.units.Local.{Local}
use Rattle.c_typed_tree.specs.Types.{Struct}
use Rattle.c_typed_tree.specs.View.{type_view}
use Rattle.c_typed_tree.specs.Layout.{size_of}
use Rattle.c_typed_tree.specs.Expressions.{Expr, type_of}
use Rattle.c_typed_tree.specs.Statements.{LocalDeclaration, Stmt, Stmts, Block, Declare, For, Locals}
use Rattle.c_typed_tree.specs.Declarations.{declarations, stmts_declarations}
use Rattle.c_semantics.specs.Runs.{Run}
use Rattle.c_semantics.specs.Objects.{Scope}
use Rattle.c_semantics.specs.Executes.{StatementFlow, declared_in, declared_first}
use Rattle.lowering_expression_laws.specs.Parts.{Setting, ExprMeets}
use Rattle.lowering_expression_laws.specs.Laws.{IsScalarType}
use Rattle.lowering_expression_laws.specs.lowering_access_laws.Laws.{IsWholeStruct}
use Rattle.lowering_statement_laws.specs.Parts.{StmtMeets, StmtsMeet}
use Rattle.lowering_statement_laws.specs.lowering_for_laws.LoweringLoopLaws.{LevelMeanings, at_level, AreLevels}
use Rattle.lowering_statement_laws.specs.lowering_for_laws.Laws.{StepMeets, ConditionMeets}

-- a local is there, and no larger than the data may be where it is an object
pub record MayDeclare (structs : List StructDef) (locals : List Local) (k : ℕ) : Type 0 where
  pub local : Local
  pub found : slice_get locals k ≡ Some local
  pub small : local.in_memory ≡ true → size_of structs (type_view local.ty) ≤ MOST_DATA

abbrev pub MayDeclareAll : List StructDef → List Local → List ℕ → Type 0
MayDeclareAll structs locals [] = Unit {0}
MayDeclareAll structs locals (k ∷ ks) = MayDeclare structs locals k × MayDeclareAll structs locals ks

-- the code of each declaration does what it does
abbrev pub AllDeclarationsMeet : (c : Setting) → (Scope → Stmt → Run StatementFlow) → List LocalDeclaration → Type 0
AllDeclarationsMeet c again [] = Unit {0}
AllDeclarationsMeet c again (d ∷ ds) = StmtMeets c again (Declare d) × AllDeclarationsMeet c again ds

pub record Declarations (c : Setting) (again : Scope → Stmt → Run StatementFlow) : Type 0 where
  -- a block declares each local once at most
  pub blocks : (ss : Stmts) → MayDeclareAll c.structs c.locals (declared_in ss) →
      ((k : ℕ) → stmts_declarations k ss ≤ 1)
      → StmtsMeet c again ss → StmtMeets c again (Block ss)
  pub without_value : (k : ℕ) (l : Local) → slice_get c.locals k ≡ Some l
      → StmtMeets c again (Declare (record { number = k; init = None }))
  pub with_scalar : (k : ℕ) (l : Local) (x : Expr) → slice_get c.locals k ≡ Some l → IsScalarType (type_view l.ty)
      → type_of x ≡ type_view l.ty → ExprMeets c x
      → StmtMeets c again (Declare (record { number = k; init = Some x }))
  -- a struct stands in memory
  pub with_struct : (k : ℕ) (l : Local) (x : Expr) (number : ℕ) → slice_get c.locals k ≡ Some l → l.in_memory ≡ true
      → type_view l.ty ≡ Struct number → type_of x ≡ type_view l.ty → IsWholeStruct c number → ExprMeets c x
      → StmtMeets c again (Declare (record { number = k; init = Some x }))

abbrev pub DeclarationsMeet : Type 0
DeclarationsMeet =
    (c : Setting) (again : Scope → Stmt → Run StatementFlow) → slice_get c.functions c.number ≡ Some c.code
    → Declarations c again

-- a `for` whose first part declares locals, each once at most in the whole of it
abbrev pub DeclaringForLoopsMeet : Type 0
DeclaringForLoopsMeet =
    (c : Setting) (levels : LevelMeanings) → slice_get c.functions c.number ≡ Some c.code → AreLevels c levels →
    (ds : List LocalDeclaration) (condition step : Option Expr) (body : Stmt) →
    MayDeclareAll c.structs c.locals (declared_first (Locals ds)) →
    ((k : ℕ) → declarations k (For (Locals ds) condition step body) ≤ 1) →
    ((k : ℕ) → AllDeclarationsMeet (at_level c levels k) (levels.statements k) ds) →
    ((k : ℕ) → ConditionMeets (at_level c levels k) condition) → ((k : ℕ) → StepMeets (at_level c levels k) step) →
    ((k : ℕ) → StmtMeets (at_level c levels k) (levels.statements k) body) → (k : ℕ) →
    StmtMeets (at_level c levels k) (levels.statements k) (For (Locals ds) condition step body)
