-- What is said of the code of a `switch` (C99 6.8.4.2): its value is compared with each label in their order, and the
-- sections stand one behind the other.
use Rattle.std.specs.Prelude.{◌≡◌, true, slice_get, Some}
use Rattle.bk_arithmetic.specs.declared.integer_type.IntegerType.{IntegerType}
use Rattle.bk_arithmetic.specs.IntegerTypes.{promote}
use Rattle.bk_arithmetic.specs.Words.{is_word}
use Rattle.c_typed_tree.specs.declared.statements.TLabel.{TLabel}
use Rattle.c_typed_tree.specs.declared.statements.TLabel.TheVariants.{Case, Default}
use Rattle.c_typed_tree.specs.Expressions.{Expr, type_of}
use Rattle.c_typed_tree.specs.Statements.{Stmt, Switch, Sections, no_sections, more_sections}
use Rattle.c_semantics.specs.Runs.{Run}
use Rattle.c_semantics.specs.Objects.{Scope}
use Rattle.c_semantics.specs.Executes.{StatementFlow}
use Rattle.lowering_code.specs.Expressions.{plain_of}
use Rattle.lowering_expression_laws.specs.Parts.{Setting, ExprMeets}
use Rattle.lowering_statement_laws.specs.Parts.{StmtMeets, StmtsMeet}

-- the value of a label is a word of the type in which they are compared
abbrev pub IsLabelOf : IntegerType → TLabel → Type 0
IsLabelOf t (Case word) = is_word t word ≡ true
IsLabelOf t Default = Unit {0}

-- the code of the statements of each section does what they do
abbrev pub SectionsMeet : (c : Setting) → (Scope → Stmt → Run StatementFlow) → IntegerType → Sections → Type 0
SectionsMeet c again t no_sections = Unit {0}
SectionsMeet c again t (more_sections label ss rest) =
    IsLabelOf t label × StmtsMeet c again ss × SectionsMeet c again t rest

abbrev pub SwitchesMeet : Type 0
SwitchesMeet =
    (c : Setting) (again : Scope → Stmt → Run StatementFlow) → slice_get c.functions c.number ≡ Some c.code →
    (t : IntegerType) (x : Expr) (sections : Sections) → promote t ≡ t → type_of x ≡ plain_of t → ExprMeets c x →
    SectionsMeet c again t sections → StmtMeets c again (Switch x sections)
