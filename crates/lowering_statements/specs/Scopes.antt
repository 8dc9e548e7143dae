-- The code of the statements of a function, by what its numbers name.
use Rattle.std.specs.Prelude.{ℕ, List, map, Option}
use Rattle.c_typed_tree.specs.declared.statements.TLabel.{TLabel}
use Rattle.c_typed_tree.specs.Types.{PlainType}
use Rattle.c_typed_tree.specs.Expressions.{Expr}
use Rattle.c_typed_tree.specs.Statements.{LocalDeclaration, First, Stmt}
use Rattle.lowering_code.specs.declared.item.CodeItem.{CodeItem}
use Rattle.lowering_code.specs.Statements as code
use Rattle.lowering_expressions.specs.declared.scope.LoweringScope.{LoweringScope}
use Rattle.lowering_statements.specs.declared.labels.LabelTarget.{LabelTarget}

-- ---- labels

abbrev pub target_view : LabelTarget → code.Target
target_view t = record { label = t.label; name = t.name }

abbrev pub label_code : LoweringScope → PlainType → TLabel → (name : ℕ) → List CodeItem → List CodeItem
label_code s ty label name rest = code.label_code s.registers.locals s.structs.now s.locals.now ty label name rest

abbrev pub labels_code : LoweringScope → PlainType → List LabelTarget → List CodeItem → List CodeItem
labels_code s ty targets rest =
    code.labels_code s.registers.locals s.structs.now s.locals.now ty (map target_view targets) rest

abbrev pub default_name : (otherwise : ℕ) → List LabelTarget → ℕ
default_name otherwise targets = code.default_name otherwise (map target_view targets)

-- ---- values

abbrev pub declare_code : LoweringScope → LocalDeclaration → List CodeItem → List CodeItem
declare_code s d rest = code.declare_code s.registers.locals s.structs.now s.locals.now d rest

abbrev pub first_code : LoweringScope → First → List CodeItem → List CodeItem
first_code s first rest = code.first_code s.registers.locals s.structs.now s.locals.now first rest

abbrev pub again_code : LoweringScope → Expr → List CodeItem → List CodeItem
again_code s x rest = code.again_code s.registers.locals s.structs.now s.locals.now x rest

abbrev pub test_code : LoweringScope → Option Expr → List CodeItem → List CodeItem
test_code s x rest = code.test_code s.registers.locals s.structs.now s.locals.now x rest

abbrev pub after_code : LoweringScope → Option Expr → List CodeItem → List CodeItem
after_code s x rest = code.after_code s.registers.locals s.structs.now s.locals.now x rest

abbrev pub return_code : LoweringScope → Option Expr → List CodeItem → List CodeItem
return_code s x rest = code.return_code s.registers.locals s.structs.now s.locals.now x rest

-- ---- statements

abbrev pub stmt_code : LoweringScope → (break_to continue_to : ℕ) → Stmt → List CodeItem → List CodeItem
stmt_code s brk con x rest = code.stmt_code s.registers.locals s.structs.now s.locals.now brk con x rest
