-- The plain data of lists of statements and sections, and of what may be missing.
use Rattle.std.specs.Prelude.{List, [], ◌∷◌, Option, Some, None}
use Rattle.c_typed_tree.specs.declared.statements.TSection.{TSection}
use Rattle.c_typed_tree.specs.declared.statements.TStmt.{TStmt}
use Rattle.c_typed_tree.specs.Statements.{Else, no_else, else_stmt, Sections, no_sections, more_sections}
use Rattle.c_typed_tree.specs.View.{stmt_view}
use Rattle.c_typed_tree.specs.model.View.{stmts_view}

abbrev pub sections_view : List TSection → Sections
sections_view [] = no_sections
sections_view (x ∷ xs) = more_sections x.label (stmts_view x.statements) (sections_view xs)

abbrev pub else_view : Option TStmt → Else
else_view None = no_else
else_view (Some x) = else_stmt (stmt_view x)
