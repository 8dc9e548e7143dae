use Rattle.c_semantics.proofs.RefinesExpr.{within_refines}
use Rattle.c_semantics.proofs.RefinesStmt.{stmt_refines}
use Rattle.c_semantics.proofs.RefinesUnit.{unit_refines}
use Rattle.c_semantics.proofs.laws.refinements_go_through.Goals as goal

pub returns : goal.returns
returns g = record {
  expressions = λ x y h. within_refines h;
  statements = λ s t h. stmt_refines h;
  units = unit_refines;
}
