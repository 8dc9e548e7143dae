use Rattle.std.proofs.Common.{refl}
use Rattle.c_rewrite.specs.model.RewrittenUnits.{unit_rewritten}
use Rattle.c_rewrite.specs.model.RewrittenHeights.{unit_low}
use Rattle.c_rewrite.specs.model.RewrittenCounts.{lawful_rewritten}
use Rattle.c_rewrite.proofs.rewrite_units.rewrite_unit.Goals as goal

pub returns-clause-refines : goal.returns-clause-refines
returns-clause-refines c = λ typed.
    unit_rewritten c.args.unit _ typed (record { structs = refl; globals = refl; functions = c.in_ok-functions.ensures })

pub returns-clause-height : goal.returns-clause-height
returns-clause-height c = unit_low c.args.unit _ (record { structs = refl; globals = refl; functions = c.in_ok-functions.ensures })

pub returns-clause-lawful : goal.returns-clause-lawful
returns-clause-lawful c = λ lawful.
    lawful_rewritten c.args.unit _ lawful (record { structs = refl; globals = refl; functions = c.in_ok-functions.ensures })
