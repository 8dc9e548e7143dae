-- The unit is lawful.
use Rattle.lowering.proofs.Small.{main_lawful, main_weight}
use Rattle.lowering.proofs.tests.unit.Goals as goal

pub invariant_of-result : goal.invariant_of-result
invariant_of-result c =
    let e = c.in_ok-f.ensures in
    record {
      lawful = main_lawful _ c.in_ok-f.f c.new-structs.ensures c.new-globals.ensures c.in_ok-functions.ensures
          (record { name = e.name; result = e.result; params = e.params; locals = e.locals; body = e.body });
    }

pub returns : goal.returns
returns c =
    let e = c.in_ok-f.ensures in
    main_weight _ c.in_ok-f.f c.new-structs.ensures c.new-globals.ensures c.in_ok-functions.ensures
    (record { name = e.name; result = e.result; params = e.params; locals = e.locals; body = e.body })
