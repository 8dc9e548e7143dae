use Rattle.std.proofs.Common.{arith}
use Rattle.mem_objects.specs.Globals.{IsLawfulObject}
use Rattle.mem_object_checks.proofs.Alls.{all_more, all_done}
use Rattle.mem_object_checks.proofs.objects.all_lawful_objects.Goals as goal

pub loop-object-preserved : goal.loop-object-preserved
loop-object-preserved c =
    all_more (IsLawfulObject c.args.globals.now) c.args.globals.now c.loop-object.object-index c.object-item.result
    c.loop-object-test.true c.object-item.is c.loop-object.invariant c.if-not-is_lawful_object.ensures

pub returns : goal.returns
returns c =
    all_done (IsLawfulObject c.args.globals.now) c.args.globals.now c.loop-object.object-index (omega arith)
    c.loop-object.invariant
