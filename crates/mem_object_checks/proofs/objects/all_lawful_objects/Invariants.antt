use Rattle.std.proofs.Common.{take, All}
use Rattle.mem_objects.specs.Globals.{IsLawfulObject}
use Rattle.mem_object_checks.proofs.objects.all_lawful_objects.Given as goal

abbrev pub invariant-loop-object : goal.invariant-loop-object
invariant-loop-object l = All (IsLawfulObject l.globals) (take l.object-index l.globals)
