-- The origins so far.
use Rattle.std.proofs.Common.{◌≡◌, map, take}
use Rattle.flow_clean.specs.model.Origins.{origin}
use Rattle.flow_clean.proofs.origins.origins.Given as goal

abbrev pub invariant-loop-register : goal.invariant-loop-register
invariant-loop-register l = l.made ≡ map (origin l.writes l.start) (take l.register-index l.registers)
