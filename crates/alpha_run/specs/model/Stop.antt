-- How a single step tells that a run stops.
use Rattle.std.specs.Prelude.{Bool, true, false}
use Rattle.alpha_run.specs.declared.ending.Ending.{Ending}
use Rattle.alpha_run.specs.declared.ending.Ending.TheVariants.{Budget}

-- a run that does not stop because its steps are done
abbrev pub stops_early : Ending → Bool
stops_early Budget = false
stops_early _ = true
