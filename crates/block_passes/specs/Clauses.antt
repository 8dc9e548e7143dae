-- What each pass is for.
use Rattle.temp_ir.specs.Insns.{targets_of, flows_on_of}
use Rattle.temp_ir.specs.Programs.{TempFn}
use Rattle.cfg.specs.Paths.{AllReached}
use Rattle.cfg_edges.specs.Critical.{NoneCritical}

-- a path leads to each block of a function
abbrev pub IsReached : TempFn → Type 0
IsReached f = AllReached targets_of flows_on_of f.blocks

-- none of its edges has to be split
abbrev pub IsSplit : TempFn → Type 0
IsSplit f = NoneCritical targets_of flows_on_of f.blocks
