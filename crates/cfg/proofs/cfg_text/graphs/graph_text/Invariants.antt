use Rattle.std.proofs.Common.{◌≡◌, ◌++◌, drop}
use Rattle.cfg.specs.cfg_text.Text.{graphs_text}
use Rattle.cfg.proofs.cfg_text.graphs.graph_text.Given as goal

abbrev pub invariant-loop-function : goal.invariant-loop-function
invariant-loop-function l =
    l.out.items ++ graphs_text (drop l.function-index l.program.functions) ≡ graphs_text l.program.functions
