-- the lines so far stand behind what was there, and two numbers were drawn for each
use Rattle.std.proofs.Common.{◌≡◌, ◌*◌, ◌++◌, flat_map, string_bytes}
use Rattle.std.specs.List.{range_with_len}
use Rattle.work_gen.specs.Generator.{after_draws, drawn_line}
use Rattle.work_gen.proofs.lines.put_functions.Given as goal

abbrev pub invariant-loop-k : goal.invariant-loop-k
invariant-loop-k l = record {
  lines : string_bytes l.text ≡ string_bytes l.initial.text ++ flat_map (drawn_line l.seed) (range_with_len 0 l.k);
  draws : l.drawn ≡ after_draws l.seed (2 * l.k);
}
