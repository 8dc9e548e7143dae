-- the calls so far stand behind what was there
use Rattle.std.proofs.Common.{◌≡◌, ◌++◌, flat_map, string_bytes}
use Rattle.std.specs.List.{range_with_len}
use Rattle.work_gen.specs.Generator.{call_statement}
use Rattle.work_gen.proofs.lines.put_calls.Given as goal

abbrev pub invariant-loop-k : goal.invariant-loop-k
invariant-loop-k l =
    string_bytes l.text ≡ string_bytes l.initial.text ++ flat_map call_statement (range_with_len 0 l.k)
