use Rattle.std.proofs.Common.{◌≡◌, ◌++◌, drop, length}
use Rattle.binpack_scan.specs.model.Edges.{shifts}
use Rattle.binpack_scan.proofs.crossing.put_shifts.Given as goal

abbrev pub invariant-loop-m : goal.invariant-loop-m
invariant-loop-m l = record {
  code : l.code ++ shifts (drop l.m-index l.made) l.holders ≡ l.initial.code ++ shifts l.made l.initial.holders;
  many : length l.holders ≡ 256;
}
