use Rattle.std.proofs.Common.{◌≡◌, [], take}
use Rattle.par_move.specs.model.Rest.{Opened, AtChains, AtCycles}
use Rattle.par_move.proofs.moves.sequence.Given as goal

abbrev pub invariant-loop-m : goal.invariant-loop-m
invariant-loop-m l = record {
  opened : Opened (take l.m-index l.moves) l.sources l.reads;
  made : l.made.items ≡ [];
}

abbrev pub invariant-loop-r : goal.invariant-loop-r
invariant-loop-r l = AtChains l.moves l.scratch l.r l.sources l.reads l.made.items

abbrev pub invariant-loop-c : goal.invariant-loop-c
invariant-loop-c l = AtCycles l.moves l.scratch l.c l.sources l.reads l.made.items
