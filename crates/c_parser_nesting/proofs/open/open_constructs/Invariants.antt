use Rattle.std.proofs.Common.{◌≡◌, ◌≤◌, [], length, map, max}
use Rattle.c_parser_nesting.specs.OpenConstructs.{most_open_from, kind_of_token}
use Rattle.c_parser_nesting.specs.model.Opening.{open_of}
use Rattle.c_parser_nesting.proofs.open.open_constructs.Given as goal

abbrev pub invariant-loop-kind : goal.invariant-loop-kind
invariant-loop-kind l = record {
  value : max l.most (most_open_from (open_of l.walk) (map kind_of_token l.left)) ≡ most_open_from [] (map kind_of_token l.tokens);
  counted : length (open_of l.walk) ≤ l.most;
}

abbrev pub decreases-loop-kind : goal.decreases-loop-kind
decreases-loop-kind l = length l.left
