use Rattle.std.proofs.Common.{◌≡◌, ◌≤◌, drop, map}
use Rattle.c_parser_nesting.specs.Nesting.{levels, nesting}
use Rattle.c_parser_nesting.specs.HasNesting.{role_of_token}
use Rattle.c_parser_nesting.specs.model.Walking.{state_of, total_of}
use Rattle.c_parser_nesting.proofs.Resume.{resume_from}
use Rattle.c_parser_nesting.proofs.nesting.nesting_of.Given as goal

abbrev pub invariant-loop-token : goal.invariant-loop-token
invariant-loop-token l = record {
  value : resume_from (state_of l.walk) (levels (map role_of_token (drop l.token-index l.tokens))) ≡ nesting (map role_of_token l.tokens);
  within : total_of (state_of l.walk) ≤ l.token-index;
}
