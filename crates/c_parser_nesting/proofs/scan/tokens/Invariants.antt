use Rattle.std.proofs.Common.{◌≡◌, ◌-◌, ◌≤◌, length, vec_len}
use Rattle.c_lexer.specs.Pieces.{Pieces, lexemes}
use Rattle.c_parser_nesting.proofs.scan.tokens.Given as goal

abbrev pub invariant-loop-tokens : goal.invariant-loop-tokens
invariant-loop-tokens l = record {
  same_text : l.text ≡ l.lexer.text;
  so_far : Pieces l.text 0 (lexemes l.text l.tokens.items) l.lexer.at;
  count : vec_len l.tokens ≤ l.lexer.at;
  within : l.lexer.at ≤ length l.text;
}

abbrev pub decreases-loop-tokens : goal.decreases-loop-tokens
decreases-loop-tokens l = length l.text - l.lexer.at
