use Rattle.std.proofs.Common.{◌≡◌, ◌≤◌, ◌-◌, [], length}
use Rattle.c_lexer.specs.Pieces.{Pieces}
use Rattle.c_lexer.proofs.lexer.Lexer.advance.Given as goal

abbrev pub invariant-loop-before : goal.invariant-loop-before
invariant-loop-before l = record {
  in_range : l.self-inside.at ≤ length l.self-inside.text.now;
  same_text : l.self-inside.text.now ≡ l.initial.self-inside.text.now;
  skipped : Pieces l.initial.self-inside.text.now l.initial.self-inside.at [] l.self-inside.at;
}

abbrev pub decreases-loop-before : goal.decreases-loop-before
decreases-loop-before l = length l.initial.self-inside.text.now - l.self-inside.at
