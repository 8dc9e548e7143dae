-- One token of the words of a specifier.
use Rattle.std.proofs.Common.{ℕ, List}
use Rattle.c_lexer.specs.Pieces.{Lexeme}
use Rattle.c_tree.specs.declared.types.TypeNode.{TypeNode}
use Rattle.c_parser_grammar.specs.declared.classes.Specifier.{Specifier}
use Rattle.c_parser_grammar.specs.declared.word_set.WordSet.{WordSet}
use Rattle.c_parser_grammar.specs.declared.shapes.SpecifierStart.{SpecifierStart}
use Rattle.c_parser_grammar.specs.WordSets.{basic_of}
use Rattle.c_parser_grammar.specs.Tokens.{TypeNames, token_tail}
use Rattle.c_parser_grammar.specs.Parser.{ParseOutcome, Parser}
use Rattle.c_parser_grammar.specs.ParseExpr.{extend, start_of, word_or_end, words_from, specifier_behind}

-- the specifier behind its words
abbrev pub behind_words : TypeNames → (Specifier → ℕ → Parser TypeNode) → SpecifierStart × List Lexeme → ParseOutcome TypeNode
behind_words s on q = specifier_behind s on q.0 q.1

-- the specifier from a token of this class on
abbrev pub turn : TypeNames → (Specifier → ℕ → Parser TypeNode) → ℕ → WordSet → Specifier → Parser TypeNode
turn s on j x class ts = behind_words s on (word_or_end (extend x class) (λ v. words_from j v (token_tail ts)) (start_of (basic_of x) class, ts))
