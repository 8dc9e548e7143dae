-- Whether an expression begins, by its first token.
use Rattle.std.specs.Prelude.{Bool, true, false, not, List}
use Rattle.c_lexer.specs.Pieces.{Lexeme}
use Rattle.c_parser_grammar.specs.declared.classes.Prefix.{Prefix}
use Rattle.c_parser_grammar.specs.declared.classes.Prefix.TheVariants as f
use Rattle.c_parser_grammar.specs.Classes.{prefix_of}
use Rattle.c_parser_grammar.specs.Tokens.{TypeNames, kind_at, is_type_at}

-- whether an expression begins with such a token, which is the name of a type or not
abbrev pub begins_by : Prefix → Bool → Bool
begins_by f.Name is_type = not is_type
begins_by f.Nothing is_type = false
begins_by _ is_type = true

-- whether an expression begins here
abbrev pub begins : TypeNames → List Lexeme → Bool
begins s ts = begins_by (prefix_of (kind_at ts)) (is_type_at s ts)
