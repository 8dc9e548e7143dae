-- A name for several functions of the grammar that one attribute opens together.
use Rattle.c_parser_grammar.specs.ParseStatements.{return_behind, value_line, stmt}

-- the parts of a statement
unfoldable pub statement : Unit {0}
unfolding stmt return_behind value_line
statement = tt
