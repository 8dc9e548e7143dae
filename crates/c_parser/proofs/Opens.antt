-- The parts of the grammar's initialiser, under one name.
use Rattle.c_parser_grammar.specs.ParseUnits.{init, init_list, init_value}

unfoldable pub initialiser : Unit {0}
unfolding init init_list init_value
initialiser = tt
