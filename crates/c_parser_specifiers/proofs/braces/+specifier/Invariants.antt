use Rattle.std.proofs.Common.{◌≡◌, [], length, ◌+◌, ◌-◌, ◌*◌}
use Rattle.c_parser_grammar.specs.ParseSpecifiers.{struct_declarations_from, specifier}
use Rattle.c_parser_specifiers.proofs.braces.+specifier.Given as goal

abbrev pub invariant-struct_declarations-loop-turn : goal.invariant-struct_declarations-loop-turn
invariant-struct_declarations-loop-turn l = struct_declarations_from l.scope l.depth (specifier l.scope l.depth) (length l.fn.tokens) [] l.fn.tokens ≡ struct_declarations_from l.scope l.depth (specifier l.scope l.depth) (l._turn-end - l._turn) l.found l.tokens

abbrev pub decreases-specifier : goal.decreases-specifier
decreases-specifier l = 10 * l.depth

abbrev pub decreases-struct_declaration : goal.decreases-struct_declaration
decreases-struct_declaration l = 10 * l.depth + 1

abbrev pub decreases-struct_declarations : goal.decreases-struct_declarations
decreases-struct_declarations l = 10 * l.depth + 2

abbrev pub decreases-braces : goal.decreases-braces
decreases-braces l = 10 * l.depth + 3

abbrev pub decreases-tag_or_body : goal.decreases-tag_or_body
decreases-tag_or_body l = 10 * l.depth + 4
