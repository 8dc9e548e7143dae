use Rattle.std.proofs.Common.{◌≡◌, [], ◌+◌, ◌-◌, ◌*◌, length}
use Rattle.c_parser_grammar.specs.Levels as levels
use Rattle.c_parser_grammar.specs.ParseExpr as model
use Rattle.c_parser_expressions.proofs.expressions.+expr.Given as goal

abbrev pub decreases-assignments : goal.decreases-assignments
decreases-assignments l = 10 * l.depth + 1

abbrev pub decreases-whole : goal.decreases-whole
decreases-whole l = 10 * l.depth + 2

abbrev pub decreases-type_name : goal.decreases-type_name
decreases-type_name l = 10 * l.depth + 1

abbrev pub decreases-parameter : goal.decreases-parameter
decreases-parameter l = 10 * l.depth + 1

abbrev pub decreases-parameter_list : goal.decreases-parameter_list
decreases-parameter_list l = 10 * l.depth + 2

abbrev pub decreases-parameters_behind : goal.decreases-parameters_behind
decreases-parameters_behind l = 10 * l.depth + 3

abbrev pub decreases-arguments_behind : goal.decreases-arguments_behind
decreases-arguments_behind l = 10 * l.depth + 2

abbrev pub decreases-behind_name : goal.decreases-behind_name
decreases-behind_name l = 10 * l.depth + 3

abbrev pub decreases-cast_behind : goal.decreases-cast_behind
decreases-cast_behind l = 10 * l.depth + 2

abbrev pub decreases-brackets_behind : goal.decreases-brackets_behind
decreases-brackets_behind l = 10 * l.depth + 3

abbrev pub decreases-sizeof_type_name : goal.decreases-sizeof_type_name
decreases-sizeof_type_name l = 10 * l.depth + 2

abbrev pub decreases-sizeof_unary : goal.decreases-sizeof_unary
decreases-sizeof_unary l = 10 * l.depth + 1

abbrev pub decreases-sizeof_behind : goal.decreases-sizeof_behind
decreases-sizeof_behind l = 10 * l.depth + 3

abbrev pub decreases-assignment : goal.decreases-assignment
decreases-assignment l = 10 * l.depth + 1

abbrev pub decreases-binary : goal.decreases-binary
decreases-binary l = 10 * l.depth + 1

abbrev pub decreases-bracket_operand : goal.decreases-bracket_operand
decreases-bracket_operand l = 10 * l.depth + 4

abbrev pub decreases-index : goal.decreases-index
decreases-index l = 10 * l.depth + 3

abbrev pub decreases-name_or_call : goal.decreases-name_or_call
decreases-name_or_call l = 10 * l.depth + 4

abbrev pub decreases-unary : goal.decreases-unary
decreases-unary l = 10 * l.depth + 1

abbrev pub decreases-operand : goal.decreases-operand
decreases-operand l = 10 * l.depth + 5

abbrev pub decreases-step : goal.decreases-step
decreases-step l = 10 * l.depth + 4

abbrev pub decreases-choice : goal.decreases-choice
decreases-choice l = 10 * l.depth + 3

abbrev pub decreases-climb : goal.decreases-climb
decreases-climb l = 10 * l.depth + 5

abbrev pub decreases-expr : goal.decreases-expr
decreases-expr l = 10 * l.depth

abbrev pub decreases-array_length : goal.decreases-array_length
decreases-array_length l = 10 * l.depth + 1

abbrev pub decreases-suffixes : goal.decreases-suffixes
decreases-suffixes l = 10 * l.depth + 4

abbrev pub decreases-group_behind : goal.decreases-group_behind
decreases-group_behind l = 10 * l.depth + 2

abbrev pub decreases-core : goal.decreases-core
decreases-core l = 10 * l.depth + 3

abbrev pub decreases-pointer_declarator : goal.decreases-pointer_declarator
decreases-pointer_declarator l = 10 * l.depth + 1

abbrev pub decreases-declarator : goal.decreases-declarator
decreases-declarator l = 10 * l.depth

abbrev pub invariant-assignments-loop-turn : goal.invariant-assignments-loop-turn
invariant-assignments-loop-turn l = model.list_from (model.expr l.scope l.depth levels.assignment) (length l.fn.tokens) [] l.fn.tokens ≡ model.list_from (model.expr l.scope l.depth levels.assignment) (l._turn-end - l._turn) l.found l.tokens

abbrev pub invariant-parameter_list-loop-turn : goal.invariant-parameter_list-loop-turn
invariant-parameter_list-loop-turn l = model.list_from (model.parameter l.scope (model.expr l.scope l.depth) (model.declarator l.scope l.depth)) (length l.fn.tokens) [] l.fn.tokens ≡ model.list_from (model.parameter l.scope (model.expr l.scope l.depth) (model.declarator l.scope l.depth)) (l._turn-end - l._turn) l.found l.tokens

abbrev pub invariant-climb-loop-turn : goal.invariant-climb-loop-turn
invariant-climb-loop-turn l = model.climb l.scope (model.expr l.scope l.depth) (model.declarator l.scope l.depth) l.at l.least (length l.fn.tokens) l.fn.first.1 l.fn.first.0 l.fn.tokens ≡ model.climb l.scope (model.expr l.scope l.depth) (model.declarator l.scope l.depth) l.at l.least (l._turn-end - l._turn) l.level l.left l.tokens

abbrev pub invariant-suffixes-loop-turn : goal.invariant-suffixes-loop-turn
invariant-suffixes-loop-turn l = model.suffixes l.scope (model.expr l.scope l.depth) (model.declarator l.scope l.depth) (length l.fn.tokens) l.fn.found l.fn.tokens ≡ model.suffixes l.scope (model.expr l.scope l.depth) (model.declarator l.scope l.depth) (l._turn-end - l._turn) l.found l.tokens
