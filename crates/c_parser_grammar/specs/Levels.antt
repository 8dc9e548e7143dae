-- The levels of expressions: the tighter their parts hold together, the higher (C99 6.5).
use Rattle.std.specs.Prelude.{ℕ}
use Rattle.c_tree.specs.declared.expressions.BinaryOp.{BinaryOp}
use Rattle.c_tree.specs.declared.expressions.BinaryOp.TheVariants as b
use Rattle.c_parser_grammar.specs.declared.classes.Infix.{Infix}
use Rattle.c_parser_grammar.specs.declared.classes.Infix.TheVariants as i

-- below every expression
abbrev pub none : ℕ
none = 0

abbrev pub comma : ℕ
comma = 1

abbrev pub assignment : ℕ
assignment = 2

-- An assignment and `?` group to the right: as operators they stand a level above what they make.
abbrev pub assignment_operator : ℕ
assignment_operator = 3

abbrev pub conditional : ℕ
conditional = 4

abbrev pub conditional_operator : ℕ
conditional_operator = 5

abbrev pub logical_or : ℕ
logical_or = 6

abbrev pub logical_and : ℕ
logical_and = 7

abbrev pub or : ℕ
or = 8

abbrev pub xor : ℕ
xor = 9

abbrev pub and : ℕ
and = 10

abbrev pub equality : ℕ
equality = 11

abbrev pub relational : ℕ
relational = 12

abbrev pub shift : ℕ
shift = 13

abbrev pub additive : ℕ
additive = 14

abbrev pub multiplicative : ℕ
multiplicative = 15

abbrev pub cast : ℕ
cast = 16

abbrev pub unary : ℕ
unary = 17

abbrev pub postfix : ℕ
postfix = 18

abbrev pub primary : ℕ
primary = 19

-- above every expression
abbrev pub inner : ℕ
inner = 20

-- the level of an operator between two operands (C99 6.5.5 to 6.5.14)
abbrev pub level_of : BinaryOp → ℕ
level_of b.LogicalOr = logical_or
level_of b.LogicalAnd = logical_and
level_of b.Or = or
level_of b.Xor = xor
level_of b.And = and
level_of b.Equal = equality
level_of b.NotEqual = equality
level_of b.Less = relational
level_of b.Greater = relational
level_of b.LessEqual = relational
level_of b.GreaterEqual = relational
level_of b.ShiftLeft = shift
level_of b.ShiftRight = shift
level_of b.Add = additive
level_of b.Subtract = additive
level_of b.Multiply = multiplicative
level_of b.Divide = multiplicative
level_of b.Remainder = multiplicative

-- the level of the expressions that such a token may stand behind
abbrev pub binding_level : Infix → ℕ
binding_level i.Comma = comma
binding_level (i.Assign op) = assignment_operator
binding_level i.Conditional = conditional_operator
binding_level (i.Binary op) = level_of op
binding_level i.Index = postfix
binding_level i.Field = postfix
binding_level i.Arrow = postfix
binding_level (i.Step op) = postfix
binding_level i.Tight = inner
binding_level i.Nothing = none

-- the level that an operator demands of its left operand: a unary expression before an assignment
abbrev pub operand_level : Infix → ℕ
operand_level (i.Assign op) = unary
operand_level i.Conditional = logical_or
operand_level class = binding_level class

-- the level of the expression that an operator makes
abbrev pub result_level : Infix → ℕ
result_level (i.Assign op) = assignment
result_level i.Conditional = conditional
result_level class = binding_level class
