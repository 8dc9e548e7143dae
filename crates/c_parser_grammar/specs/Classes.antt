-- What a token may be to what stands before or behind it.
use Rattle.std.specs.Prelude.{Bool, true, false}
use Rattle.c_lexer.specs.declared.token.TokenKind.{TokenKind}
use Rattle.c_lexer.specs.declared.token.TokenKind.TheVariants as k
use Rattle.c_lexer.specs.declared.token.Keyword.TheVariants as w
use Rattle.c_lexer.specs.declared.token.Punct.{Punct}
use Rattle.c_lexer.specs.declared.token.Punct.TheVariants as p
use Rattle.c_tree.specs.declared.expressions.UnaryOp.TheVariants as u
use Rattle.c_tree.specs.declared.expressions.StepOp.TheVariants as s
use Rattle.c_tree.specs.declared.expressions.BinaryOp.TheVariants as b
use Rattle.c_tree.specs.declared.expressions.AssignOp.TheVariants as a
use Rattle.c_parser_grammar.specs.declared.classes.Infix.{Infix}
use Rattle.c_parser_grammar.specs.declared.classes.Infix.TheVariants as i
use Rattle.c_parser_grammar.specs.declared.classes.Prefix.{Prefix}
use Rattle.c_parser_grammar.specs.declared.classes.Prefix.TheVariants as f
use Rattle.c_parser_grammar.specs.declared.classes.Specifier.{Specifier}
use Rattle.c_parser_grammar.specs.declared.classes.Specifier.TheVariants as c
use Rattle.c_parser_grammar.specs.declared.classes.Head.{Head}
use Rattle.c_parser_grammar.specs.declared.classes.Head.TheVariants as h
use Rattle.c_parser_grammar.specs.declared.classes.StorageClass.{StorageClass}
use Rattle.c_parser_grammar.specs.declared.classes.StorageClass.TheVariants as o
use Rattle.c_parser_grammar.specs.declared.classes.TypeWord.TheVariants as t

abbrev pub infix_mark : Punct → Infix
infix_mark p.Comma = i.Comma
infix_mark p.Assign = i.Assign a.Set
infix_mark p.StarAssign = i.Assign a.Multiply
infix_mark p.SlashAssign = i.Assign a.Divide
infix_mark p.PercentAssign = i.Assign a.Remainder
infix_mark p.PlusAssign = i.Assign a.Add
infix_mark p.MinusAssign = i.Assign a.Subtract
infix_mark p.ShiftLeftAssign = i.Assign a.ShiftLeft
infix_mark p.ShiftRightAssign = i.Assign a.ShiftRight
infix_mark p.AmpersandAssign = i.Assign a.And
infix_mark p.CaretAssign = i.Assign a.Xor
infix_mark p.BarAssign = i.Assign a.Or
infix_mark p.Question = i.Conditional
infix_mark p.OrOr = i.Binary b.LogicalOr
infix_mark p.AndAnd = i.Binary b.LogicalAnd
infix_mark p.Bar = i.Binary b.Or
infix_mark p.Caret = i.Binary b.Xor
infix_mark p.Ampersand = i.Binary b.And
infix_mark p.EqualEqual = i.Binary b.Equal
infix_mark p.NotEqual = i.Binary b.NotEqual
infix_mark p.LessThan = i.Binary b.Less
infix_mark p.GreaterThan = i.Binary b.Greater
infix_mark p.LessOrEqual = i.Binary b.LessEqual
infix_mark p.GreaterOrEqual = i.Binary b.GreaterEqual
infix_mark p.ShiftLeft = i.Binary b.ShiftLeft
infix_mark p.ShiftRight = i.Binary b.ShiftRight
infix_mark p.Plus = i.Binary b.Add
infix_mark p.Minus = i.Binary b.Subtract
infix_mark p.Star = i.Binary b.Multiply
infix_mark p.Slash = i.Binary b.Divide
infix_mark p.Percent = i.Binary b.Remainder
infix_mark p.LeftBracket = i.Index
infix_mark p.Dot = i.Field
infix_mark p.Arrow = i.Arrow
infix_mark p.Increment = i.Step s.Increment
infix_mark p.Decrement = i.Step s.Decrement
infix_mark p.LeftParen = i.Tight
infix_mark _ = i.Nothing

-- behind an expression (C99 6.5.2 to 6.5.17)
abbrev pub infix_of : TokenKind → Infix
infix_of k.Text = i.Tight
infix_of (k.Mark mark) = infix_mark mark
infix_of _ = i.Nothing

abbrev pub prefix_mark : Punct → Prefix
prefix_mark p.LeftParen = f.Bracket
prefix_mark p.Increment = f.Step u.Increment
prefix_mark p.Decrement = f.Step u.Decrement
prefix_mark p.Ampersand = f.Unary u.Address
prefix_mark p.Star = f.Unary u.Dereference
prefix_mark p.Plus = f.Unary u.Plus
prefix_mark p.Minus = f.Unary u.Minus
prefix_mark p.Tilde = f.Unary u.Invert
prefix_mark p.Exclamation = f.Unary u.Not
prefix_mark _ = f.Nothing

-- where an expression begins (C99 6.5.1 and 6.5.3)
abbrev pub prefix_of : TokenKind → Prefix
prefix_of k.Name = f.Name
prefix_of k.Number = f.Number
prefix_of k.Char = f.Character
prefix_of k.Text = f.Text
prefix_of (k.Word w.Sizeof) = f.SizeOf
prefix_of (k.Mark mark) = prefix_mark mark
prefix_of _ = f.Nothing

-- where a type may begin (C99 6.7.2 and 6.7.3)
abbrev pub specifier_of : TokenKind → Specifier
specifier_of k.Name = c.Name
specifier_of (k.Word w.Const) = c.Const
specifier_of (k.Word w.Struct) = c.Struct
specifier_of (k.Word w.Enum) = c.Enum
specifier_of (k.Word w.Void) = c.Word t.Void
specifier_of (k.Word w.Char) = c.Word t.Char
specifier_of (k.Word w.Short) = c.Word t.Short
specifier_of (k.Word w.Int) = c.Word t.Int
specifier_of (k.Word w.Long) = c.Word t.Long
specifier_of (k.Word w.Signed) = c.Word t.Signed
specifier_of (k.Word w.Unsigned) = c.Word t.Unsigned
specifier_of _ = c.Nothing

-- where a statement begins (C99 6.8)
abbrev pub head_of : TokenKind → Head
head_of (k.Mark p.LeftBrace) = h.Block
head_of (k.Mark p.Semicolon) = h.Empty
head_of (k.Word w.If) = h.If
head_of (k.Word w.While) = h.While
head_of (k.Word w.Do) = h.Do
head_of (k.Word w.For) = h.For
head_of (k.Word w.Switch) = h.Switch
head_of (k.Word w.Break) = h.Break
head_of (k.Word w.Continue) = h.Continue
head_of (k.Word w.Return) = h.Return
head_of _ = h.Other

-- where an external declaration begins (C99 6.7.1 and 6.9)
abbrev pub storage_class_of : TokenKind → StorageClass
storage_class_of (k.Word w.Typedef) = o.Typedef
storage_class_of (k.Word w.Static) = o.Static
storage_class_of (k.Word w.Extern) = o.Extern
storage_class_of _ = o.Other

-- whether a type begins with such a token, which is the name of a type or not
abbrev pub begins_type_by : Specifier → Bool → Bool
begins_type_by c.Name is_type = is_type
begins_type_by c.Nothing is_type = false
begins_type_by _ is_type = true
