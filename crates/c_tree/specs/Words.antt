-- The words of the lines that print the operators, basic types and storage words.
use Rattle.std.specs.Prelude.{ℕ, List, [], ◌∷◌, ◌++◌, Option, Some, None, codes}
use Rattle.c_tree.specs.declared.expressions.UnaryOp.{UnaryOp}
use Rattle.c_tree.specs.declared.expressions.UnaryOp.TheVariants as u
use Rattle.c_tree.specs.declared.expressions.StepOp.{StepOp}
use Rattle.c_tree.specs.declared.expressions.StepOp.TheVariants as s
use Rattle.c_tree.specs.declared.expressions.BinaryOp.{BinaryOp}
use Rattle.c_tree.specs.declared.expressions.BinaryOp.TheVariants as b
use Rattle.c_tree.specs.declared.expressions.AssignOp.{AssignOp}
use Rattle.c_tree.specs.declared.expressions.AssignOp.TheVariants as a
use Rattle.c_tree.specs.declared.types.BasicType.{BasicType}
use Rattle.c_tree.specs.declared.types.BasicType.TheVariants as w
use Rattle.c_tree.specs.declared.declarations.Storage.{Storage}
use Rattle.c_tree.specs.declared.declarations.Storage.TheVariants as t

-- C99 6.5.3
abbrev pub unary_word : UnaryOp → List ℕ
unary_word u.Increment = codes "++"
unary_word u.Decrement = codes "--"
unary_word u.Address = codes "&"
unary_word u.Dereference = codes "*"
unary_word u.Plus = codes "+"
unary_word u.Minus = codes "-"
unary_word u.Invert = codes "~"
unary_word u.Not = codes "!"

-- C99 6.5.2.4
abbrev pub step_word : StepOp → List ℕ
step_word s.Increment = codes "++"
step_word s.Decrement = codes "--"

-- C99 6.5.5 to 6.5.14
abbrev pub binary_word : BinaryOp → List ℕ
binary_word b.LogicalOr = codes "||"
binary_word b.LogicalAnd = codes "&&"
binary_word b.Or = codes "|"
binary_word b.Xor = codes "^"
binary_word b.And = codes "&"
binary_word b.Equal = codes "=="
binary_word b.NotEqual = codes "!="
binary_word b.Less = codes "<"
binary_word b.Greater = codes ">"
binary_word b.LessEqual = codes "<="
binary_word b.GreaterEqual = codes ">="
binary_word b.ShiftLeft = codes "<<"
binary_word b.ShiftRight = codes ">>"
binary_word b.Add = codes "+"
binary_word b.Subtract = codes "-"
binary_word b.Multiply = codes "*"
binary_word b.Divide = codes "/"
binary_word b.Remainder = codes "%"

-- C99 6.5.16
abbrev pub assign_word : AssignOp → List ℕ
assign_word a.Set = codes "="
assign_word a.Multiply = codes "*="
assign_word a.Divide = codes "/="
assign_word a.Remainder = codes "%="
assign_word a.Add = codes "+="
assign_word a.Subtract = codes "-="
assign_word a.ShiftLeft = codes "<<="
assign_word a.ShiftRight = codes ">>="
assign_word a.And = codes "&="
assign_word a.Xor = codes "^="
assign_word a.Or = codes "|="

-- C99 6.7.2
abbrev pub basic_words : BasicType → List ℕ
basic_words w.Void = codes "void"
basic_words w.Char = codes "char"
basic_words w.SignedChar = codes "signed char"
basic_words w.UnsignedChar = codes "unsigned char"
basic_words w.Short = codes "short"
basic_words w.UnsignedShort = codes "unsigned short"
basic_words w.Int = codes "int"
basic_words w.Signed = codes "signed"
basic_words w.Unsigned = codes "unsigned"
basic_words w.Long = codes "long"
basic_words w.UnsignedLong = codes "unsigned long"

-- what stands behind a name with this storage word (C99 6.7.1)
abbrev pub storage_text : Option Storage → List ℕ
storage_text None = []
storage_text (Some t.Static) = codes " static"
storage_text (Some t.Extern) = codes " extern"

-- a name, or a dash where it is missing
abbrev pub name_or_dash : Option (List ℕ) → List ℕ
name_or_dash None = codes "-"
name_or_dash (Some name) = name

-- the spellings, with a blank before each
abbrev pub spellings_text : List (List ℕ) → List ℕ
spellings_text [] = []
spellings_text (x ∷ xs) = 32 ∷ x ++ spellings_text xs
