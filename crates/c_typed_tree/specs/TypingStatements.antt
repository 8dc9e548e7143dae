-- When a statement is well typed (C99 6.8), one line for each form.
use Rattle.std.specs.Prelude.{◌==◌, Bool, true, false, ◌&&◌, ◌||◌, not, slice_get, Option, Some, None}
use Rattle.std.specs.List.{list_all}
use Rattle.bk_arithmetic.specs.declared.integer_type.IntegerType.{IntegerType}
use Rattle.c_typed_tree.specs.declared.statements.TLabel.{TLabel}
use Rattle.c_typed_tree.specs.declared.statements.TLabel.TheVariants.{Case, Default}
use Rattle.c_typed_tree.specs.declared.units.Local.{Local}
use Rattle.c_typed_tree.specs.Types.{PlainType}
use Rattle.c_typed_tree.specs.Expressions.{Expr, type_of}
use Rattle.c_typed_tree.specs.Statements.{LocalDeclaration, First, Nothing, Value, Locals, Stmt, Block, If, While, Do, For, Switch, Break, Continue, Return, Expression, Empty, Declare, Else, no_else, else_stmt, Stmts, no_stmts, more_stmts, Sections, no_sections, more_sections}
use Rattle.c_typed_tree.specs.View.{type_view}
use Rattle.c_typed_tree.specs.Layout.{integer_of}
use Rattle.c_typed_tree.specs.Typing.{is_same_type, is_void, is_scalar, is_struct, is_array, is_promoted, is_number_of, Context, is_typed}

-- what a jump may leave (C99 6.8.6): a `break` a loop or a `switch`, a `continue` a loop
pub record Jumps : Type 0 where
  pub breaks : Bool
  pub continues : Bool

-- the body of a function, of a loop, and of a `switch`
abbrev pub no_jumps : Jumps
no_jumps = record { breaks = false; continues = false }

abbrev pub in_loop : Jumps
in_loop = record { breaks = true; continues = true }

abbrev pub in_switch : Jumps → Jumps
in_switch j = record { breaks = true; continues = j.continues }

-- ---- parts

-- an expression that stands alone; of an array it is converted
abbrev pub is_value : Context → Expr → Bool
is_value c e = not (is_array (type_of e)) && is_typed c e

abbrev pub is_condition : Context → Expr → Bool
is_condition c e = is_scalar (type_of e) && is_typed c e

abbrev pub is_optional_value : Context → Option Expr → Bool
is_optional_value c None = true
is_optional_value c (Some e) = is_value c e

abbrev pub is_optional_condition : Context → Option Expr → Bool
is_optional_condition c None = true
is_optional_condition c (Some e) = is_condition c e

-- an initialiser was converted to the type of its local (C99 6.7.8)
abbrev pub has_initialised_type : Option Local → PlainType → Bool
has_initialised_type None ty = false
has_initialised_type (Some l) ty = is_same_type ty (type_view l.ty) && (is_scalar ty || is_struct ty)

abbrev pub is_there : Option Local → Bool
is_there None = false
is_there (Some l) = true

abbrev pub is_initialiser : Context → Option Local → Option Expr → Bool
is_initialiser c l None = is_there l
is_initialiser c l (Some e) = has_initialised_type l (type_of e) && is_typed c e

abbrev pub is_declared : Context → LocalDeclaration → Bool
is_declared c d = is_initialiser c (slice_get c.locals d.number) d.init

abbrev pub is_first : Context → First → Bool
is_first c Nothing = true
is_first c (Value e) = is_value c e
is_first c (Locals ds) = list_all (is_declared c) ds

-- a value is returned by a function of its type, and none by one of type void (C99 6.8.6.4)
abbrev pub is_returned : Context → (result : PlainType) → Option Expr → Bool
is_returned c result None = is_void result
is_returned c result (Some e) = is_same_type (type_of e) result && not (is_void result) && is_typed c e

-- ---- labels: words of the operand's type, each once, and one `default` at most (C99 6.8.4.2)

abbrev pub is_label : Option IntegerType → TLabel → Bool
is_label t (Case n) = is_number_of t n
is_label t Default = true

abbrev pub is_same_label : TLabel → TLabel → Bool
is_same_label (Case n) (Case m) = n == m
is_same_label Default Default = true
is_same_label a b = false

abbrev pub is_label_of : TLabel → Sections → Bool
is_label_of label no_sections = false
is_label_of label (more_sections other ss rest) = is_same_label label other || is_label_of label rest

abbrev pub are_labels : Option IntegerType → Sections → Bool
are_labels t no_sections = true
are_labels t (more_sections label ss rest) = is_label t label && not (is_label_of label rest) && are_labels t rest

-- ---- statements

module _ (c : Context) (result : PlainType) where
  abbrev mutual
    pub is_typed_stmt : Jumps → Stmt → Bool
    is_typed_stmt j (Block ss) = are_typed_stmts j ss
    is_typed_stmt j (If e s h) = is_condition c e && is_typed_stmt j s && is_typed_else j h
    is_typed_stmt j (While e s) = is_condition c e && is_typed_stmt in_loop s
    is_typed_stmt j (Do s e) = is_condition c e && is_typed_stmt in_loop s
    is_typed_stmt j (For first condition step s) =
        is_first c first && is_optional_condition c condition && is_optional_value c step && is_typed_stmt in_loop s
    is_typed_stmt j (Switch e ss) =
        is_promoted (type_of e) && are_labels (integer_of (type_of e)) ss && is_typed c e
        && are_typed_sections (in_switch j) ss
    is_typed_stmt j Break = j.breaks
    is_typed_stmt j Continue = j.continues
    is_typed_stmt j (Return e) = is_returned c result e
    is_typed_stmt j (Expression e) = is_value c e
    is_typed_stmt j Empty = true
    is_typed_stmt j (Declare d) = is_declared c d

    pub is_typed_else : Jumps → Else → Bool
    is_typed_else j no_else = true
    is_typed_else j (else_stmt s) = is_typed_stmt j s

    pub are_typed_stmts : Jumps → Stmts → Bool
    are_typed_stmts j no_stmts = true
    are_typed_stmts j (more_stmts s ss) = is_typed_stmt j s && are_typed_stmts j ss

    pub are_typed_sections : Jumps → Sections → Bool
    are_typed_sections j no_sections = true
    are_typed_sections j (more_sections label ss rest) = are_typed_stmts j ss && are_typed_sections j rest
