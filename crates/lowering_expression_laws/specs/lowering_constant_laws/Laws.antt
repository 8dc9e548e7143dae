-- What is said of integer constants, of null constants that become pointers (C99 6.3.2.3), and of casts to void
-- (6.3.2.2).
use Rattle.std.specs.Prelude.{◌≡◌, ℕ, false, IsTrue, List, slice_get, Some}
use Rattle.mem_model.specs.declared.value.Value.TheVariants.{Word}
use Rattle.mem_model.specs.Ending.{Gives}
use Rattle.bk_arithmetic.specs.declared.integer_type.IntegerType.{IntegerType}
use Rattle.c_typed_tree.specs.declared.units.Local.{Local}
use Rattle.c_typed_tree.specs.Types.{PlainType, Void, Pointer}
use Rattle.c_typed_tree.specs.Constants.{constant}
use Rattle.c_typed_tree.specs.Typing.{Context, is_array, is_typed}
use Rattle.c_typed_tree.specs.Expressions.{Expr, Cast, Convert, type_of}
use Rattle.c_semantics.specs.Runs.{CallState}
use Rattle.c_semantics.specs.Objects.{Scope}
use Rattle.c_semantics.specs.Evaluates.{Functions, eval}
use Rattle.lowering_code.specs.Expressions.{plain_of}
use Rattle.lowering_expression_laws.specs.Parts.{Setting, ExprMeets}

-- an integer constant gives its value in every state, without effect, turn or output (C99 6.6)
abbrev pub ConstantsAreGiven : Type 0
ConstantsAreGiven =
    (k : Context) (ls : List Local) (functions : Functions) (scope : Scope) (x : Expr) (n : ℕ) →
    IsTrue (is_typed k x) → constant x ≡ Some n → (s : CallState) →
    eval k.structs ls functions scope x s ≡ Gives (Word n) s

-- an expression gives zero in every state
abbrev pub GivesZero : Setting → Expr → Type 0
GivesZero c x =
    (scope : Scope) (s : CallState) → eval c.structs c.locals c.calls scope x s ≡ Gives (Word 0) s

pub record Constants (c : Setting) : Type 0 where
  pub conversions : (t : IntegerType) (target : PlainType) (x : Expr) → type_of x ≡ plain_of t → GivesZero c x
      → ExprMeets c x → ExprMeets c (Convert (Pointer target) x)
  pub casts : (t : IntegerType) (target : PlainType) (x : Expr) → type_of x ≡ plain_of t → GivesZero c x
      → ExprMeets c x → ExprMeets c (Cast (Pointer target) x)
  pub drops : (x : Expr) → is_array (type_of x) ≡ false → ExprMeets c x → ExprMeets c (Cast Void x)

abbrev pub ConstantsMeet : Type 0
ConstantsMeet = (c : Setting) → slice_get c.functions c.number ≡ Some c.code → Constants c
