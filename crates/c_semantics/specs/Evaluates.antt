-- The meaning of expressions (C99 6.5), by recursion on the tree. What a call does is handed in: the meanings of
-- functions one level down.
use Rattle.std.specs.Prelude.{ℕ, pos, ◌%◌, Bool, true, false, List, [], ◌∷◌, slice_get, Option, Some, None, if◌then◌else◌}
use Rattle.mem_model.specs.declared.value.Value.{Value}
use Rattle.mem_model.specs.declared.value.Value.TheVariants.{Word}
use Rattle.mem_model.specs.World.{next_byte, take_byte, put_byte}
use Rattle.mem_model.specs.Ending.{Gives}
use Rattle.c_tree.specs.declared.expressions.UnaryOp.TheVariants as u
use Rattle.c_tree.specs.declared.expressions.BinaryOp.{BinaryOp}
use Rattle.c_tree.specs.declared.expressions.BinaryOp.TheVariants as b
use Rattle.c_tree.specs.declared.expressions.StepOp.TheVariants as s
use Rattle.c_typed_tree.specs.declared.expressions.Builtin.{Builtin}
use Rattle.c_typed_tree.specs.declared.expressions.Builtin.TheVariants as i
use Rattle.c_typed_tree.specs.declared.expressions.Callee.{Callee}
use Rattle.c_typed_tree.specs.declared.expressions.Callee.TheVariants as c
use Rattle.c_typed_tree.specs.declared.types.StructDef.{StructDef}
use Rattle.c_typed_tree.specs.declared.units.Local.{Local}
use Rattle.c_typed_tree.specs.Types.{PlainType, Void, Pointer, Array, Struct}
use Rattle.c_typed_tree.specs.Expressions.{Expr, Number, Global, Call, Unary, Binary, Assign, Conditional, Cast, Convert, Index, Field, Arrow, Postfix, Comma, Exprs, no_exprs, more_exprs, type_of}
use Rattle.c_typed_tree.specs.Expressions as e
use Rattle.c_semantics.specs.Reasons.{UsesNoValue, AccessesOutside}
use Rattle.c_semantics.specs.Runs.{with_outer, Run, ◌>>=◌, ◌>>◌, pure, undefined_behaviour, trap, exit, turn, use_value, use_number}
use Rattle.c_semantics.specs.Objects.{ValuePlace, At, start_pointer, call_result, read_at, read, write, place_pointer, move, move_by, offset_of, Scope, local_place, integer_or_word}
use Rattle.c_semantics.specs.Operators.{apply_binary, apply_unary, test, convert, operator_of, combine, step_value, pure_truth}

-- ---- what the world outside does

-- a byte is put, and is the value (C99 7.19.7.9)
unfoldable pub put_character : ℕ → Run Value
put_character n = λ s. Gives (Word (n % 256)) (with_outer s (put_byte s.world.outer (n % 256)))

-- the word of -1 at the end of the input
abbrev pub byte_or_end : Option ℕ → ℕ
byte_or_end None = 18446744073709551615
byte_or_end (Some byte) = byte

-- the next byte is taken (C99 7.19.7.6)
unfoldable pub get : Run Value
get = λ s. Gives (Word (byte_or_end (next_byte s.world.outer))) (with_outer s (take_byte s.world.outer))

-- a built-in function on its arguments. The call is a turn
abbrev pub builtin : Builtin → List Value → Run Value
builtin i.Putchar (v ∷ []) = use_number v >>= (λ n. turn >> put_character n)
builtin i.Getchar [] = turn >> get
builtin i.Abort [] = turn >> trap 2
builtin i.Exit (v ∷ []) = use_number v >>= (λ n. turn >> exit n)
builtin f vs = undefined_behaviour UsesNoValue

-- what the functions of the unit do on their arguments
abbrev pub Functions : Type 0
Functions = (function : ℕ) → List Value → Run Value

abbrev pub run_call : Functions → Callee → List Value → Run Value
run_call functions (c.Function n) vs = functions n vs
run_call functions (c.Builtin f) vs = builtin f vs

-- ---- places

abbrev pub place_at : Value → Run ValuePlace
place_at p = pure (At p)

-- the element of a pointer with an index, in either order (C99 6.5.2.1)
abbrev pub element_pointer : List StructDef → (left right : PlainType) → Value → Value → Run Value
element_pointer ds (Pointer target) right v w = move_by ds target (integer_or_word right) v w
element_pointer ds left (Pointer target) v w = move_by ds target (integer_or_word left) w v
element_pointer ds left right v w = undefined_behaviour UsesNoValue

-- a member of a struct of this type that stands at a pointer (C99 6.5.2.3). The pointer is moved, also by 0
abbrev pub member_pointer : List StructDef → PlainType → (member : ℕ) → Value → Run Value
member_pointer ds ty member p = move p (pos (offset_of ds ty member))

-- the type of what a pointer points to
abbrev pub target_of : PlainType → PlainType
target_of (Pointer target) = target
target_of ty = Void

-- ---- changes of a place

-- the value of an assignment: that of a struct is the pointer to the left side
abbrev pub assignment_value : PlainType → ValuePlace → Value → Value
assignment_value (Struct n) (At p) v = p
assignment_value ty place v = v

-- a place is read and written; the value is picked of the old and the new one
abbrev pub update : List StructDef → PlainType → (change : Value → Run Value) → (pick : Value → Value → Value) →
    ValuePlace
    → Run Value
update ds ty change pick p = read ty p >>= (λ v. change v >>= (λ w. write ds ty p w >> pure (pick v w)))

abbrev pub new_value : Value → Value → Value
new_value old new = new

abbrev pub old_value : Value → Value → Value
old_value old new = old

-- an assignment, where the place and the right side are known
abbrev pub assign_value : List StructDef → (left right : PlainType) → Option BinaryOp → ValuePlace → Value → Run Value
assign_value ds left right None p v = write ds left p v >> pure (assignment_value left p v)
assign_value ds left right (Some op) p v = update ds left (λ old. combine ds op left right old v) new_value p

-- ---- choices

-- the one or the other, by a test
abbrev pub choose : {A : Type 0} → Run A → Run A → Bool → Run A
choose holds fails t = if t then holds else fails

-- a conversion: an array is converted by its place (C99 6.3.2.1)
abbrev pub converted_from : (from to : PlainType) → Run Value → Run ValuePlace → Run Value
converted_from (Array target n) to by_value by_place = by_place >>= place_pointer
converted_from from to by_value by_place = by_value >>= convert from to

-- ---- expressions

-- the meaning of expressions in a function with these locals
module _ (ds : List StructDef) (ls : List Local) (functions : Functions) where
  abbrev mutual
    pub eval : Scope → Expr → Run Value
    eval scope (Number ty n) = pure (Word n)
    eval scope (e.Local ty k) = local_place scope k (slice_get ls k) >>= read ty
    eval scope (Global ty k) = read_at ty (start_pointer k)
    eval scope (Call ty callee es) = evals scope es >>= run_call functions callee >>= call_result ty
    eval scope (Unary ty u.Address x) = place scope x >>= place_pointer
    eval scope (Unary ty u.Dereference x) = eval scope x >>= use_value UsesNoValue >>= read_at ty
    eval scope (Unary ty u.Increment x) = place scope x >>= update ds ty (step_value ds s.Increment ty) new_value
    eval scope (Unary ty u.Decrement x) = place scope x >>= update ds ty (step_value ds s.Decrement ty) new_value
    eval scope (Unary ty u.Not x) = eval scope x >>= test >>= choose (pure_truth false) (pure_truth true)
    eval scope (Unary ty u.Plus x) = eval scope x >>= apply_unary u.Plus ty
    eval scope (Unary ty u.Minus x) = eval scope x >>= apply_unary u.Minus ty
    eval scope (Unary ty u.Invert x) = eval scope x >>= apply_unary u.Invert ty
    eval scope (Binary ty b.LogicalAnd x y) =
        eval scope x >>= test >>= choose (eval scope y >>= test >>= pure_truth) (pure_truth false)
    eval scope (Binary ty b.LogicalOr x y) =
        eval scope x >>= test >>= choose (pure_truth true) (eval scope y >>= test >>= pure_truth)
    eval scope (Binary ty op x y) =
        eval scope x >>= (λ v. eval scope y >>= (λ w. apply_binary ds op (type_of x) (type_of y) v w))
    eval scope (Assign ty op x y) =
        place scope x >>= (λ p. eval scope y >>= assign_value ds ty (type_of y) (operator_of op) p)
    eval scope (Conditional ty x y z) = eval scope x >>= test >>= choose (eval scope y) (eval scope z)
    eval scope (Cast ty x) = converted_from (type_of x) ty (eval scope x) (place scope x)
    eval scope (Convert ty x) = converted_from (type_of x) ty (eval scope x) (place scope x)
    eval scope (Index ty x y) =
        eval scope x >>= (λ v. eval scope y >>= element_pointer ds (type_of x) (type_of y) v) >>= read_at ty
    eval scope (Field ty x member) =
        place scope x >>= place_pointer >>= member_pointer ds (type_of x) member >>= read_at ty
    eval scope (Arrow ty x member) = eval scope x >>= member_pointer ds (target_of (type_of x)) member >>= read_at ty
    eval scope (Postfix ty op x) = place scope x >>= update ds ty (step_value ds op ty) old_value
    eval scope (Comma ty no_exprs) = undefined_behaviour UsesNoValue
    eval scope (Comma ty (more_exprs x xs)) = value_of_last scope (eval scope x) xs

    -- where an expression stands that is a place (C99 6.3.2.1)
    pub place : Scope → Expr → Run ValuePlace
    place scope (e.Local ty k) = local_place scope k (slice_get ls k)
    place scope (Global ty k) = place_at (start_pointer k)
    place scope (Unary ty u.Dereference x) = eval scope x >>= use_value UsesNoValue >>= place_at
    place scope (Index ty x y) =
        eval scope x >>= (λ v. eval scope y >>= element_pointer ds (type_of x) (type_of y) v) >>= place_at
    place scope (Field ty x member) =
        place scope x >>= place_pointer >>= member_pointer ds (type_of x) member >>= place_at
    place scope (Arrow ty x member) = eval scope x >>= member_pointer ds (target_of (type_of x)) member >>= place_at
    place scope _ = undefined_behaviour AccessesOutside

    -- arguments, from left to right; each is used
    pub evals : Scope → Exprs → Run (List Value)
    evals scope no_exprs = pure []
    evals scope (more_exprs x xs) =
        eval scope x >>= use_value UsesNoValue >>= (λ v. evals scope xs >>= (λ vs. pure (v ∷ vs)))

    -- the last of the operands of commas, of which the first one is given (C99 6.5.17)
    pub value_of_last : Scope → Run Value → Exprs → Run Value
    value_of_last scope first no_exprs = first
    value_of_last scope first (more_exprs x xs) = first >> value_of_last scope (eval scope x) xs
