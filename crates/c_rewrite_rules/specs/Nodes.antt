-- Expressions as trees: the operands of an expression, from left to right, are its children.
use Rattle.std.specs.Prelude.{ℕ, zero, suc, nat_lt, List, [], ◌∷◌, length, if◌then◌else◌}
use Rattle.c_typed_tree.specs.Types.{Void}
use Rattle.c_typed_tree.specs.Expressions.{Expr, Number, Local, Global, Call, Unary, Binary, Assign, Conditional, Cast, Convert, Index, Field, Arrow, Postfix, Comma, Exprs, no_exprs, more_exprs}

abbrev pub operand_list : Exprs → List Expr
operand_list no_exprs = []
operand_list (more_exprs x xs) = x ∷ operand_list xs

-- numbers of 32 bits name the operands of a list; a longer one, which no text within the limits has, counts as none
abbrev pub counted : Exprs → List Expr
counted xs = if nat_lt (length (operand_list xs)) 4294967296 then operand_list xs else []

abbrev pub children_of : Expr → List Expr
children_of (Number ty n) = []
children_of (Local ty k) = []
children_of (Global ty k) = []
children_of (Call ty callee xs) = counted xs
children_of (Unary ty op x) = x ∷ []
children_of (Binary ty op x y) = x ∷ y ∷ []
children_of (Assign ty op x y) = x ∷ y ∷ []
children_of (Conditional ty x y z) = x ∷ y ∷ z ∷ []
children_of (Cast ty x) = x ∷ []
children_of (Convert ty x) = x ∷ []
children_of (Index ty x y) = x ∷ y ∷ []
children_of (Field ty x member) = x ∷ []
children_of (Arrow ty x member) = x ∷ []
children_of (Postfix ty op x) = x ∷ []
children_of (Comma ty xs) = counted xs

-- another one of two and of three
abbrev pub pick_first : (number : ℕ) → Expr → Expr → Expr
pick_first zero x new = new
pick_first (suc k) x new = x

abbrev pub pick_second : (number : ℕ) → Expr → Expr → Expr
pick_second (suc zero) x new = new
pick_second k x new = x

abbrev pub pick_third : (number : ℕ) → Expr → Expr → Expr
pick_third (suc (suc zero)) x new = new
pick_third k x new = x

abbrev pub with_listed : Exprs → (number : ℕ) → Expr → Exprs
with_listed no_exprs k new = no_exprs
with_listed (more_exprs x xs) zero new = more_exprs new xs
with_listed (more_exprs x xs) (suc k) new = more_exprs x (with_listed xs k new)

-- an expression with another operand in the place of one
abbrev pub with_child : Expr → (number : ℕ) → Expr → Expr
with_child (Number ty n) k new = Number ty n
with_child (Local ty j) k new = Local ty j
with_child (Global ty j) k new = Global ty j
with_child (Call ty callee xs) k new = Call ty callee (with_listed xs k new)
with_child (Unary ty op x) k new = Unary ty op (pick_first k x new)
with_child (Binary ty op x y) k new = Binary ty op (pick_first k x new) (pick_second k y new)
with_child (Assign ty op x y) k new = Assign ty op (pick_first k x new) (pick_second k y new)
with_child (Conditional ty x y z) k new =
    Conditional ty (pick_first k x new) (pick_second k y new) (pick_third k z new)
with_child (Cast ty x) k new = Cast ty (pick_first k x new)
with_child (Convert ty x) k new = Convert ty (pick_first k x new)
with_child (Index ty x y) k new = Index ty (pick_first k x new) (pick_second k y new)
with_child (Field ty x member) k new = Field ty (pick_first k x new) member
with_child (Arrow ty x member) k new = Arrow ty (pick_first k x new) member
with_child (Postfix ty op x) k new = Postfix ty op (pick_first k x new)
with_child (Comma ty xs) k new = Comma ty (with_listed xs k new)

-- what is left in the place of a child that was taken
abbrev pub placeholder : Expr
placeholder = Number Void 0
