-- How high the parts of statements are that are no statements.
use Rattle.std.proofs.Common.{ℕ, suc, ◌+◌, ◌*◌, ◌≤◌, max, List, [], ◌∷◌, ◌++◌, map, Option, Some, None, IfOk, IfSome, arith}
use Rattle.std.specs.Option.{option_map}
use Rattle.bk_arithmetic.specs.declared.integer_type.IntegerType.{IntegerType}
use Rattle.bk_arithmetic.specs.IntegerTypes.{promote}
use Rattle.c_tree.specs.declared.expressions.Expr.{Expr}
use Rattle.c_tree.specs.declared.statements.ForFirst.{ForFirst}
use Rattle.c_tree.specs.declared.statements.ForFirst.TheVariants as g
use Rattle.c_tree.specs.declared.statements.LocalDeclarator.{LocalDeclarator}
use Rattle.c_tree.specs.Nodes.{Node, expr_node, type_node, optional, part_of_for, local_node, first_nodes, nodes_of, node_height, nodes_height}
use Rattle.c_typed_tree.specs.declared.types.CType.{CType}
use Rattle.c_typed_tree.specs.declared.expressions.TExpr.{TExpr}
use Rattle.c_typed_tree.specs.declared.statements.TStmt.{TStmt}
use Rattle.c_typed_tree.specs.declared.statements.TStmt as t
use Rattle.c_typed_tree.specs.declared.statements.TFirst.{TFirst}
use Rattle.c_typed_tree.specs.declared.statements.TFirst.TheVariants as f
use Rattle.c_typed_tree.specs.declared.statements.TLocal.{TLocal}
use Rattle.c_typed_tree.specs.Typing.{is_array, is_void}
use Rattle.c_typed_tree.specs.View.{type_view, expr_view, local_view, first_view, stmt_view}
use Rattle.c_typed_tree.specs.model.View.{opens}
use Rattle.c_typed_tree.specs.c_typed_height.Heights.{list_height, expr_height, optional_height, declared_height, first_part_height, stmt_height}
use Rattle.c_typing_rules.specs.declared.typed.TypedExpression.{TypedExpression}
use Rattle.c_typing_rules.specs.Conversions.{decay}
use Rattle.c_typing_rules.specs.Comparisons as rule
use Rattle.c_typing_rules.specs.Values.{integer, type_of_integer}
use Rattle.c_typing_judgements.specs.c_typing_operators.Null.{take_value}
use Rattle.c_typing_primary_rules.specs.declared.switches.SwitchValue.{SwitchValue}
use Rattle.c_typing_primary_rules.specs.Switches as w
use Rattle.c_typing_state.specs.declared.notes.Notes.{Notes}
use Rattle.c_typing_state.specs.Checks.{pure, and_then, append_part, note_fault, walk}
use Rattle.c_typing_judgements.specs.Types.{JudgementState}
use Rattle.c_typing_expressions.specs.Expressions.{judge}
use Rattle.c_typing_statement_parts.specs.declared.c_typing_local_rules.locals.NewLocal.{NewLocal}
use Rattle.c_typing_statement_parts.specs.c_typing_local_rules.Locals.{BodyState, local_declared, no_initialiser, initialiser, with_initialiser, local_with_value}
use Rattle.c_typing_statement_rules.specs.Values.{condition_check, switch_check, full_expression, return_of, bad_return, return_value, return_nothing}
use Rattle.c_typing_statement_parts.specs.Parts.{condition_of, full_value, operand_of, optional_condition, optional_value, return_statement, judge_type, initialiser_of, local_of, first_of}
use Rattle.c_typing_function_sound.specs.c_typing_height_laws.c_expression_height_laws.Laws.{IsWithin}
use Rattle.c_typing_function_sound.proofs.CTypingHeightLaws.CExpressionHeightLaws.Rules.{StandsWithin, stands_roomy, decay_within, converted_within, taken_within, condition_within}
use Rattle.c_typing_function_sound.proofs.CTypingHeightLaws.CExpressionHeightLaws.Forms.{ruled_fits, each_within, both_within, appended_all, either_found}
use Rattle.c_typing_function_sound.proofs.CTypingHeightLaws.CExpressionHeightLaws.Walks.{judge_within}

-- what has a height is within three nodes for each of so many levels
abbrev pub IsLow : {A : Type 0} → (A → ℕ) → (levels : ℕ) → A → Type 0
IsLow height levels x = height x ≤ 3 * levels

-- ---- numbers

pub lower_left : (a b : ℕ) → a ≤ max a b
lower_left a b = omega arith

pub lower_right : (a b : ℕ) → b ≤ max a b
lower_right a b = omega arith

pub fits_left : (a b c : ℕ) → max a b ≤ c → a ≤ c
fits_left a b c h = omega (arith, h)

pub fits_right : (a b c : ℕ) → max a b ≤ c → b ≤ c
fits_right a b c h = omega (arith, h)

pub no_more : (n : ℕ) → n ≤ n
no_more n = omega arith

pub nothing_low : (n : ℕ) → 0 ≤ 3 * n
nothing_low n = omega arith

pub both_low : (a b n : ℕ) → a ≤ 3 * n → b ≤ 3 * n → max a b ≤ 3 * n
both_low a b n h g = omega (arith, h, g)

pub left_low : (a b n : ℕ) → max a b ≤ 3 * n → a ≤ 3 * n
left_low a b n h = omega (arith, h)

pub right_low : (a b n : ℕ) → max a b ≤ 3 * n → b ≤ 3 * n
right_low a b n h = omega (arith, h)

pub node_low : (a n : ℕ) → a ≤ 3 * n → suc a ≤ 3 * suc n
node_low a n h = omega (arith, h)

pub plain_low : (a n : ℕ) → a + 0 ≤ 3 * n → a ≤ 3 * n
plain_low a n h = omega (arith, h)

more_low : (a n m : ℕ) → n ≤ m → a ≤ 3 * n → a ≤ 3 * m
more_low a n m g h = omega (arith, g, h)

-- ---- what is found

-- within more levels
pub found_lower : {A : Type 0} (height : A → ℕ) (n m : ℕ) (o : Option A) → n ≤ m → IfSome o (IsLow height n) → IfSome o (IsLow height m)
found_lower height n m None g h = tt
found_lower height n m (Some x) g h = more_low (height x) n m g h

pub mapped_if_some : {A B : Type 0} (P : A → Type 0) (Q : B → Type 0) (f : A → B) (o : Option A) → IfSome o P → ((x : A) → P x → Q (f x)) → IfSome (option_map f o) Q
mapped_if_some P Q f None h g = tt
mapped_if_some P Q f (Some x) h g = g x h

-- ---- lists

-- the parts of a list are within the levels of the tallest of their trees
pub walk_low : {A B S : Type 0} (node : A → Node) (height : B → ℕ) (all : List B → ℕ) (f : A → S → Option B × S) (n : ℕ)
    → ((ys : List B) (y : B) → IsLow all n ys → IsLow height n y → IsLow all n (ys ++ y ∷ []))
    → ((x : A) (s : S) → IfSome (f x s).0 (IsLow height (node_height (node x))))
    → (xs : List A) (found : Option (List B)) (s : S) → nodes_height (nodes_of node xs) ≤ n → IfSome found (IsLow all n) → IfSome (walk f xs found s).0 (IsLow all n)
walk_low node height all f n push each [] found s g h = h
walk_low node height all f n push each (x ∷ xs) found s g h =
    let own = node_height (node x) in let rest = nodes_height (nodes_of node xs) in
    let r = f x s in
    walk_low node height all f n push each xs (append_part found r.0) r.1 (fits_right own rest n g)
    (appended_all (IsLow height n) (IsLow all n) push found r.0 h (found_lower height own n r.0 (fits_left own rest n g) (each x s)))

-- ---- expressions

abbrev pub value_height : TExpr → ℕ
value_height x = expr_height (expr_view x)

abbrev pub optional_value_height : Option TExpr → ℕ
optional_value_height o = optional_height (option_map expr_view o)

low_value : (n : ℕ) (x : TExpr) → IsWithin 0 n x → IsLow value_height n x
low_value n x h = plain_low (value_height x) n h

-- what is judged has room for an array that becomes a pointer, and a conversion
abbrev HasRoom : Expr → TypedExpression → Type 0
HasRoom x a = IsWithin 2 (node_height (expr_node x)) a.tree

decayed_low : (x : Expr) (a : TypedExpression) → HasRoom x a → StandsWithin 1 (node_height (expr_node x)) (decay a)
decayed_low x a h = decay_within 1 (node_height (expr_node x)) a h

value_of_low : (x : Expr) (a : TypedExpression) → HasRoom x a → StandsWithin 0 (node_height (expr_node x)) (decay a)
value_of_low x a h = stands_roomy 0 (node_height (expr_node x)) (decay a) (decayed_low x a h)

low_in : (n : ℕ) (o : Option TExpr) → IfSome o (IsWithin 0 n) → IfSome o (IsLow value_height n)
low_in n None h = tt
low_in n (Some x) h = low_value n x h

pub condition_low : (x : Expr) (s : JudgementState) → IfSome (condition_of x s).0 (IsLow value_height (node_height (expr_node x)))
condition_low x s =
    let n = node_height (expr_node x) in
    let u = judge x s in
    low_in n (condition_of x s).0
    (each_within (HasRoom x) (IsWithin 0 n) u.0 condition_check u.1.1 (judge_within x s) (λ a h. ruled_fits (IsWithin 0 n) (rule.condition (decay a)) u.1.1 (condition_within 0 n (decay a) (value_of_low x a h))))

pub value_low : (x : Expr) (s : JudgementState) → IfSome (full_value x s).0 (IsLow value_height (node_height (expr_node x)))
value_low x s =
    let n = node_height (expr_node x) in
    mapped_if_some (HasRoom x) (IsLow value_height n) full_expression (judge x s).0 (judge_within x s) (λ a h. low_value n (decay a).tree (value_of_low x a h))

abbrev pub operand_height : SwitchValue → ℕ
operand_height o = value_height o.tree

switched : (n : ℕ) (a : TypedExpression) (ty : Option IntegerType) → StandsWithin 1 n a → IfOk (w.switch_value a ty) (IsLow operand_height n)
switched n a None h = tt
switched n a (Some ty) h = let to = type_of_integer (promote ty) in low_value n (w.in_type (promote ty) a).tree (converted_within 0 n to a h)

pub operand_low : (x : Expr) (s : JudgementState) → IfSome (operand_of x s).0 (IsLow operand_height (node_height (expr_node x)))
operand_low x s =
    let n = node_height (expr_node x) in
    let u = judge x s in
    each_within (HasRoom x) (IsLow operand_height n) u.0 switch_check u.1.1 (judge_within x s) (λ a h. ruled_fits (IsLow operand_height n) (w.switch_operand (decay a)) u.1.1 (switched n (decay a) (integer (decay a)) (decayed_low x a h)))

pub optional_condition_low : (o : Option Expr) (s : JudgementState) → IfSome (optional_condition o s).0 (IsLow optional_value_height (node_height (part_of_for o)))
optional_condition_low None s = nothing_low 1
optional_condition_low (Some x) s =
    let n = node_height (expr_node x) in
    mapped_if_some (IsLow value_height n) (IsLow optional_value_height n) Some (condition_of x s).0 (condition_low x s) (λ a h. h)

pub optional_value_low : (o : Option Expr) (s : JudgementState) → IfSome (optional_value o s).0 (IsLow optional_value_height (node_height (part_of_for o)))
optional_value_low None s = nothing_low 1
optional_value_low (Some x) s =
    let n = node_height (expr_node x) in
    mapped_if_some (IsLow value_height n) (IsLow optional_value_height n) Some (full_value x s).0 (value_low x s) (λ a h. h)

-- a value that is converted
taken_low : (x : Expr) (ty : CType) (a : TypedExpression) (n : Notes) → HasRoom x a → IfSome (note_fault (take_value ty a) n).0 (IsLow value_height (node_height (expr_node x)))
taken_low x ty a n h =
    let l = node_height (expr_node x) in
    low_in l (note_fault (take_value ty a) n).0 (ruled_fits (IsWithin 0 l) (take_value ty a) n (taken_within 0 l ty a h))

-- ---- `return`

abbrev pub statement_height : TStmt → ℕ
statement_height x = stmt_height (stmt_view x)

pub return_nothing_low : (n : ℕ) → IsLow statement_height (suc n) (t.Return None)
unfolding opens
return_nothing_low n = node_low 0 n (nothing_low n)

return_some_low : (n : ℕ) (x : TExpr) → IsLow value_height n x → IsLow statement_height (suc n) (t.Return (Some x))
unfolding opens
return_some_low n x h = node_low (value_height x) n h

returned : (x : Expr) (at : ℕ) (ty : CType) (a : TypedExpression) (n : Notes) → HasRoom x a → IfSome (return_value at ty a n).0 (IsLow statement_height (suc (node_height (expr_node x))))
returned x at ty a n h =
    let l = node_height (expr_node x) in
    let v = note_fault (take_value ty a) n in
    either_found (IsLow statement_height (suc l)) (is_void (type_view ty)) (bad_return at n) (and_then v (λ value. pure (return_of value))) tt
    (mapped_if_some (IsLow value_height l) (IsLow statement_height (suc l)) (λ e. t.Return (Some e)) v.0 (taken_low x ty a n h) (λ e k. return_some_low l e k))

any_result : (of : Option CType) → IfSome of (λ ty. Unit {0})
any_result None = tt
any_result (Some ty) = tt

pub return_low : (of : Option CType) (at : ℕ) (o : Option Expr) (s : JudgementState) → IfSome (return_statement of at o s).0 (IsLow statement_height (suc (nodes_height (optional o))))
return_low of at None s =
    each_within (λ ty. Unit {0}) (IsLow statement_height 1) of (return_nothing at) s.1 (any_result of)
    (λ ty z. either_found (IsLow statement_height 1) (is_void (type_view ty)) (Some (t.Return None), s.1) (bad_return at s.1) (return_nothing_low 0) tt)
return_low of at (Some x) s =
    let l = node_height (expr_node x) in
    let u = judge x s in
    found_lower statement_height (suc l) (suc (max l 0)) (return_statement of at (Some x) s).0 (suc_lower l)
    (both_within (λ ty. Unit {0}) (HasRoom x) (IsLow statement_height (suc l)) of u.0 (return_value at) u.1.1 (any_result of) (judge_within x s) (λ ty a z h. returned x at ty a u.1.1 h))
  where
    suc_lower : (l : ℕ) → suc l ≤ suc (max l 0)
    suc_lower l = omega arith

-- ---- locals

abbrev pub local_height : TLocal → ℕ
local_height l = declared_height (local_view l)

initialised_low : (x : Expr) (new : NewLocal) (a : TypedExpression) (n : Notes) → HasRoom x a → IfSome (local_with_value new a n).0 (IsLow local_height (suc (node_height (expr_node x))))
initialised_low x new a n h =
    let l = node_height (expr_node x) in
    mapped_if_some (IsLow value_height l) (IsLow local_height (suc l)) (with_initialiser new.number) (initialiser new.ty a n).0
    (either_found (IsLow value_height l) (is_array (type_view new.ty)) (no_initialiser a.at n) (note_fault (take_value new.ty a) n) tt (taken_low x new.ty a n h))
    (λ e k. node_low (value_height e) l k)

any_local : (new : Option NewLocal) → IfSome new (λ l. Unit {0})
any_local None = tt
any_local (Some l) = tt

initialiser_low : (new : Option NewLocal) (o : Option Expr) (s : BodyState) (n : ℕ) → nodes_height (optional o) ≤ n → IfSome (initialiser_of new o s).0 (IsLow local_height (suc n))
initialiser_low None None s n g = tt
initialiser_low (Some new) None s n g = node_low 0 n (nothing_low n)
initialiser_low new (Some x) s n g =
    let l = node_height (expr_node x) in
    let u = judge x s.1 in
    found_lower local_height (suc l) (suc n) (initialiser_of new (Some x) s).0 (suc_lower l n (fits_left l 0 n g))
    (both_within (λ l. Unit {0}) (HasRoom x) (IsLow local_height (suc l)) new u.0 local_with_value u.1.1 (any_local new) (judge_within x s.1) (λ l a z h. initialised_low x l a u.1.1 h))
  where
    suc_lower : (l n : ℕ) → l ≤ n → suc l ≤ suc n
    suc_lower l n h = omega (arith, h)

pub local_low : (d : LocalDeclarator) (s : BodyState) → IfSome (local_of d s).0 (IsLow local_height (node_height (local_node d)))
local_low d s =
    let ty = judge_type d.declaration.at d.declaration.ty s.1 in
    let new = local_declared d.declaration.at d.declaration.name ty.0 (s.0, ty.1) in
    let own = node_height (type_node d.declaration.ty) in let rest = nodes_height (optional d.init) in
    initialiser_low new.0 d.init new.1 (max own rest) (lower_right own rest)

abbrev pub locals_height : List TLocal → ℕ
locals_height ls = list_height declared_height (map local_view ls)

pub locals_more : (n : ℕ) (ls : List TLocal) (l : TLocal) → IsLow locals_height n ls → IsLow local_height n l → IsLow locals_height n (ls ++ l ∷ [])
locals_more n [] l h g = both_low (local_height l) 0 n g (nothing_low n)
locals_more n (k ∷ ks) l h g =
    let own = local_height k in
    both_low own (locals_height (ks ++ l ∷ [])) n (left_low own (locals_height ks) n h) (locals_more n ks l (right_low own (locals_height ks) n h) g)

-- ---- the first part of a `for`

abbrev pub first_of_for_height : TFirst → ℕ
first_of_for_height x = first_part_height (first_view x)

pub first_low : (first : ForFirst) (s : BodyState) → IfSome (first_of first s).0 (IsLow first_of_for_height (nodes_height (first_nodes first)))
first_low g.Nothing s = nothing_low 1
first_low (g.Value x) s =
    let l = node_height (expr_node x) in
    mapped_if_some (IsLow value_height (max l 0)) (IsLow first_of_for_height (max l 0)) f.Value (full_value x s.1).0
    (found_lower value_height l (max l 0) (full_value x s.1).0 (lower_left l 0) (value_low x s.1)) (λ e h. h)
first_low (g.Locals ds) s =
    let n = nodes_height (nodes_of local_node ds) in
    mapped_if_some (IsLow locals_height n) (IsLow first_of_for_height n) f.Locals (walk local_of ds (Some []) s).0
    (walk_low local_node local_height locals_height local_of n (locals_more n) local_low ds (Some []) s (no_more n) (nothing_low n)) (λ ls h. h)
