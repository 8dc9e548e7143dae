-- Whole expressions: one line or two for each form.
use Rattle.std.proofs.Common.{ℕ, suc, ◌≤◌, max, List, [], Option, Some, None, IfSome, arith}
use Rattle.c_tree.specs.declared.expressions.Expr as e
use Rattle.c_tree.specs.declared.expressions.Expr.TheBlock as k
use Rattle.c_tree.specs.Nodes.{expr_node, expr_row, type_node, node_height, nodes_height}
use Rattle.c_typing_rules.specs.declared.c_typing_declared_types.declared.DeclaredType.{DeclaredType}
use Rattle.c_typing_rules.specs.declared.typed.TypedExpression.{TypedExpression}
use Rattle.c_typing_primary_rules.specs.Primary.{integer_constant, character_constant}
use Rattle.c_typing_literals.specs.Integers.{integer_literal}
use Rattle.c_typing_literals.specs.Characters.{character}
use Rattle.c_typing_state.specs.Checks.{each, append_part}
use Rattle.c_typing_state.specs.Notes.{nothing_taken, rejoin}
use Rattle.c_typing_state.specs.Scopes.{meaning_of}
use Rattle.c_typing_judgements.specs.Leaves.{leaf}
use Rattle.c_typing_judgements.specs.Operators.{apply_prefix, binary_check, assignment_check, subscript_check, cast_check, size_of_value, size_of_name, postfix_check}
use Rattle.c_typing_judgements.specs.Members.{field_named, arrow_named}
use Rattle.c_typing_judgements.specs.Types.{JudgementState, in_env, type_named}
use Rattle.c_typing_expressions.specs.Expressions.{judge, judge_row, derive}
use Rattle.c_typing_function_sound.specs.c_typing_height_laws.c_expression_height_laws.Laws.{IsWithin}
use Rattle.c_typing_function_sound.proofs.CTypingHeightLaws.CExpressionHeightLaws.Trees.{higher}
use Rattle.c_typing_function_sound.proofs.CTypingHeightLaws.CExpressionHeightLaws.Rules.{StandsWithin, IsPart, ArePart, parts_more, binary_gives, assign_gives, subscript_gives, cast_gives, size_made, type_size_gives, behind_gives, literal_gives, character_gives}
use Rattle.c_typing_function_sound.proofs.CTypingHeightLaws.CExpressionHeightLaws.Forms.{ruled_fits, each_within, both_within, appended_all, prefix_found, choice_found, commas_found, name_found, text_found, call_found, field_found, arrow_found}

left : (a b : ℕ) → a ≤ max a b
left a b = omega arith

second : (a b c : ℕ) → b ≤ max a (max b c)
second a b c = omega arith

last : (a b c : ℕ) → c ≤ max a (max b (max c 0))
last a b c = omega arith

fits : (a b c : ℕ) → max a b ≤ c → a ≤ c
fits a b c h = omega (arith, h)

rest_fits : (a b c : ℕ) → max a b ≤ c → b ≤ c
rest_fits a b c h = omega (arith, h)

same : (n : ℕ) → n ≤ n
same n = omega arith

-- what is found within the levels of one part is within those of all
part : (n m : ℕ) (o : Option TypedExpression) → n ≤ m → IfSome o (IsPart n) → IfSome o (IsPart m)
part n m None g h = tt
part n m (Some a) g h = higher 2 n m a.tree g h

-- any type
abbrev AnyType : DeclaredType → Type 0
AnyType ty = Unit {0}

any : (o : Option DeclaredType) → IfSome o AnyType
any None = tt
any (Some ty) = tt

abbrev AnyValue : TypedExpression → Type 0
AnyValue a = Unit {0}

any_value : (o : Option TypedExpression) → IfSome o AnyValue
any_value None = tt
any_value (Some a) = tt

abbrev IsOneHigher : (l : ℕ) → TypedExpression → Type 0
IsOneHigher l a = StandsWithin 2 (suc l) a

mutual
  unfolding judge expr_node

  pub judge_within : (x : e.Expr) (s : JudgementState) → IfSome (judge x s).0 (λ a. IsWithin 2 (node_height (expr_node x)) a.tree)
  judge_within (e.Name at name) s = name_found 0 at (meaning_of s.0 name) s.1
  judge_within (e.Number at spelling) s = ruled_fits (IsOneHigher 0) (integer_constant at spelling) s.1 (literal_gives 0 at (integer_literal spelling))
  judge_within (e.Character at spelling) s = ruled_fits (IsOneHigher 0) (character_constant at spelling) s.1 (character_gives 0 at (character spelling))
  judge_within (e.Text at spellings) s = text_found 0 at spellings s.1
  judge_within (e.Call' at name _ arguments) s =
      let n = nodes_height (expr_row arguments) in
      let u = judge_row arguments (Some []) s in
      call_found n at (meaning_of u.1.0 name) u.0 u.1.1 (row_within n arguments (Some []) s (same n) tt)
  judge_within (e.Unary' at op _ (k.more_of-Expr x k.end_of-Expr)) s =
      let h = node_height (expr_node x) in let n = max h 0 in
      let u = judge x s in
      each_within (IsPart n) (IsOneHigher n) u.0 (apply_prefix at op) u.1.1 (part h n u.0 (left h 0) (judge_within x s)) (λ a p. prefix_found n at op a u.1.1 p)
  judge_within (e.Binary' at op _ (k.more_of-Expr x k.end_of-Expr) _ (k.more_of-Expr y k.end_of-Expr)) s =
      let h = node_height (expr_node x) in let i = node_height (expr_node y) in let n = max h (max i 0) in
      let u = judge x s in let v = judge y u.1 in
      both_within (IsPart n) (IsPart n) (IsOneHigher n) u.0 v.0 (binary_check at op) v.1.1 (part h n u.0 (left h (max i 0)) (judge_within x s)) (part i n v.0 (second h i 0) (judge_within y u.1))
      (λ a b p q. ruled_fits (IsOneHigher n) _ v.1.1 (binary_gives n v.1.1.structs at op a b p q))
  judge_within (e.Assign' at op _ (k.more_of-Expr x k.end_of-Expr) _ (k.more_of-Expr y k.end_of-Expr)) s =
      let h = node_height (expr_node x) in let i = node_height (expr_node y) in let n = max h (max i 0) in
      let u = judge x s in let v = judge y u.1 in
      both_within (IsPart n) (IsPart n) (IsOneHigher n) u.0 v.0 (assignment_check at op) v.1.1 (part h n u.0 (left h (max i 0)) (judge_within x s)) (part i n v.0 (second h i 0) (judge_within y u.1))
      (λ a b p q. ruled_fits (IsOneHigher n) _ v.1.1 (assign_gives n v.1.1.structs at op a b p q))
  judge_within (e.Conditional' at _ (k.more_of-Expr x k.end_of-Expr) _ (k.more_of-Expr y k.end_of-Expr) _ (k.more_of-Expr z k.end_of-Expr)) s =
      let h = node_height (expr_node x) in let i = node_height (expr_node y) in let j = node_height (expr_node z) in let n = max h (max i (max j 0)) in
      let u = judge x s in let v = judge y u.1 in let w = judge z v.1 in
      choice_found n at u.0 v.0 w.0 w.1.1 (part h n u.0 (left h (max i (max j 0))) (judge_within x s)) (part i n v.0 (second h i (max j 0)) (judge_within y u.1))
      (part j n w.0 (last h i j) (judge_within z v.1))
  judge_within (e.Cast' at _ (k.more_of-TypeName place ty k.end_of-TypeName) _ (k.more_of-Expr x k.end_of-Expr)) s =
      let g = node_height (type_node ty) in let h = node_height (expr_node x) in let n = max g (max h 0) in
      let t = leaf s.0 place ty s.1 in let r = derive place ty t.0 (s.0, t.1) in let to = in_env r.1.0 (each r.0 (type_named place) r.1.1) in let u = judge x to.1 in
      both_within AnyType (IsPart n) (IsOneHigher n) to.0 u.0 (cast_check at) u.1.1 (any to.0) (part h n u.0 (second g h 0) (judge_within x to.1))
      (λ to a p q. ruled_fits (IsOneHigher n) _ u.1.1 (cast_gives n at to a q))
  judge_within (e.SizeOfValue' at _ (k.more_of-Expr x k.end_of-Expr)) s =
      let n = max (node_height (expr_node x)) 0 in
      let u = judge x (s.0, nothing_taken s.1) in let back = rejoin s.1.addressed s.1.texts u.1.1 in
      each_within AnyValue (IsOneHigher n) u.0 (size_of_value at) back (any_value u.0) (λ a p. ruled_fits (IsOneHigher n) _ back (size_made n back.structs at a.ty))
  judge_within (e.SizeOfType' at _ (k.more_of-TypeName place ty k.end_of-TypeName)) s =
      let n = max (node_height (type_node ty)) 0 in
      let t = leaf s.0 place ty s.1 in let r = derive place ty t.0 (s.0, t.1) in let to = in_env r.1.0 (each r.0 (type_named place) r.1.1) in
      each_within AnyType (IsOneHigher n) to.0 (size_of_name at) to.1.1 (any to.0) (λ a p. ruled_fits (IsOneHigher n) _ to.1.1 (type_size_gives n to.1.1.structs at a))
  judge_within (e.Index' at _ (k.more_of-Expr x k.end_of-Expr) _ (k.more_of-Expr y k.end_of-Expr)) s =
      let h = node_height (expr_node x) in let i = node_height (expr_node y) in let n = max h (max i 0) in
      let u = judge x s in let v = judge y u.1 in
      both_within (IsPart n) (IsPart n) (IsOneHigher n) u.0 v.0 (subscript_check at) v.1.1 (part h n u.0 (left h (max i 0)) (judge_within x s)) (part i n v.0 (second h i 0) (judge_within y u.1))
      (λ a b p q. ruled_fits (IsOneHigher n) _ v.1.1 (subscript_gives n v.1.1.structs at a b p q))
  judge_within (e.Field' at _ (k.more_of-Expr x k.end_of-Expr) name) s =
      let h = node_height (expr_node x) in let n = max h 0 in
      let u = judge x s in
      each_within (IsPart n) (IsOneHigher n) u.0 (field_named at name) u.1.1 (part h n u.0 (left h 0) (judge_within x s)) (λ a p. field_found n at name a u.1.1 p)
  judge_within (e.Arrow' at _ (k.more_of-Expr x k.end_of-Expr) name) s =
      let h = node_height (expr_node x) in let n = max h 0 in
      let u = judge x s in
      each_within (IsPart n) (IsOneHigher n) u.0 (arrow_named at name) u.1.1 (part h n u.0 (left h 0) (judge_within x s)) (λ a p. arrow_found n at name a u.1.1 p)
  judge_within (e.Postfix' at op _ (k.more_of-Expr x k.end_of-Expr)) s =
      let h = node_height (expr_node x) in let n = max h 0 in
      let u = judge x s in
      each_within (IsPart n) (IsOneHigher n) u.0 (postfix_check at op) u.1.1 (part h n u.0 (left h 0) (judge_within x s)) (λ a p. ruled_fits (IsOneHigher n) _ u.1.1 (behind_gives n u.1.1.structs at op a p))
  judge_within (e.Comma' at _ operands) s =
      let n = nodes_height (expr_row operands) in
      let u = judge_row operands (Some []) s in
      commas_found n at u.0 u.1.1 (row_within n operands (Some []) s (same n) tt)

  row_within : {m : _} (n : ℕ) (xs : k.Row_of-Expr m) (found : Option (List TypedExpression)) (s : JudgementState) → nodes_height (expr_row xs) ≤ n → IfSome found (ArePart n) → IfSome (judge_row xs found s).0 (ArePart n)
  row_within n k.end_of-Expr found s g h = h
  row_within n (k.more_of-Expr x xs) found s g h =
      let own = node_height (expr_node x) in let rest = nodes_height (expr_row xs) in
      let r = judge x s in
      row_within n xs (append_part found r.0) r.1 (rest_fits own rest n g)
      (appended_all (IsPart n) (ArePart n) (parts_more n) found r.0 h (part own n r.0 (fits own rest n g) (judge_within x s)))
