-- Whole expressions and declarators: one line or two for each form.
use Rattle.std.proofs.Common.{ℕ, List, [], Option, Some, None, refl}
use Rattle.std.specs.Option.{option_map}
use Rattle.c_tree.specs.declared.expressions.Expr as e
use Rattle.c_tree.specs.declared.expressions.Expr.TheBlock as k
use Rattle.c_tree.specs.declared.types.TypeNode as t
use Rattle.c_typed_tree.specs.declared.types.CType.{CType}
use Rattle.c_typing_rules.specs.declared.c_typing_declared_types.declared.DeclaredType.{DeclaredType}
use Rattle.c_typing_rules.specs.declared.typed.TypedExpression.{TypedExpression}
use Rattle.c_typing_constants.specs.c_constant_rules.Values.{length_value}
use Rattle.c_typing_primary_rules.specs.Primary.{integer_constant, character_constant}
use Rattle.c_typing_state.specs.declared.env.Env.{Env}
use Rattle.c_typing_state.specs.declared.notes.Notes.{Notes}
use Rattle.c_typing_state.specs.Checks.{each, both_parts, append_part, note_fault}
use Rattle.c_typing_state.specs.Notes.{nothing_taken, rejoin}
use Rattle.c_typing_state.specs.Scopes.{enter, leave}
use Rattle.c_typing_judgements.specs.Leaves.{leaf}
use Rattle.c_typing_judgements.specs.Operators.{apply_prefix, binary_check, assignment_check, subscript_check, cast_check, size_of_value, size_of_name, postfix_check}
use Rattle.c_typing_judgements.specs.Members.{field_named, arrow_named}
use Rattle.c_typing_judgements.specs.Types.{JudgementState, in_env, pointer, given_length, array, function, type_named, parameter_declared}
use Rattle.c_typing_expressions.specs.Expressions.{judge, judge_row, derive, judge_length_held, judge_parameter_row}
use Rattle.c_typing_expression_sound.specs.c_found_laws.Laws.{Tells, IsFound, YieldsFound}
use Rattle.c_typing_expression_sound.proofs.CFoundLaws.Forms.{tells_none, tells_as, tells_then, tells_both, tells_kept, ruled_tells, each_tells, both_tells, each_under, both_under, append_found, prefix_tells, choice_tells, commas_tells, name_tells, string_tells, call_tells, field_tells, arrow_tells, leaf_tells, there_tells, type_named_tells, parameter_tells, left_tells}

-- a form of one part, and of two
pub one_part : {A B : Type 0} (s : JudgementState) (r : Option A × JudgementState) (f : A → Notes → Option B × Notes) → YieldsFound s r → ((env : Env) (a : A) (n : Notes) → Tells (IsFound (f a n).0) (env, n) (env, (f a n).1)) → YieldsFound s (in_env r.1.0 (each r.0 f r.1.1))
one_part s r f h g = each_tells r.1.0 s r.0 f r.1.1 h (λ a. g r.1.0 a r.1.1)

pub two_parts : {A B D : Type 0} (s u : JudgementState) (r : Option A) (q : Option B × JudgementState) (f : A → B → Notes → Option D × Notes) → Tells (IsFound r) s u → YieldsFound u q → ((env : Env) (a : A) (b : B) (n : Notes) → Tells (IsFound (f a b n).0) (env, n) (env, (f a b n).1)) → YieldsFound s (in_env q.1.0 (both_parts r q.0 f q.1.1))
two_parts s u r q f h k g = both_tells q.1.0 s r q.0 f q.1.1 (tells_then s u q.1 h k) (λ a b. g q.1.0 a b q.1.1)

given_found : {A : Type 0} (o : Option A) → IsFound o → IsFound (option_map Some o)
given_found None h = h
given_found (Some x) h = refl

length_tells : (env : Env) (a : TypedExpression) (n : Notes) → Tells (IsFound (given_length a n).0) (env, n) (env, (given_length a n).1)
length_tells env a n = tells_as (env, n) (env, (given_length a n).1) (given_found (note_fault (length_value a) n).0) (ruled_tells env (length_value a) n)

-- the type of a type name
abbrev named_type_of : ℕ → t.TypeNode → JudgementState → Option DeclaredType × JudgementState
named_type_of at node s =
    let l = leaf s.0 at node s.1 in let r = derive at node l.0 (s.0, l.1) in in_env r.1.0 (each r.0 (type_named at) r.1.1)

type_tells : (at : ℕ) (node : t.TypeNode) (s : JudgementState) → (let l = leaf s.0 at node s.1 in let r = derive at node l.0 (s.0, l.1) in Tells (IsFound l.0 → IsFound r.0) (s.0, l.1) r.1) → YieldsFound s (named_type_of at node s)
type_tells at node s h =
    let l = leaf s.0 at node s.1 in let r = derive at node l.0 (s.0, l.1) in
    one_part s r (type_named at) (tells_both s (s.0, l.1) r.1 (λ x y. y x) (leaf_tells s.0 at node s.1) h) (λ env a n. type_named_tells env at a n)

mutual
  unfolding judge

  pub judge_tells : (x : e.Expr) (s : JudgementState) → YieldsFound s (judge x s)
  judge_tells (e.Name at name) s = name_tells s.0 at name s.1
  judge_tells (e.Number at spelling) s = ruled_tells s.0 (integer_constant at spelling) s.1
  judge_tells (e.Character at spelling) s = ruled_tells s.0 (character_constant at spelling) s.1
  judge_tells (e.Text at spellings) s = string_tells s.0 at spellings s.1
  judge_tells (e.Call' at name _ arguments) s =
      let u = judge_row arguments (Some []) s in
      call_tells u.1.0 s at name u.0 u.1.1 (row_tells arguments (Some []) s s (tells_none s refl))
  judge_tells (e.Unary' at op _ (k.more_of-Expr x k.end_of-Expr)) s = one_part s (judge x s) (apply_prefix at op) (judge_tells x s) (λ env a n. prefix_tells env at op a n)
  judge_tells (e.Binary' at op _ (k.more_of-Expr x k.end_of-Expr) _ (k.more_of-Expr y k.end_of-Expr)) s =
      let u = judge x s in
      two_parts s u.1 u.0 (judge y u.1) (binary_check at op) (judge_tells x s) (judge_tells y u.1) (λ env a b n. ruled_tells env _ n)
  judge_tells (e.Assign' at op _ (k.more_of-Expr x k.end_of-Expr) _ (k.more_of-Expr y k.end_of-Expr)) s =
      let u = judge x s in
      two_parts s u.1 u.0 (judge y u.1) (assignment_check at op) (judge_tells x s) (judge_tells y u.1) (λ env a b n. ruled_tells env _ n)
  judge_tells (e.Conditional' at _ (k.more_of-Expr x k.end_of-Expr) _ (k.more_of-Expr y k.end_of-Expr) _ (k.more_of-Expr z k.end_of-Expr)) s =
      let u = judge x s in let v = judge y u.1 in let w = judge z v.1 in
      choice_tells w.1.0 s at u.0 v.0 w.0 w.1.1 (tells_then s v.1 w.1 (tells_then s u.1 v.1 (judge_tells x s) (judge_tells y u.1)) (judge_tells z v.1))
  judge_tells (e.Cast' at _ (k.more_of-TypeName place ty k.end_of-TypeName) _ (k.more_of-Expr x k.end_of-Expr)) s =
      let l = leaf s.0 place ty s.1 in let r = derive place ty l.0 (s.0, l.1) in let to = in_env r.1.0 (each r.0 (type_named place) r.1.1) in
      two_parts s to.1 to.0 (judge x to.1) (cast_check at) (type_tells place ty s (derive_tells place ty l.0 (s.0, l.1)))
      (judge_tells x to.1) (λ env a b n. ruled_tells env _ n)
  judge_tells (e.SizeOfValue' at _ (k.more_of-Expr x k.end_of-Expr)) s =
      let a = judge x (s.0, nothing_taken s.1) in let back : JudgementState = (a.1.0, rejoin s.1.addressed s.1.texts a.1.1) in
      one_part s (a.0, back) (size_of_value at)
      (tells_both s a.1 back (λ x y. x) (tells_both s (s.0, nothing_taken s.1) a.1 (λ x y. y) (tells_kept {X = Unit {0}} s (s.0, nothing_taken s.1) refl refl refl refl tt) (judge_tells x (s.0, nothing_taken s.1))) (tells_kept {X = Unit {0}} a.1 back refl refl refl refl tt))
      (λ env a n. ruled_tells env _ n)
  judge_tells (e.SizeOfType' at _ (k.more_of-TypeName place ty k.end_of-TypeName)) s =
      let l = leaf s.0 place ty s.1 in let r = derive place ty l.0 (s.0, l.1) in let to = in_env r.1.0 (each r.0 (type_named place) r.1.1) in
      one_part s to (size_of_name at) (type_tells place ty s (derive_tells place ty l.0 (s.0, l.1))) (λ env a n. ruled_tells env _ n)
  judge_tells (e.Index' at _ (k.more_of-Expr x k.end_of-Expr) _ (k.more_of-Expr y k.end_of-Expr)) s =
      let u = judge x s in
      two_parts s u.1 u.0 (judge y u.1) (subscript_check at) (judge_tells x s) (judge_tells y u.1) (λ env a b n. ruled_tells env _ n)
  judge_tells (e.Field' at _ (k.more_of-Expr x k.end_of-Expr) name) s = one_part s (judge x s) (field_named at name) (judge_tells x s) (λ env a n. field_tells env at name a n)
  judge_tells (e.Arrow' at _ (k.more_of-Expr x k.end_of-Expr) name) s = one_part s (judge x s) (arrow_named at name) (judge_tells x s) (λ env a n. arrow_tells env at name a n)
  judge_tells (e.Postfix' at op _ (k.more_of-Expr x k.end_of-Expr)) s = one_part s (judge x s) (postfix_check at op) (judge_tells x s) (λ env a n. ruled_tells env _ n)
  judge_tells (e.Comma' at _ operands) s =
      let u = judge_row operands (Some []) s in
      commas_tells u.1.0 s at u.0 u.1.1 (row_tells operands (Some []) s s (tells_none s refl))

  row_tells : {m : _} (xs : k.Row_of-Expr m) (found : Option (List TypedExpression)) (s u : JudgementState) → Tells (IsFound found) s u → YieldsFound s (judge_row xs found u)
  row_tells k.end_of-Expr found s u h = h
  row_tells (k.more_of-Expr x xs) found s u h =
      let r = judge x u in
      row_tells xs (append_part found r.0) s r.1 (tells_both s u r.1 (append_found found r.0) h (judge_tells x u))

  pub derive_tells : (at : ℕ) (node : t.TypeNode) (of : Option DeclaredType) (s : JudgementState) → Tells (IsFound of → IsFound (derive at node of s).0) s (derive at node of s).1
  derive_tells at (t.Basic words) of s = tells_none s (λ x. x)
  derive_tells at (t.Named name) of s = tells_none s (λ x. x)
  derive_tells at (t.Enum' place tag constants) of s = tells_none s (λ x. x)
  derive_tells at (t.Struct' place tag members) of s = tells_none s (λ x. x)
  derive_tells at (t.Pointer' _ (k.more_of-TypeNode x k.end_of-TypeNode)) of s =
      let r = derive at x of s in
      each_under r.1.0 s (IsFound of) r.0 (pointer at) r.1.1 (derive_tells at x of s) (λ a. there_tells r.1.0 at _ r.1.1)
  derive_tells at (t.Array' _ (k.more_of-TypeNode x k.end_of-TypeNode) size) of s =
      let count = judge_length_held size s in let r = derive at x of count.1 in
      both_under r.1.0 s (IsFound of) count.0 r.0 (array at) r.1.1 (tells_then s count.1 r.1 (length_held_tells size s) (derive_tells at x of count.1)) (λ a b. there_tells r.1.0 at _ r.1.1)
  derive_tells at (t.Takes' _ (k.more_of-TypeNode x k.end_of-TypeNode) _ list) of s =
      let row = judge_parameter_row list (Some []) (enter s.0, s.1) in let outer : JudgementState = (leave s.0.outside row.1.0, row.1.1) in let r = derive at x of outer in
      both_under r.1.0 s (IsFound of) row.0 r.0 (function at) r.1.1
      (tells_then s outer r.1 (left_tells s row.1 (parameters_tell list (Some []) (enter s.0, s.1) (enter s.0, s.1) (tells_none (enter s.0, s.1) refl))) (derive_tells at x of outer)) (λ a b. there_tells r.1.0 at _ r.1.1)

  length_held_tells : (size : k.Held-TypeNode-Array-1) (s : JudgementState) → YieldsFound s (judge_length_held size s)
  length_held_tells k.TypeNode-Array-1-None' s = tells_none s refl
  length_held_tells (k.TypeNode-Array-1-Some' _ (k.more_of-Expr x k.end_of-Expr)) s = one_part s (judge x s) given_length (judge_tells x s) length_tells

  parameters_tell : {m : _} (xs : k.Row_of-Parameter m) (found : Option (List CType)) (s u : JudgementState) → Tells (IsFound found) s u → YieldsFound s (judge_parameter_row xs found u)
  parameters_tell k.end_of-Parameter found s u h = h
  parameters_tell (k.more_of-Parameter at name ty rest) found s u h =
      let l = leaf u.0 at ty u.1 in let r = derive at ty l.0 (u.0, l.1) in let named = parameter_declared at name r.0 r.1 in
      parameters_tell rest (append_part found named.0) s named.1
      (tells_both s u named.1 (append_found found named.0) h
      (parameter_tells at name r.0 u r.1 (tells_both u (u.0, l.1) r.1 (λ x y. y x) (leaf_tells u.0 at ty u.1) (derive_tells at ty l.0 (u.0, l.1)))))
