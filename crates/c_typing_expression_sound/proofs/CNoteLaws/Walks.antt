-- Whole expressions and declarators: one line or two for each form.
use Rattle.std.proofs.Common.{ℕ, List, [], Option, Some}
use Rattle.c_tree.specs.declared.expressions.Expr as e
use Rattle.c_tree.specs.declared.expressions.Expr.TheBlock as k
use Rattle.c_tree.specs.declared.types.TypeNode as t
use Rattle.c_typed_tree.specs.declared.types.CType.{CType}
use Rattle.c_typing_rules.specs.declared.c_typing_declared_types.declared.DeclaredType.{DeclaredType}
use Rattle.c_typing_rules.specs.declared.typed.TypedExpression.{TypedExpression}
use Rattle.c_typing_constants.specs.c_constant_rules.Values.{length_value}
use Rattle.c_typing_primary_rules.specs.Primary.{integer_constant, character_constant}
use Rattle.c_typing_state.specs.declared.notes.Notes.{Notes}
use Rattle.c_typing_state.specs.Checks.{each, append_part}
use Rattle.c_typing_state.specs.Notes.{nothing_taken, rejoin}
use Rattle.c_typing_state.specs.Scopes.{enter, leave, meaning_of}
use Rattle.c_typing_judgements.specs.Leaves.{leaf}
use Rattle.c_typing_judgements.specs.Operators.{apply_prefix, binary_check, assignment_check, subscript_check, cast_check, size_of_value, size_of_name, postfix_check}
use Rattle.c_typing_judgements.specs.Members.{field_named, arrow_named}
use Rattle.c_typing_judgements.specs.Types.{JudgementState, in_env, pointer, given_length, array, function, type_named, parameter_declared}
use Rattle.c_typing_expressions.specs.Expressions.{judge, judge_row, derive, judge_length_held, judge_parameter_row}
use Rattle.c_typing_expression_sound.specs.c_note_laws.Steps.{NoteSteps}
use Rattle.c_typing_expression_sound.specs.c_note_laws.Steps.NoteSteps.{Stays, Aside}
use Rattle.c_typing_expression_sound.proofs.CNoteLaws.Forms.{adds_then, ruled_steps, each_adds, both_adds, prefix_adds, choice_adds, commas_adds, name_adds, string_adds, call_adds, field_adds, arrow_adds, leaf_adds, there_adds, named_type_adds, parameter_adds}

-- a form of one part, and of two
one_part : {A B : Type 0} (n m : Notes) (o : Option A) (f : A → Notes → Option B × Notes) → NoteSteps n m → ((a : A) → NoteSteps m (f a m).1) → NoteSteps n (each o f m).1
one_part n m o f h g = adds_then n m (each o f m).1 h (each_adds o f m g)

mutual
  unfolding judge

  pub judge_adds : (x : e.Expr) (s : JudgementState) → NoteSteps s.1 (judge x s).1.1
  judge_adds (e.Name at name) s = name_adds at (meaning_of s.0 name) s.1
  judge_adds (e.Number at spelling) s = ruled_steps (integer_constant at spelling) s.1
  judge_adds (e.Character at spelling) s = ruled_steps (character_constant at spelling) s.1
  judge_adds (e.Text at spellings) s = string_adds at spellings s.1
  judge_adds (e.Call' at name _ arguments) s =
      let u = (judge_row arguments (Some []) s) in
      adds_then s.1 u.1.1 _ (row_adds arguments (Some []) s) (call_adds at (meaning_of u.1.0 name) u.0 u.1.1)
  judge_adds (e.Unary' at op _ (k.more_of-Expr x k.end_of-Expr)) s =
      one_part s.1 (judge x s).1.1 (judge x s).0 (apply_prefix at op) (judge_adds x s) (λ a. prefix_adds at op a (judge x s).1.1)
  judge_adds (e.Binary' at op _ (k.more_of-Expr x k.end_of-Expr) _ (k.more_of-Expr y k.end_of-Expr)) s =
      let u = (judge x s).1 in let v = (judge y u).1 in
      adds_then s.1 v.1 _ (adds_then s.1 u.1 v.1 (judge_adds x s) (judge_adds y u)) (both_adds (judge x s).0 (judge y u).0 (binary_check at op) v.1 (λ a b. ruled_steps _ v.1))
  judge_adds (e.Assign' at op _ (k.more_of-Expr x k.end_of-Expr) _ (k.more_of-Expr y k.end_of-Expr)) s =
      let u = (judge x s).1 in let v = (judge y u).1 in
      adds_then s.1 v.1 _ (adds_then s.1 u.1 v.1 (judge_adds x s) (judge_adds y u)) (both_adds (judge x s).0 (judge y u).0 (assignment_check at op) v.1 (λ a b. ruled_steps _ v.1))
  judge_adds (e.Conditional' at _ (k.more_of-Expr x k.end_of-Expr) _ (k.more_of-Expr y k.end_of-Expr) _ (k.more_of-Expr z k.end_of-Expr)) s =
      let u = (judge x s).1 in let v = (judge y u).1 in let w = (judge z v).1 in
      adds_then s.1 w.1 _ (adds_then s.1 v.1 w.1 (adds_then s.1 u.1 v.1 (judge_adds x s) (judge_adds y u)) (judge_adds z v)) (choice_adds at (judge x s).0 (judge y u).0 (judge z v).0 w.1)
  judge_adds (e.Cast' at _ (k.more_of-TypeName place ty k.end_of-TypeName) _ (k.more_of-Expr x k.end_of-Expr)) s =
      let l = leaf s.0 place ty s.1 in let r = derive place ty l.0 (s.0, l.1) in let to = in_env r.1.0 (each r.0 (type_named place) r.1.1) in let a = judge x to.1 in
      adds_then s.1 a.1.1 _
      (adds_then s.1 to.1.1 a.1.1
      (one_part s.1 r.1.1 r.0 (type_named place) (adds_then s.1 l.1 r.1.1 (leaf_adds s.0 place ty s.1) (derive_adds place ty l.0 (s.0, l.1))) (λ b. named_type_adds place b r.1.1))
      (judge_adds x to.1))
      (both_adds to.0 a.0 (cast_check at) a.1.1 (λ b d. ruled_steps _ a.1.1))
  judge_adds (e.SizeOfValue' at _ (k.more_of-Expr x k.end_of-Expr)) s =
      let a = judge x (s.0, nothing_taken s.1) in let back = rejoin s.1.addressed s.1.texts a.1.1 in let inner = judge_adds x (s.0, nothing_taken s.1) in
      one_part s.1 back a.0 (size_of_value at) (Aside inner) (λ b. ruled_steps _ back)
  judge_adds (e.SizeOfType' at _ (k.more_of-TypeName place ty k.end_of-TypeName)) s =
      let l = leaf s.0 place ty s.1 in let r = derive place ty l.0 (s.0, l.1) in let to = in_env r.1.0 (each r.0 (type_named place) r.1.1) in
      one_part s.1 to.1.1 to.0 (size_of_name at)
      (one_part s.1 r.1.1 r.0 (type_named place) (adds_then s.1 l.1 r.1.1 (leaf_adds s.0 place ty s.1) (derive_adds place ty l.0 (s.0, l.1))) (λ b. named_type_adds place b r.1.1))
      (λ b. ruled_steps _ to.1.1)
  judge_adds (e.Index' at _ (k.more_of-Expr x k.end_of-Expr) _ (k.more_of-Expr y k.end_of-Expr)) s =
      let u = (judge x s).1 in let v = (judge y u).1 in
      adds_then s.1 v.1 _ (adds_then s.1 u.1 v.1 (judge_adds x s) (judge_adds y u)) (both_adds (judge x s).0 (judge y u).0 (subscript_check at) v.1 (λ a b. ruled_steps _ v.1))
  judge_adds (e.Field' at _ (k.more_of-Expr x k.end_of-Expr) name) s =
      one_part s.1 (judge x s).1.1 (judge x s).0 (field_named at name) (judge_adds x s) (λ a. field_adds at name a (judge x s).1.1)
  judge_adds (e.Arrow' at _ (k.more_of-Expr x k.end_of-Expr) name) s =
      one_part s.1 (judge x s).1.1 (judge x s).0 (arrow_named at name) (judge_adds x s) (λ a. arrow_adds at name a (judge x s).1.1)
  judge_adds (e.Postfix' at op _ (k.more_of-Expr x k.end_of-Expr)) s =
      one_part s.1 (judge x s).1.1 (judge x s).0 (postfix_check at op) (judge_adds x s) (λ a. ruled_steps _ (judge x s).1.1)
  judge_adds (e.Comma' at _ operands) s =
      let u = judge_row operands (Some []) s in
      adds_then s.1 u.1.1 _ (row_adds operands (Some []) s) (commas_adds at u.0 u.1.1)

  pub row_adds : {m : _} (xs : k.Row_of-Expr m) (found : Option (List TypedExpression)) (s : JudgementState) → NoteSteps s.1 (judge_row xs found s).1.1
  row_adds k.end_of-Expr found s = Stays
  row_adds (k.more_of-Expr x xs) found s =
      let r = judge x s in
      adds_then s.1 r.1.1 _ (judge_adds x s) (row_adds xs (append_part found r.0) r.1)

  pub derive_adds : (at : ℕ) (node : t.TypeNode) (of : Option DeclaredType) (s : JudgementState) → NoteSteps s.1 (derive at node of s).1.1
  derive_adds at (t.Basic words) of s = Stays
  derive_adds at (t.Named name) of s = Stays
  derive_adds at (t.Enum' place tag constants) of s = Stays
  derive_adds at (t.Struct' place tag members) of s = Stays
  derive_adds at (t.Pointer' _ (k.more_of-TypeNode x k.end_of-TypeNode)) of s =
      let r = derive at x of s in
      one_part s.1 r.1.1 r.0 (pointer at) (derive_adds at x of s) (λ a. there_adds at _ r.1.1)
  derive_adds at (t.Array' _ (k.more_of-TypeNode x k.end_of-TypeNode) size) of s =
      let count = judge_length_held size s in let r = derive at x of count.1 in
      adds_then s.1 r.1.1 _ (adds_then s.1 count.1.1 r.1.1 (length_adds size s) (derive_adds at x of count.1)) (both_adds count.0 r.0 (array at) r.1.1 (λ a b. there_adds at _ r.1.1))
  derive_adds at (t.Takes' _ (k.more_of-TypeNode x k.end_of-TypeNode) _ list) of s =
      let row = judge_parameter_row list (Some []) (enter s.0, s.1) in let outer : JudgementState = (leave s.0.outside row.1.0, row.1.1) in let r = derive at x of outer in
      adds_then s.1 r.1.1 _ (adds_then s.1 row.1.1 r.1.1 (parameters_add list (Some []) (enter s.0, s.1)) (derive_adds at x of outer)) (both_adds row.0 r.0 (function at) r.1.1 (λ a b. there_adds at _ r.1.1))

  pub length_adds : (size : k.Held-TypeNode-Array-1) (s : JudgementState) → NoteSteps s.1 (judge_length_held size s).1.1
  length_adds k.TypeNode-Array-1-None' s = Stays
  length_adds (k.TypeNode-Array-1-Some' _ (k.more_of-Expr x k.end_of-Expr)) s =
      let r = judge x s in
      one_part s.1 r.1.1 r.0 given_length (judge_adds x s) (λ a. ruled_steps (length_value a) r.1.1)

  pub parameters_add : {m : _} (xs : k.Row_of-Parameter m) (found : Option (List CType)) (s : JudgementState) → NoteSteps s.1 (judge_parameter_row xs found s).1.1
  parameters_add k.end_of-Parameter found s = Stays
  parameters_add (k.more_of-Parameter at name ty rest) found s =
      let l = leaf s.0 at ty s.1 in let r = derive at ty l.0 (s.0, l.1) in let named = parameter_declared at name r.0 r.1 in
      adds_then s.1 named.1.1 _
      (adds_then s.1 r.1.1 named.1.1 (adds_then s.1 l.1 r.1.1 (leaf_adds s.0 at ty s.1) (derive_adds at ty l.0 (s.0, l.1))) (parameter_adds at name r.0 r.1))
      (parameters_add rest (append_part found named.0) named.1)
