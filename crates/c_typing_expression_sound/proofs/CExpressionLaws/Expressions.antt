-- Whole expressions and declarators: one line for each form.
use Rattle.std.proofs.Common.{ℕ, List, [], Option, Some, None, IfSome, refl, sym, ◌∙◌, subst}
use Rattle.c_tree.specs.declared.expressions.Expr as e
use Rattle.c_tree.specs.declared.types.TypeNode as t
use Rattle.c_tree.specs.declared.expressions.Expr.TheBlock as k
use Rattle.c_typed_tree.specs.declared.types.CType.{CType}
use Rattle.c_typed_tree.specs.Typing.{Context}
use Rattle.c_typing_rules.specs.declared.c_typing_declared_types.declared.DeclaredType.{DeclaredType}
use Rattle.c_typing_rules.specs.declared.typed.TypedExpression.{TypedExpression}
use Rattle.c_typing_constants.specs.c_constant_rules.Values.{length_value}
use Rattle.c_typing_state.specs.declared.env.Env.{Env}
use Rattle.c_typing_state.specs.declared.notes.Notes.{Notes}
use Rattle.c_typing_state.specs.Checks.{each, append_part}
use Rattle.c_typing_state.specs.Notes.{nothing_taken}
use Rattle.c_typing_state.specs.Scopes.{enter, leave, meaning_of}
use Rattle.c_typing_judgements.specs.Operators.{apply_prefix, binary_check, assignment_check, subscript_check, cast_check, size_of_name, postfix_check}
use Rattle.c_typing_judgements.specs.Names.{name_of}
use Rattle.c_typing_judgements.specs.Members.{field_named, arrow_named}
use Rattle.c_typing_judgements.specs.Texts.{string}
use Rattle.c_typing_judgements.specs.Leaves.{leaf}
use Rattle.c_typing_judgements.specs.Types.{JudgementState, in_env, pointer, given_length, array, function, type_named, parameter_declared}
use Rattle.c_typing_primary_rules.specs.Primary.{integer_constant, character_constant}
use Rattle.c_typing_state.specs.Checks.{note_fault}
use Rattle.c_typing_expressions.specs.Expressions.{judge, judge_row, derive, judge_length_held, judge_parameter_row}
use Rattle.c_tree.specs.declared.types.TypeName.{TypeName}
use Rattle.c_typing_expressions.specs.Expressions.{judge_type_name}
use Rattle.c_typing_expression_sound.specs.c_type_laws.Typed.{IsFitType, IsTypedIn}
use Rattle.c_typing_expression_sound.specs.c_judgement_laws.Covers.{HasNames, Knows, Takes, IsLawfulContext, IsJudged, AreJudged}
use Rattle.c_typing_expression_sound.proofs.CJudgementLaws.Notes.{Later, later_then, found_itself, found_later}
use Rattle.c_typing_expression_sound.proofs.CJudgementLaws.Forms.{prefix_judged, between_judged, assignment_judged, element_judged, choice_judged, cast_judged, size_name_judged, behind_judged, integer_judged, character_judged, name_judged, string_judged, field_judged, arrow_judged}
use Rattle.c_typing_expression_sound.specs.c_expression_laws.Types.{AreTypes, IsTypeIn, HasTypedefs}
use Rattle.c_typing_expression_sound.specs.c_expression_laws.Walks.{Walks}
use Rattle.c_typing_expression_sound.proofs.CExpressionLaws.Types.{IsFoundType, leaf_found, pointer_found, array_found, function_found, name_found}
use Rattle.c_typing_expression_sound.proofs.CExpressionLaws.Walks.{judged_stays, later_of, walk_within, walk_one, walk_two, walk_choice, walk_any}
use Rattle.c_typing_expression_sound.proofs.CExpressionLaws.Parts.{part_becomes, extends_same, extends_then, left_scope, Declares, IsParameter, AreParameters, parameter_more, one_declared, walk_after, given_found, comma_walk, size_walk, call_walk}

-- a length, of which nothing is asked
abbrev IsLength : Type 0 → Option ℕ → Type 0
IsLength taken a = Unit {0}

-- a walk goes on with another one, of which the property counts
walk_on : (c : Context) (names : Type 0) {A B : Type 0} (Q : Type 0 → B → Type 0) (s : JudgementState) (r : Option A × JudgementState) (q : Option B × JudgementState) {P : Type 0 → A → Type 0} → Walks c names P s r → Walks c names Q r.1 q
    → Walks c names Q s q
walk_on c names Q s r q {P} h g = record {
  env = g.env ∙ h.env;
  notes = found_later c names Q s.1 r.1.1 (q.0, q.1.1) (later_of c names P s.1 (r.0, r.1.1) h.notes) g.notes;
}

module _ (c : Context) (lawful : IsLawfulContext c) where
  -- names are as they were behind a walk
  names_after : (names : Type 0) {A : Type 0} (P : Type 0 → A → Type 0) (s : JudgementState) (r : Option A × JudgementState) → Walks c names P s r → (names → HasNames c s.0) → names → HasNames c r.1.0
  names_after names P s r w h v = subst (HasNames c) (sym w.env) (h v)

  typedefs_after : (names : Type 0) {A : Type 0} (P : Type 0 → A → Type 0) (s : JudgementState) (r : Option A × JudgementState) → Walks c names P s r → (names → HasTypedefs c s.0.names) → names → HasTypedefs c r.1.0.names
  typedefs_after names P s r w h v = subst (λ (env : Env). HasTypedefs c env.names) (sym w.env) (h v)

  -- a type name: its specifier, then its declarator
  type_name_walk : (names : Type 0) (place : ℕ) (s : JudgementState) (n : Notes) (o : Option DeclaredType) (u : JudgementState) → Later c s.1 n → Walks c names (IsFoundType c) (s.0, n) (o, u)
      → Walks c names (λ taken x. IsFitType c x) s (in_env u.0 (each o (type_named place) u.1))
  type_name_walk names place s n o u later h =
      walk_one c names (IsFoundType c) (λ taken x. IsFitType c x) s o u (type_named place) (walk_after c names (IsFoundType c) s n (o, u) later h) (λ a f. name_found c names place a u.1 f)

  mutual
    unfolding judge

    pub judge_walks : (names : Type 0) (x : e.Expr) (s : JudgementState) → (names → HasNames c s.0) → (names → HasTypedefs c s.0.names) → Walks c names (IsJudged c) s (judge x s)
    judge_walks names (e.Name at name) s h d = walk_within c names (IsJudged c) s.0 s.1 (name_of at (meaning_of s.0 name) s.1) (name_judged c lawful names at (meaning_of s.0 name) s.1 (λ v. h v name))
    judge_walks names (e.Number at spelling) s h d = walk_within c names (IsJudged c) s.0 s.1 (note_fault (integer_constant at spelling) s.1) (integer_judged c lawful names at spelling s.1)
    judge_walks names (e.Character at spelling) s h d = walk_within c names (IsJudged c) s.0 s.1 (note_fault (character_constant at spelling) s.1) (character_judged c lawful names at spelling s.1)
    judge_walks names (e.Text at spellings) s h d = walk_within c names (IsJudged c) s.0 s.1 (string at spellings s.1) (string_judged c lawful names at spellings s.1)
    judge_walks names (e.Call' at name _ arguments) s h d =
        call_walk c lawful names at name s (judge_row arguments (Some []) s).0 (judge_row arguments (Some []) s).1 h
        (judge_row_walks names arguments (Some []) s h d (λ v k. tt))
    judge_walks names (e.Unary' at op _ (k.more_of-Expr x k.end_of-Expr)) s h d =
        walk_one c names (IsJudged c) (IsJudged c) s (judge x s).0 (judge x s).1 (apply_prefix at op) (judge_walks names x s h d) (λ a f. prefix_judged c lawful names at op a (judge x s).1.1 f)
    judge_walks names (e.Binary' at op _ (k.more_of-Expr x k.end_of-Expr) _ (k.more_of-Expr y k.end_of-Expr)) s h d =
        let u = (judge x s).1 in
        let one = judge_walks names x s h d in
        let two = judge_walks names y u (names_after names (IsJudged c) s (judge x s) one h) (typedefs_after names (IsJudged c) s (judge x s) one d) in
        walk_two c names (IsJudged c) (IsJudged c) (IsJudged c) s (judge x s).0 u (judge y u).0 (judge y u).1 (binary_check at op) (judged_stays c) one two
        (λ a b f l. between_judged c lawful names at op a b (judge y u).1.1 f l)
    judge_walks names (e.Assign' at op _ (k.more_of-Expr x k.end_of-Expr) _ (k.more_of-Expr y k.end_of-Expr)) s h d =
        let u = (judge x s).1 in
        let one = judge_walks names x s h d in
        let two = judge_walks names y u (names_after names (IsJudged c) s (judge x s) one h) (typedefs_after names (IsJudged c) s (judge x s) one d) in
        walk_two c names (IsJudged c) (IsJudged c) (IsJudged c) s (judge x s).0 u (judge y u).0 (judge y u).1 (assignment_check at op) (judged_stays c) one two
        (λ a b f l. assignment_judged c lawful names at op a b (judge y u).1.1 f l)
    judge_walks names (e.Conditional' at _ (k.more_of-Expr x k.end_of-Expr) _ (k.more_of-Expr y k.end_of-Expr) _ (k.more_of-Expr z k.end_of-Expr)) s h d =
        let u = (judge x s).1 in
        let w = (judge y u).1 in
        let one = judge_walks names x s h d in
        let h1 = names_after names (IsJudged c) s (judge x s) one h in
        let d1 = typedefs_after names (IsJudged c) s (judge x s) one d in
        let two = judge_walks names y u h1 d1 in
        let three = judge_walks names z w (names_after names (IsJudged c) u (judge y u) two h1) (typedefs_after names (IsJudged c) u (judge y u) two d1) in
        walk_choice c names (IsJudged c) s (judge x s).0 u (judge y u).0 w (judge z w).0 (judge z w).1 at (judged_stays c) one two three
        (λ q a b f l m. choice_judged c lawful names at q a b (judge z w).1.1 f l m)
    judge_walks names (e.Cast' at _ (k.more_of-TypeName place ty k.end_of-TypeName) _ (k.more_of-Expr x k.end_of-Expr)) s h d =
        let specified = leaf s.0 place ty s.1 in
        let specifier = leaf_found c names s.0 place ty s.1 d in
        let r = derive place ty specified.0 (s.0, specified.1) in
        let to = in_env r.1.0 (each r.0 (type_named place) r.1.1) in
        let one = type_name_walk names place s specified.1 r.0 r.1 (later_of c names (IsFoundType c) s.1 specified specifier) (derive_walks names place ty specified.0 (s.0, specified.1) d specifier.found) in
        let two = judge_walks names x to.1 (names_after names (λ taken x. IsFitType c x) s to one h) (typedefs_after names (λ taken x. IsFitType c x) s to one d) in
        walk_two c names (λ taken x. IsFitType c x) (IsJudged c) (IsJudged c) s to.0 to.1 (judge x to.1).0 (judge x to.1).1 (cast_check at) (λ taken later a back f. f) one two
        (λ a b f l. cast_judged c lawful names at a b (judge x to.1).1.1 f l)
    judge_walks names (e.SizeOfValue' at _ (k.more_of-Expr x k.end_of-Expr)) s h d =
        size_walk c lawful names at s (judge x (s.0, nothing_taken s.1)).0 (judge x (s.0, nothing_taken s.1)).1 (judge_walks names x (s.0, nothing_taken s.1) h d)
    judge_walks names (e.SizeOfType' at _ (k.more_of-TypeName place ty k.end_of-TypeName)) s h d =
        let specified = leaf s.0 place ty s.1 in
        let specifier = leaf_found c names s.0 place ty s.1 d in
        let r = derive place ty specified.0 (s.0, specified.1) in
        let to = in_env r.1.0 (each r.0 (type_named place) r.1.1) in
        let one = type_name_walk names place s specified.1 r.0 r.1 (later_of c names (IsFoundType c) s.1 specified specifier) (derive_walks names place ty specified.0 (s.0, specified.1) d specifier.found) in
        walk_one c names (λ taken x. IsFitType c x) (IsJudged c) s to.0 to.1 (size_of_name at) one (λ a f. size_name_judged c lawful names at a to.1.1 f)
    judge_walks names (e.Index' at _ (k.more_of-Expr x k.end_of-Expr) _ (k.more_of-Expr y k.end_of-Expr)) s h d =
        let u = (judge x s).1 in
        let one = judge_walks names x s h d in
        let two = judge_walks names y u (names_after names (IsJudged c) s (judge x s) one h) (typedefs_after names (IsJudged c) s (judge x s) one d) in
        walk_two c names (IsJudged c) (IsJudged c) (IsJudged c) s (judge x s).0 u (judge y u).0 (judge y u).1 (subscript_check at) (judged_stays c) one two
        (λ a b f l. element_judged c lawful names at a b (judge y u).1.1 f l)
    judge_walks names (e.Field' at _ (k.more_of-Expr x k.end_of-Expr) name) s h d =
        walk_one c names (IsJudged c) (IsJudged c) s (judge x s).0 (judge x s).1 (field_named at name) (judge_walks names x s h d) (λ a f. field_judged c lawful names at name a (judge x s).1.1 f)
    judge_walks names (e.Arrow' at _ (k.more_of-Expr x k.end_of-Expr) name) s h d =
        walk_one c names (IsJudged c) (IsJudged c) s (judge x s).0 (judge x s).1 (arrow_named at name) (judge_walks names x s h d) (λ a f. arrow_judged c lawful names at name a (judge x s).1.1 f)
    judge_walks names (e.Postfix' at op _ (k.more_of-Expr x k.end_of-Expr)) s h d =
        walk_one c names (IsJudged c) (IsJudged c) s (judge x s).0 (judge x s).1 (postfix_check at op) (judge_walks names x s h d) (λ a f. behind_judged c lawful names at op a (judge x s).1.1 f)
    judge_walks names (e.Comma' at _ operands) s h d =
        comma_walk c lawful names at s (judge_row operands (Some []) s).0 (judge_row operands (Some []) s).1
        (judge_row_walks names operands (Some []) s h d (λ v k. tt))

    pub judge_row_walks : (names : Type 0) {m : _} (xs : k.Row_of-Expr m) (found : Option (List TypedExpression)) (s : JudgementState) → (names → HasNames c s.0)
        → (names → HasTypedefs c s.0.names) → (names → Knows c s.1 → IfSome found (AreJudged c (Takes c s.1))) → Walks c names (AreJudged c) s (judge_row xs found s)
    judge_row_walks names k.end_of-Expr found s h d f = record { env = refl; notes = record { first = refl; knows = λ k. k; takes = λ t. t; found = f } }
    judge_row_walks names (k.more_of-Expr x xs) found s h d f =
        let u = (judge x s).1 in
        let one = judge_walks names x s h d in
        let rest = judge_row_walks names xs (append_part found (judge x s).0) u (names_after names (IsJudged c) s (judge x s) one h) (typedefs_after names (IsJudged c) s (judge x s) one d)
        (λ v k. part_becomes c (Takes c s.1) (Takes c u.1) found (judge x s).0 one.notes.takes (f v (one.notes.knows k)) (one.notes.found v k)) in
        walk_on c names (AreJudged c) s (judge x s) (judge_row xs (append_part found (judge x s).0) u) {P = IsJudged c} one rest

    pub derive_walks : (names : Type 0) (at : ℕ) (node : t.TypeNode) (of : Option DeclaredType) (s : JudgementState) → (names → HasTypedefs c s.0.names) → (names → Knows c s.1 → IfSome of (IsTypeIn c))
        → Walks c names (IsFoundType c) s (derive at node of s)
    derive_walks names at (t.Basic words) of s d f = record { env = refl; notes = record { first = refl; knows = λ k. k; takes = λ t. t; found = f } }
    derive_walks names at (t.Named name) of s d f = record { env = refl; notes = record { first = refl; knows = λ k. k; takes = λ t. t; found = f } }
    derive_walks names at (t.Enum' place tag constants) of s d f = record { env = refl; notes = record { first = refl; knows = λ k. k; takes = λ t. t; found = f } }
    derive_walks names at (t.Struct' place tag members) of s d f = record { env = refl; notes = record { first = refl; knows = λ k. k; takes = λ t. t; found = f } }
    derive_walks names at (t.Pointer' _ (k.more_of-TypeNode x k.end_of-TypeNode)) of s d f =
        let r = derive at x of s in
        walk_one c names (IsFoundType c) (IsFoundType c) s r.0 r.1 (pointer at) (derive_walks names at x of s d f) (λ a l. pointer_found c names at a r.1.1 l)
    derive_walks names at (t.Array' _ (k.more_of-TypeNode x k.end_of-TypeNode) size) of s d f =
        let count = judge_length_held size s in
        let one = length_walks names size s in
        let r = derive at x of count.1 in
        let two = derive_walks names at x of count.1 (typedefs_after names IsLength s count one d) (λ v k. f v (one.notes.knows k)) in
        walk_two c names IsLength (IsFoundType c) (IsFoundType c) s count.0 count.1 r.0 r.1 (array at) (λ taken later a back l. l) one two (λ a b l m. array_found c names at a b r.1.1 m)
    derive_walks names at (t.Takes' _ (k.more_of-TypeNode x k.end_of-TypeNode) _ list) of s d f =
        let row = judge_parameter_row list (Some []) (enter s.0, s.1) in
        let declares = parameter_row_walks names list (Some []) (enter s.0, s.1) d (λ v k. tt) in
        let outer : JudgementState = (leave s.0.outside row.1.0, row.1.1) in
        let one : Walks c names (AreParameters c) s (row.0, outer) = record { env = left_scope s.0 row.1.0 declares.env; notes = declares.notes } in
        let r = derive at x of outer in
        let two = derive_walks names at x of outer (typedefs_after names (AreParameters c) s (row.0, outer) one d) (λ v k. f v (declares.notes.knows k)) in
        walk_two c names (AreParameters c) (IsFoundType c) (IsFoundType c) s row.0 outer r.0 r.1 (function at) (λ taken later a back l. l) one two (λ a b l m. function_found c names at a b r.1.1 l m)

    length_walks : (names : Type 0) (size : k.Held-TypeNode-Array-1) (s : JudgementState) → Walks c names IsLength s (judge_length_held size s)
    length_walks names k.TypeNode-Array-1-None' s = record { env = refl; notes = found_itself c names IsLength s.1 None (λ v k. tt) }
    length_walks names (k.TypeNode-Array-1-Some' _ (k.more_of-Expr x k.end_of-Expr)) s =
        let r = judge x s in
        walk_one c names (λ taken a. Unit {0}) IsLength s r.0 r.1 given_length
        (walk_any c names (IsJudged c) s r.0 r.1 (judge_walks ⊥ x s (λ v. absurd v) (λ v. absurd v))) (λ a f. given_found c names (length_value a) r.1.1)

    pub parameter_row_walks : (names : Type 0) {m : _} (xs : k.Row_of-Parameter m) (found : Option (List CType)) (s : JudgementState) → (names → HasTypedefs c s.0.names)
        → (names → Knows c s.1 → IfSome found (AreTypes c.structs)) → Declares c names (AreParameters c) s (judge_parameter_row xs found s)
    parameter_row_walks names k.end_of-Parameter found s d f = record {
      env = extends_same s.0 s.0 refl;
      typedefs = λ h. h;
      notes = record { first = refl; knows = λ k. k; takes = λ t. t; found = f };
    }
    parameter_row_walks names (k.more_of-Parameter at name ty rest) found s d f =
        let specified = leaf s.0 at ty s.1 in
        let specifier = leaf_found c names s.0 at ty s.1 d in
        let r = derive at ty specified.0 (s.0, specified.1) in
        let walk = derive_walks names at ty specified.0 (s.0, specified.1) d specifier.found in
        let named = parameter_declared at name r.0 r.1 in
        let declared = one_declared c names at name r.0 r.1 walk.notes.found in
        let behind = later_then c s.1 specified.1 named.1.1 (later_of c names (IsFoundType c) s.1 specified specifier)
        (later_then c specified.1 r.1.1 named.1.1 (later_of c names (IsFoundType c) specified.1 (r.0, r.1.1) walk.notes) (later_of c names (IsParameter c) r.1.1 (named.0, named.1.1) declared.notes)) in
        let more = parameter_row_walks names rest (append_part found named.0) named.1
        (λ v. declared.typedefs (typedefs_after names (IsFoundType c) (s.0, specified.1) r walk d v))
        (λ v k. parameter_more c found named.0 (f v (behind.knows k)) (declared.notes.found v k)) in
        let final = judge_parameter_row rest (append_part found named.0) named.1 in
        record {
          env = extends_then s.0 named.1.0 final.1.0 (extends_then s.0 r.1.0 named.1.0 (extends_same s.0 r.1.0 walk.env) declared.env) more.env;
          typedefs = λ h. more.typedefs (declared.typedefs (subst (λ (env : Env). HasTypedefs c env.names) (sym walk.env) h));
          notes = found_later c names (AreParameters c) s.1 named.1.1 (final.0, final.1.1) behind more.notes;
        }

  -- ---- the laws

  pub type_name_walks : (names : Type 0) (name : TypeName) (s : JudgementState) → (names → HasTypedefs c s.0.names) → Walks c names (λ taken x. IsFitType c x) s (judge_type_name name s)
  type_name_walks names name s d =
      let specified = leaf s.0 name.at name.ty s.1 in
      let specifier = leaf_found c names s.0 name.at name.ty s.1 d in
      let r = derive name.at name.ty specified.0 (s.0, specified.1) in
      type_name_walk names name.at s specified.1 r.0 r.1 (later_of c names (IsFoundType c) s.1 specified specifier)
      (derive_walks names name.at name.ty specified.0 (s.0, specified.1) d specifier.found)

  typed_of : (taken : Type 0) (o : Option TypedExpression) → taken → IfSome o (IsJudged c taken) → IfSome o (IsTypedIn c)
  typed_of taken None t h = tt
  typed_of taken (Some a) t h = h.typed t

  pub expression_typed : (x : e.Expr) (s : JudgementState) → HasNames c s.0 → HasTypedefs c s.0.names → Knows c (judge x s).1.1 → Takes c (judge x s).1.1 → IfSome (judge x s).0 (IsTypedIn c)
  expression_typed x s h d known taken =
      typed_of (Takes c (judge x s).1.1) (judge x s).0 taken ((judge_walks (Unit {0}) x s (λ v. h) (λ v. d)).notes.found tt known)
