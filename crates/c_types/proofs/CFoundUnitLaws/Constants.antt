-- Bodies of structs and enums add enumeration constants to the names in scope, and nothing else.
use Rattle.std.proofs.Common.{◌≡◌, ℕ, nat_lt, Bool, true, false, not, IsTrue, List, [], Option, Some, None, Ok, Err, IfOk, IfSome, is_some, length, refl, sym, ap, ◌∙◌, subst, if◌then◌else◌}
use Rattle.bk_arithmetic.specs.declared.integer_type.IntegerType.TheVariants.{Int}
use Rattle.bk_arithmetic.specs.Words.{is_word}
use Rattle.c_tree.specs.declared.expressions.Expr.TheBlock as k
use Rattle.c_tree.specs.declared.types.TypeNode as t
use Rattle.c_typing_scopes.specs.Names.{find}
use Rattle.c_typing_faults.specs.declared.faults.Kind.TheVariants.{Redeclared}
use Rattle.c_typing_rules.specs.declared.typed.TypedExpression.{TypedExpression}
use Rattle.c_typing_rules.specs.Rulings.{Ruling}
use Rattle.c_typing_expression_sound.proofs.CTypeLaws.Primary.{given_word, next_word}
use Rattle.c_typing_state.specs.declared.env.Env.{Env}
use Rattle.c_typing_state.specs.declared.notes.Notes.{Notes}
use Rattle.c_typing_state.specs.Checks.{each, note_fault}
use Rattle.c_typing_state.specs.Notes.{with_fault}
use Rattle.c_typing_state.specs.Scopes.{with_meaning, stands_here}
use Rattle.c_typing_constants.specs.c_constant_rules.Values.{given_value, next_value}
use Rattle.c_typing_judgements.specs.Leaves.{leaf}
use Rattle.c_typing_judgements.specs.Types.{JudgementState}
use Rattle.c_typing_expressions.specs.Expressions.{judge, derive}
use Rattle.c_typing_struct_bodies.specs.declared.members.Members.{Members}
use Rattle.c_typing_struct_bodies.specs.Enums.{explicit_value, one_above, value_behind, judge_value_held, constant_meaning, constant_declared, judge_constant_row}
use Rattle.c_typing_struct_bodies.specs.Members.{no_members}
use Rattle.c_typing_struct_bodies.specs.Bodies.{TagScope, enum_entered, struct_entered, type_behind, member_entered, bodies, judge_constants_held, judge_members_held, judge_member_row, declared_type}
use Rattle.c_types.proofs.CFoundUnitLaws.Names.{judge_leaves, derive_leaves}

-- names that do not stand in the scope are declared, with values of the type `int`
pub data Enters : Env → Env → Type 0 where
  Same : {env : Env} → Enters env env
  More : {env mid : Env} (name : List ℕ) (value : Option ℕ) → Enters env mid → stands_here mid (find name mid.names) ≡ false → IfSome value (λ word. IsTrue (is_word Int word)) → Enters env (with_meaning name (constant_meaning value) mid)

pub enters_then : {a b c : Env} → Enters a b → Enters b c → Enters a c
enters_then h Same = h
enters_then h (More name value g free word) = More name value (enters_then h g) free word

-- ---- the values of constants

abbrev IsValue : Option ℕ → Type 0
IsValue value = IfSome value (λ word. IsTrue (is_word Int word))

noted_word : (r : Ruling ℕ) (n : Notes) → IfOk r (λ word. IsTrue (is_word Int word)) → IsValue (note_fault r n).0
noted_word (Ok word) n h = h
noted_word (Err f) n h = tt

behind_word : (at : ℕ) (before : Option (Option ℕ)) (n : Notes) → IsValue (value_behind at before n).0
behind_word at None n = refl
behind_word at (Some None) n = tt
behind_word at (Some (Some last)) n = noted_word (next_value at last) n (next_word at last)

explicit_word : (o : Option TypedExpression) (n : Notes) → IsValue (each o explicit_value n).0
explicit_word None n = tt
explicit_word (Some a) n = noted_word (given_value a) n (given_word a)

held_word : (at : ℕ) (value : k.Held-Constant-value) (before : Option (Option ℕ)) (s : JudgementState) → IsValue (judge_value_held at value before s).0
held_word at k.Constant-value-None' before s = behind_word at before s.1
held_word at (k.Constant-value-Some' x) before s = explicit_word (judge x s).0 (judge x s).1.1

held_leaves : (at : ℕ) (value : k.Held-Constant-value) (before : Option (Option ℕ)) (s : JudgementState) → (judge_value_held at value before s).1.0 ≡ s.0
held_leaves at k.Constant-value-None' before s = refl
held_leaves at (k.Constant-value-Some' x) before s = judge_leaves x s

-- ---- a constant

constant_enters : (at : ℕ) (name : List ℕ) (value : Option ℕ) (s : JudgementState) → IsValue value → Enters s.0 (constant_declared at name value s).0
constant_enters at name value s h = choose (stands_here s.0 (find name s.0.names)) refl
  where
    either : Bool → JudgementState
    either b = if b then (s.0, with_fault at Redeclared s.1) else (with_meaning name (constant_meaning value) s.0, s.1)

    choose : (b : Bool) → stands_here s.0 (find name s.0.names) ≡ b → Enters s.0 (either b).0
    choose true e = Same
    choose false e = More name value Same e h

along_env : {a b c : Env} → b ≡ a → Enters b c → Enters a c
along_env {c = c} e h = subst (λ x. Enters x c) e h

constants_enter : {m : _} (xs : k.Row_of-Constant m) (before : Option (Option ℕ)) (s : JudgementState) → Enters s.0 (judge_constant_row xs before s).0
unfolding judge_constant_row
constants_enter k.end_of-Constant before s = Same
constants_enter (k.more_of-Constant at name value rest) before s =
    let v = judge_value_held at value before s in
    let w = constant_declared at name v.0 v.1 in
    enters_then (along_env (held_leaves at value before s) (constant_enters at name v.0 v.1 (held_word at value before s))) (constants_enter rest (Some v.0) w)

-- ---- bodies

same_env : {a b : Env} → b ≡ a → Enters a b
same_env {a = a} e = subst (λ x. Enters a x) (sym e) Same

pub behind_leaves : (at : ℕ) (ty : t.TypeNode) (s : TagScope) → (type_behind at ty s).1.1.0 ≡ s.1.0
behind_leaves at ty s = let l = leaf s.1.0 at ty s.1.1 in derive_leaves at ty l.0 (s.1.0, l.1)

mutual
  unfolding bodies

  bodies_enter : (x : t.TypeNode) (s : TagScope) → Enters s.1.0 (bodies x s).1.0
  bodies_enter (t.Basic words) s = Same
  bodies_enter (t.Named name) s = Same
  bodies_enter (t.Enum' at tag constants) s = constants_held_enter at tag constants s
  bodies_enter (t.Struct' at tag members) s = members_held_enter at tag members s
  bodies_enter (t.Pointer' _ (k.more_of-TypeNode x k.end_of-TypeNode)) s = bodies_enter x s
  bodies_enter (t.Array' _ (k.more_of-TypeNode x k.end_of-TypeNode) length) s = bodies_enter x s
  bodies_enter (t.Takes' _ (k.more_of-TypeNode x k.end_of-TypeNode) _ parameters) s = bodies_enter x s

  constants_held_enter : (at : ℕ) (tag : Option (List ℕ)) (x : k.Held-TypeNode-Enum-2) (s : TagScope) → Enters s.1.0 (judge_constants_held at tag x s).1.0
  constants_held_enter at tag k.TypeNode-Enum-2-None' s = Same
  constants_held_enter at tag (k.TypeNode-Enum-2-Some' _ constants) s = constants_enter constants None (enum_entered at tag s)

  members_held_enter : (at : ℕ) (tag : Option (List ℕ)) (x : k.Held-TypeNode-Struct-2) (s : TagScope) → Enters s.1.0 (judge_members_held at tag x s).1.0
  members_held_enter at tag k.TypeNode-Struct-2-None' s = Same
  members_held_enter at tag (k.TypeNode-Struct-2-Some' _ members) s = members_enter members (no_members, (struct_entered at tag s).1)

  members_enter : {m : _} (xs : k.Row_of-Declaration m) (w : Members × TagScope) → Enters w.1.1.0 (judge_member_row xs w).1.1.0
  members_enter k.end_of-Declaration w = Same
  members_enter (k.more_of-Declaration at name ty rest) w =
      let inner = bodies ty w.1 in
      let r = type_behind at ty inner in
      enters_then (bodies_enter ty w.1) (enters_then (same_env (behind_leaves at ty inner)) (members_enter rest (member_entered at name w.0 r)))

pub declared_enters : (at : ℕ) (ty : t.TypeNode) (s : TagScope) → Enters s.1.0 (declared_type at ty s).1.1.0
declared_enters at ty s = enters_then (bodies_enter ty s) (same_env (behind_leaves at ty (bodies ty s)))
