-- The bodies of structs and enums in a specifier, and the type that a declaration with them gives (C99 6.7.2). What is
-- in a body is judged also where the body is one too many.
use Rattle.std.specs.Prelude.{ℕ, List, Option, None}
use Rattle.c_tree.specs.declared.types.TypeNode as t
use Rattle.c_tree.specs.declared.expressions.Expr.TheBlock as k
use Rattle.c_typing_rules.specs.declared.c_typing_declared_types.declared.DeclaredType.{DeclaredType}
use Rattle.c_typing_state.specs.Checks.{and_then}
use Rattle.c_typing_judgements.specs.Leaves.{leaf}
use Rattle.c_typing_judgements.specs.Types.{JudgementState, in_env}
use Rattle.c_typing_expressions.specs.Expressions.{derive}
use Rattle.c_typing_struct_bodies.specs.declared.members.Members.{Members}
use Rattle.c_typing_struct_bodies.specs.Enums.{then_rest, judge_constant_row}
use Rattle.c_typing_struct_bodies.specs.Members.{no_members, member_declared}
use Rattle.c_typing_struct_bodies.specs.Structs.{DefinedTags, with_body, enum_begun, struct_begun, struct_ended}

-- the tags that have a body, the names in scope, and what was noted
abbrev pub TagScope : Type 0
TagScope = DefinedTags × JudgementState

abbrev pub tags_beside : {A : Type 0} → DefinedTags → A × JudgementState → A × TagScope
tags_beside ts x = (x.0, (ts, x.1))

-- ---- the parts of a body, with what stands between them

abbrev pub enum_entered : ℕ → (tag : Option (List ℕ)) → TagScope → JudgementState
enum_entered at tag s = (s.1.0, enum_begun s.0 at tag s.1.1)

abbrev pub struct_entered : ℕ → (tag : Option (List ℕ)) → TagScope → Option ℕ × TagScope
struct_entered at tag s = tags_beside (with_body tag s.0) (in_env s.1.0 (struct_begun s.0 at tag s.1.1))

abbrev pub struct_left : ℕ → (tag : Option (List ℕ)) → (number : Option ℕ) → Members × TagScope → TagScope
struct_left at tag number w = (w.1.0, (w.1.1.0, struct_ended at tag number w.0 w.1.1.1))

-- the type of what is declared, behind the bodies of its specifier
abbrev pub type_behind : ℕ → t.TypeNode → TagScope → Option DeclaredType × TagScope
type_behind at ty s = tags_beside s.0 (and_then (in_env s.1.0 (leaf s.1.0 at ty s.1.1)) (λ of. derive at ty of))

abbrev pub member_entered : ℕ → List ℕ → Members → Option DeclaredType × TagScope → Members × TagScope
member_entered at name m r = tags_beside r.1.0 (in_env r.1.1.0 (member_declared at name m r.0 r.1.1.1))

-- ---- whatever declarator stands around the specifier

unfoldable mutual
  pub bodies : t.TypeNode → TagScope → TagScope
  bodies (t.Basic words) s = s
  bodies (t.Named name) s = s
  bodies (t.Enum' at tag constants) s = judge_constants_held at tag constants s
  bodies (t.Struct' at tag members) s = judge_members_held at tag members s
  bodies (t.Pointer' _ (k.more_of-TypeNode x k.end_of-TypeNode)) s = bodies x s
  bodies (t.Array' _ (k.more_of-TypeNode x k.end_of-TypeNode) length) s = bodies x s
  bodies (t.Takes' _ (k.more_of-TypeNode x k.end_of-TypeNode) _ parameters) s = bodies x s

  pub judge_constants_held : ℕ → (tag : Option (List ℕ)) → k.Held-TypeNode-Enum-2 → TagScope → TagScope
  judge_constants_held at tag k.TypeNode-Enum-2-None' s = s
  judge_constants_held at tag (k.TypeNode-Enum-2-Some' _ constants) s =
      (with_body tag s.0, judge_constant_row constants None (enum_entered at tag s))

  pub judge_members_held : ℕ → (tag : Option (List ℕ)) → k.Held-TypeNode-Struct-2 → TagScope → TagScope
  judge_members_held at tag k.TypeNode-Struct-2-None' s = s
  judge_members_held at tag (k.TypeNode-Struct-2-Some' _ members) s =
      then_rest (struct_entered at tag s)
      (λ number u. struct_left at tag number (judge_member_row members (no_members, u)))

  pub judge_member_row : {m : _} → k.Row_of-Declaration m → Members × TagScope → Members × TagScope
  judge_member_row k.end_of-Declaration w = w
  judge_member_row (k.more_of-Declaration at name ty rest) w =
      judge_member_row rest (member_entered at name w.0 (type_behind at ty (bodies ty w.1)))

-- the type of a declaration at file scope or of a member
abbrev pub declared_type : ℕ → t.TypeNode → TagScope → Option DeclaredType × TagScope
declared_type at ty s = type_behind at ty (bodies ty s)
