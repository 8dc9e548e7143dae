-- The parts of bodies, as records and options that code sees.
use Rattle.std.specs.Prelude.{ℕ, List, [], ◌∷◌, Option, Some, None}
use Rattle.c_tree.specs.declared.expressions.Expr as e
use Rattle.c_tree.specs.declared.types.Constant.{Constant}
use Rattle.c_tree.specs.declared.types.Declaration.{Declaration}
use Rattle.c_typing_state.specs.Checks.{and_then, each}
use Rattle.c_typing_expressions.specs.Expressions.{judge}
use Rattle.c_typing_judgements.specs.Types.{JudgementState, in_env}
use Rattle.c_typing_struct_bodies.specs.declared.members.Members.{Members}
use Rattle.c_typing_struct_bodies.specs.Enums.{explicit_value, value_behind, then_rest, constant_declared}
use Rattle.c_typing_struct_bodies.specs.Members.{no_members}
use Rattle.c_typing_struct_bodies.specs.Structs.{with_body}
use Rattle.c_typing_struct_bodies.specs.Bodies.{TagScope, enum_entered, struct_entered, struct_left, member_entered, declared_type}

abbrev pub constant_value : ℕ → Option e.Expr → (before : Option (Option ℕ)) → JudgementState →
    Option ℕ × JudgementState
constant_value at None before s = in_env s.0 (value_behind at before s.1)
constant_value at (Some x) before s = and_then (judge x s) (λ a u. in_env u.0 (each a explicit_value u.1))

abbrev pub constants : List Constant → (before : Option (Option ℕ)) → JudgementState → JudgementState
constants [] before s = s
constants (c ∷ cs) before s =
    then_rest (constant_value c.at c.value before s) (λ v u. constants cs (Some v) (constant_declared c.at c.name v u))

abbrev pub enum_body : ℕ → (tag : Option (List ℕ)) → List Constant → TagScope → TagScope
enum_body at tag cs s = (with_body tag s.0, constants cs None (enum_entered at tag s))

abbrev pub one_member : Declaration → Members × TagScope → Members × TagScope
one_member d w = member_entered d.at d.name w.0 (declared_type d.at d.ty w.1)

abbrev pub members : List Declaration → Members × TagScope → Members × TagScope
members [] w = w
members (d ∷ ds) w = members ds (one_member d w)

abbrev pub struct_body : ℕ → (tag : Option (List ℕ)) → List Declaration → TagScope → TagScope
struct_body at tag ds s =
    then_rest (struct_entered at tag s) (λ number u. struct_left at tag number (members ds (no_members, u)))
