-- The parts of a list that code sees are those of the row that the definitions go over.
use Rattle.std.proofs.Common.{◌≡◌, ℕ, List, Option, Some, None, refl, ap, ◌∙◌}
use mathlib.Core.Former.{Count}
use Rattle.c_tree.specs.declared.types.TypeNode as t
use Rattle.c_tree.specs.declared.types.Constant.{Constant}
use Rattle.c_tree.specs.declared.types.Declaration.{Declaration}
use Rattle.c_tree.specs.declared.expressions.Expr.TheBlock as k
use Rattle.c_typing_judgements.specs.Types.{JudgementState}
use Rattle.c_typing_struct_bodies.specs.declared.members.Members.{Members}
use Rattle.c_typing_struct_bodies.specs.Enums.{judge_constant_row, constant_declared}
use Rattle.c_typing_struct_bodies.specs.Members.{no_members}
use Rattle.c_typing_struct_bodies.specs.Structs.{with_body}
use Rattle.c_typing_struct_bodies.specs.Bodies.{TagScope, bodies, judge_member_row, enum_entered, struct_entered, struct_left}
use Rattle.c_typing_struct_bodies.specs.model.Opens.{opens}
use Rattle.c_typing_struct_bodies.specs.model.Parts.{constant_value, constants, one_member, members, enum_body, struct_body}

constant_row_is : (m : Count) (xs : k.Row_of-Constant m) (before : Option (Option ℕ)) (s : JudgementState) → judge_constant_row xs before s ≡ constants (k.items-the_row-Constant m xs) before s
unfolding judge_constant_row
constant_row_is m k.end_of-Constant before s = refl
constant_row_is m (k.more_of-Constant at name k.Constant-value-None' rest) before s =
    constant_row_is _ rest (Some (constant_value at None before s).0) (constant_declared at name (constant_value at None before s).0 (constant_value at None before s).1)
constant_row_is m (k.more_of-Constant at name (k.Constant-value-Some' x) rest) before s =
    constant_row_is _ rest (Some (constant_value at (Some x) before s).0) (constant_declared at name (constant_value at (Some x) before s).0 (constant_value at (Some x) before s).1)

pub constant_row-hidden : (xs : List Constant) (before : Option (Option ℕ)) (s : JudgementState) → judge_constant_row (k.hidden-the_row-Constant-3 xs) before s ≡ constants xs before s
constant_row-hidden xs before s = constant_row_is _ (k.hidden-the_row-Constant-3 xs) before s ∙ ap (λ l. constants l before s) (k.items_hidden-the_row-Constant-3 xs)

member_row_is : (m : Count) (xs : k.Row_of-Declaration m) (w : Members × TagScope) → judge_member_row xs w ≡ members (k.items-the_row-Declaration m xs) w
unfolding bodies
member_row_is m k.end_of-Declaration w = refl
member_row_is m (k.more_of-Declaration at name ty rest) w = member_row_is _ rest (one_member (record { at = at; name = name; ty = ty }) w)

pub member_row-hidden : (xs : List Declaration) (w : Members × TagScope) → judge_member_row (k.hidden-the_row-Declaration-4 xs) w ≡ members xs w
member_row-hidden xs w = member_row_is _ (k.hidden-the_row-Declaration-4 xs) w ∙ ap (λ l. members l w) (k.items_hidden-the_row-Declaration-4 xs)

-- ---- bodies, as code sees them

pub bodies-Enum : (at : ℕ) (tag : Option (List ℕ)) (xs : List Constant) (s : TagScope) → bodies (t.Enum at tag (Some xs)) s ≡ enum_body at tag xs s
unfolding opens
bodies-Enum at tag xs s = ap (λ u. (with_body tag s.0, u)) (constant_row-hidden xs None (enum_entered at tag s))

pub bodies-Struct : (at : ℕ) (tag : Option (List ℕ)) (xs : List Declaration) (s : TagScope) → bodies (t.Struct at tag (Some xs)) s ≡ struct_body at tag xs s
unfolding opens
bodies-Struct at tag xs s = ap (struct_left at tag (struct_entered at tag s).0) (member_row-hidden xs (no_members, (struct_entered at tag s).1))

pub ruleset rows = (bodies-Enum, bodies-Struct)
