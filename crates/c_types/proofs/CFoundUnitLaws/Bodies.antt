-- The bodies of structs and enums: no name and no member has a fault behind them, or something is noted.
use Rattle.std.proofs.Common.{◌≡◌, ℕ, zero, suc, Bool, true, false, ◌&&◌, not, IsTrue, List, [], ◌∷◌, ◌++◌, length, slice_set, slice_get, Option, Some, None, is_some, refl, if◌then◌else◌}
use Rattle.std.specs.List.{list_all}
use Rattle.c_tree.specs.declared.expressions.Expr.{Expr}
use Rattle.c_tree.specs.declared.expressions.Expr.TheBlock as k
use Rattle.c_tree.specs.declared.types.TypeNode as t
use Rattle.c_typing_scopes.specs.Names.{Entry, find}
use Rattle.c_typing_struct_layout.specs.StructLayout.{struct_of}
use Rattle.c_typing_rules.specs.declared.c_typing_declared_types.declared.DeclaredType.{DeclaredType}
use Rattle.c_typing_rules.specs.declared.c_typing_declared_types.declared.DeclaredType.TheVariants as d
use Rattle.c_typing_faults.specs.declared.faults.Kind.TheVariants.{BadType, NoMember, Redeclared}
use Rattle.c_typing_rules.specs.declared.typed.TypedExpression.{TypedExpression}
use Rattle.c_typed_tree.specs.declared.types.CType.{CType}
use Rattle.c_typed_tree.specs.declared.types.StructDef.{StructDef}
use Rattle.c_typed_tree.specs.Layout.{is_complete}
use Rattle.c_typing_constants.specs.c_constant_rules.Values.{given_value, next_value}
use Rattle.c_typing_state.specs.declared.env.Env.{Env}
use Rattle.c_typing_state.specs.declared.meanings.NameMeaning.TheVariants as m
use Rattle.c_typing_state.specs.declared.notes.Notes.{Notes}
use Rattle.c_typing_state.specs.Checks.{each, and_then}
use Rattle.c_typing_state.specs.Notes.{with_fault}
use Rattle.c_typing_state.specs.Scopes.{with_meaning, stands_here}
use Rattle.c_typing_judgements.specs.Leaves.{leaf, tagged_enum, tagged_struct}
use Rattle.c_typing_judgements.specs.Types.{JudgementState, in_env}
use Rattle.c_typing_expressions.specs.Expressions.{judge, derive}
use Rattle.c_typing_struct_bodies.specs.declared.members.Members.{Members}
use Rattle.c_typing_struct_bodies.specs.Enums.{explicit_value, one_above, value_behind, judge_value_held, constant_meaning, constant_declared, judge_constant_row}
use Rattle.c_typing_struct_bodies.specs.Members.{no_members, is_member_type, no_member, member_type, with_member, with_faulty_member, member_named, member_declared}
use Rattle.c_typing_struct_bodies.specs.Structs.{DefinedTags, with_body, tagged_body, enum_begun, struct_number_of, no_body, number_for_tag, struct_begun, struct_where, with_struct, with_untagged, too_large, with_members, finish_struct, tag_name, struct_ended}
use Rattle.c_typing_struct_bodies.specs.Bodies.{TagScope, enum_entered, struct_entered, struct_left, type_behind, member_entered, bodies, judge_constants_held, judge_members_held, judge_member_row, declared_type}
use Rattle.c_typing_expression_sound.specs.c_found_laws.Laws.{are_sound_members, NamesAreSound, Tells, IsFound, YieldsFound}
use Rattle.c_typing_expression_sound.proofs.CFoundLaws.Forms.{no_true, front, back, also, holds, tells_none, tells_kept, tells_fault, tells_as, tells_then, tells_both, tells_never, tells_named, ruled_tells, each_tells, enum_tells, struct_tells, leaf_tells}
use Rattle.c_typing_expression_sound.proofs.CFoundLaws.Walks.{one_part, judge_tells, derive_tells}

-- nothing is said
abbrev TellsNothing : JudgementState → JudgementState → Type 0
TellsNothing s later = Tells (Unit {0}) s later

-- ---- enums

value_tells : (env : Env) (s : JudgementState) (at : ℕ) (before : Option (Option ℕ)) (n : Notes) → Tells (IsTrue (holds is_some before)) s (env, n) → Tells (IsFound (value_behind at before n).0) s (env, (value_behind at before n).1)
value_tells env s at None n h = tells_as s (env, n) (λ x. refl) h
value_tells env s at (Some last) n h = each_tells env s last (one_above at) n h (λ x. ruled_tells env (next_value at x) n)

value_held_tells : (at : ℕ) (value : k.Held-Constant-value) (before : Option (Option ℕ)) (s u : JudgementState) → Tells (IsTrue (holds is_some before)) s u → YieldsFound s (judge_value_held at value before u)
value_held_tells at k.Constant-value-None' before s u h = value_tells u.0 s at before u.1 h
value_held_tells at (k.Constant-value-Some' x) before s u h =
    let r = judge x u in
    each_tells r.1.0 s r.0 explicit_value r.1.1 (tells_both s u r.1 (λ x y. y) h (judge_tells x u)) (λ a. ruled_tells r.1.0 (given_value a) r.1.1)

constant_named : (name : List ℕ) (value : Option ℕ) (s u : JudgementState) → Tells (IsFound value) s u → Tells (IsFound value) s (with_meaning name (constant_meaning value) u.0, u.1)
constant_named name None s u h = record { before = h.before; stays = λ t g. no_true (h.found t g); found = h.found }
constant_named name (Some word) s u h = tells_both s u (with_meaning name (m.Constant word) u.0, u.1) (λ x y. x) h (tells_named {X = Unit {0}} name (m.Constant word) u refl tt)

constant_tells : (at : ℕ) (name : List ℕ) (value : Option ℕ) (s u : JudgementState) → Tells (IsFound value) s u → Tells (IsFound value) s (constant_declared at name value u)
constant_tells at name value s u h = choose (stands_here u.0 (find name u.0.names))
  where
    either : Bool → JudgementState
    either b = if b then (u.0, with_fault at Redeclared u.1) else (with_meaning name (constant_meaning value) u.0, u.1)

    choose : (b : Bool) → Tells (IsFound value) s (either b)
    choose true = tells_both s u (u.0, with_fault at Redeclared u.1) (λ x y. x) h (tells_fault {X = Unit {0}} u.0 at Redeclared u.1)
    choose false = constant_named name value s u h

constants_tell : {m : _} (xs : k.Row_of-Constant m) (before : Option (Option ℕ)) (s u : JudgementState) → Tells (IsTrue (holds is_some before)) s u → TellsNothing s (judge_constant_row xs before u)
unfolding judge_constant_row
constants_tell k.end_of-Constant before s u h = tells_as s u (λ x. tt) h
constants_tell (k.more_of-Constant at name value rest) before s u h =
    let v = judge_value_held at value before u in
    constants_tell rest (Some v.0) s (constant_declared at name v.0 v.1) (constant_tells at name v.0 s v.1 (value_held_tells at value before s u h))

-- ---- structs

member_type_tells : (env : Env) (at : ℕ) (x : DeclaredType) (n : Notes) → Tells (IsFound (member_type at x n).0) (env, n) (env, (member_type at x n).1)
member_type_tells env at (d.Value x) n = choose (is_member_type n.structs x)
  where
    either : Bool → Option CType × Notes
    either b = if b then (Some x, n) else no_member at n

    choose : (b : Bool) → Tells (IsFound (either b).0) (env, n) (env, (either b).1)
    choose true = tells_none (env, n) refl
    choose false = tells_fault env at BadType n
member_type_tells env at (d.Unsized x) n = tells_fault env at BadType n
member_type_tells env at (d.Function x xs) n = tells_fault env at BadType n

-- the members so far
abbrev AreSound : Members → Type 0
AreSound m = IsTrue (are_sound_members m.names)

with_sound : (name : List ℕ) (ty : Option CType) (m : Members) → AreSound m → IsFound ty → AreSound (with_member name ty m)
with_sound name None m h g = no_true g
with_sound name (Some ty) m h g = h

member_named_tells : (at : ℕ) (name : List ℕ) (m : Members) (ty : Option CType) (s : JudgementState) (env : Env) (n : Notes) → Tells (AreSound m × IsFound ty) s (env, n)
    → Tells (AreSound (member_named at name m ty n).0) s (env, (member_named at name m ty n).1)
member_named_tells at name m ty s env n h = choose (is_some (find name m.names))
  where
    either : Bool → Members × Notes
    either b = if b then (with_faulty_member m, with_fault at NoMember n) else (with_member name ty m, n)

    choose : (b : Bool) → Tells (AreSound (either b).0) s (env, (either b).1)
    choose true = tells_both s (env, n) (env, with_fault at NoMember n) (λ x y. y) h (tells_fault env at NoMember n)
    choose false = tells_as s (env, n) (λ x. with_sound name ty m x.0 x.1) h

member_tells : (at : ℕ) (name : List ℕ) (m : Members) (ty : Option DeclaredType) (s : JudgementState) (env : Env) (n : Notes) → Tells (AreSound m × IsFound ty) s (env, n)
    → Tells (AreSound (member_declared at name m ty n).0) s (env, (member_declared at name m ty n).1)
member_tells at name m ty s env n h =
    let r = each ty (member_type at) n in
    member_named_tells at name m r.0 s env r.1 (both_kept ty h)
  where
    both_kept : (ty : Option DeclaredType) → Tells (AreSound m × IsFound ty) s (env, n) → Tells (AreSound m × IsFound (each ty (member_type at) n).0) s (env, (each ty (member_type at) n).1)
    both_kept None h = tells_as s (env, n) (λ x. no_true x.1) h
    both_kept (Some x) h = tells_both s (env, n) (env, (member_type at x n).1) (λ p y. (p.0, y)) h (member_type_tells env at x n)

-- where a body begins

enum_begun_tells : (env : Env) (ts : DefinedTags) (at : ℕ) (tag : Option (List ℕ)) (n : Notes) → TellsNothing (env, n) (env, enum_begun ts at tag n)
enum_begun_tells env ts at None n = tells_none (env, n) tt
enum_begun_tells env ts at (Some name) n = choose (is_some (find name ts))
  where
    either : Bool → Notes
    either b = if b then with_fault at Redeclared n else (tagged_enum at name n).1

    choose : (b : Bool) → TellsNothing (env, n) (env, either b)
    choose true = tells_fault env at Redeclared n
    choose false = tells_as (env, n) (env, (tagged_enum at name n).1) (λ x. tt) (enum_tells env at (Some name) n)

struct_begun_tells : (env : Env) (ts : DefinedTags) (at : ℕ) (tag : Option (List ℕ)) (n : Notes) → TellsNothing (env, n) (env, (struct_begun ts at tag n).1)
struct_begun_tells env ts at None n = record {
  before = λ t. t;
  stays = λ t h. (h.0, all_with n.members h.1);
  found = λ t h. tt;
}
  where
    all_with : (xs : List (List (Entry (Option ℕ)))) → IsTrue (list_all are_sound_members xs) → IsTrue (list_all are_sound_members (xs ++ [] ∷ []))
    all_with [] h = refl
    all_with (x ∷ xs) h = also (are_sound_members x) (list_all are_sound_members (xs ++ [] ∷ [])) (front (are_sound_members x) (list_all are_sound_members xs) h) (all_with xs (back (are_sound_members x) (list_all are_sound_members xs) h))
struct_begun_tells env ts at (Some name) n = choose (is_some (find name ts))
  where
    either : Bool → Option ℕ × Notes
    either b = if b then no_body at n else number_for_tag at name n

    choose : (b : Bool) → TellsNothing (env, n) (env, (either b).1)
    choose true = tells_fault env at Redeclared n
    choose false = tells_as (env, n) (env, (tagged_struct at name n).1) (λ x. tt) (struct_tells env at (Some name) n)

-- where the body of a struct ends

set_sound : (tables : List (List (Entry (Option ℕ)))) (number : ℕ) (names : List (Entry (Option ℕ))) → IsTrue (list_all are_sound_members tables) → IsTrue (are_sound_members names) → IsTrue (list_all are_sound_members (slice_set tables number names))
set_sound [] number names h g = h
set_sound (x ∷ xs) zero names h g = also (are_sound_members names) (list_all are_sound_members xs) g (back (are_sound_members x) (list_all are_sound_members xs) h)
set_sound (x ∷ xs) (suc number) names h g = also (are_sound_members x) (list_all are_sound_members (slice_set xs number names)) (front (are_sound_members x) (list_all are_sound_members xs) h) (set_sound xs number names (back (are_sound_members x) (list_all are_sound_members xs) h) g)

module _ (env : Env) (s : JudgementState) (at : ℕ) (number : ℕ) (m : Members) where
  untagged_tells : (tag : Option (List ℕ)) (n : Notes) → TellsNothing s (env, n) → TellsNothing s (env, with_untagged at tag number n)
  untagged_tells None n h = tells_both s (env, n) (env, with_untagged at None number n) (λ x y. y) h (tells_kept (env, n) (env, with_untagged at None number n) refl refl refl refl tt)
  untagged_tells (Some name) n h = h

  large_tells : (b : Bool) (n : Notes) → Tells (AreSound m) s (env, n) → TellsNothing s (env, too_large at b n)
  large_tells true n h = tells_as s (env, n) (λ x. tt) h
  large_tells false n h = tells_both s (env, n) (env, with_fault at BadType n) (λ x y. y) h (tells_fault env at BadType n)

  struct_tells_set : (structure : StructDef) (n : Notes) → Tells (AreSound m) s (env, n) → TellsNothing s (env, with_struct number structure m.names n)
  struct_tells_set structure n h = record {
    before = h.before;
    stays = λ t g. ((h.stays t g).0, set_sound n.members number m.names (h.stays t g).1 (h.found t g));
    found = λ t g. tt;
  }

  complete_tells : (o : Option StructDef) (n : Notes) → Tells (AreSound m) s (env, n) → TellsNothing s (env, finish_struct at number m o n)
  complete_tells None n h = large_tells m.faulty n h
  complete_tells (Some structure) n h = choose (is_complete (slice_get n.structs number))
    where
      either : Bool → Notes
      either b = if b then n else with_struct number structure m.names n

      choose : (b : Bool) → TellsNothing s (env, either b)
      choose true = tells_as s (env, n) (λ x. tt) h
      choose false = struct_tells_set structure n h

ended_tells : (env : Env) (s : JudgementState) (at : ℕ) (tag : Option (List ℕ)) (number : Option ℕ) (m : Members) (n : Notes) → Tells (AreSound m) s (env, n) → TellsNothing s (env, struct_ended at tag number m n)
ended_tells env s at tag None m n h = tells_as s (env, n) (λ x. tt) h
ended_tells env s at tag (Some number) m n h =
    let o = struct_where n.structs (tag_name tag) m.fields in
    untagged_tells env s at number m tag (finish_struct at number m o n) (complete_tells env s at number m o n h)

-- ---- the type behind the bodies

behind_tells : (at : ℕ) (ty : t.TypeNode) (s : TagScope) → Tells (IsFound (type_behind at ty s).0) s.1 (type_behind at ty s).1.1
behind_tells at ty s =
    let l = leaf s.1.0 at ty s.1.1 in
    tells_both s.1 (s.1.0, l.1) (derive at ty l.0 (s.1.0, l.1)).1 (λ x y. y x) (leaf_tells s.1.0 at ty s.1.1) (derive_tells at ty l.0 (s.1.0, l.1))

mutual
  unfolding bodies

  pub bodies_tell : (x : t.TypeNode) (s : TagScope) → TellsNothing s.1 (bodies x s).1
  bodies_tell (t.Basic words) s = tells_none s.1 tt
  bodies_tell (t.Named name) s = tells_none s.1 tt
  bodies_tell (t.Enum' at tag constants) s = constants_held_tell at tag constants s
  bodies_tell (t.Struct' at tag members) s = members_held_tell at tag members s
  bodies_tell (t.Pointer' _ (k.more_of-TypeNode x k.end_of-TypeNode)) s = bodies_tell x s
  bodies_tell (t.Array' _ (k.more_of-TypeNode x k.end_of-TypeNode) length) s = bodies_tell x s
  bodies_tell (t.Takes' _ (k.more_of-TypeNode x k.end_of-TypeNode) _ parameters) s = bodies_tell x s

  constants_held_tell : (at : ℕ) (tag : Option (List ℕ)) (x : k.Held-TypeNode-Enum-2) (s : TagScope) → TellsNothing s.1 (judge_constants_held at tag x s).1
  constants_held_tell at tag k.TypeNode-Enum-2-None' s = tells_none s.1 tt
  constants_held_tell at tag (k.TypeNode-Enum-2-Some' _ constants) s =
      constants_tell constants None s.1 (enum_entered at tag s) (tells_as s.1 (enum_entered at tag s) (λ x. refl) (enum_begun_tells s.1.0 s.0 at tag s.1.1))

  members_held_tell : (at : ℕ) (tag : Option (List ℕ)) (x : k.Held-TypeNode-Struct-2) (s : TagScope) → TellsNothing s.1 (judge_members_held at tag x s).1
  members_held_tell at tag k.TypeNode-Struct-2-None' s = tells_none s.1 tt
  members_held_tell at tag (k.TypeNode-Struct-2-Some' _ members) s =
      let u = struct_entered at tag s in
      let w = judge_member_row members (no_members, u.1) in
      ended_tells w.1.1.0 s.1 at tag u.0 w.0 w.1.1.1
      (members_tell members s.1 (no_members, u.1) (tells_as s.1 u.1.1 (λ x. refl) (struct_begun_tells s.1.0 s.0 at tag s.1.1)))

  members_tell : {m : _} (xs : k.Row_of-Declaration m) (s : JudgementState) (w : Members × TagScope) → Tells (AreSound w.0) s w.1.1 → Tells (AreSound (judge_member_row xs w).0) s (judge_member_row xs w).1.1
  members_tell k.end_of-Declaration s w h = h
  members_tell (k.more_of-Declaration at name ty rest) s w h =
      let inner = bodies ty w.1 in
      let r = type_behind at ty inner in
      members_tell rest s (member_entered at name w.0 r)
      (member_tells at name w.0 r.0 s r.1.1.0 r.1.1.1 (tells_then s inner.1 r.1.1 (tells_both s w.1.1 inner.1 (λ x y. x) h (bodies_tell ty w.1)) (behind_tells at ty inner)))

pub declared_tells : (at : ℕ) (ty : t.TypeNode) (s : TagScope) → Tells (IsFound (declared_type at ty s).0) s.1 (declared_type at ty s).1.1
declared_tells at ty s = tells_both s.1 (bodies ty s).1 (declared_type at ty s).1.1 (λ x y. y) (bodies_tell ty s) (behind_tells at ty (bodies ty s))
