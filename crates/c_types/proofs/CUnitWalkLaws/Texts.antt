-- Texts come behind those that were noted, in bodies of structs and enums too.
use Rattle.std.proofs.Common.{◌≡◌, ℕ, Bool, true, false, IsTrue, List, [], ◌∷◌, ◌++◌, Option, Some, None, is_some, refl, sym, ap, subst, ◌∙◌, append_assoc, if◌then◌else◌}
use Rattle.std.specs.List.{list_all}
use Rattle.c_tree.specs.declared.types.TypeNode as t
use Rattle.c_tree.specs.declared.expressions.Expr.TheBlock as k
use Rattle.c_typed_tree.specs.declared.types.CType.{CType}
use Rattle.c_typed_tree.specs.declared.types.StructDef.{StructDef}
use Rattle.c_typed_tree.specs.Layout.{is_complete}
use Rattle.std.specs.Prelude.{slice_get}
use Rattle.c_typing_rules.specs.declared.c_typing_declared_types.declared.DeclaredType.{DeclaredType}
use Rattle.c_typing_rules.specs.declared.c_typing_declared_types.declared.DeclaredType.TheVariants as d
use Rattle.c_typing_faults.specs.declared.faults.Kind.TheVariants.{Redeclared, BadType, NoMember}
use Rattle.c_typing_scopes.specs.Names.{Entry, find}
use Rattle.c_typing_constants.specs.c_constant_rules.Values.{given_value, next_value}
use Rattle.c_typing_state.specs.declared.notes.Notes.{Notes}
use Rattle.c_typing_state.specs.Checks.{each}
use Rattle.c_typing_state.specs.Notes.{with_fault}
use Rattle.c_typing_state.specs.Scopes.{with_meaning, stands_here}
use Rattle.c_typing_judgements.specs.Leaves.{leaf, tagged_enum}
use Rattle.c_typing_judgements.specs.Types.{JudgementState}
use Rattle.c_typing_expressions.specs.Expressions.{judge}
use Rattle.c_typing_struct_bodies.specs.declared.members.Members.{Members}
use Rattle.c_typing_struct_bodies.specs.Enums.{explicit_value, one_above, judge_value_held, constant_meaning, constant_declared, judge_constant_row}
use Rattle.c_typing_struct_bodies.specs.Members.{no_members, is_member_type, no_member, member_type, with_member, with_faulty_member, member_named}
use Rattle.c_typing_struct_bodies.specs.Structs.{DefinedTags, enum_begun, number_for_tag, no_body, struct_begun, struct_where, tag_name, with_struct, with_untagged, too_large, finish_struct, struct_ended}
use Rattle.c_typing_struct_bodies.specs.Bodies.{TagScope, enum_entered, struct_entered, type_behind, member_entered, bodies, judge_constants_held, judge_members_held, judge_member_row, declared_type}
use Rattle.c_typing_expression_sound.specs.c_note_laws.Steps.{is_sized, NoteSteps}
use Rattle.c_typing_expression_sound.specs.c_note_laws.Laws.{StandsFirst}
use Rattle.c_typing_expression_sound.proofs.CNoteLaws.Forms.{ruled_steps, each_adds, enum_adds, struct_adds, leaf_adds}
use Rattle.c_typing_expression_sound.proofs.CNoteLaws.Walks.{judge_adds, derive_adds}
use Rattle.c_typing_expression_sound.proofs.CNoteLaws.Added.{steps_add}

-- texts are only added
pub record AddsTexts (n later : Notes) : Type 0 where
  pub texts : StandsFirst n.texts later.texts
  pub first : later.first_text ≡ n.first_text
  pub sized : IsTrue (list_all is_sized n.texts) → IsTrue (list_all is_sized later.texts)

append_none : {A : Type 0} (xs : List A) → xs ≡ xs ++ []
append_none [] = refl
append_none (x ∷ xs) = ap (λ ys. x ∷ ys) (append_none xs)

pub stands_itself : {A : Type 0} (xs : List A) → StandsFirst xs xs
stands_itself xs = record { more = []; same = append_none xs }

pub stands_then : {A : Type 0} (xs ys zs : List A) → StandsFirst xs ys → StandsFirst ys zs → StandsFirst xs zs
stands_then xs ys zs h g = record { more = h.more ++ g.more; same = g.same ∙ (ap (λ l. l ++ g.more) h.same ∙ append_assoc xs h.more g.more) }

pub texts_stay : (n later : Notes) → later.texts ≡ n.texts → later.first_text ≡ n.first_text → AddsTexts n later
texts_stay n later e f = record { texts = record { more = []; same = e ∙ append_none n.texts }; first = f; sized = λ h. subst (λ ts. IsTrue (list_all is_sized ts)) (sym e) h }

pub texts_then : (n m later : Notes) → AddsTexts n m → AddsTexts m later → AddsTexts n later
texts_then n m later h g = record { texts = stands_then n.texts m.texts later.texts h.texts g.texts; first = g.first ∙ h.first; sized = λ k. g.sized (h.sized k) }

pub steps_texts : {n later : Notes} → NoteSteps n later → AddsTexts n later
steps_texts steps = let a = steps_add steps in record { texts = a.texts; first = a.first; sized = a.sized }

-- ---- enumeration constants

value_texts : (at : ℕ) (value : k.Held-Constant-value) (before : Option (Option ℕ)) (s : JudgementState) → AddsTexts s.1 (judge_value_held at value before s).1.1
value_texts at k.Constant-value-None' None s = steps_texts NoteSteps.Stays
value_texts at k.Constant-value-None' (Some before) s = steps_texts (each_adds before (one_above at) s.1 (λ word. ruled_steps (next_value at word) s.1))
value_texts at (k.Constant-value-Some' x) before s =
    let a = judge x s in
    steps_texts (NoteSteps.Follows (judge_adds x s) (each_adds a.0 explicit_value a.1.1 (λ v. ruled_steps (given_value v) a.1.1)))

constant_texts : (at : ℕ) (name : List ℕ) (value : Option ℕ) (s : JudgementState) → AddsTexts s.1 (constant_declared at name value s).1
constant_texts at name value s = choose (stands_here s.0 (find name s.0.names))
  where
    either : Bool → JudgementState
    either b = if b then (s.0, with_fault at Redeclared s.1) else (with_meaning name (constant_meaning value) s.0, s.1)

    choose : (b : Bool) → AddsTexts s.1 (either b).1
    choose true = steps_texts (NoteSteps.AddsFault at Redeclared)
    choose false = steps_texts NoteSteps.Stays

constants_texts : {m : _} (xs : k.Row_of-Constant m) (before : Option (Option ℕ)) (s : JudgementState) → AddsTexts s.1 (judge_constant_row xs before s).1
unfolding judge_constant_row
constants_texts k.end_of-Constant before s = steps_texts NoteSteps.Stays
constants_texts (k.more_of-Constant at name value rest) before s =
    let v = judge_value_held at value before s in
    let u = constant_declared at name v.0 v.1 in
    texts_then s.1 v.1.1 _ (value_texts at value before s) (texts_then v.1.1 u.1 _ (constant_texts at name v.0 v.1) (constants_texts rest (Some v.0) u))

enum_texts : (ts : DefinedTags) (at : ℕ) (tag : Option (List ℕ)) (n : Notes) → AddsTexts n (enum_begun ts at tag n)
enum_texts ts at None n = steps_texts NoteSteps.Stays
enum_texts ts at (Some name) n = choose (is_some (find name ts))
  where
    choose : (b : Bool) → AddsTexts n (if b then with_fault at Redeclared n else (tagged_enum at name n).1)
    choose true = steps_texts (NoteSteps.AddsFault at Redeclared)
    choose false = steps_texts (enum_adds at (Some name) n)

-- ---- structs

begun_texts : (ts : DefinedTags) (at : ℕ) (tag : Option (List ℕ)) (n : Notes) → AddsTexts n (struct_begun ts at tag n).1
begun_texts ts at None n = texts_stay n (struct_begun ts at None n).1 refl refl
begun_texts ts at (Some name) n = choose (is_some (find name ts))
  where
    choose : (b : Bool) → AddsTexts n (if b then no_body at n else number_for_tag at name n).1
    choose true = steps_texts (NoteSteps.AddsFault at Redeclared)
    choose false = steps_texts (struct_adds at (Some name) n)

written_texts : (number : ℕ) (structure : StructDef) (names : List (Entry (Option ℕ))) (n : Notes) (b : Bool) → AddsTexts n (if b then n else with_struct number structure names n)
written_texts number structure names n true = texts_stay n n refl refl
written_texts number structure names n false = texts_stay n (with_struct number structure names n) refl refl

complete_texts : (at number : ℕ) (m : Members) (o : Option StructDef) (n : Notes) → AddsTexts n (finish_struct at number m o n)
complete_texts at number m (Some structure) n = written_texts number structure m.names n (is_complete (slice_get n.structs number))
complete_texts at number m None n = choose m.faulty
  where
    choose : (b : Bool) → AddsTexts n (too_large at b n)
    choose true = steps_texts NoteSteps.Stays
    choose false = steps_texts (NoteSteps.AddsFault at BadType)

untagged_texts : (at : ℕ) (tag : Option (List ℕ)) (number : ℕ) (n m : Notes) → AddsTexts n m → AddsTexts n (with_untagged at tag number m)
untagged_texts at None number n m h = record { texts = h.texts; first = h.first; sized = h.sized }
untagged_texts at (Some name) number n m h = h

ended_texts : (at : ℕ) (tag : Option (List ℕ)) (number : Option ℕ) (m : Members) (n : Notes) → AddsTexts n (struct_ended at tag number m n)
ended_texts at tag None m n = steps_texts NoteSteps.Stays
ended_texts at tag (Some number) m n =
    let made = struct_where n.structs (tag_name tag) m.fields in
    untagged_texts at tag number n (finish_struct at number m made n) (complete_texts at number m made n)

-- ---- the type behind the bodies of a specifier

pub behind_texts : (at : ℕ) (ty : t.TypeNode) (s : TagScope) → AddsTexts s.1.1 (type_behind at ty s).1.1.1
behind_texts at ty s =
    let l = leaf s.1.0 at ty s.1.1 in
    steps_texts (NoteSteps.Follows (leaf_adds s.1.0 at ty s.1.1) (derive_adds at ty l.0 (s.1.0, l.1)))

member_type_steps : (at : ℕ) (x : DeclaredType) (n : Notes) → NoteSteps n (member_type at x n).1
member_type_steps at (d.Value x) n = choose (is_member_type n.structs x)
  where
    choose : (b : Bool) → NoteSteps n (if b then (Some x, n) else no_member at n).1
    choose true = NoteSteps.Stays
    choose false = NoteSteps.AddsFault at BadType
member_type_steps at (d.Unsized x) n = NoteSteps.AddsFault at BadType
member_type_steps at (d.Function x xs) n = NoteSteps.AddsFault at BadType

member_named_steps : (at : ℕ) (name : List ℕ) (m : Members) (o : Option CType) (n : Notes) → NoteSteps n (member_named at name m o n).1
member_named_steps at name m o n = choose (is_some (find name m.names))
  where
    either : Bool → Members × Notes
    either b = if b then (with_faulty_member m, with_fault at NoMember n) else (with_member name o m, n)

    choose : (b : Bool) → NoteSteps n (either b).1
    choose true = NoteSteps.AddsFault at NoMember
    choose false = NoteSteps.Stays

member_texts : (at : ℕ) (name : List ℕ) (m : Members) (r : Option DeclaredType × TagScope) → AddsTexts r.1.1.1 (member_entered at name m r).1.1.1
member_texts at name m r =
    let n = r.1.1.1 in
    let ty = each r.0 (member_type at) n in
    steps_texts (NoteSteps.Follows (each_adds r.0 (member_type at) n (λ x. member_type_steps at x n)) (member_named_steps at name m ty.0 ty.1))

mutual
  unfolding bodies

  pub bodies_texts : (ty : t.TypeNode) (s : TagScope) → AddsTexts s.1.1 (bodies ty s).1.1
  bodies_texts (t.Basic words) s = steps_texts NoteSteps.Stays
  bodies_texts (t.Named name) s = steps_texts NoteSteps.Stays
  bodies_texts (t.Enum' at tag constants) s = constants_held_texts at tag constants s
  bodies_texts (t.Struct' at tag members) s = members_held_texts at tag members s
  bodies_texts (t.Pointer' _ (k.more_of-TypeNode x k.end_of-TypeNode)) s = bodies_texts x s
  bodies_texts (t.Array' _ (k.more_of-TypeNode x k.end_of-TypeNode) size) s = bodies_texts x s
  bodies_texts (t.Takes' _ (k.more_of-TypeNode x k.end_of-TypeNode) _ parameters) s = bodies_texts x s

  constants_held_texts : (at : ℕ) (tag : Option (List ℕ)) (held : k.Held-TypeNode-Enum-2) (s : TagScope) → AddsTexts s.1.1 (judge_constants_held at tag held s).1.1
  constants_held_texts at tag k.TypeNode-Enum-2-None' s = steps_texts NoteSteps.Stays
  constants_held_texts at tag (k.TypeNode-Enum-2-Some' _ constants) s =
      let u = enum_entered at tag s in
      texts_then s.1.1 u.1 _ (enum_texts s.0 at tag s.1.1) (constants_texts constants None u)

  members_held_texts : (at : ℕ) (tag : Option (List ℕ)) (held : k.Held-TypeNode-Struct-2) (s : TagScope) → AddsTexts s.1.1 (judge_members_held at tag held s).1.1
  members_held_texts at tag k.TypeNode-Struct-2-None' s = steps_texts NoteSteps.Stays
  members_held_texts at tag (k.TypeNode-Struct-2-Some' _ members) s =
      let begun = struct_entered at tag s in
      let w = judge_member_row members (no_members, begun.1) in
      texts_then s.1.1 begun.1.1.1 _ (begun_texts s.0 at tag s.1.1)
      (texts_then begun.1.1.1 w.1.1.1 _ (members_texts members (no_members, begun.1)) (ended_texts at tag begun.0 w.0 w.1.1.1))

  members_texts : {m : _} (xs : k.Row_of-Declaration m) (w : Members × TagScope) → AddsTexts w.1.1.1 (judge_member_row xs w).1.1.1
  members_texts k.end_of-Declaration w = steps_texts NoteSteps.Stays
  members_texts (k.more_of-Declaration at name ty rest) w =
      let u = bodies ty w.1 in
      let r = type_behind at ty u in
      let e = member_entered at name w.0 r in
      texts_then w.1.1.1 u.1.1 _ (bodies_texts ty w.1)
      (texts_then u.1.1 r.1.1.1 _ (behind_texts at ty u) (texts_then r.1.1.1 e.1.1.1 _ (member_texts at name w.0 r) (members_texts rest e)))

pub declared_texts : (at : ℕ) (ty : t.TypeNode) (s : TagScope) → AddsTexts s.1.1 (declared_type at ty s).1.1.1
declared_texts at ty s = let u = bodies ty s in texts_then s.1.1 u.1.1 _ (bodies_texts ty s) (behind_texts at ty u)
