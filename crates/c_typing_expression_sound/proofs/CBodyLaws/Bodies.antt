-- The bodies of structs and enums.
use Rattle.std.proofs.Common.{◌≡◌, ℕ, zero, suc, ◌≤◌, Bool, true, false, IsTrue, List, [], ◌∷◌, ◌++◌, length, slice_get, is_some, bytes_eq, Option, Some, None, IfSome, refl, if◌then◌else◌, arith}
use Rattle.std.specs.Prelude.{slice_set}
use Rattle.std.proofs.lemmas.List.Elements.{All-set}
use Rattle.c_tree.specs.declared.types.TypeNode as t
use Rattle.c_tree.specs.declared.expressions.Expr.TheBlock as k
use Rattle.c_typed_tree.specs.declared.types.CType.{CType}
use Rattle.c_typed_tree.specs.declared.types.StructDef.{StructDef}
use Rattle.c_typed_tree.specs.Layout.{is_complete}
use Rattle.c_typed_tree.specs.Typing.{is_valid_type}
use Rattle.c_typed_tree.specs.View.{type_view}
use Rattle.c_typed_tree.specs.model.View.{opens}
use Rattle.c_typed_tree.specs.Lawful.{IsLawfulStruct}
use Rattle.c_typing_rules.specs.declared.c_typing_declared_types.declared.DeclaredType.{DeclaredType}
use Rattle.c_typing_rules.specs.declared.c_typing_declared_types.declared.DeclaredType.TheVariants as d
use Rattle.c_typing_faults.specs.declared.faults.Kind.TheVariants.{Redeclared, BadType, NoMember}
use Rattle.c_typing_scopes.specs.Names.{Entry, find}
use Rattle.c_typing_constants.specs.c_constant_rules.Values.{given_value, next_value}
use Rattle.c_typing_struct_layout.specs.declared.fields.Field.{Field}
use Rattle.c_typing_state.specs.declared.meanings.Tag.{Tag}
use Rattle.c_typing_state.specs.declared.meanings.Tag.TheVariants as g
use Rattle.c_typing_state.specs.declared.notes.Notes.{Notes}
use Rattle.c_typing_state.specs.Notes.{with_fault}
use Rattle.c_typing_state.specs.Scopes.{with_meaning, stands_here}
use Rattle.c_typing_judgements.specs.Leaves.{incomplete_struct, tag_named, struct_tagged, tagged_enum}
use Rattle.c_typing_judgements.specs.Types.{JudgementState}
use Rattle.c_typing_expressions.specs.Expressions.{judge}
use Rattle.c_typing_struct_bodies.specs.declared.members.Members.{Members}
use Rattle.c_typing_struct_bodies.specs.Enums.{explicit_value, one_above, judge_value_held, constant_meaning, constant_declared, judge_constant_row}
use Rattle.c_typing_struct_bodies.specs.Members.{no_members, is_member_type, no_member, with_member, with_faulty_member, member_named, member_declared}
use Rattle.c_typing_struct_bodies.specs.Structs.{DefinedTags, enum_begun, struct_number_of, add_untagged, number_for_tag, no_body, struct_begun, struct_where, tag_name, with_struct, with_untagged, too_large, with_members, finish_struct, struct_ended}
use Rattle.c_typing_struct_bodies.specs.Bodies.{TagScope, enum_entered, struct_entered, struct_left, type_behind, member_entered, bodies, judge_constants_held, judge_members_held, judge_member_row, declared_type}
use Rattle.c_typing_expression_sound.specs.c_judgement_laws.Covers.{AreTagsIn, IsTagIn}
use Rattle.c_typing_expression_sound.specs.c_expression_laws.Types.{IsTypeIn}
use Rattle.c_typing_expression_sound.specs.c_note_laws.Steps.{NoteSteps}
use Rattle.c_typing_expression_sound.proofs.CNoteLaws.Forms.{ruled_steps, each_adds, enum_adds, struct_adds}
use Rattle.c_typing_expression_sound.proofs.CNoteLaws.Walks.{judge_adds}
use Rattle.c_typing_expression_sound.specs.c_struct_laws.Laws.{HaveTypes}
use Rattle.c_typing_expression_sound.specs.c_struct_laws.Growth.{Grow}
use Rattle.c_typing_expression_sound.proofs.CStructLaws.Growth.{grow_itself, grow_then, grow_more, there_stays, type_stays}
use Rattle.c_typing_expression_sound.proofs.CStructLaws.Lawful.{struct_lawful}
use Rattle.c_typing_expression_sound.specs.c_body_laws.Notes.{of_structs, IsNoted, KeepsNoted, IsWellDeclared, LeadsOn, FindsType}
use Rattle.c_typing_expression_sound.proofs.CBodyLaws.Notes.{tags_grow, untagged_grows, typedefs_grow, structs_grow, keeps_itself, more_lawful, last_there, steps_keep}
use Rattle.c_typing_expression_sound.proofs.CBodyLaws.Types.{judge_env, leads_itself, leads_then, leads_where, leads_steps, type_found}

-- ---- enumeration constants

value_leads : (at : ℕ) (value : k.Held-Constant-value) (before : Option (Option ℕ)) (s : JudgementState) → LeadsOn s (judge_value_held at value before s).1
value_leads at k.Constant-value-None' None s = leads_itself s
value_leads at k.Constant-value-None' (Some before) s =
    leads_steps s (judge_value_held at k.Constant-value-None' (Some before) s).1 refl (each_adds before (one_above at) s.1 (λ word. ruled_steps (next_value at word) s.1))
value_leads at (k.Constant-value-Some' x) before s =
    let a = judge x s in
    leads_steps s (judge_value_held at (k.Constant-value-Some' x) before s).1 (judge_env x s)
    (NoteSteps.Follows (judge_adds x s) (each_adds a.0 explicit_value a.1.1 (λ v. ruled_steps (given_value v) a.1.1)))

constant_named : (name : List ℕ) (value : Option ℕ) (s : JudgementState) → LeadsOn s (with_meaning name (constant_meaning value) s.0, s.1)
constant_named name None s = record { grow = grow_itself s.1.structs; sound = λ h. record { noted = h.noted; typedefs = (tt, h.typedefs) } }
constant_named name (Some word) s = record { grow = grow_itself s.1.structs; sound = λ h. record { noted = h.noted; typedefs = (tt, h.typedefs) } }

constant_leads : (at : ℕ) (name : List ℕ) (value : Option ℕ) (s : JudgementState) → LeadsOn s (constant_declared at name value s)
constant_leads at name value s = choose (stands_here s.0 (find name s.0.names))
  where
    choose : (b : Bool) → LeadsOn s (if b then (s.0, with_fault at Redeclared s.1) else (with_meaning name (constant_meaning value) s.0, s.1))
    choose true = leads_steps s (s.0, with_fault at Redeclared s.1) refl (NoteSteps.AddsFault at Redeclared)
    choose false = constant_named name value s

constants_lead : {m : _} (xs : k.Row_of-Constant m) (before : Option (Option ℕ)) (s : JudgementState) → LeadsOn s (judge_constant_row xs before s)
unfolding judge_constant_row
constants_lead k.end_of-Constant before s = leads_itself s
constants_lead (k.more_of-Constant at name value rest) before s =
    let v = judge_value_held at value before s in
    let u = constant_declared at name v.0 v.1 in
    leads_then s v.1 _ (value_leads at value before s) (leads_then v.1 u _ (constant_leads at name v.0 v.1) (constants_lead rest (Some v.0) u))

enum_leads : (ts : DefinedTags) (at : ℕ) (tag : Option (List ℕ)) (s : JudgementState) → LeadsOn s (s.0, enum_begun ts at tag s.1)
enum_leads ts at None s = leads_itself s
enum_leads ts at (Some name) s = choose (is_some (find name ts))
  where
    choose : (b : Bool) → LeadsOn s (s.0, if b then with_fault at Redeclared s.1 else (tagged_enum at name s.1).1)
    choose true = leads_steps s (s.0, with_fault at Redeclared s.1) refl (NoteSteps.AddsFault at Redeclared)
    choose false = leads_steps s (s.0, (tagged_enum at name s.1).1) refl (enum_adds at (Some name) s.1)

-- ---- where the body of a struct begins

-- the number of the struct is that of one that is there
pub record Begins (n : Notes) (r : Option ℕ × Notes) : Type 0 where
  pub keeps : KeepsNoted n r.1
  pub there : IsNoted n → IfSome r.0 (λ number. IsTrue (is_some (slice_get r.1.structs number)))

begins_untagged : (n : Notes) → Begins n (add_untagged n)
begins_untagged n =
    let es = n.structs ++ incomplete_struct [] ∷ [] in
    let more = grow_more n.structs (incomplete_struct [] ∷ []) in
    record {
      keeps = record {
        grow = more;
        noted = λ h. record {
          structs = more_lawful n.structs [] h.structs;
          tags = tags_grow (of_structs n.structs) (of_structs es) more n.tags h.tags;
          untagged = untagged_grows (of_structs n.structs) (of_structs es) more n.untagged h.untagged;
        };
      };
      there = λ h. last_there n.structs (incomplete_struct []);
    }

abbrev IsTagAt : List StructDef → Option Tag → Type 0
IsTagAt ds None = Unit {0}
IsTagAt ds (Some tag) = IsTagIn (of_structs ds) tag

tag_found : (ds : List StructDef) (name : List ℕ) (xs : List (Entry Tag)) → AreTagsIn (of_structs ds) xs → IsTagAt ds (tag_named (find name xs))
tag_found ds name [] h = tt
tag_found ds name (x ∷ xs) h = of (bytes_eq name x.name) (tag_found ds name xs h.1)
  where
    of : (b : Bool) → IsTagAt ds (tag_named (find name xs)) → IsTagAt ds (tag_named (if b then Some (length xs, x.value) else find name xs))
    of true rest = h.0
    of false rest = rest

number_there : (at : ℕ) (name : List ℕ) (o : Option Tag) (n : Notes) → IsTagAt n.structs o
    → IfSome (struct_number_of (struct_tagged at name o n).0) (λ number. IsTrue (is_some (slice_get (struct_tagged at name o n).1.structs number)))
unfolding opens
number_there at name None n h = last_there n.structs (incomplete_struct name)
number_there at name (Some (g.Struct number)) n h = h
number_there at name (Some g.Enum) n h = tt

begins_tagged : (ts : DefinedTags) (at : ℕ) (name : List ℕ) (n : Notes) → Begins n (struct_begun ts at (Some name) n)
begins_tagged ts at name n = choose (is_some (find name ts))
  where
    choose : (b : Bool) → Begins n (if b then no_body at n else number_for_tag at name n)
    choose true = record { keeps = steps_keep (NoteSteps.AddsFault at Redeclared); there = λ h. tt }
    choose false = record {
      keeps = steps_keep (struct_adds at (Some name) n);
      there = λ h. number_there at name (tag_named (find name n.tags)) n (tag_found n.structs name n.tags h.tags);
    }

begins : (ts : DefinedTags) (at : ℕ) (tag : Option (List ℕ)) (n : Notes) → Begins n (struct_begun ts at tag n)
begins ts at None n = begins_untagged n
begins ts at (Some name) n = begins_tagged ts at name n

-- ---- members

fields_grow : (ds es : List StructDef) (fs : List Field) → Grow ds es → HaveTypes ds fs → HaveTypes es fs
fields_grow ds es [] g h = tt
fields_grow ds es (f ∷ fs) g h = (type_stays ds es g (type_view f.ty) h.0, fields_grow ds es fs g h.1)

fields_more : (ds : List StructDef) (fs : List Field) (f : Field) → HaveTypes ds fs → IsTrue (is_valid_type ds (type_view f.ty)) → HaveTypes ds (fs ++ f ∷ [])
fields_more ds [] f h t = (t, tt)
fields_more ds (x ∷ xs) f h t = (h.0, fields_more ds xs f h.1 t)

-- what is done with a member leaves the structs
pub record Declares (n : Notes) (m : Members) (given : Type 0) (r : Members × Notes) : Type 0 where
  pub steps : NoteSteps n r.1
  pub types : given → HaveTypes n.structs m.fields → HaveTypes r.1.structs r.0.fields

member_is_named : (at : ℕ) (name : List ℕ) (m : Members) (o : Option CType) (n : Notes) → Declares n m (IfSome o (λ x. IsTrue (is_valid_type n.structs (type_view x)))) (member_named at name m o n)
member_is_named at name m o n = choose (is_some (find name m.names)) o
  where
    choose : (b : Bool) (o : Option CType) → Declares n m (IfSome o (λ x. IsTrue (is_valid_type n.structs (type_view x)))) (if b then (with_faulty_member m, with_fault at NoMember n) else (with_member name o m, n))
    choose true o = record { steps = NoteSteps.AddsFault at NoMember; types = λ t h. h }
    choose false None = record { steps = NoteSteps.Stays; types = λ t h. h }
    choose false (Some x) = record { steps = NoteSteps.Stays; types = λ t h. fields_more n.structs m.fields (record { name = name; ty = x }) h t }

member_after_fault : (at : ℕ) (name : List ℕ) (m : Members) (n : Notes) (given : Type 0) → Declares n m given (member_named at name m None (with_fault at BadType n))
member_after_fault at name m n given =
    let after = member_is_named at name m None (with_fault at BadType n) in
    record { steps = NoteSteps.Follows (NoteSteps.AddsFault at BadType) after.steps; types = λ t h. after.types tt h }

member_of_type : (at : ℕ) (name : List ℕ) (m : Members) (x : CType) (n : Notes) → Declares n m (IsTrue (is_valid_type n.structs (type_view x))) (member_declared at name m (Some (d.Value x)) n)
member_of_type at name m x n = choose (is_member_type n.structs x)
  where
    choose : (b : Bool) → Declares n m (IsTrue (is_valid_type n.structs (type_view x)))
        (member_named at name m (if b then (Some x, n) else no_member at n).0 (if b then (Some x, n) else no_member at n).1)
    choose true = member_is_named at name m (Some x) n
    choose false = member_after_fault at name m n (IsTrue (is_valid_type n.structs (type_view x)))

member_is_declared : (at : ℕ) (name : List ℕ) (m : Members) (o : Option DeclaredType) (n : Notes) → Declares n m (IfSome o (IsTypeIn (of_structs n.structs))) (member_declared at name m o n)
member_is_declared at name m None n =
    let after = member_is_named at name m None n in
    record { steps = after.steps; types = λ t h. after.types tt h }
member_is_declared at name m (Some (d.Value x)) n = member_of_type at name m x n
member_is_declared at name m (Some (d.Unsized x)) n = member_after_fault at name m n (IsTypeIn (of_structs n.structs) (d.Unsized x))
member_is_declared at name m (Some (d.Function x xs)) n = member_after_fault at name m n (IsTypeIn (of_structs n.structs) (d.Function x xs))

-- a row of members
pub record MembersLead (w later : Members × TagScope) : Type 0 where
  pub leads : LeadsOn w.1.1 later.1.1
  pub types : IsWellDeclared w.1.1 → HaveTypes w.1.1.1.structs w.0.fields → HaveTypes later.1.1.1.structs later.0.fields

members_then : (a b e : Members × TagScope) → MembersLead a b → MembersLead b e → MembersLead a e
members_then a b e h g = record {
  leads = leads_then a.1.1 b.1.1 e.1.1 h.leads g.leads;
  types = λ s t. g.types (h.leads.sound s) (h.types s t);
}

-- a member behind the bodies of its specifier
member_leads : (at : ℕ) (name : List ℕ) (ty : t.TypeNode) (w : Members × TagScope) → LeadsOn w.1.1 (bodies ty w.1).1 → MembersLead w (member_entered at name w.0 (type_behind at ty (bodies ty w.1)))
member_leads at name ty w inner =
    let u = (bodies ty w.1).1 in
    let found = type_found at ty u in
    let r = type_behind at ty (bodies ty w.1) in
    let end = member_entered at name w.0 r in
    let declared = member_is_declared at name w.0 r.0 r.1.1.1 in
    record {
      leads = leads_then w.1.1 u end.1.1 inner (leads_then u r.1.1 end.1.1 found.leads (leads_steps r.1.1 end.1.1 refl declared.steps));
      types = λ s h. declared.types (found.type (inner.sound s))
          (fields_grow u.1.structs r.1.1.1.structs w.0.fields found.leads.grow (fields_grow w.1.1.1.structs u.1.structs w.0.fields inner.grow h));
    }

-- ---- where the body of a struct ends

set_get : (ds : List StructDef) (number : ℕ) (d : StructDef) (k : ℕ) → is_complete (slice_get ds number) ≡ false → IsTrue (is_complete (slice_get ds k)) → slice_get (slice_set ds number d) k ≡ slice_get ds k
set_get [] number d k e h = refl
set_get (x ∷ ds) zero d zero e h = absurd (clash x.complete e h)
  where
    clash : (b : Bool) → b ≡ false → IsTrue b → ⊥
    clash b e h = cc
set_get (x ∷ ds) zero d (suc k) e h = refl
set_get (x ∷ ds) (suc number) d zero e h = refl
set_get (x ∷ ds) (suc number) d (suc k) e h = set_get ds number d k e h

set_longer : (ds : List StructDef) (number : ℕ) (d : StructDef) → length ds ≤ length (slice_set ds number d)
set_longer [] number d = omega arith
set_longer (x ∷ ds) zero d = omega arith
set_longer (x ∷ ds) (suc number) d = omega (arith, set_longer ds number d)

grow_set : (ds : List StructDef) (number : ℕ) (d : StructDef) → is_complete (slice_get ds number) ≡ false → Grow ds (slice_set ds number d)
grow_set ds number d e = record { known = λ k h. set_get ds number d k e h; longer = set_longer ds number d }

-- what the end of a body leaves, where its members have types that are there
pub record Ends (n : Notes) (given : Type 0) (later : Notes) : Type 0 where
  pub grow : Grow n.structs later.structs
  pub noted : given → IsNoted n → IsNoted later

ends_keeping : (n : Notes) (given : Type 0) (later : Notes) → KeepsNoted n later → Ends n given later
ends_keeping n given later h = record { grow = h.grow; noted = λ t k. h.noted k }

written : (number : ℕ) (tag : List ℕ) (m : Members) (structure : StructDef) (n : Notes) → struct_where n.structs tag m.fields ≡ Some structure → is_complete (slice_get n.structs number) ≡ false
    → Ends n (HaveTypes n.structs m.fields) (with_struct number structure m.names n)
written number tag m structure n made open_ =
    let es = slice_set n.structs number structure in
    let grow = grow_set n.structs number structure open_ in
    record {
      grow = grow;
      noted = λ t h. record {
        structs = All-set (IsLawfulStruct es) n.structs number structure
            (struct_lawful n.structs es grow.known tag m.fields structure (fields_grow n.structs es m.fields grow t) made) (structs_grow n.structs es n.structs grow h.structs);
        tags = tags_grow (of_structs n.structs) (of_structs es) grow n.tags h.tags;
        untagged = untagged_grows (of_structs n.structs) (of_structs es) grow n.untagged h.untagged;
      };
    }

written_where : (number : ℕ) (tag : List ℕ) (m : Members) (structure : StructDef) (n : Notes) → struct_where n.structs tag m.fields ≡ Some structure
    → Ends n (HaveTypes n.structs m.fields) (with_members number structure m.names n)
written_where number tag m structure n made = choose (is_complete (slice_get n.structs number)) refl
  where
    choose : (b : Bool) → is_complete (slice_get n.structs number) ≡ b → Ends n (HaveTypes n.structs m.fields) (if b then n else with_struct number structure m.names n)
    choose true e = ends_keeping n (HaveTypes n.structs m.fields) n (keeps_itself n)
    choose false e = written number tag m structure n made e

completed : (at number : ℕ) (tag : List ℕ) (m : Members) (o : Option StructDef) (n : Notes) → struct_where n.structs tag m.fields ≡ o → Ends n (HaveTypes n.structs m.fields) (finish_struct at number m o n)
completed at number tag m (Some structure) n made = written_where number tag m structure n made
completed at number tag m None n made = choose m.faulty
  where
    choose : (b : Bool) → Ends n (HaveTypes n.structs m.fields) (too_large at b n)
    choose true = ends_keeping n (HaveTypes n.structs m.fields) n (keeps_itself n)
    choose false = ends_keeping n (HaveTypes n.structs m.fields) (with_fault at BadType n) (steps_keep (NoteSteps.AddsFault at BadType))

untagged_ends : (at : ℕ) (tag : Option (List ℕ)) (number : ℕ) (n m : Notes) (given : Type 0) → Ends n given m
    → Ends n (given × IsTrue (is_some (slice_get n.structs number))) (with_untagged at tag number m)
untagged_ends at None number n m given h = record {
  grow = h.grow;
  noted = λ t k. let after = h.noted t.0 k in record { structs = after.structs; tags = after.tags; untagged = there_stays n.structs m.structs h.grow number t.1 };
}
untagged_ends at (Some name) number n m given h = record { grow = h.grow; noted = λ t k. h.noted t.0 k }

struct_ends : (at : ℕ) (tag : Option (List ℕ)) (number : Option ℕ) (m : Members) (n : Notes)
    → Ends n (HaveTypes n.structs m.fields × IfSome number (λ k. IsTrue (is_some (slice_get n.structs k)))) (struct_ended at tag number m n)
struct_ends at tag None m n = ends_keeping n _ n (keeps_itself n)
struct_ends at tag (Some number) m n =
    untagged_ends at tag number n (finish_struct at number m (struct_where n.structs (tag_name tag) m.fields) n) (HaveTypes n.structs m.fields)
    (completed at number (tag_name tag) m (struct_where n.structs (tag_name tag) m.fields) n refl)

number_stays : (ds es : List StructDef) (number : Option ℕ) → Grow ds es → IfSome number (λ k. IsTrue (is_some (slice_get ds k))) → IfSome number (λ k. IsTrue (is_some (slice_get es k)))
number_stays ds es None g h = tt
number_stays ds es (Some number) g h = there_stays ds es g number h

-- the body of a struct, by its members
struct_leads : (at : ℕ) (tag : Option (List ℕ)) (s : TagScope) (w : Members × TagScope) → MembersLead (no_members, (struct_entered at tag s).1) w → LeadsOn s.1 (struct_left at tag (struct_entered at tag s).0 w).1
struct_leads at tag s w inner =
    let begun = begins s.0 at tag s.1.1 in
    let number = (struct_entered at tag s).0 in
    let u = (struct_entered at tag s).1.1 in
    let start = leads_where s.1 u refl begun.keeps in
    let ends = struct_ends at tag number w.0 w.1.1.1 in
    let end = (struct_left at tag number w).1 in
    record {
      grow = grow_then s.1.1.structs u.1.structs end.1.structs start.grow (grow_then u.1.structs w.1.1.1.structs end.1.structs inner.leads.grow ends.grow);
      sound = λ h.
          let entered = start.sound h in
          let left = inner.leads.sound entered in
          record {
            noted = ends.noted (inner.types entered tt, number_stays u.1.structs w.1.1.1.structs number inner.leads.grow (begun.there h.noted)) left.noted;
            typedefs = typedefs_grow (of_structs w.1.1.1.structs) (of_structs end.1.structs) ends.grow w.1.1.0.names left.typedefs;
          };
    }

-- ---- whatever declarator stands around the specifier

mutual
  unfolding bodies

  pub bodies_lead : (ty : t.TypeNode) (s : TagScope) → LeadsOn s.1 (bodies ty s).1
  bodies_lead (t.Basic words) s = leads_itself s.1
  bodies_lead (t.Named name) s = leads_itself s.1
  bodies_lead (t.Enum' at tag constants) s = constants_held_lead at tag constants s
  bodies_lead (t.Struct' at tag members) s = members_held_lead at tag members s
  bodies_lead (t.Pointer' _ (k.more_of-TypeNode x k.end_of-TypeNode)) s = bodies_lead x s
  bodies_lead (t.Array' _ (k.more_of-TypeNode x k.end_of-TypeNode) size) s = bodies_lead x s
  bodies_lead (t.Takes' _ (k.more_of-TypeNode x k.end_of-TypeNode) _ parameters) s = bodies_lead x s

  constants_held_lead : (at : ℕ) (tag : Option (List ℕ)) (held : k.Held-TypeNode-Enum-2) (s : TagScope) → LeadsOn s.1 (judge_constants_held at tag held s).1
  constants_held_lead at tag k.TypeNode-Enum-2-None' s = leads_itself s.1
  constants_held_lead at tag (k.TypeNode-Enum-2-Some' _ constants) s =
      let u = enum_entered at tag s in
      leads_then s.1 u _ (enum_leads s.0 at tag s.1) (constants_lead constants None u)

  members_held_lead : (at : ℕ) (tag : Option (List ℕ)) (held : k.Held-TypeNode-Struct-2) (s : TagScope) → LeadsOn s.1 (judge_members_held at tag held s).1
  members_held_lead at tag k.TypeNode-Struct-2-None' s = leads_itself s.1
  members_held_lead at tag (k.TypeNode-Struct-2-Some' _ members) s =
      let start : Members × TagScope = (no_members, (struct_entered at tag s).1) in
      struct_leads at tag s (judge_member_row members start) (members_lead members start)

  members_lead : {m : _} (xs : k.Row_of-Declaration m) (w : Members × TagScope) → MembersLead w (judge_member_row xs w)
  members_lead k.end_of-Declaration w = record { leads = leads_itself w.1.1; types = λ s t. t }
  members_lead (k.more_of-Declaration at name ty rest) w =
      let e = member_entered at name w.0 (type_behind at ty (bodies ty w.1)) in
      members_then w e _ (member_leads at name ty w (bodies_lead ty w.1)) (members_lead rest e)

pub declared_found : (at : ℕ) (ty : t.TypeNode) (s : TagScope) → FindsType s.1 ((declared_type at ty s).0, (declared_type at ty s).1.1)
declared_found at ty s =
    let u = (bodies ty s).1 in
    let inner = bodies_lead ty s in
    let found = type_found at ty u in
    record { leads = leads_then s.1 u _ inner found.leads; type = λ h. found.type (inner.sound h) }
