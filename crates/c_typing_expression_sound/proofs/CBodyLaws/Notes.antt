-- NoteSteps keep what holds of the notes.
use Rattle.std.proofs.Common.{◌≡◌, ℕ, Bool, true, false, IsTrue, List, [], ◌∷◌, ◌++◌, length, slice_get, is_some, Option, Some, None, arith, length-append}
use Rattle.std.specs.Prelude.{All, IsFalse}
use Rattle.std.proofs.lemmas.List.Elements.{All-push, All-weaker}
use Rattle.c_typed_tree.specs.declared.types.StructDef.{StructDef}
use Rattle.c_typed_tree.specs.declared.types.CType.{CType}
use Rattle.c_typed_tree.specs.View.{type_view}
use Rattle.c_typed_tree.specs.Typing.{Context}
use Rattle.c_typed_tree.specs.Lawful.{IsLawfulStruct, IsStruct}
use Rattle.c_typing_rules.specs.declared.c_typing_declared_types.declared.DeclaredType.{DeclaredType}
use Rattle.c_typing_rules.specs.declared.c_typing_declared_types.declared.DeclaredType.TheVariants as d
use Rattle.c_typing_scopes.specs.Names.{Entry}
use Rattle.c_typing_state.specs.declared.meanings.NameMeaning.{NameMeaning}
use Rattle.c_typing_state.specs.declared.meanings.NameMeaning.TheVariants as m
use Rattle.c_typing_state.specs.declared.meanings.Tag.{Tag}
use Rattle.c_typing_state.specs.declared.meanings.Tag.TheVariants as g
use Rattle.c_typing_state.specs.declared.meanings.UntaggedStruct.{UntaggedStruct}
use Rattle.c_typing_state.specs.declared.notes.Notes.{Notes}
use Rattle.c_typing_judgements.specs.Leaves.{incomplete_struct}
use Rattle.c_typing_struct_layout.proofs.CLayoutLaws.Truth.{all_at}
use Rattle.c_typing_expression_sound.specs.c_judgement_laws.Covers.{AreTagsIn, IsTagIn, IsUntaggedIn, Knows}
use Rattle.c_typing_expression_sound.specs.c_expression_laws.Types.{AreTypes, IsTypeIn, IsTypedefIn, HasTypedefs}
use Rattle.c_typing_expression_sound.specs.c_note_laws.Steps.{NoteSteps}
use Rattle.c_typing_expression_sound.specs.c_struct_laws.Growth.{Grow}
use Rattle.c_typing_expression_sound.proofs.CStructLaws.Growth.{is_there, grow_itself, grow_then, grow_more, there_stays, type_stays, struct_stays}
use Rattle.c_typing_expression_sound.proofs.CStructLaws.Lawful.{incomplete_lawful}
use Rattle.c_typing_expression_sound.specs.c_body_laws.Notes.{of_structs, IsNoted, KeepsNoted}

-- ---- what grows with the structs

module _ (c later : Context) (grow : Grow c.structs later.structs) where
  tag_grows : (tag : Tag) → IsTagIn c tag → IsTagIn later tag
  tag_grows (g.Struct number) h = there_stays c.structs later.structs grow number h
  tag_grows g.Enum h = tt

  pub tags_grow : (tags : List (Entry Tag)) → AreTagsIn c tags → AreTagsIn later tags
  tags_grow [] h = tt
  tags_grow (x ∷ xs) h = (tag_grows x.value h.0, tags_grow xs h.1)

  pub untagged_grows : (o : Option UntaggedStruct) → IsUntaggedIn c o → IsUntaggedIn later o
  untagged_grows None h = tt
  untagged_grows (Some last) h = there_stays c.structs later.structs grow last.number h

  types_grow : (xs : List CType) → AreTypes c.structs xs → AreTypes later.structs xs
  types_grow [] h = tt
  types_grow (x ∷ xs) h = (type_stays c.structs later.structs grow (type_view x) h.0, types_grow xs h.1)

  pub type_grows : (of : DeclaredType) → IsTypeIn c of → IsTypeIn later of
  type_grows (d.Value x) h = type_stays c.structs later.structs grow (type_view x) h
  type_grows (d.Unsized x) h = type_stays c.structs later.structs grow (type_view x) h
  type_grows (d.Function x xs) h = (type_stays c.structs later.structs grow (type_view x) h.0, types_grow xs h.1)

  typedef_grows : (x : NameMeaning) → IsTypedefIn c x → IsTypedefIn later x
  typedef_grows m.Faulty h = tt
  typedef_grows (m.Undefined number) h = tt
  typedef_grows (m.Local number ty) h = tt
  typedef_grows (m.Object number ty) h = tt
  typedef_grows (m.Constant word) h = tt
  typedef_grows (m.Function callee result parameters) h = tt
  typedef_grows (m.Typedef ty) h = type_grows ty h

  pub typedefs_grow : (xs : List (Entry NameMeaning)) → HasTypedefs c xs → HasTypedefs later xs
  typedefs_grow [] h = tt
  typedefs_grow (x ∷ xs) h = (typedef_grows x.value h.0, typedefs_grow xs h.1)

pub structs_grow : (ds es xs : List StructDef) → Grow ds es → All (IsLawfulStruct ds) xs → All (IsLawfulStruct es) xs
structs_grow ds es xs g h = All-weaker (IsLawfulStruct ds) (IsLawfulStruct es) (λ d l. struct_stays ds es g d l) xs h

-- ---- steps

pub keeps_itself : (n : Notes) → KeepsNoted n n
keeps_itself n = record { grow = grow_itself n.structs; noted = λ h. h }

pub keeps_then : (n m o : Notes) → KeepsNoted n m → KeepsNoted m o → KeepsNoted n o
keeps_then n m o h g = record { grow = grow_then n.structs m.structs o.structs h.grow g.grow; noted = λ k. g.noted (h.noted k) }

-- a struct of which no member is known comes behind the others
pub more_lawful : (ds : List StructDef) (name : List ℕ) → All (IsLawfulStruct ds) ds → All (IsLawfulStruct (ds ++ incomplete_struct name ∷ [])) (ds ++ incomplete_struct name ∷ [])
more_lawful ds name h =
    let es = ds ++ incomplete_struct name ∷ [] in
    All-push (IsLawfulStruct es) ds (incomplete_struct name) (structs_grow ds es ds (grow_more ds (incomplete_struct name ∷ [])) h) (incomplete_lawful es name)

pub last_there : (ds : List StructDef) (d : StructDef) → IsTrue (is_some (slice_get (ds ++ d ∷ []) (length ds)))
last_there ds d = is_there (ds ++ d ∷ []) (length ds) (omega (arith, length-append ds (d ∷ [])))

pub steps_keep : {n later : Notes} → NoteSteps n later → KeepsNoted n later
steps_keep {n = n} NoteSteps.Stays = keeps_itself n
steps_keep {n = n} (NoteSteps.Follows {m = m} {later = later} h g) = keeps_then n m later (steps_keep h) (steps_keep g)
steps_keep {n = n} (NoteSteps.AddsFault at kind) = record { grow = grow_itself n.structs; noted = λ h. record { structs = h.structs; tags = h.tags; untagged = h.untagged } }
steps_keep {n = n} (NoteSteps.AddsUse number at) = record { grow = grow_itself n.structs; noted = λ h. record { structs = h.structs; tags = h.tags; untagged = h.untagged } }
steps_keep {n = n} (NoteSteps.ListsAddresses addressed) = record { grow = grow_itself n.structs; noted = λ h. record { structs = h.structs; tags = h.tags; untagged = h.untagged } }
steps_keep {n = n} (NoteSteps.AddsText bytes sized) = record { grow = grow_itself n.structs; noted = λ h. record { structs = h.structs; tags = h.tags; untagged = h.untagged } }
steps_keep {n = n} (NoteSteps.Aside inner) =
    let a = steps_keep inner in
    record {
      grow = a.grow;
      noted = λ h. let k = a.noted (record { structs = h.structs; tags = h.tags; untagged = h.untagged }) in record { structs = k.structs; tags = k.tags; untagged = k.untagged };
    }
steps_keep {n = n} (NoteSteps.AddsEnum name) = record { grow = grow_itself n.structs; noted = λ h. record { structs = h.structs; tags = (tt, h.tags); untagged = h.untagged } }
steps_keep {n = n} (NoteSteps.AddsStruct name) =
    let es = n.structs ++ incomplete_struct name ∷ [] in
    let more = grow_more n.structs (incomplete_struct name ∷ []) in
    record {
      grow = more;
      noted = λ h. record {
        structs = more_lawful n.structs name h.structs;
        tags = (last_there n.structs (incomplete_struct name), tags_grow (of_structs n.structs) (of_structs es) more n.tags h.tags);
        untagged = untagged_grows (of_structs n.structs) (of_structs es) more n.untagged h.untagged;
      };
    }

-- ---- a context whose structs have grown from these

no_members : (ds : List StructDef) (d : StructDef) (complete : Bool) → IsStruct ds d complete → IsFalse complete → d.members ≡ []
no_members ds d true h f = absurd (clash f)
  where
    clash : IsFalse true → ⊥
    clash f = cc
no_members ds d false h f = h.members

pub noted_known : (c : Context) (n : Notes) → IsNoted n → Grow n.structs c.structs → Knows c n
noted_known c n h g = record {
  structs_known = record {
    complete = g.known;
    members = λ number d e f. no_members n.structs d d.complete (all_at (IsLawfulStruct n.structs) n.structs number d h.structs e) f;
  };
  tags_known = tags_grow (of_structs n.structs) c g n.tags h.tags;
  untagged_known = untagged_grows (of_structs n.structs) c g n.untagged h.untagged;
}
