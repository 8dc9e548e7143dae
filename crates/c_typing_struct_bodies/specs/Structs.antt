-- The struct or enum of a body (C99 6.7.2.1 to 6.7.2.3).
use Rattle.std.specs.Prelude.{ℕ, if◌then◌else◌, Bool, true, false, List, [], ◌∷◌, Option, Some, None, is_some, slice_get, slice_set}
use Rattle.std.specs.List.{list_all}
use Rattle.c_typing_scopes.specs.Names.{Entry, find}
use Rattle.c_typing_rules.specs.declared.c_typing_declared_types.declared.DeclaredType.{DeclaredType}
use Rattle.c_typing_rules.specs.declared.c_typing_declared_types.declared.DeclaredType.TheVariants as d
use Rattle.c_typing_struct_layout.specs.declared.fields.Field.{Field}
use Rattle.c_typing_struct_layout.specs.StructLayout.{struct_of}
use Rattle.c_typed_tree.specs.declared.types.StructDef.{StructDef}
use Rattle.c_typed_tree.specs.Layout.{is_complete}
use Rattle.c_typed_tree.specs.View.{type_view}
use Rattle.c_typing_faults.specs.declared.faults.Kind.TheVariants.{Redeclared, BadType}
use Rattle.c_typing_state.specs.declared.notes.Notes.{Notes}
use Rattle.c_typing_state.specs.Checks.{Check, pure, and_then, fault}
use Rattle.c_typing_state.specs.Notes.{with_fault, new_struct}
use Rattle.c_typing_judgements.specs.Leaves.{incomplete_struct, tagged_struct, tagged_enum}
use Rattle.c_typing_judgements.specs.Members.{struct_number}
use Rattle.c_typing_struct_bodies.specs.declared.members.Members.{Members}
use Rattle.c_typing_struct_bodies.specs.Members.{is_member_type}

-- the tags that have a body, from its beginning on: there is one at most for each (6.7.2.3)
abbrev pub DefinedTags : Type 0
DefinedTags = List (Entry (Unit {0}))

abbrev pub with_body : (tag : Option (List ℕ)) → DefinedTags → DefinedTags
with_body None ts = ts
with_body (Some name) ts = record { name = name; value = tt } ∷ ts

-- ---- where a body begins: its tag is in scope there (6.2.1)

abbrev pub tagged_body : DefinedTags → ℕ → List ℕ → Notes → Notes
tagged_body ts at name n =
    if is_some (find name ts) then with_fault at Redeclared n else (tagged_enum at name n).1

abbrev pub enum_begun : DefinedTags → ℕ → (tag : Option (List ℕ)) → Notes → Notes
enum_begun ts at None n = n
enum_begun ts at (Some name) n = tagged_body ts at name n

abbrev pub struct_number_of : Option DeclaredType → Option ℕ
struct_number_of None = None
struct_number_of (Some (d.Value ty)) = struct_number (type_view ty)
struct_number_of (Some (d.Unsized element)) = None
struct_number_of (Some (d.Function of parameters)) = None

abbrev pub add_untagged : Check (Option ℕ)
add_untagged n = and_then (new_struct (incomplete_struct []) n) (λ number. pure (Some number))

abbrev pub number_for_tag : ℕ → List ℕ → Check (Option ℕ)
number_for_tag at name n = and_then (tagged_struct at name n) (λ ty. pure (struct_number_of ty))

abbrev pub no_body : ℕ → Check (Option ℕ)
no_body at = fault at Redeclared

-- the number of the struct that the body is of, unless this is no body of its tag
abbrev pub struct_begun : DefinedTags → ℕ → (tag : Option (List ℕ)) → Check (Option ℕ)
struct_begun ts at None n = add_untagged n
struct_begun ts at (Some name) n = if is_some (find name ts) then no_body at n else number_for_tag at name n

-- ---- where the body of a struct ends

-- the struct of these members, where objects have their types, as they did where the members stand; None where it is
-- larger than the data may be
abbrev pub struct_where : List StructDef → (tag : List ℕ) → List Field → Option StructDef
struct_where ds tag fs = if list_all (λ f. is_member_type ds f.ty) fs then struct_of ds tag fs else None

abbrev pub tag_name : Option (List ℕ) → List ℕ
tag_name None = []
tag_name (Some name) = name

abbrev pub with_struct : (number : ℕ) → StructDef → List (Entry (Option ℕ)) → Notes → Notes
with_struct number structure names n = record {
  faults = n.faults;
  addressed = n.addressed;
  texts = n.texts;
  first_text = n.first_text;
  uses = n.uses;
  structs = slice_set n.structs number structure;
  members = slice_set n.members number names;
  tags = n.tags;
  untagged = n.untagged;
}

-- a struct without a tag is that of the declarators that follow
abbrev pub with_untagged : ℕ → (tag : Option (List ℕ)) → (number : ℕ) → Notes → Notes
with_untagged at None number n = record {
  faults = n.faults;
  addressed = n.addressed;
  texts = n.texts;
  first_text = n.first_text;
  uses = n.uses;
  structs = n.structs;
  members = n.members;
  tags = n.tags;
  untagged = Some (record { at = at; number = number });
}
with_untagged at (Some name) number n = n

-- the size is judged where no member has a fault
abbrev pub too_large : ℕ → (faulty : Bool) → Notes → Notes
too_large at true n = n
too_large at false n = with_fault at BadType n

-- what a struct holds is said once: one that is complete stays as it is (6.7.2.3 p1)
abbrev pub with_members : (number : ℕ) → StructDef → List (Entry (Option ℕ)) → Notes → Notes
with_members number structure names n =
    if is_complete (slice_get n.structs number) then n else with_struct number structure names n

-- a struct has the members that are without a fault
abbrev pub finish_struct : ℕ → (number : ℕ) → Members → Option StructDef → Notes → Notes
finish_struct at number m None n = too_large at m.faulty n
finish_struct at number m (Some structure) n = with_members number structure m.names n

abbrev pub struct_ended : ℕ → (tag : Option (List ℕ)) → (number : Option ℕ) → Members → Notes → Notes
struct_ended at tag None m n = n
struct_ended at tag (Some number) m n =
    with_untagged at tag number (finish_struct at number m (struct_where n.structs (tag_name tag) m.fields) n)
