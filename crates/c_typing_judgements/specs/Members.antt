-- Members (C99 6.5.2.3). Nothing is judged of a member whose declaration has a fault.
use Rattle.std.specs.Prelude.{ℕ, List, Option, Some, None, slice_get, option_and_then}
use Rattle.std.specs.Option.{option_map}
use Rattle.c_typing_scopes.specs.Names.{Entry, find}
use Rattle.c_typed_tree.specs.declared.types.Member.{Member}
use Rattle.c_typed_tree.specs.Types.{PlainType, Pointer, Struct}
use Rattle.c_typed_tree.specs.Layout.{struct_member}
use Rattle.c_typed_tree.specs.View.{type_view}
use Rattle.c_typing_rules.specs.declared.typed.TypedExpression.{TypedExpression}
use Rattle.c_typing_rules.specs.Conversions.{decay}
use Rattle.c_typing_place_rules.specs.Members.{field, arrow}
use Rattle.c_typing_state.specs.declared.notes.Notes.{Notes}
use Rattle.c_typing_state.specs.Checks.{Check, note_fault}
use Rattle.c_typing_judgements.specs.declared.members.MemberMeaning.{MemberMeaning}
use Rattle.c_typing_judgements.specs.declared.members.MemberMeaning.TheVariants as m

-- ---- the struct of a type

abbrev pub struct_number : PlainType → Option ℕ
struct_number (Struct number) = Some number
struct_number _ = None

abbrev pub target_number : PlainType → Option ℕ
target_number (Pointer target) = struct_number target
target_number _ = None

-- ---- what the name of a member means in a struct

abbrev pub member_at : (number : ℕ) → Option Member → MemberMeaning
member_at number None = m.Nothing
member_at number (Some x) = m.Member (record { number = number; ty = x.ty })

-- the number of the member, if its declaration has no fault
abbrev pub declared_number : List ℕ → List (Entry (Option ℕ)) → Option (Option ℕ)
declared_number name members = option_map (λ r. r.1) (find name members)

abbrev pub number_in : List ℕ → Option (List (Entry (Option ℕ))) → Option (Option ℕ)
number_in name members = option_and_then (declared_number name) members

abbrev pub meaning_in : Notes → (structure : ℕ) → Option (Option ℕ) → MemberMeaning
meaning_in n structure None = m.Nothing
meaning_in n structure (Some None) = m.Faulty
meaning_in n structure (Some (Some number)) = member_at number (struct_member (slice_get n.structs structure) number)

abbrev pub member_of : Notes → (structure : Option ℕ) → List ℕ → MemberMeaning
member_of n None name = m.Nothing
member_of n (Some structure) name = meaning_in n structure (number_in name (slice_get n.members structure))

-- ---- `.` and `->`

abbrev pub field_in : ℕ → TypedExpression → MemberMeaning → Check (Option TypedExpression)
field_in at a m.Nothing n = note_fault (field at a None) n
field_in at a m.Faulty n = (None, n)
field_in at a (m.Member found) n = note_fault (field at a (Some found)) n

abbrev pub field_named : ℕ → List ℕ → TypedExpression → Check (Option TypedExpression)
field_named at name a n = field_in at a (member_of n (struct_number (type_view a.ty)) name) n

abbrev pub arrow_in : ℕ → TypedExpression → MemberMeaning → Check (Option TypedExpression)
arrow_in at a m.Nothing n = note_fault (arrow n.structs at a None) n
arrow_in at a m.Faulty n = (None, n)
arrow_in at a (m.Member found) n = note_fault (arrow n.structs at a (Some found)) n

abbrev pub arrow_value : ℕ → List ℕ → TypedExpression → Check (Option TypedExpression)
arrow_value at name a n = arrow_in at a (member_of n (target_number (type_view a.ty)) name) n

abbrev pub arrow_named : ℕ → List ℕ → TypedExpression → Check (Option TypedExpression)
arrow_named at name a = arrow_value at name (decay a)
