-- The members of a body (C99 6.7.2.1). A name is that of one member; which type one has is judged where it stands.
use Rattle.std.specs.Prelude.{ℕ, if◌then◌else◌, Bool, true, false, ◌&&◌, List, [], ◌∷◌, ◌++◌, Option, Some, None, length, is_some}
use Rattle.c_typing_scopes.specs.Names.{find}
use Rattle.c_typing_rules.specs.declared.c_typing_declared_types.declared.DeclaredType.{DeclaredType}
use Rattle.c_typing_rules.specs.declared.c_typing_declared_types.declared.DeclaredType.TheVariants as d
use Rattle.c_typing_rules.specs.c_typing_declared_types.Depth.{is_deep_at_most}
use Rattle.c_typed_tree.specs.declared.types.CType.{CType}
use Rattle.c_typed_tree.specs.declared.types.StructDef.{StructDef}
use Rattle.c_typed_tree.specs.Layout.{is_object}
use Rattle.c_typed_tree.specs.Typing.{most_depth}
use Rattle.c_typed_tree.specs.View.{type_view}
use Rattle.c_typing_faults.specs.declared.faults.Kind.TheVariants.{BadType, NoMember}
use Rattle.c_typing_state.specs.declared.notes.Notes.{Notes}
use Rattle.c_typing_state.specs.Checks.{Check, and_then, each, fault}
use Rattle.c_typing_state.specs.Notes.{with_fault}
use Rattle.c_typing_struct_bodies.specs.declared.members.Members.{Members}

abbrev pub no_members : Members
no_members = record { names = []; fields = []; faulty = false }

-- objects have the type of a member, and it is no deeper than a type may be
abbrev pub is_member_type : List StructDef → CType → Bool
is_member_type ds ty = is_object ds (type_view ty) && is_deep_at_most ds most_depth ty

abbrev pub no_member : ℕ → Check (Option CType)
no_member at = fault at BadType

abbrev pub member_type : ℕ → DeclaredType → Check (Option CType)
member_type at (d.Value ty) n = if is_member_type n.structs ty then (Some ty, n) else no_member at n
member_type at (d.Unsized element) n = no_member at n
member_type at (d.Function of parameters) n = no_member at n

-- a member is counted among those without a fault
abbrev pub with_member : List ℕ → Option CType → Members → Members
with_member name None m = record {
  names = record { name = name; value = None } ∷ m.names;
  fields = m.fields;
  faulty = true;
}
with_member name (Some ty) m = record {
  names = record { name = name; value = Some (length m.fields) } ∷ m.names;
  fields = m.fields ++ record { name = name; ty = ty } ∷ [];
  faulty = m.faulty;
}

abbrev pub with_faulty_member : Members → Members
with_faulty_member m = record { names = m.names; fields = m.fields; faulty = true }

abbrev pub member_named : ℕ → List ℕ → Members → Option CType → Notes → Members × Notes
member_named at name m ty n =
    if is_some (find name m.names) then (with_faulty_member m, with_fault at NoMember n)
    else (with_member name ty m, n)

abbrev pub member_declared : ℕ → List ℕ → Members → Option DeclaredType → Notes → Members × Notes
member_declared at name m ty n = and_then (each ty (member_type at) n) (λ r. member_named at name m r)
