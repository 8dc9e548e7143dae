-- The types of locals (C99 6.7). `at` is the place of the name.
use Rattle.std.specs.Prelude.{ℕ, if◌then◌else◌, Option, Some}
use Rattle.c_typing_rules.specs.declared.c_typing_declared_types.declared.DeclaredType.{DeclaredType}
use Rattle.c_typing_rules.specs.declared.c_typing_declared_types.declared.DeclaredType.TheVariants as d
use Rattle.c_typed_tree.specs.declared.types.CType.{CType}
use Rattle.c_typing_faults.specs.declared.faults.Kind.TheVariants.{BadType}
use Rattle.c_typing_state.specs.Checks.{Check, fault}
use Rattle.c_typing_struct_bodies.specs.Members.{is_member_type}

abbrev pub no_object_type : ℕ → Check (Option CType)
no_object_type at = fault at BadType

-- a local may have the type that a member may have; an array has a length
abbrev pub object_type : ℕ → DeclaredType → Check (Option CType)
object_type at (d.Value ty) n = if is_member_type n.structs ty then (Some ty, n) else no_object_type at n
object_type at (d.Unsized element) n = no_object_type at n
object_type at (d.Function of parameters) n = no_object_type at n
