-- What lawful structs say of types, sizes and members (C99 6.7.2.1).
use Rattle.std.specs.Prelude.{◌≡◌, ℕ, ◌+◌, ◌*◌, ◌≤◌, ◌==◌, Bool, true, ◌||◌, IsTrue, List, All, slice_get, Some}
use Rattle.c_typed_tree.specs.declared.types.StructDef.{StructDef}
use Rattle.c_typed_tree.specs.declared.types.Member.{Member}
use Rattle.c_typed_tree.specs.Types.{PlainType}
use Rattle.c_typed_tree.specs.View.{type_view}
use Rattle.c_typed_tree.specs.Layout.{is_object, size_of, align_of}
use Rattle.c_typed_tree.specs.Typing.{is_valid_type}
use Rattle.c_typed_tree.specs.Lawful.{IsLawfulStruct}

-- an alignment in bytes
abbrev pub is_alignment : ℕ → Bool
is_alignment a = a == 1 || a == 2 || a == 4 || a == 8

-- each type of objects has an alignment
abbrev pub TypesAreAligned : Type 0
TypesAreAligned =
    (ds : List StructDef) → All (IsLawfulStruct ds) ds → (ty : PlainType) → IsTrue (is_valid_type ds ty) →
    IsTrue (is_object ds ty) → IsTrue (is_alignment (align_of ds ty))

-- the size of a complete struct is a multiple of its alignment
abbrev pub StructsAreMultiples : Type 0
StructsAreMultiples =
    (ds : List StructDef) → All (IsLawfulStruct ds) ds → (n : ℕ) (d : StructDef) → slice_get ds n ≡ Some d →
    d.complete ≡ true → (q : ℕ) × (d.size ≡ q * d.align)

-- a member ends within its struct
abbrev pub MembersLieWithin : Type 0
MembersLieWithin =
    (ds : List StructDef) → All (IsLawfulStruct ds) ds → (n k : ℕ) (d : StructDef) (m : Member) →
    slice_get ds n ≡ Some d → slice_get d.members k ≡ Some m → m.offset + size_of ds (type_view m.ty) ≤ d.size
