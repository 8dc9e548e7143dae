-- That a unit is lawful has one proof at most.
use Rattle.std.specs.Prelude.{ℕ, ◌+◌, Bool, true, false, List, [], ◌∷◌, Option, Some, None}
use Rattle.std.specs.Coded.{coded_list}
use Rattle.std.proofs.Props.{props}
use base.Stored.{Coded-set}
use Rattle.mem_objects.specs.declared.DataCell.{DataCell}
use Rattle.mem_objects.specs.declared.DataCell.TheVariants.{Byte, AddressPart}
use Rattle.mem_objects.specs.contracts.DataCell as cell
use Rattle.mem_objects.specs.declared.DataObject.{DataObject}
use Rattle.mem_objects.specs.Layout.{ObjectsLieFrom}
use Rattle.mem_objects.specs.Globals.{Reaches, IsLawfulCell}
use Rattle.c_typed_tree.specs.contracts.types.Member as member
use Rattle.c_typed_tree.specs.declared.types.Member.{Member}
use Rattle.c_typed_tree.specs.declared.types.StructDef.{StructDef}
use Rattle.c_typed_tree.specs.declared.units.TypedUnit.{TypedUnit}
use Rattle.c_typed_tree.specs.View.{type_view}
use Rattle.c_typed_tree.specs.Layout.{size_of, MembersLieFrom}
use Rattle.c_typed_tree.specs.Lawful.{IsStruct, IsLawfulUnit}

cells_are_set : IsSet DataCell
cells_are_set = Coded-set cell.the_row.coded

members_are_set : IsSet (List Member)
members_are_set = Coded-set (coded_list member.the_row.coded)

members_are_proposition : (ds : List StructDef) (end : ℕ) (ms : List Member) → IsProp (MembersLieFrom ds end ms)
members_are_proposition ds end [] = hlevel props
members_are_proposition ds end (m ∷ ms) =
    let rest = members_are_proposition ds (m.offset + size_of ds (type_view m.ty)) ms in
    hlevel (rest, props)

struct_is_proposition : (ds : List StructDef) (d : StructDef) (complete : Bool) → IsProp (IsStruct ds d complete)
struct_is_proposition ds d true = hlevel (members_are_proposition, props)
struct_is_proposition ds d false = hlevel (members_are_set, props)

objects_are_proposition : (end : ℕ) (os : List DataObject) → IsProp (ObjectsLieFrom end os)
objects_are_proposition end [] = hlevel props
objects_are_proposition end (o ∷ os) =
    let rest = objects_are_proposition (o.offset + o.size) os in
    hlevel (rest, props)

reach_is_proposition : (plus : ℕ) (o : Option DataObject) → IsProp (Reaches plus o)
reach_is_proposition plus None = hlevel props
reach_is_proposition plus (Some o) = hlevel props

cell_is_proposition : (globals : List DataObject) (o : DataObject) (at : ℕ) (c : DataCell) → IsProp (IsLawfulCell globals o at c)
cell_is_proposition globals o at (Byte b) = hlevel props
cell_is_proposition globals o at (AddressPart global plus part) = hlevel (reach_is_proposition, cells_are_set, props)

pub lawful_unit_is_proposition : (u : TypedUnit) → IsProp (IsLawfulUnit u)
lawful_unit_is_proposition u = hlevel (struct_is_proposition, objects_are_proposition, cell_is_proposition, props)
