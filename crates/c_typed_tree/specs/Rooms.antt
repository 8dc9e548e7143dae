-- Rooms: what a call of a function may take of the stack; and the data that a unit needs.
use Rattle.std.specs.Prelude.{ℕ, ◌+◌, ◌*◌, max, List, [], ◌∷◌, sum_by, if◌then◌else◌}
use Rattle.mem_objects.specs.Layout.{data_end}
use Rattle.c_typed_tree.specs.declared.types.StructDef.{StructDef}
use Rattle.c_typed_tree.specs.declared.units.Local.{Local}
use Rattle.c_typed_tree.specs.declared.units.TypedFn.{TypedFn}
use Rattle.c_typed_tree.specs.declared.units.TypedUnit.{TypedUnit}
use Rattle.c_typed_tree.specs.Layout.{size_of, aligned_up}
use Rattle.c_typed_tree.specs.View.{type_view}
use Rattle.c_typed_tree.specs.Weight.{function_weight}

-- the bytes that a local takes in memory, rounded up to 8
abbrev pub local_bytes : List StructDef → Local → ℕ
local_bytes ds l = if l.in_memory then aligned_up 8 (size_of ds (type_view l.ty)) else 0

-- those of all locals of a function
abbrev pub locals_bytes : List StructDef → TypedFn → ℕ
locals_bytes ds f = sum_by (local_bytes ds) f.locals

-- the room of a function; that of a built-in function is 0
abbrev pub room : List StructDef → TypedFn → ℕ
room ds f = 256 + 64 * function_weight ds f + locals_bytes ds f

-- the greatest of the functions' bytes of locals
abbrev pub greatest_locals : List StructDef → List TypedFn → ℕ
greatest_locals ds [] = 0
greatest_locals ds (f ∷ fs) = max (locals_bytes ds f) (greatest_locals ds fs)

-- the end of the data, or the bytes of one function's locals where those are more
abbrev pub data_size : TypedUnit → ℕ
data_size u = max (data_end u.globals) (greatest_locals u.structs u.functions)
