-- The objects of static storage of a unit, in the order of their numbers: those with names, and then the string
-- literals (C99 6.2.4, 6.4.5). Each lies at the next multiple of 8 behind the one before it.
use Rattle.std.specs.Prelude.{ℕ, ◌+◌, true, false, List, [], ◌∷◌, ◌++◌, map, length, Option, Some, None, slice_get, slice_set}
use Rattle.mem_objects.specs.declared.DataObject.{DataObject}
use Rattle.mem_objects.specs.declared.DataCell.{DataCell}
use Rattle.mem_objects.specs.declared.DataCell.TheVariants.{Byte}
use Rattle.mem_objects.specs.Layout.{place_after}
use Rattle.c_typed_tree.specs.declared.types.StructDef.{StructDef}
use Rattle.c_typed_tree.specs.Layout.{size_of, align_of}
use Rattle.c_typed_tree.specs.View.{type_view}
use Rattle.c_typing_globals.specs.declared.objects.UnitObject.{UnitObject}
use Rattle.c_typing_globals.specs.declared.globals.GlobalsSoFar.{GlobalsSoFar}

-- ---- what an initialiser gives to an object that is there

abbrev pub with_cells : List DataCell → UnitObject → UnitObject
with_cells cells o = record { name = o.name; ty = o.ty; cells = cells }

abbrev pub replace_cells : (number : ℕ) → List DataCell → Option UnitObject → List UnitObject → List UnitObject
replace_cells number cells None os = os
replace_cells number cells (Some o) os = slice_set os number (with_cells cells o)

abbrev pub set_cells : (number : ℕ) → List DataCell → List UnitObject → List UnitObject
set_cells number cells os = replace_cells number cells (slice_get os number) os

-- ---- where they lie

-- an object with a name, behind an end
abbrev pub global_after : List StructDef → (end : ℕ) → UnitObject → DataObject
global_after ds end o = record {
  name = o.name;
  size = size_of ds (type_view o.ty);
  align = align_of ds (type_view o.ty);
  offset = place_after end;
  writable = true;
  cells = o.cells;
}

-- a string literal, which no program writes
abbrev pub text_at : (end : ℕ) → (bytes : List ℕ) → DataObject
text_at end bytes = record {
  name = [];
  size = length bytes;
  align = 1;
  offset = place_after end;
  writable = false;
  cells = map Byte bytes;
}

abbrev pub with_global : DataObject → GlobalsSoFar → GlobalsSoFar
with_global o g = record { globals = g.globals ++ o ∷ []; end = o.offset + o.size }

abbrev pub with_objects : List StructDef → List UnitObject → GlobalsSoFar → GlobalsSoFar
with_objects ds [] g = g
with_objects ds (o ∷ os) g = with_objects ds os (with_global (global_after ds g.end o) g)

abbrev pub with_texts : (texts : List (List ℕ)) → GlobalsSoFar → GlobalsSoFar
with_texts [] g = g
with_texts (bytes ∷ texts) g = with_texts texts (with_global (text_at g.end bytes) g)

abbrev pub no_globals : GlobalsSoFar
no_globals = record { globals = []; end = 0 }

abbrev pub globals : List StructDef → List UnitObject → (texts : List (List ℕ)) → List DataObject
globals ds os texts = (with_texts texts (with_objects ds os no_globals)).globals
