-- Initialisers of objects of static storage, with the cells that they give (C99 6.7.8). The items of a list initialise
-- the parts of an object in order, each by an initialiser of its own.
use Rattle.std.specs.Prelude.{ℕ, suc, ◌+◌, if◌then◌else◌, Bool, List, [], Option, Some, None, length}
use Rattle.c_tree.specs.declared.declarations.Init as i
use Rattle.c_typed_tree.specs.declared.types.CType.{CType}
use Rattle.c_typing_faults.specs.declared.faults.Kind.TheVariants.{BadInit}
use Rattle.mem_objects.specs.declared.DataCell.{DataCell}
use Rattle.c_typing_initial_values.specs.declared.parts.ObjectPart.{ObjectPart}
use Rattle.c_typing_initial_values.specs.Parts.{is_aggregate, is_character, part_of}
use Rattle.c_typed_tree.specs.View.{type_view}
use Rattle.c_typing_judgements.specs.Texts.{spelling_bytes}
use Rattle.c_typing_state.specs.Checks.{Check, and_then}
use Rattle.c_typing_judgements.specs.Types.{JudgementState}
use Rattle.c_typing_initialisers.specs.declared.lists.InitialiserItems.{InitialiserItems}
use Rattle.c_typing_initialisers.specs.declared.lists.InitialiserItems.TheVariants as t
use Rattle.c_typing_initialisers.specs.Unfit.{judge_init, no_place}
use Rattle.c_typing_initialisers.specs.Values.{FillingState, cells_beside, with_env, single_value, text_in}

-- ---- the items of a list: all without fault, and perhaps more than there are parts

abbrev pub with_item : InitialiserItems → Option ℕ → InitialiserItems
with_item t.Faulty place = t.Faulty
with_item t.Fitting None = t.Faulty
with_item t.Fitting (Some at) = t.Fitting
with_item (t.TooMany first) None = t.Faulty
with_item (t.TooMany first) (Some at) = t.TooMany first

abbrev pub with_surplus : InitialiserItems → Option ℕ → InitialiserItems
with_surplus t.Faulty place = t.Faulty
with_surplus t.Fitting None = t.Faulty
with_surplus t.Fitting (Some at) = t.TooMany at
with_surplus (t.TooMany first) None = t.Faulty
with_surplus (t.TooMany first) (Some at) = t.TooMany first

abbrev pub counted_by : (InitialiserItems → Option ℕ → InitialiserItems) → InitialiserItems →
    Option ℕ × FillingState → InitialiserItems × FillingState
counted_by count items r = (count items r.0, r.1)

-- there is such a part, or there are no more
abbrev pub if_part : {A : Type 0} → Option ObjectPart → (surplus : A) → (ObjectPart → A) → A
if_part None surplus at_part = surplus
if_part (Some p) surplus at_part = at_part p

-- what a list of such items is, which begins at its brace
abbrev pub list_of : (brace : ℕ) → InitialiserItems → Check (Option ℕ)
list_of brace t.Faulty n = (None, n)
list_of brace t.Fitting n = (Some brace, n)
list_of brace (t.TooMany first) n = no_place BadInit first n

-- a scalar has no list (braces round its value are left out here)
abbrev pub scalar_list : (brace : ℕ) → InitialiserItems → Check (Option ℕ)
scalar_list brace t.Faulty n = (None, n)
scalar_list brace t.Fitting n = no_place BadInit brace n
scalar_list brace (t.TooMany first) n = no_place BadInit brace n

abbrev pub list_in : CType → (brace : ℕ) → InitialiserItems → Check (Option ℕ)
list_in ty brace items n = if is_aggregate ty then list_of brace items n else scalar_list brace items n

-- the place of an initialiser, if it has no fault, with the cells that it gives at a place of an object
unfoldable mutual
  pub initialise : i.Init → CType → (place : ℕ) → FillingState → Option ℕ × FillingState
  initialise (i.Value x) ty place s = single_value ty place x s
  initialise (i.List' brace _ items) ty place s =
      and_then (item_row items ty place 0 t.Fitting s) (λ found u.
      with_env u.1.0 (cells_beside u.0 (list_in ty brace found u.1.1)))

  pub item_row : {m : _} → i.Row_of-Init m → CType → (place k : ℕ) → InitialiserItems → FillingState →
      InitialiserItems × FillingState
  item_row i.end_of-Init ty place k found s = (found, s)
  item_row (i.more_of-Init x xs) ty place k found s =
      and_then (if_part (part_of s.1.1.structs ty k)
      (counted_by with_surplus found (cells_beside s.0 (judge_init x s.1)))
      (λ p. counted_by with_item found (initialise x p.ty (place + p.place) s))) (λ r. item_row xs ty place (k + 1) r)

-- ---- whole objects

abbrev pub cells_where : List DataCell → Option ℕ → Option (List DataCell)
cells_where cells None = None
cells_where cells (Some at) = Some cells

abbrev pub cells_with : Option ℕ × FillingState → Option (List DataCell) × JudgementState
cells_with r = (cells_where r.1.0 r.0, r.1.1)

-- the cells of an object, if its initialiser has no fault
abbrev pub object_cells : CType → i.Init → JudgementState → Option (List DataCell) × JudgementState
object_cells ty x s = cells_with (initialise x ty 0 ([], s))

-- ---- an array without a length has that of its initialiser (6.7.8). Another value than a text gives none, and is a
-- fault; the array has one element then, as one that is only declared (6.9.2)

abbrev pub text_length : (is_character : Bool) → Option (ℕ × List (List ℕ)) → ℕ
text_length is_character None = 1
text_length is_character (Some text) = if is_character then length (spelling_bytes text.1) else 1

unfoldable pub row_length : {m : _} → i.Row_of-Init m → ℕ
row_length i.end_of-Init = 0
row_length (i.more_of-Init x xs) = suc (row_length xs)

unfoldable pub length_given : (element : CType) → i.Init → ℕ
length_given element (i.Value x) = text_length (is_character (type_view element)) (text_in x)
length_given element (i.List' brace _ items) = row_length items
