-- Initialisers.
use Rattle.std.proofs.Common.{ℕ, ◌+◌, Bool, true, false, List, [], Option, Some, None, if◌then◌else◌}
use Rattle.c_tree.specs.declared.declarations.Init as i
use Rattle.c_tree.specs.declared.expressions.Expr.{Expr}
use Rattle.c_typed_tree.specs.declared.types.CType.{CType}
use Rattle.c_typing_faults.specs.declared.faults.Kind.{Kind}
use Rattle.c_typing_faults.specs.declared.faults.Kind.TheVariants.{BadInit}
use Rattle.c_typing_rules.specs.declared.typed.TypedExpression.{TypedExpression}
use Rattle.c_typing_rules.specs.Conversions.{decay}
use Rattle.c_typing_judgements.specs.c_typing_operators.Null.{take_value}
use Rattle.c_typing_state.specs.declared.notes.Notes.{Notes}
use Rattle.c_typing_state.specs.Checks.{each}
use Rattle.c_typing_judgements.specs.Texts.{spelling_bytes}
use Rattle.c_typing_judgements.specs.Types.{JudgementState}
use Rattle.c_typing_expressions.specs.Expressions.{judge}
use Rattle.c_typing_initial_values.specs.declared.parts.ObjectPart.{ObjectPart}
use Rattle.c_typing_initial_values.specs.Cells.{place_piece, text_cells}
use Rattle.c_typing_initial_values.specs.Parts.{is_aggregate, is_room_for, part_room, part_of}
use Rattle.c_typing_initial_values.specs.Values.{initial_value}
use Rattle.c_typing_initialisers.specs.declared.lists.InitialiserItems.{InitialiserItems}
use Rattle.c_typing_initialisers.specs.declared.lists.InitialiserItems.TheVariants as t
use Rattle.c_typing_initialisers.specs.Unfit.{judge_init, judge_items, is_whole_with, no_place, faulty_init}
use Rattle.c_typing_initialisers.specs.Values.{CellsAndNotes, FillingState, cells_beside, scalar_value, constant_value, fill_value, text_in, text_value, expression_value, value_or_text}
use Rattle.c_typing_initialisers.specs.Initialisers.{with_item, with_surplus, counted_by, if_part, list_of, scalar_list, list_in, initialise, item_row, object_cells}
use Rattle.c_typing_expression_sound.specs.c_note_laws.Steps.{NoteSteps}
use Rattle.c_typing_expression_sound.proofs.CNoteLaws.Forms.{ruled_steps, each_adds}
use Rattle.c_typing_expression_sound.proofs.CNoteLaws.Walks.{judge_adds}

-- ---- what fits nothing

mutual
  unfolding judge_init

  pub init_steps : (x : i.Init) (s : JudgementState) → NoteSteps s.1 (judge_init x s).1.1
  init_steps (i.Value x) s = judge_adds x s
  init_steps (i.List' at _ items) s = items_steps items true s

  items_steps : {m : _} (xs : i.Row_of-Init m) (whole : Bool) (s : JudgementState) → NoteSteps s.1 (judge_items xs whole s).1.1
  items_steps i.end_of-Init whole s = NoteSteps.Stays
  items_steps (i.more_of-Init x xs) whole s = let r = judge_init x s in NoteSteps.Follows (init_steps x s) (items_steps xs (is_whole_with whole r.0) r.1)

pub unfit_steps : (kind : Kind) (x : i.Init) (s : JudgementState) → NoteSteps s.1 (faulty_init kind x s).1.1
unfit_steps kind x s =
    let r = judge_init x s in
    NoteSteps.Follows (init_steps x s) (each_adds r.0 (no_place kind) r.1.1 (λ at. NoteSteps.AddsFault at kind))

-- ---- single values

scalar_steps : (ty : CType) (place : ℕ) (a : TypedExpression) (f : CellsAndNotes) → NoteSteps f.1 (scalar_value ty place a f).1.1
scalar_steps ty place a f = NoteSteps.Follows (ruled_steps (initial_value f.1.structs a) f.1) (ruled_steps (take_value ty a) (constant_value a f.1).1)

value_steps : (ty : CType) (place : ℕ) (a : TypedExpression) (f : CellsAndNotes) → NoteSteps f.1 (fill_value ty place a f).1.1
value_steps ty place a f = choose (is_aggregate ty)
  where
    choose : (b : Bool) → NoteSteps f.1 (if b then cells_beside f.0 (no_place BadInit a.at f.1) else scalar_value ty place (decay a) f).1.1
    choose true = NoteSteps.AddsFault a.at BadInit
    choose false = scalar_steps ty place (decay a) f

judged_value_steps : (ty : CType) (place : ℕ) (o : Option TypedExpression) (f : CellsAndNotes) → NoteSteps f.1 (each o (fill_value ty place) f).1.1
judged_value_steps ty place None f = NoteSteps.Stays
judged_value_steps ty place (Some a) f = value_steps ty place a f

expression_steps : (ty : CType) (place : ℕ) (x : Expr) (s : FillingState) → NoteSteps s.1.1 (expression_value ty place x s).1.1.1
expression_steps ty place x s = NoteSteps.Follows (judge_adds x s.1) (judged_value_steps ty place (judge x s.1).0 (s.0, (judge x s.1).1.1))

text_steps : (place room at : ℕ) (bytes : List ℕ) (f : CellsAndNotes) → NoteSteps f.1 (text_value place room at bytes f).1.1
text_steps place room at bytes f = choose (is_room_for room bytes)
  where
    choose : (b : Bool) → NoteSteps f.1 (if b then (Some at, (place_piece place (text_cells room bytes) f.0, f.1)) else cells_beside f.0 (no_place BadInit at f.1)).1.1
    choose true = NoteSteps.Stays
    choose false = NoteSteps.AddsFault at BadInit

by_steps : (room : Option ℕ) (text : Option (ℕ × List (List ℕ))) (ty : CType) (place : ℕ) (x : Expr) (s : FillingState) → NoteSteps s.1.1 (value_or_text room text ty place x s).1.1.1
by_steps None text ty place x s = expression_steps ty place x s
by_steps (Some room) None ty place x s = expression_steps ty place x s
by_steps (Some room) (Some spelled) ty place x s = text_steps place room spelled.0 (spelling_bytes spelled.1) (s.0, s.1.1)

-- ---- lists

list_steps : (brace : ℕ) (items : InitialiserItems) (n : Notes) → NoteSteps n (list_of brace items n).1
list_steps brace t.Faulty n = NoteSteps.Stays
list_steps brace t.Fitting n = NoteSteps.Stays
list_steps brace (t.TooMany first) n = NoteSteps.AddsFault first BadInit

scalar_list_steps : (brace : ℕ) (items : InitialiserItems) (n : Notes) → NoteSteps n (scalar_list brace items n).1
scalar_list_steps brace t.Faulty n = NoteSteps.Stays
scalar_list_steps brace t.Fitting n = NoteSteps.AddsFault brace BadInit
scalar_list_steps brace (t.TooMany first) n = NoteSteps.AddsFault brace BadInit

list_in_steps : (ty : CType) (brace : ℕ) (items : InitialiserItems) (n : Notes) → NoteSteps n (list_in ty brace items n).1
list_in_steps ty brace items n = choose (is_aggregate ty)
  where
    choose : (b : Bool) → NoteSteps n (if b then list_of brace items n else scalar_list brace items n).1
    choose true = list_steps brace items n
    choose false = scalar_list_steps brace items n

of_part : {A : Type 0} (P : A → Type 0) (o : Option ObjectPart) (surplus : A) (at_part : ObjectPart → A) → P surplus → ((p : ObjectPart) → P (at_part p)) → P (if_part o surplus at_part)
of_part P None surplus at_part h g = h
of_part P (Some p) surplus at_part h g = g p

mutual
  unfolding initialise

  pub initialise_steps : (x : i.Init) (ty : CType) (place : ℕ) (s : FillingState) → NoteSteps s.1.1 (initialise x ty place s).1.1.1
  initialise_steps (i.Value x) ty place s = by_steps (part_room ty) (text_in x) ty place x s
  initialise_steps (i.List' brace _ items) ty place s =
      let r = item_row items ty place 0 t.Fitting s in
      NoteSteps.Follows (row_steps items ty place 0 t.Fitting s) (list_in_steps ty brace r.0 r.1.1.1)

  row_steps : {m : _} (xs : i.Row_of-Init m) (ty : CType) (place k : ℕ) (found : InitialiserItems) (s : FillingState) → NoteSteps s.1.1 (item_row xs ty place k found s).1.1.1
  row_steps i.end_of-Init ty place k found s = NoteSteps.Stays
  row_steps (i.more_of-Init x xs) ty place k found s =
      of_part (λ r. NoteSteps s.1.1 (item_row xs ty place (k + 1) r.0 r.1).1.1.1) (part_of s.1.1.structs ty k) (counted_by with_surplus found (cells_beside s.0 (judge_init x s.1)))
      (λ p. counted_by with_item found (initialise x p.ty (place + p.place) s))
      (let r = judge_init x s.1 in NoteSteps.Follows (init_steps x s.1) (row_steps xs ty place (k + 1) (with_surplus found r.0) (s.0, r.1)))
      (λ p. let r = initialise x p.ty (place + p.place) s in NoteSteps.Follows (initialise_steps x p.ty (place + p.place) s) (row_steps xs ty place (k + 1) (with_item found r.0) r.1))

pub cells_steps : (ty : CType) (x : i.Init) (s : JudgementState) → NoteSteps s.1 (object_cells ty x s).1.1
cells_steps ty x s = initialise_steps x ty 0 ([], s)
