-- Initialisers of objects of static storage give cells, or something is noted; they leave the names in scope as they were.
use Rattle.std.proofs.Common.{◌≡◌, ◌+◌, ℕ, Bool, true, false, IsTrue, List, [], Option, Some, None, is_some, Ok, Err, refl, ◌∙◌, if◌then◌else◌}
use Rattle.std.specs.Option.{option_map}
use Rattle.c_tree.specs.declared.expressions.Expr.{Expr}
use Rattle.c_tree.specs.declared.declarations.Init as i
use Rattle.mem_objects.specs.declared.DataCell.{DataCell}
use Rattle.c_typed_tree.specs.declared.types.CType.{CType}
use Rattle.c_typed_tree.specs.declared.expressions.TExpr.{TExpr}
use Rattle.c_typed_tree.specs.Typing.{Context}
use Rattle.c_typing_faults.specs.declared.faults.Kind.{Kind}
use Rattle.c_typing_faults.specs.declared.faults.Kind.TheVariants.{BadInit}
use Rattle.c_typing_rules.specs.declared.typed.TypedExpression.{TypedExpression}
use Rattle.c_typing_rules.specs.Rulings.{Ruling}
use Rattle.c_typing_rules.specs.Conversions.{decay}
use Rattle.c_typing_judgements.specs.c_typing_operators.Null.{take_value}
use Rattle.c_typing_initial_values.specs.declared.parts.ObjectPart.{ObjectPart}
use Rattle.c_typing_initial_values.specs.declared.values.InitialValue.{InitialValue}
use Rattle.c_typing_initial_values.specs.Cells.{place_piece, text_cells}
use Rattle.c_typing_initial_values.specs.Values.{initial_value}
use Rattle.c_typing_initial_values.specs.Parts.{is_aggregate, is_room_for, part_room, part_of}
use Rattle.c_typing_state.specs.declared.env.Env.{Env}
use Rattle.c_typing_state.specs.declared.notes.Notes.{Notes}
use Rattle.c_typing_state.specs.Checks.{and_then, pure, each, note_fault}
use Rattle.c_typing_state.specs.Notes.{with_fault}
use Rattle.c_typing_judgements.specs.Types.{JudgementState}
use Rattle.c_typing_judgements.specs.Texts.{spelling_bytes}
use Rattle.c_typing_expressions.specs.Expressions.{judge}
use Rattle.c_typing_initialisers.specs.declared.lists.InitialiserItems.{InitialiserItems}
use Rattle.c_typing_initialisers.specs.declared.lists.InitialiserItems.TheVariants as t
use Rattle.c_typing_initialisers.specs.Unfit.{place_in_text, judge_value, list_place, is_whole_with, judge_init, judge_items, no_place, faulty_init}
use Rattle.c_typing_initialisers.specs.Values.{CellsAndNotes, FillingState, cells_beside, with_env, constant_value, is_taken, put_scalar, with_notes, scalar_value, fill_value, expression_value, text_in, text_value, value_or_text, single_value}
use Rattle.c_typing_initialisers.specs.Initialisers.{with_item, with_surplus, counted_by, if_part, list_of, scalar_list, list_in, initialise, item_row, cells_where, object_cells}
use Rattle.c_typing_expression_sound.specs.c_found_laws.Laws.{Tells, IsFound, YieldsFound}
use Rattle.c_typing_expression_sound.proofs.CFoundLaws.Forms.{no_true, tells_none, tells_fault, tells_as, tells_then, tells_both, tells_never, ruled_tells, map_found, each_tells}
use Rattle.c_typing_expression_sound.proofs.CFoundLaws.Walks.{judge_tells}
use Rattle.c_types.proofs.CFoundUnitLaws.Names.{judge_leaves}

-- ---- initialisers that are judged beside what they initialise

place_found : (whole : Bool) (at : ℕ) → IsTrue whole → IsFound (list_place at whole)
place_found false at h = no_true h
place_found true at h = refl

whole_found : (whole : Bool) (place : Option ℕ) → IsTrue whole → IsFound place → IsTrue (is_whole_with whole place)
whole_found false place h g = no_true h
whole_found true None h g = no_true g
whole_found true (Some at) h g = refl

mutual
  unfolding judge_init

  pub judge_init_tells : (x : i.Init) (s : JudgementState) → YieldsFound s (judge_init x s)
  judge_init_tells (i.Value x) s = tells_as s (judge x s).1 (map_found place_in_text (judge x s).0) (judge_tells x s)
  judge_init_tells (i.List' at _ items) s =
      let r = judge_items items true s in
      tells_as s r.1 (place_found r.0 at) (judge_items_tell items true s s (tells_none s refl))

  judge_items_tell : {m : _} (xs : i.Row_of-Init m) (whole : Bool) (s u : JudgementState) → Tells (IsTrue whole) s u → Tells (IsTrue (judge_items xs whole u).0) s (judge_items xs whole u).1
  judge_items_tell i.end_of-Init whole s u h = h
  judge_items_tell (i.more_of-Init x xs) whole s u h =
      let r = judge_init x u in
      judge_items_tell xs (is_whole_with whole r.0) s r.1 (tells_both s u r.1 (whole_found whole r.0) h (judge_init_tells x u))

mutual
  unfolding judge_init

  pub judge_init_leaves : (x : i.Init) (s : JudgementState) → (judge_init x s).1.0 ≡ s.0
  judge_init_leaves (i.Value x) s = judge_leaves x s
  judge_init_leaves (i.List' at _ items) s = judge_items_leave items true s

  judge_items_leave : {m : _} (xs : i.Row_of-Init m) (whole : Bool) (s : JudgementState) → (judge_items xs whole s).1.0 ≡ s.0
  judge_items_leave i.end_of-Init whole s = refl
  judge_items_leave (i.more_of-Init x xs) whole s =
      let r = judge_init x s in
      judge_items_leave xs (is_whole_with whole r.0) r.1 ∙ judge_init_leaves x s

pub unfit_tells : (kind : Kind) (x : i.Init) (s : JudgementState) → YieldsFound s (faulty_init kind x s)
unfit_tells kind x s =
    let r = judge_init x s in
    each_tells r.1.0 s r.0 (no_place kind) r.1.1 (judge_init_tells x s) (λ at. tells_fault r.1.0 at kind r.1.1)

-- ---- single values

value_put_found : (ty : CType) (place at : ℕ) (v : Option InitialValue) (taken : Bool) (cells : List DataCell) → IsFound v → IsTrue taken → IsFound (put_scalar ty place at v taken cells).0
value_put_found ty place at None taken cells h g = no_true h
value_put_found ty place at (Some v) false cells h g = no_true g
value_put_found ty place at (Some v) true cells h g = refl

module _ (env : Env) where
  abbrev Gives : {A : Type 0} → CellsAndNotes → Option A × CellsAndNotes → Type 0
  Gives f r = Tells (IsFound r.0) (env, f.1) (env, r.1.1)

  scalar_tells : (ty : CType) (place : ℕ) (a : TypedExpression) (f : CellsAndNotes) → Gives f (scalar_value ty place a f)
  scalar_tells ty place a f =
      let v = constant_value a f.1 in
      let taken = is_taken ty a v.1 in
      tells_both (env, f.1) (env, v.1) (env, taken.1) (value_put_found ty place a.at v.0 taken.0 f.0) (ruled_tells env (initial_value f.1.structs a) f.1) (ruled_tells env (take_value ty a) v.1)

  value_tells : (ty : CType) (place : ℕ) (a : TypedExpression) (f : CellsAndNotes) → Gives f (fill_value ty place a f)
  value_tells ty place a f = choose (is_aggregate ty)
    where
      either : Bool → Option ℕ × CellsAndNotes
      either b = if b then cells_beside f.0 (no_place BadInit a.at f.1) else scalar_value ty place (decay a) f

      choose : (b : Bool) → Gives f (either b)
      choose true = tells_fault env a.at BadInit f.1
      choose false = scalar_tells ty place (decay a) f

  text_tells : (place room at : ℕ) (bytes : List ℕ) (f : CellsAndNotes) → Gives f (text_value place room at bytes f)
  text_tells place room at bytes f = choose (is_room_for room bytes)
    where
      either : Bool → Option ℕ × CellsAndNotes
      either b = if b then (Some at, (place_piece place (text_cells room bytes) f.0, f.1)) else cells_beside f.0 (no_place BadInit at f.1)

      choose : (b : Bool) → Gives f (either b)
      choose true = tells_none (env, f.1) refl
      choose false = tells_fault env at BadInit f.1

filled_tells : (ty : CType) (place : ℕ) (s : JudgementState) (env : Env) (o : Option TypedExpression) (f : CellsAndNotes) → Tells (IsFound o) s (env, f.1) → Tells (IsFound (each o (fill_value ty place) f).0) s (env, (each o (fill_value ty place) f).1.1)
filled_tells ty place s env None f h = tells_never s (env, f.1) h
filled_tells ty place s env (Some a) f h = tells_both s (env, f.1) (env, (fill_value ty place a f).1.1) (λ x y. y) h (value_tells env ty place a f)

abbrev Fills : FillingState → Option ℕ × FillingState → Type 0
Fills s r = Tells (IsFound r.0) s.1 r.1.1

by_room : (room : Option ℕ) (text : Option (ℕ × List (List ℕ))) (ty : CType) (place : ℕ) (x : Expr) (s : FillingState) → Fills s (value_or_text room text ty place x s)
by_room None text ty place x s = let r = judge x s.1 in filled_tells ty place s.1 r.1.0 r.0 (s.0, r.1.1) (judge_tells x s.1)
by_room (Some room) None ty place x s = let r = judge x s.1 in filled_tells ty place s.1 r.1.0 r.0 (s.0, r.1.1) (judge_tells x s.1)
by_room (Some room) (Some spelled) ty place x s = text_tells s.1.0 place room spelled.0 (spelling_bytes spelled.1) (s.0, s.1.1)

by_room_leaves : (room : Option ℕ) (text : Option (ℕ × List (List ℕ))) (ty : CType) (place : ℕ) (x : Expr) (s : FillingState) → (value_or_text room text ty place x s).1.1.0 ≡ s.1.0
by_room_leaves None text ty place x s = judge_leaves x s.1
by_room_leaves (Some room) None ty place x s = judge_leaves x s.1
by_room_leaves (Some room) (Some spelled) ty place x s = refl

-- ---- lists

abbrev is_whole : InitialiserItems → Bool
is_whole t.Faulty = false
is_whole t.Fitting = true
is_whole (t.TooMany first) = true

item_whole : (items : InitialiserItems) (place : Option ℕ) → IsTrue (is_whole items) → IsFound place → IsTrue (is_whole (with_item items place))
item_whole t.Faulty place h g = no_true h
item_whole t.Fitting None h g = no_true g
item_whole t.Fitting (Some at) h g = refl
item_whole (t.TooMany first) None h g = no_true g
item_whole (t.TooMany first) (Some at) h g = refl

surplus_whole : (items : InitialiserItems) (place : Option ℕ) → IsTrue (is_whole items) → IsFound place → IsTrue (is_whole (with_surplus items place))
surplus_whole t.Faulty place h g = no_true h
surplus_whole t.Fitting None h g = no_true g
surplus_whole t.Fitting (Some at) h g = refl
surplus_whole (t.TooMany first) None h g = no_true g
surplus_whole (t.TooMany first) (Some at) h g = refl

list_of_tells : (s : JudgementState) (env : Env) (brace : ℕ) (items : InitialiserItems) (n : Notes) → Tells (IsTrue (is_whole items)) s (env, n) → Tells (IsFound (list_of brace items n).0) s (env, (list_of brace items n).1)
list_of_tells s env brace t.Faulty n h = tells_never s (env, n) h
list_of_tells s env brace t.Fitting n h = tells_as s (env, n) (λ x. refl) h
list_of_tells s env brace (t.TooMany first) n h = tells_both s (env, n) (env, with_fault first BadInit n) (λ x y. y) h (tells_fault env first BadInit n)

scalar_list_tells : (s : JudgementState) (env : Env) (brace : ℕ) (items : InitialiserItems) (n : Notes) → Tells (IsTrue (is_whole items)) s (env, n) → Tells (IsFound (scalar_list brace items n).0) s (env, (scalar_list brace items n).1)
scalar_list_tells s env brace t.Faulty n h = tells_never s (env, n) h
scalar_list_tells s env brace t.Fitting n h = tells_both s (env, n) (env, with_fault brace BadInit n) (λ x y. y) h (tells_fault env brace BadInit n)
scalar_list_tells s env brace (t.TooMany first) n h = tells_both s (env, n) (env, with_fault brace BadInit n) (λ x y. y) h (tells_fault env brace BadInit n)

list_tells : (s : JudgementState) (env : Env) (ty : CType) (brace : ℕ) (items : InitialiserItems) (n : Notes) → Tells (IsTrue (is_whole items)) s (env, n) → Tells (IsFound (list_in ty brace items n).0) s (env, (list_in ty brace items n).1)
list_tells s env ty brace items n h = choose (is_aggregate ty)
  where
    either : Bool → Option ℕ × Notes
    either b = if b then list_of brace items n else scalar_list brace items n

    choose : (b : Bool) → Tells (IsFound (either b).0) s (env, (either b).1)
    choose true = list_of_tells s env brace items n h
    choose false = scalar_list_tells s env brace items n h

-- ---- whole initialisers

-- an item, which initialises a part or is one too many
abbrev TellsOfWhole : InitialiserItems → FillingState → InitialiserItems × FillingState → Type 0
TellsOfWhole items s r = Tells (IsTrue (is_whole items) → IsTrue (is_whole r.0)) s.1 r.1.1

part_tells : (o : Option ObjectPart) (place : ℕ) (found : InitialiserItems) (x : i.Init) (s : FillingState) → ((p : ObjectPart) → Fills s (initialise x p.ty (place + p.place) s))
    → TellsOfWhole found s (if_part o (counted_by with_surplus found (cells_beside s.0 (judge_init x s.1))) (λ p. counted_by with_item found (initialise x p.ty (place + p.place) s)))
part_tells None place found x s f = tells_as s.1 (judge_init x s.1).1 (λ g y. surplus_whole found (judge_init x s.1).0 y g) (judge_init_tells x s.1)
part_tells (Some p) place found x s f =
    let r = initialise x p.ty (place + p.place) s in
    tells_as s.1 r.1.1 (λ g y. item_whole found r.0 y g) (f p)

mutual
  unfolding initialise

  pub initialise_tells : (x : i.Init) (ty : CType) (place : ℕ) (s : FillingState) → Fills s (initialise x ty place s)
  initialise_tells (i.Value x) ty place s = by_room (part_room ty) (text_in x) ty place x s
  initialise_tells (i.List' brace _ items) ty place s =
      let u = item_row items ty place 0 t.Fitting s in
      list_tells s.1 u.1.1.0 ty brace u.0 u.1.1.1 (row_tells items ty place 0 t.Fitting s.1 s (tells_none s.1 refl))

  row_tells : {m : _} (xs : i.Row_of-Init m) (ty : CType) (place k : ℕ) (found : InitialiserItems) (v : JudgementState) (s : FillingState) → Tells (IsTrue (is_whole found)) v s.1
      → Tells (IsTrue (is_whole (item_row xs ty place k found s).0)) v (item_row xs ty place k found s).1.1
  row_tells i.end_of-Init ty place k found v s h = h
  row_tells (i.more_of-Init x xs) ty place k found v s h =
      let r = if_part (part_of s.1.1.structs ty k) (counted_by with_surplus found (cells_beside s.0 (judge_init x s.1))) (λ p. counted_by with_item found (initialise x p.ty (place + p.place) s)) in
      row_tells xs ty place (k + 1) r.0 v r.1
      (tells_both v s.1 r.1.1 (λ y f. f y) h (part_tells (part_of s.1.1.structs ty k) place found x s (λ p. initialise_tells x p.ty (place + p.place) s)))

part_leaves : (o : Option ObjectPart) (place : ℕ) (found : InitialiserItems) (x : i.Init) (s : FillingState) → ((p : ObjectPart) → (initialise x p.ty (place + p.place) s).1.1.0 ≡ s.1.0)
    → (if_part o (counted_by with_surplus found (cells_beside s.0 (judge_init x s.1))) (λ p. counted_by with_item found (initialise x p.ty (place + p.place) s))).1.1.0 ≡ s.1.0
part_leaves None place found x s f = judge_init_leaves x s.1
part_leaves (Some p) place found x s f = f p

mutual
  unfolding initialise

  pub initialise_leaves : (x : i.Init) (ty : CType) (place : ℕ) (s : FillingState) → (initialise x ty place s).1.1.0 ≡ s.1.0
  initialise_leaves (i.Value x) ty place s = by_room_leaves (part_room ty) (text_in x) ty place x s
  initialise_leaves (i.List' brace _ items) ty place s = row_leaves items ty place 0 t.Fitting s

  row_leaves : {m : _} (xs : i.Row_of-Init m) (ty : CType) (place k : ℕ) (found : InitialiserItems) (s : FillingState) → (item_row xs ty place k found s).1.1.0 ≡ s.1.0
  row_leaves i.end_of-Init ty place k found s = refl
  row_leaves (i.more_of-Init x xs) ty place k found s =
      let r = if_part (part_of s.1.1.structs ty k) (counted_by with_surplus found (cells_beside s.0 (judge_init x s.1))) (λ p. counted_by with_item found (initialise x p.ty (place + p.place) s)) in
      row_leaves xs ty place (k + 1) r.0 r.1 ∙ part_leaves (part_of s.1.1.structs ty k) place found x s (λ p. initialise_leaves x p.ty (place + p.place) s)

cells_found : (cells : List DataCell) (o : Option ℕ) → IsFound o → IsFound (cells_where cells o)
cells_found cells None h = no_true h
cells_found cells (Some at) h = refl

pub object_cells_tell : (ty : CType) (x : i.Init) (s : JudgementState) → YieldsFound s (object_cells ty x s)
object_cells_tell ty x s =
    let r = initialise x ty 0 ([], s) in
    tells_as s r.1.1 (cells_found r.1.0 r.0) (initialise_tells x ty 0 ([], s))

pub object_cells_leave : (ty : CType) (x : i.Init) (s : JudgementState) → (object_cells ty x s).1.0 ≡ s.0
object_cells_leave ty x s = initialise_leaves x ty 0 ([], s)
