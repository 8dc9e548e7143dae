-- Single values: what is put at a place of an object is as large as the part there.
use Rattle.std.proofs.Common.{◌≡◌, ℕ, ◌+◌, ◌*◌, ◌==◌, Bool, true, false, ◌||◌, IsTrue, List, Option, Some, None, Ok, Err, IfOk, IfSome, is_some, refl, sym, ap, ◌∙◌, subst, if◌then◌else◌, arith}
use Rattle.std.proofs.lemmas.Bool.{eqb-true}
use Rattle.mem_objects.specs.declared.DataCell.{DataCell}
use Rattle.bk_arithmetic.specs.declared.integer_type.IntegerType.{IntegerType}
use Rattle.bk_arithmetic.specs.declared.integer_type.IntegerType.TheVariants as w
use Rattle.bk_arithmetic.specs.IntegerTypes.{integer_type, bytes}
use Rattle.c_tree.specs.declared.expressions.Expr.{Expr}
use Rattle.c_typed_tree.specs.declared.types.CType as t
use Rattle.c_typed_tree.specs.declared.types.StructDef.{StructDef}
use Rattle.c_typed_tree.specs.declared.expressions.TExpr.{TExpr}
use Rattle.c_typed_tree.specs.Types.{PlainType, Void, Int, Pointer, Array, Struct}
use Rattle.c_typed_tree.specs.View.{type_view}
use Rattle.c_typed_tree.specs.model.View.{opens}
use Rattle.c_typed_tree.specs.Layout.{is_object, size_of, align_of, integer_of}
use Rattle.c_typed_tree.specs.Typing.{Context, is_valid_type, is_array, is_struct}
use Rattle.c_typing_faults.specs.declared.faults.Kind.{Kind}
use Rattle.c_typing_faults.specs.declared.faults.Kind.TheVariants.{BadInit}
use Rattle.c_typing_rules.specs.declared.typed.TypedExpression.{TypedExpression}
use Rattle.c_typing_rules.specs.Conversions.{decay}
use Rattle.c_typing_rules.specs.Rulings.{Ruling}
use Rattle.c_typing_judgements.specs.c_typing_operators.Null.{take_value}
use Rattle.c_typing_state.specs.Notes.{with_fault}
use Rattle.c_typing_state.specs.Checks.{each, note_fault}
use Rattle.c_typing_judgements.specs.Texts.{spelling_bytes}
use Rattle.c_typing_expressions.specs.Expressions.{judge}
use Rattle.c_typing_initial_values.specs.declared.values.InitialValue.{InitialValue}
use Rattle.c_typing_initial_values.specs.Cells.{place_piece, value_cells, text_cells}
use Rattle.c_typing_initial_values.specs.Parts.{is_aggregate, is_character, is_room_for, part_room}
use Rattle.c_typing_initial_values.specs.Values.{initial_value}
use Rattle.c_typing_initialisers.specs.Unfit.{no_place}
use Rattle.c_typing_initialisers.specs.Values.{CellsAndNotes, FillingState, cells_beside, put_scalar, scalar_value, fill_value, text_in, text_value, expression_value, value_or_text, single_value}
use Rattle.c_typing_expression_sound.specs.c_type_laws.Typed.{AreKnown, IsTypedIn}
use Rattle.c_typing_expression_sound.proofs.CTypeLaws.Truth.{no_true}
use Rattle.c_typing_expression_sound.proofs.CTypeLaws.Values.{decay_typed}
use Rattle.c_typing_expression_sound.specs.c_judgement_laws.Covers.{IsLawfulContext}
use Rattle.c_typing_expression_sound.proofs.CJudgementLaws.Notes.{later_itself, later_fault}
use Rattle.c_typing_expression_sound.proofs.CStructLaws.Growth.{grow_itself}
use Rattle.mem_model.specs.Bytes.{AreBytes}
use Rattle.c_typing_initialiser_sound.specs.c_initial_value_laws.Cells.{IsValueIn, AreInitialCells}
use Rattle.c_typing_initialiser_sound.specs.c_initial_value_laws.Laws.{value_size, IsMultiple, IsPlaceFor}
use Rattle.c_typing_initialiser_sound.proofs.CInitialValueLaws.Addresses.{value_there}
use Rattle.c_typing_initialiser_sound.proofs.CInitialValueLaws.Cells.{value_put, text_put}
use Rattle.c_typing_initialiser_sound.proofs.CInitialiserLaws.Fills.{Names, Fills, fills_as, fills_then, fills_none, judge_fills}

-- ---- scalars

integer_bytes : (n : ℕ) (s : Bool) → IsTrue (is_some (integer_type n s)) → value_size (integer_type n s) ≡ n
integer_bytes n true h = by (n == 1) (n == 2) (n == 4) (n == 8) (eqb-true n 1) (eqb-true n 2) (eqb-true n 4) (eqb-true n 8) h
  where
    by : (a b d f : Bool) → (IsTrue a → n ≡ 1) → (IsTrue b → n ≡ 2) → (IsTrue d → n ≡ 4) → (IsTrue f → n ≡ 8)
        → IsTrue (is_some (if a then Some w.Char else if b then Some w.Short else if d then Some w.Int else if f then Some w.Long else None))
        → value_size (if a then Some w.Char else if b then Some w.Short else if d then Some w.Int else if f then Some w.Long else None) ≡ n
    by true b d f one two four eight h = sym (one refl)
    by false true d f one two four eight h = sym (two refl)
    by false false true f one two four eight h = sym (four refl)
    by false false false true one two four eight h = sym (eight refl)
    by false false false false one two four eight h = no_true h
integer_bytes n false h = by (n == 1) (n == 2) (n == 4) (n == 8) (eqb-true n 1) (eqb-true n 2) (eqb-true n 4) (eqb-true n 8) h
  where
    by : (a b d f : Bool) → (IsTrue a → n ≡ 1) → (IsTrue b → n ≡ 2) → (IsTrue d → n ≡ 4) → (IsTrue f → n ≡ 8)
        → IsTrue (is_some (if a then Some w.UnsignedChar else if b then Some w.UnsignedShort else if d then Some w.UnsignedInt else if f then Some w.UnsignedLong else None))
        → value_size (if a then Some w.UnsignedChar else if b then Some w.UnsignedShort else if d then Some w.UnsignedInt else if f then Some w.UnsignedLong else None) ≡ n
    by true b d f one two four eight h = sym (one refl)
    by false true d f one two four eight h = sym (two refl)
    by false false true f one two four eight h = sym (four refl)
    by false false false true one two four eight h = sym (eight refl)
    by false false false false one two four eight h = no_true h

module _ (ds : List StructDef) where
  pub scalar_size : (x : PlainType) → IsTrue (is_valid_type ds x) → IsTrue (is_object ds x) → (is_array x || is_struct x) ≡ false → value_size (integer_of x) ≡ size_of ds x
  scalar_size Void h o e = no_true o
  scalar_size (Int n s) h o e = integer_bytes n s h
  scalar_size (Pointer x) h o e = refl
  scalar_size (Array x n) h o e = no_true (sym e)
  scalar_size (Struct n) h o e = no_true (sym e)

  place_for : (o : Option IntegerType) (place : ℕ) → IsTrue (is_some o) → IsPlaceFor o place
  place_for None place h = no_true h
  place_for (Some t) place h = tt

  pub scalar_place : (x : PlainType) (place : ℕ) → IsTrue (is_valid_type ds x) → IsTrue (is_object ds x) → (is_array x || is_struct x) ≡ false → IsMultiple (align_of ds x) place → IsPlaceFor (integer_of x) place
  scalar_place Void place h o e m = no_true o
  scalar_place (Int n s) place h o e m = place_for (integer_type n s) place h
  scalar_place (Pointer x) place h o e m = m
  scalar_place (Array x n) place h o e m = no_true (sym e)
  scalar_place (Struct n) place h o e m = no_true (sym e)

  -- a text has as many bytes of an array as the array has
  room_with_size : (x : PlainType) (n : ℕ) → IfSome (if is_character x then Some n else None) (λ room. room ≡ size_of ds x * n)
  room_with_size (Int k s) n = of (k == 1) (eqb-true k 1)
    where
      of : (b : Bool) → (IsTrue b → k ≡ 1) → IfSome (if b then Some n else None) (λ room. room ≡ k * n)
      of true one = let e : n ≡ 1 * n = omega arith in e ∙ sym (ap (λ j. j * n) (one refl))
      of false one = tt
  room_with_size Void n = tt
  room_with_size (Pointer x) n = tt
  room_with_size (Array x k) n = tt
  room_with_size (Struct k) n = tt

  pub room_size : (ty : t.CType) → IfSome (part_room ty) (λ room. room ≡ size_of ds (type_view ty))
  unfolding opens part_room
  room_size t.Void = tt
  room_size (t.Int n s) = tt
  room_size (t.Pointer' _ x) = tt
  room_size (t.Array' _ (t.more_of-CType x t.end_of-CType) n) = room_with_size (type_view x) n
  room_size (t.Struct n) = tt

-- a place of an object, at which a part of a type may stand
pub record IsSpot (ds : List StructDef) (ty : t.CType) (place : ℕ) : Type 0 where
  pub type : IsTrue (is_valid_type ds (type_view ty))
  pub object : IsTrue (is_object ds (type_view ty))
  pub multiple : IsMultiple (align_of ds (type_view ty)) place

-- the cells before a place go on with those of a part, where its initialiser has no fault
abbrev pub Goes : Context → List StructDef → t.CType → (place : ℕ) → List DataCell → Option ℕ → List DataCell → Type 0
Goes c ds ty place cells found after =
    AreInitialCells c.globals place cells → IfSome found (λ at. AreInitialCells c.globals (place + size_of ds (type_view ty)) after)

module _ (c : Context) (names : Type 0) (lawful : IsLawfulContext c) (ds : List StructDef) where
  -- a fault, behind which nothing is known
  pub fills_fault : {X : Type 0} (at : ℕ) (kind : Kind) (s : FillingState) → X → Fills c names X s (s.0, (s.1.0, with_fault at kind s.1.1))
  fills_fault at kind s x = record { env = refl; later = later_fault c at kind s.1.1; grow = grow_itself s.1.1.structs; found = λ v k t. x }

  scalar_by : (ty : t.CType) (place at : ℕ) (q : Ruling InitialValue) (k : Ruling TExpr) (s : FillingState) (given : Type 0) → (names → IsSpot ds ty place) → is_aggregate ty ≡ false
      → (AreKnown s.1.1.structs c.structs → given → IfOk q (IsValueIn c.globals))
      → Fills c names (given → Goes c ds ty place s.0 (put_scalar ty place at (note_fault q s.1.1).0 (is_some (note_fault k (note_fault q s.1.1).1).0) s.0).0
      (put_scalar ty place at (note_fault q s.1.1).0 (is_some (note_fault k (note_fault q s.1.1).1).0) s.0).1) s
      ((put_scalar ty place at (note_fault q s.1.1).0 (is_some (note_fault k (note_fault q s.1.1).1).0) s.0).1, (s.1.0, (note_fault k (note_fault q s.1.1).1).1))
  scalar_by ty place at (Ok value) (Ok tree) s given spot single h = record {
    env = refl;
    later = later_itself c s.1.1;
    grow = grow_itself s.1.1.structs;
    found = λ v known t g cells.
        subst (λ n. AreInitialCells c.globals (place + n) (place_piece place (value_cells (integer_of (type_view ty)) value) s.0)) (scalar_size ds (type_view ty) (spot v).type (spot v).object single)
        (value_put c.globals (integer_of (type_view ty)) value place s.0 (h known.structs_known.complete g) (scalar_place ds (type_view ty) place (spot v).type (spot v).object single (spot v).multiple) cells);
  }
  scalar_by ty place at (Ok value) (Err f) s given spot single h = fills_fault f.at f.kind s (λ g cells. tt)
  scalar_by ty place at (Err f) (Ok tree) s given spot single h = fills_fault f.at f.kind s (λ g cells. tt)
  scalar_by ty place at (Err f) (Err e) s given spot single h =
      let u : FillingState = (s.0, (s.1.0, with_fault f.at f.kind s.1.1)) in
      fills_as c names s (s.0, (s.1.0, with_fault e.at e.kind u.1.1)) (λ v known both. both.1)
      (fills_then c names s u (s.0, (s.1.0, with_fault e.at e.kind u.1.1)) (fills_fault {X = Unit {0}} f.at f.kind s tt) (fills_fault e.at e.kind u (λ g cells. tt)))

  -- what a single value leaves
  abbrev Value : t.CType → (place : ℕ) → (given : Type 0) → FillingState → Option ℕ × CellsAndNotes → Type 0
  Value ty place given s r = Fills c names (given → Goes c ds ty place s.0 r.0 r.1.0) s (r.1.0, (s.1.0, r.1.1))

  value_filled : (ty : t.CType) (place : ℕ) (a : TypedExpression) (s : FillingState) → (names → IsSpot ds ty place) → Value ty place (IsTypedIn c a) s (fill_value ty place a (s.0, s.1.1))
  value_filled ty place a s spot = choose (is_aggregate ty) refl
    where
      choose : (b : Bool) → is_aggregate ty ≡ b → Value ty place (IsTypedIn c a) s (if b then cells_beside s.0 (no_place BadInit a.at s.1.1) else scalar_value ty place (decay a) (s.0, s.1.1))
      choose true e = fills_fault a.at BadInit s (λ g cells. tt)
      choose false e =
          scalar_by ty place (decay a).at (initial_value s.1.1.structs (decay a)) (take_value ty (decay a)) s (IsTypedIn c a) spot e
          (λ known g. value_there c s.1.1.structs (decay a) known (decay_typed c a g).typed)

  each_filled : (ty : t.CType) (place : ℕ) (o : Option TypedExpression) (s : FillingState) → (names → IsSpot ds ty place) → Value ty place (IfSome o (IsTypedIn c)) s (each o (fill_value ty place) (s.0, s.1.1))
  each_filled ty place None s spot = fills_none c names s (λ g cells. tt)
  each_filled ty place (Some a) s spot = value_filled ty place a s spot

  expression_filled : (ty : t.CType) (place : ℕ) (x : Expr) (s : FillingState) → (names → IsSpot ds ty place) → Names c names s.1
      → Fills c names (Goes c ds ty place s.0 (expression_value ty place x s).0 (expression_value ty place x s).1.0) s (expression_value ty place x s).1
  expression_filled ty place x s spot h =
      let u : FillingState = (s.0, (judge x s.1).1) in
      fills_as c names s (expression_value ty place x s).1 (λ v known both. both.1 both.0)
      (fills_then c names s u (expression_value ty place x s).1 (judge_fills c names lawful x s h) (each_filled ty place (judge x s.1).0 u spot))

  text_filled : (ty : t.CType) (place room at : ℕ) (bytes : List ℕ) (s : FillingState) → room ≡ size_of ds (type_view ty) → (names → AreBytes bytes)
      → Fills c names (Goes c ds ty place s.0 (text_value place room at bytes (s.0, s.1.1)).0 (text_value place room at bytes (s.0, s.1.1)).1.0) s
      ((text_value place room at bytes (s.0, s.1.1)).1.0, (s.1.0, (text_value place room at bytes (s.0, s.1.1)).1.1))
  text_filled ty place room at bytes s e all = choose (is_room_for room bytes)
    where
      text_where : Bool → Option ℕ × CellsAndNotes
      text_where b = if b then (Some at, (place_piece place (text_cells room bytes) s.0, s.1.1)) else cells_beside s.0 (no_place BadInit at s.1.1)

      choose : (b : Bool) → Fills c names (Goes c ds ty place s.0 (text_where b).0 (text_where b).1.0) s ((text_where b).1.0, (s.1.0, (text_where b).1.1))
      choose true = record {
        env = refl;
        later = later_itself c s.1.1;
        grow = grow_itself s.1.1.structs;
        found = λ v known t cells. subst (λ n. AreInitialCells c.globals (place + n) (place_piece place (text_cells room bytes) s.0)) e (text_put c.globals room bytes place s.0 (all v) cells);
      }
      choose false = fills_fault at BadInit s (λ cells. tt)

  by_filled : (room : Option ℕ) (text : Option (ℕ × List (List ℕ))) (ty : t.CType) (place : ℕ) (x : Expr) (s : FillingState) → (names → IsSpot ds ty place) → Names c names s.1
      → IfSome room (λ n. n ≡ size_of ds (type_view ty)) → (names → IfSome text (λ spelled. AreBytes (spelling_bytes spelled.1)))
      → Fills c names (Goes c ds ty place s.0 (value_or_text room text ty place x s).0 (value_or_text room text ty place x s).1.0) s (value_or_text room text ty place x s).1
  by_filled None text ty place x s spot h e all = expression_filled ty place x s spot h
  by_filled (Some room) None ty place x s spot h e all = expression_filled ty place x s spot h
  by_filled (Some room) (Some spelled) ty place x s spot h e all = text_filled ty place room spelled.0 (spelling_bytes spelled.1) s e all

  pub single_filled : (ty : t.CType) (place : ℕ) (x : Expr) (s : FillingState) → (names → IsSpot ds ty place) → Names c names s.1 → (names → IfSome (text_in x) (λ spelled. AreBytes (spelling_bytes spelled.1)))
      → Fills c names (Goes c ds ty place s.0 (single_value ty place x s).0 (single_value ty place x s).1.0) s (single_value ty place x s).1
  single_filled ty place x s spot h all = by_filled (part_room ty) (text_in x) ty place x s spot h (room_size ds ty) all
