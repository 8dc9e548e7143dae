-- Whole initialisers: the items of a list fill the parts of an object in order.
use Rattle.std.proofs.Common.{◌≡◌, ◌≤◌, ℕ, ◌+◌, Bool, true, false, List, [], Option, Some, None, IfSome, refl, sym, ◌∙◌, subst, if◌then◌else◌, arith}
use Rattle.std.proofs.lemmas.Option.{none-some}
use Rattle.std.specs.Prelude.{All}
use Rattle.mem_objects.specs.declared.DataCell.{DataCell}
use Rattle.mem_objects.specs.declared.DataObject.{DataObject}
use Rattle.c_tree.specs.declared.declarations.Init as i
use Rattle.c_typed_tree.specs.declared.types.CType.{CType}
use Rattle.c_typed_tree.specs.declared.types.StructDef.{StructDef}
use Rattle.c_typed_tree.specs.View.{type_view}
use Rattle.c_typed_tree.specs.Layout.{size_of}
use Rattle.c_typed_tree.specs.Typing.{Context}
use Rattle.c_typed_tree.specs.Lawful.{IsLawfulStruct}
use Rattle.c_typing_faults.specs.declared.faults.Kind.TheVariants.{BadInit}
use Rattle.c_typing_judgements.specs.Types.{JudgementState}
use Rattle.c_typing_expressions.specs.Expressions.{judge}
use Rattle.c_typing_initial_values.specs.declared.parts.ObjectPart.{ObjectPart}
use Rattle.c_typing_initial_values.specs.Parts.{is_aggregate, part_of}
use Rattle.c_typing_initialisers.specs.declared.lists.InitialiserItems.{InitialiserItems}
use Rattle.c_typing_initialisers.specs.declared.lists.InitialiserItems.TheVariants as t
use Rattle.c_typing_initialisers.specs.Unfit.{judge_init, judge_items, is_whole_with}
use Rattle.c_typing_initialisers.specs.Values.{FillingState, cells_beside}
use Rattle.c_typing_initialisers.specs.Initialisers.{with_item, with_surplus, counted_by, if_part, list_of, scalar_list, list_in, initialise, item_row, cells_where, object_cells}
use Rattle.c_typing_expression_sound.proofs.CTypeLaws.Types.{known_size}
use Rattle.c_typing_expression_sound.specs.c_judgement_laws.Covers.{IsLawfulContext}
use Rattle.c_typing_expression_sound.specs.c_struct_laws.Growth.{Grow}
use Rattle.c_typing_expression_sound.proofs.CStructLaws.Growth.{grow_itself, grow_then}
use Rattle.c_typing_initialiser_sound.specs.c_initial_value_laws.Cells.{AreInitialCells}
use Rattle.c_typing_initialiser_sound.specs.c_initialiser_laws.Laws.{HoldsBytes, HoldBytes, IsInitialisedIn, LeavesState}
use Rattle.c_typing_initialiser_sound.proofs.CInitialiserLaws.Parts.{IsPart, is_part, part_known, multiple_none}
use Rattle.c_typing_initialiser_sound.proofs.CInitialiserLaws.Fills.{Names, Fills, names_behind, fills_as, fills_then, fills_none, judge_fills}
use Rattle.c_typing_initialiser_sound.proofs.CInitialiserLaws.Values.{IsSpot, Goes, fills_fault, single_filled}

-- ---- cells

farther : (globals : List DataObject) (end later : ℕ) (cells : List DataCell) → end ≤ later → AreInitialCells globals end cells → AreInitialCells globals later cells
farther globals end later cells less h = record { within = let w = h.within in omega arith; lawful = h.lawful }

nothing_more : (n : ℕ) → 0 + n ≡ n
nothing_more n = omega arith

no_cells : (globals : List DataObject) → AreInitialCells globals 0 []
no_cells globals = record { within = omega arith; lawful = λ at x e. absurd (none-some x e) }

-- there is a part, or there is none
of_part : {A : Type 0} (P : A → Type 0) (o : Option ObjectPart) (surplus : A) (at_part : ObjectPart → A) → (o ≡ None → P surplus) → ((p : ObjectPart) → o ≡ Some p → P (at_part p)) → P (if_part o surplus at_part)
of_part P None surplus at_part h g = h refl
of_part P (Some p) surplus at_part h g = g p refl

-- ---- where all items fit so far

abbrev WhereFitting : InitialiserItems → Type 0 → Type 0
WhereFitting t.Faulty X = Unit {0}
WhereFitting t.Fitting X = X
WhereFitting (t.TooMany first) X = Unit {0}

surplus_fits_not : (found : InitialiserItems) (o : Option ℕ) (X : Type 0) → WhereFitting (with_surplus found o) X
surplus_fits_not t.Faulty o X = tt
surplus_fits_not t.Fitting None X = tt
surplus_fits_not t.Fitting (Some at) X = tt
surplus_fits_not (t.TooMany first) None X = tt
surplus_fits_not (t.TooMany first) (Some at) X = tt

item_fits : (found : InitialiserItems) (o : Option ℕ) (X Y : Type 0) → (X → IfSome o (λ at. Y)) → WhereFitting found X → WhereFitting (with_item found o) Y
item_fits t.Faulty o X Y f h = tt
item_fits t.Fitting None X Y f h = tt
item_fits t.Fitting (Some at) X Y f h = f h
item_fits (t.TooMany first) None X Y f h = tt
item_fits (t.TooMany first) (Some at) X Y f h = tt

fits_as : (found : InitialiserItems) (X Y : Type 0) → (X → Y) → WhereFitting found X → WhereFitting found Y
fits_as t.Faulty X Y f h = tt
fits_as t.Fitting X Y f h = f h
fits_as (t.TooMany first) X Y f h = tt

module _ (c : Context) (names : Type 0) (lawful : IsLawfulContext c) where
  -- ---- what fits nothing

  mutual
    unfolding judge_init

    pub unfit_fills : (x : i.Init) (s : FillingState) → Names c names s.1 → Fills c names (Unit {0}) s (s.0, (judge_init x s.1).1)
    unfit_fills (i.Value x) s h = fills_as c names s (s.0, (judge x s.1).1) (λ v k t. tt) (judge_fills c names lawful x s h)
    unfit_fills (i.List' at _ items) s h = unfit_items_fill items true s h

    unfit_items_fill : {m : _} (xs : i.Row_of-Init m) (whole : Bool) (s : FillingState) → Names c names s.1 → Fills c names (Unit {0}) s (s.0, (judge_items xs whole s.1).1)
    unfit_items_fill i.end_of-Init whole s h = fills_none c names s tt
    unfit_items_fill (i.more_of-Init x xs) whole s h =
        let r = judge_init x s.1 in
        let u : FillingState = (s.0, r.1) in
        let one = unfit_fills x s h in
        let rest = unfit_items_fill xs (is_whole_with whole r.0) u (names_behind c names s u one h) in
        fills_as c names s (s.0, (judge_items xs (is_whole_with whole r.0) u.1).1) (λ v k t. tt)
        (fills_then c names s u (s.0, (judge_items xs (is_whole_with whole r.0) u.1).1) one rest)

  -- ---- lists, by the structs at the start

  module _ (ds : List StructDef) where
    -- the items so far go to an end, behind which the next part begins
    pub record Ends (ty : CType) (place k : ℕ) (cells : List DataCell) : Type 0 where
      pub end : ℕ
      pub filled : AreInitialCells c.globals (place + end) cells
      pub within : end ≤ size_of ds (type_view ty)
      pub next : (p : ObjectPart) → part_of ds ty k ≡ Some p → end ≤ p.place

    abbrev Whole : CType → ℕ → List DataCell → Type 0
    Whole ty place cells = AreInitialCells c.globals (place + size_of ds (type_view ty)) cells

    ends_first : (ty : CType) (place : ℕ) (cells : List DataCell) → AreInitialCells c.globals place cells → Ends ty place 0 cells
    ends_first ty place cells h = record {
      end = 0;
      filled = farther c.globals place (place + 0) cells (omega arith) h;
      within = omega arith;
      next = λ p e. omega arith;
    }

    ends_whole : (ty : CType) (place k : ℕ) (cells : List DataCell) → Ends ty place k cells → Whole ty place cells
    ends_whole ty place k cells h = let less = h.within in farther c.globals (place + h.end) (place + size_of ds (type_view ty)) cells (omega arith) h.filled

    -- one more part is filled
    part_goes : (ty : CType) (place k : ℕ) (p : ObjectPart) (cells after : List DataCell) (o : Option ℕ) (structs : All (IsLawfulStruct ds) ds) → IsPart ds structs ty k p → part_of ds ty k ≡ Some p → Goes c ds p.ty (place + p.place) cells o after
        → Ends ty place k cells → IfSome o (λ at. Ends ty place (k + 1) after)
    part_goes ty place k p cells after None structs part e goes h = tt
    part_goes ty place k p cells after (Some at) structs part e goes h =
        let begins = h.next p e in
        let filled = goes (farther c.globals (place + h.end) (place + p.place) cells (omega arith) h.filled) in
        record {
          end = p.place + size_of ds (type_view p.ty);
          filled = farther c.globals (place + p.place + size_of ds (type_view p.ty)) (place + (p.place + size_of ds (type_view p.ty))) after (omega arith) filled;
          within = part.within;
          next = λ q f. part.next q f;
        }

    list_fills : (ty : CType) (brace : ℕ) (found : InitialiserItems) (s : FillingState) (X : Type 0)
        → Fills c names (WhereFitting found X → IfSome (list_in ty brace found s.1.1).0 (λ at. X)) s (s.0, (s.1.0, (list_in ty brace found s.1.1).1))
    list_fills ty brace found s X = choose (is_aggregate ty) found
      where
        choose : (b : Bool) (found : InitialiserItems)
            → Fills c names (WhereFitting found X → IfSome (if b then list_of brace found s.1.1 else scalar_list brace found s.1.1).0 (λ at. X)) s (s.0, (s.1.0, (if b then list_of brace found s.1.1 else scalar_list brace found s.1.1).1))
        choose true t.Faulty = fills_none c names s (λ h. tt)
        choose true t.Fitting = fills_none c names s (λ h. h)
        choose true (t.TooMany first) = fills_fault c names lawful ds first BadInit s (λ h. tt)
        choose false t.Faulty = fills_none c names s (λ h. tt)
        choose false t.Fitting = fills_fault c names lawful ds brace BadInit s (λ h. tt)
        choose false (t.TooMany first) = fills_fault c names lawful ds brace BadInit s (λ h. tt)

    module _ (structs_lawful : names → All (IsLawfulStruct ds) ds) where
      mutual
        unfolding initialise HoldsBytes

        pub init_fills : (x : i.Init) (ty : CType) (place : ℕ) (s : FillingState) → (names → IsSpot ds ty place) → Names c names s.1 → (names → HoldsBytes x) → (names → Grow ds s.1.1.structs)
            → Fills c names (Goes c ds ty place s.0 (initialise x ty place s).0 (initialise x ty place s).1.0) s (initialise x ty place s).1
        init_fills (i.Value x) ty place s spot h all grow = single_filled c names lawful ds ty place x s spot h all
        init_fills (i.List' brace _ items) ty place s spot h all grow =
            let r = item_row items ty place 0 t.Fitting s in
            let one = row_fills items ty place 0 t.Fitting s spot h all grow in
            let two = list_fills ty brace r.0 r.1 (Whole ty place r.1.0) in
            fills_as c names s (r.1.0, (r.1.1.0, (list_in ty brace r.0 r.1.1.1).1)) (λ v k both cells. both.1 (both.0 (ends_first ty place s.0 cells)))
            (fills_then c names s r.1 (r.1.0, (r.1.1.0, (list_in ty brace r.0 r.1.1.1).1)) one two)

        row_fills : {m : _} (xs : i.Row_of-Init m) (ty : CType) (place k : ℕ) (found : InitialiserItems) (s : FillingState) → (names → IsSpot ds ty place) → Names c names s.1 → (names → HoldBytes xs)
            → (names → Grow ds s.1.1.structs)
            → Fills c names (WhereFitting found (Ends ty place k s.0) → WhereFitting (item_row xs ty place k found s).0 (Whole ty place (item_row xs ty place k found s).1.0)) s (item_row xs ty place k found s).1
        row_fills i.end_of-Init ty place k found s spot h all grow = fills_none c names s (fits_as found (Ends ty place k s.0) (Whole ty place s.0) (ends_whole ty place k s.0))
        row_fills (i.more_of-Init x xs) ty place k found s spot h all grow =
            of_part (λ r. Fills c names (WhereFitting found (Ends ty place k s.0) → WhereFitting (item_row xs ty place (k + 1) r.0 r.1).0 (Whole ty place (item_row xs ty place (k + 1) r.0 r.1).1.0)) s
            (item_row xs ty place (k + 1) r.0 r.1).1) (part_of s.1.1.structs ty k) (counted_by with_surplus found (cells_beside s.0 (judge_init x s.1))) (λ p. counted_by with_item found (initialise x p.ty (place + p.place) s))
            (λ e.
            let r = judge_init x s.1 in
            let u : FillingState = (s.0, r.1) in
            let one = unfit_fills x s h in
            let two = row_fills xs ty place (k + 1) (with_surplus found r.0) u spot (names_behind c names s u one h) (λ v. (all v).1) (λ v. grow_then ds s.1.1.structs u.1.1.structs (grow v) one.grow) in
            fills_as c names s (item_row xs ty place (k + 1) (with_surplus found r.0) u).1 (λ v known both given. both.1 (surplus_fits_not found r.0 (Ends ty place (k + 1) s.0)))
            (fills_then c names s u (item_row xs ty place (k + 1) (with_surplus found r.0) u).1 one two))
            (λ p e.
            let r = initialise x p.ty (place + p.place) s in
            let here : names → part_of ds ty k ≡ Some p = λ v. sym (part_known ds s.1.1.structs (grow v).known ty k (spot v).object) ∙ e in
            let part : (v : names) → IsPart ds (structs_lawful v) ty k p = λ v. is_part ds (structs_lawful v) ty k p (spot v).type (spot v).object (here v) in
            let one = init_fills x p.ty (place + p.place) s (λ v. record { type = (part v).type; object = (part v).object; multiple = (part v).multiple place (spot v).multiple }) h (λ v. (all v).0) grow in
            let two = row_fills xs ty place (k + 1) (with_item found r.0) r.1 spot (names_behind c names s r.1 one h) (λ v. (all v).1) (λ v. grow_then ds s.1.1.structs r.1.1.1.structs (grow v) one.grow) in
            fills_as c names s (item_row xs ty place (k + 1) (with_item found r.0) r.1).1
            (λ v known both given. both.1 (item_fits found r.0 (Ends ty place k s.0) (Ends ty place (k + 1) r.1.0) (part_goes ty place k p s.0 r.1.0 r.0 (structs_lawful v) (part v) (here v) both.0) given))
            (fills_then c names s r.1 (item_row xs ty place (k + 1) (with_item found r.0) r.1).1 one two))

-- ---- whole objects

cells_lawful : (globals : List DataObject) (size : ℕ) (cells : List DataCell) (o : Option ℕ) → IfSome o (λ at. AreInitialCells globals size cells) → IfSome (cells_where cells o) (AreInitialCells globals size)
cells_lawful globals size cells None h = tt
cells_lawful globals size cells (Some at) h = h

pub object_lawful : (c : Context) → IsLawfulContext c → (ty : CType) (x : i.Init) (s : JudgementState) → IsInitialisedIn c ty x s (object_cells ty x s).1 → IfSome (object_cells ty x s).0 (AreInitialCells c.globals (size_of c.structs (type_view ty)))
object_lawful c lawful ty x s given =
    let ds = s.1.structs in
    let start : FillingState = ([], s) in
    let r = initialise x ty 0 start in
    let fills = init_fills c (Unit {0}) lawful ds (λ v. given.lawful) x ty 0 start
    (λ v. record { type = given.type; object = given.object; multiple = multiple_none _ })
    (record { meanings = λ v. given.scope.names; typedefs = λ v. given.scope.typedefs })
    (λ v. given.texts) (λ v. grow_itself ds) in
    let known = (fills.later.knows given.knows).structs_known.complete in
    cells_lawful c.globals (size_of c.structs (type_view ty)) r.1.0 r.0
    (subst (λ n. IfSome r.0 (λ at. AreInitialCells c.globals n r.1.0)) (nothing_more (size_of ds (type_view ty)) ∙ sym (known_size ds c.structs known (type_view ty) given.object)) (fills.found tt given.knows given.takes (no_cells c.globals)))

leaves_from : (c : Context) {X : Type 0} (s u : FillingState) → Fills c ⊥ X s u → LeavesState c s.1 u.1
leaves_from c s u h = record { env = h.env; first = h.later.first; knows = h.later.knows; takes = h.later.takes }

pub object_leaves : (c : Context) → IsLawfulContext c → (ty : CType) (x : i.Init) (s : JudgementState) → LeavesState c s (object_cells ty x s).1 × LeavesState c s (judge_init x s).1
object_leaves c lawful ty x s =
    let start : FillingState = ([], s) in
    let none : Names c ⊥ s = record { meanings = λ v. absurd v; typedefs = λ v. absurd v } in (
      leaves_from c start (initialise x ty 0 start).1 (init_fills c ⊥ lawful [] (λ v. absurd v) x ty 0 start (λ v. absurd v) none (λ v. absurd v) (λ v. absurd v)),
      leaves_from c start ([], (judge_init x s).1) (unfit_fills c ⊥ lawful x start none),
    )
