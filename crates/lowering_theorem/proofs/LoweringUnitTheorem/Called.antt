-- What calls ask of functions, from a well typed unit.
use Rattle.std.proofs.Common.{◌≡◌, ℕ, zero, suc, ◌+◌, ◌<◌, ◌≤◌, List, [], ◌∷◌, map, take, filter, Bool, true, false, ◌&&◌, ◌||◌, ◌==◌, cond, IsTrue, Option, Some, None, length, All, refl, sym, ap, ◌∙◌, subst, arith, inl, inr, eqb-true}
use Rattle.std.specs.Prelude.{slice_get, nat_le, nat_lt, option_map}
use Rattle.std.specs.List.{list_all}
use Rattle.std.proofs.lemmas.Bool.{leb-true}
use Rattle.std.proofs.lemmas.Option.{slice_get-map}
use Rattle.std.specs.Prelude.{if◌then◌else◌}
use Rattle.mem_objects.specs.declared.TheConstants.{MOST_DATA}
use Rattle.c_typed_tree.specs.declared.types.StructDef.{StructDef}
use Rattle.c_typed_tree.specs.declared.units.Local.{Local}
use Rattle.c_typed_tree.specs.declared.units.TypedFn.{TypedFn}
use Rattle.c_typed_tree.specs.declared.units.TypedUnit.{TypedUnit}
use Rattle.c_typed_tree.specs.Types.{PlainType, Int}
use Rattle.c_typed_tree.specs.View.{type_view, stmt_view}
use Rattle.c_typed_tree.specs.Layout.{is_object, size_of}
use Rattle.c_typed_tree.specs.Typing.{is_same_type, int, is_scalar, is_valid_type, depth_of, most_depth}
use Rattle.c_typed_tree.specs.Declarations.{declarations, due_declarations}
use Rattle.c_typed_tree.specs.Lawful.{IsTypedUnit, IsTypedFn, HasMain, is_main, is_start, mains_of, is_lawful_local, is_object_type, type_of_local, types_of_parameters}
use Rattle.c_typing_struct_layout.proofs.CLayoutLaws.Truth.{front, back, all_at}
use Rattle.c_semantics.specs.Behaves.{place_of_main}
use Rattle.lowering_bounds.proofs.Typing.{same}
use Rattle.lowering_statement_laws.proofs.LoweringStatementTheorem.Types.{all_pass, scalar_known, object_small}
use Rattle.lowering_statement_laws.specs.Parts.{inner_declarations}
use Rattle.lowering_statement_laws.proofs.Apart.{inner_least}
use Rattle.lowering_theorem.specs.lowering_function_laws.Laws.{MayBeCalled}

-- ---- main

-- what is kept of a list passes, and so does each element that is kept
kept_passes : {A : Type 0} (keep test : A → Bool) (xs : List A) (k : ℕ) (x : A) → IsTrue (list_all test (filter keep xs)) → slice_get xs k ≡ Some x → keep x ≡ true → IsTrue (test x)
kept_passes keep test [] k x all e kept = absurd (cc)
kept_passes keep test (y ∷ xs) zero x all e kept =
    let one : y ≡ x = cc in
    subst (λ z. IsTrue (test z)) one (front (test y) (list_all test (filter keep xs)) (subst (λ b. IsTrue (list_all test (cond b (y ∷ filter keep xs) (filter keep xs)))) (ap keep one ∙ kept) all))
kept_passes keep test (y ∷ xs) (suc k) x all e kept = by (λ h. kept_passes keep test xs k x h e kept) (keep y) refl
  where
    by : (IsTrue (list_all test (filter keep xs)) → IsTrue (test x)) → (b : Bool) → keep y ≡ b → IsTrue (test x)
    by rest true p = rest (back (test y) (list_all test (filter keep xs)) (subst (λ b. IsTrue (list_all test (cond b (y ∷ filter keep xs) (filter keep xs)))) p all))
    by rest false p = rest (subst (λ b. IsTrue (list_all test (cond b (y ∷ filter keep xs) (filter keep xs)))) p all)

pub record MainIs (fs : List TypedFn) : Type 0 where
  pub fn : TypedFn
  pub found : slice_get fs (place_of_main fs) ≡ Some fn
  pub main : is_main fn ≡ true

main_found : (fs : List TypedFn) → 0 < length (filter is_main fs) → MainIs fs
main_found [] some = absurd (omega (arith, some))
main_found (f ∷ fs) some = by (λ h. main_found fs h) (is_main f) refl
  where
    by : (0 < length (filter is_main fs) → MainIs fs) → (b : Bool) → is_main f ≡ b → MainIs (f ∷ fs)
    by rest true p = record { fn = f; found = ap (λ b. slice_get (f ∷ fs) (if b then 0 else suc (place_of_main fs))) p; main = p }
    by rest false p =
        let m : MainIs fs = rest (subst (λ b. 0 < length (cond b (f ∷ filter is_main fs) (filter is_main fs))) p some) in
        record { fn = m.fn; found = ap (λ b. slice_get (f ∷ fs) (if b then 0 else suc (place_of_main fs))) p ∙ m.found; main = m.main }

pub main_of_unit : (u : TypedUnit) → IsTypedUnit u → MainIs u.functions
main_of_unit u lawful = main_found u.functions (let one = lawful.main.one in omega (arith, one))

start_of_main : (u : TypedUnit) → IsTypedUnit u → (k : ℕ) (f : TypedFn) → slice_get u.functions k ≡ Some f → is_main f ≡ true → IsTrue (is_start f)
start_of_main u lawful k f e main = kept_passes is_main is_start u.functions k f lawful.main.type e main

pub main_has_no_parameter : (u : TypedUnit) → IsTypedUnit u → (k : ℕ) (f : TypedFn) → slice_get u.functions k ≡ Some f → is_main f ≡ true → f.params ≡ 0
main_has_no_parameter u lawful k f e main = eqb-true f.params 0 (back (is_same_type (type_view f.result) int) (f.params == 0) (start_of_main u lawful k f e main))

-- ---- functions

pub typed_at : (u : TypedUnit) → IsTypedUnit u → (k : ℕ) (f : TypedFn) → slice_get u.functions k ≡ Some f → IsTypedFn u f
typed_at u lawful k f e = all_at (IsTypedFn u) u.functions k f lawful.functions e

none_due : (a b : Bool) → a ≡ false → ◌≡◌ {A = ℕ} (cond (a && b) 1 0) 0
none_due true b e = absurd (cc)
none_due false b e = refl

above : (a b : ℕ) → b < a → nat_le a b ≡ false
above a b lt = by (nat_le a b) refl
  where
    by : (t : Bool) → nat_le a b ≡ t → t ≡ false
    by true e = let le = leb-true a b e in absurd (omega (arith, le, lt))
    by false e = refl

pub may_be_called : (u : TypedUnit) → IsTypedUnit u → (k : ℕ) (f : TypedFn) → slice_get u.functions k ≡ Some f → MayBeCalled u.structs f
may_be_called u lawful k f e =
    let fn = typed_at u lawful k f e in
    record {
      scalars = λ j l at. scalar_known (type_view l.ty) (all_pass is_scalar (types_of_parameters f) j (type_of_local l) fn.scalars (slice_get-map type_of_local (take f.params f.locals) j ∙ ap (λ o. option_map type_of_local o) at));
      small = λ j l at inside.
          let ty = type_of_local l in
          let a = all_pass (is_lawful_local u.structs) f.locals j l fn.locals at in
          let o = front (is_valid_type u.structs ty && is_object u.structs ty) (nat_le (depth_of u.structs ty) most_depth) (front (is_object_type u.structs ty) (is_scalar ty || l.in_memory) a) in
          object_small u.structs lawful.structs ty (front (is_valid_type u.structs ty) (is_object u.structs ty) o) (back (is_valid_type u.structs ty) (is_object u.structs ty) o);
      apart = λ j lt.
          let due = fn.declares j in
          let none = none_due (nat_le f.params j) (nat_lt j (length f.locals)) (above f.params j lt) in
          let least = inner_least j (stmt_view f.body) in
          omega (arith, due, none, least);
      main = λ main. same (type_view f.result) int (front (is_same_type (type_view f.result) int) (f.params == 0) (start_of_main u lawful k f e main));
    }
