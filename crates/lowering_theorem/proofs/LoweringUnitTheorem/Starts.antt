-- The memory at the start stands for itself: each object of static storage has its own number on both sides.
use Rattle.std.proofs.Common.{◌≡◌, ◌≢◌, ℕ, zero, suc, ◌+◌, ◌-◌, ◌<◌, ◌≤◌, List, [], ◌∷◌, ◌++◌, map, replicate, Bool, true, false, Option, Some, None, length, All, refl, sym, ap, ◌∙◌, subst, arith, inl, inr, lt-ltb, length-append}
use Rattle.std.specs.Prelude.{slice_get, slice_index_or, nat_lt, if◌then◌else◌}
use Rattle.std.proofs.lemmas.Bool.{cases_lt, ltb-true}
use Rattle.std.proofs.lemmas.List.{length-replicate, length-map}
use Rattle.mem_model.specs.declared.value.Ptr.{Ptr}
use Rattle.mem_model.specs.declared.value.Cell.{Cell}
use Rattle.mem_model.specs.declared.value.Cell.TheVariants as m
use Rattle.mem_model.specs.Memory.{Memory, Object, object_at, no_object}
use Rattle.mem_model.specs.Related.{Names, IsMemoryOf, IsRowOf}
use Rattle.mem_model.proofs.Objects.{no_object_past}
use Rattle.mem_objects.specs.declared.DataObject.{DataObject}
use Rattle.mem_objects.specs.declared.DataCell.{DataCell}
use Rattle.mem_objects.specs.declared.DataCell.TheVariants.{Byte, AddressPart}
use Rattle.mem_objects.specs.declared.TheConstants.{MOST_DATA}
use Rattle.mem_objects.specs.Globals.{AreLawful, IsLawfulObject, IsLawfulCell, Reaches}
use Rattle.mem_objects.specs.Start.{memory_cell, start_object, start_memory}
use Rattle.c_typing_struct_layout.proofs.CLayoutLaws.Truth.{all_at}
use Rattle.lowering_states.specs.States.{is_live, size_in}

-- ---- names

abbrev pub own_names : ℕ → Names
own_names n = λ o. if nat_lt o n then Some o else None

pub own_name : (n o : ℕ) → o < n → own_names n o ≡ Some o
own_name n o lt = ap (λ b. if b then Some o else None) (lt-ltb o n lt)

own_is : (n o q : ℕ) → own_names n o ≡ Some q → (o < n) × (o ≡ q)
own_is n o q e = by_test (nat_lt o n) refl e
  where
    by_test : (b : Bool) → nat_lt o n ≡ b → (if b then Some o else None) ≡ Some q → (o < n) × (o ≡ q)
    by_test true t x = (ltb-true o n t, cc)
    by_test false t x = absurd (cc)

-- ---- objects

object_is : (globals : List DataObject) (o : ℕ) (x : DataObject) → slice_get globals o ≡ Some x → object_at (start_memory globals) o ≡ start_object x
object_is [] o x e = absurd (cc)
object_is (y ∷ globals) zero x e = let same : y ≡ x = cc in ap start_object same
object_is (y ∷ globals) (suc o) x e = object_is globals o x e

pub record IsStatic (globals : List DataObject) (o : ℕ) : Type 0 where
  pub object : DataObject
  pub found : slice_get globals o ≡ Some object

static_at : (globals : List DataObject) (o : ℕ) → o < length globals → IsStatic globals o
static_at [] o lt = absurd (omega (arith, lt))
static_at (x ∷ globals) zero lt = record { object = x; found = refl }
static_at (x ∷ globals) (suc o) lt = let s = static_at globals o (omega (arith, lt)) in record { object = s.object; found = s.found }

live_within : (m : Memory) (p : ℕ) → is_live m p ≡ true → p < length m
live_within m p live = elim (cases_lt p (length m)) [
  | inl lt ↦ lt
  | inr past ↦ let bad : false ≡ true = sym (ap (λ (y : Object). y.live) (no_object_past m p past)) ∙ live in absurd (cc)
]

static_of : (globals : List DataObject) (o : ℕ) → is_live (start_memory globals) o ≡ true → IsStatic globals o
static_of globals o live = static_at globals o (let lt = live_within (start_memory globals) o live in let same = length-map globals start_object in omega (arith, lt, same))

-- ---- cells

-- an address within an object that is there
reaches_within : (globals : List DataObject) (global plus : ℕ) → Reaches plus (slice_get globals global) → global < length globals
reaches_within [] global plus h = absurd h
reaches_within (x ∷ globals) zero plus h = omega arith
reaches_within (x ∷ globals) (suc global) plus h = let lt = reaches_within globals global plus h in omega (arith, lt)

zeros_self : (f : Names) (n : ℕ) → IsRowOf f (replicate n (m.Byte 0)) (replicate n (m.Byte 0))
zeros_self f zero = tt
zeros_self f (suc n) = (refl, zeros_self f n)

cells_self : (globals : List DataObject) (o : DataObject) (at : ℕ) (cells : List DataCell) (zeros : ℕ) → ((k : ℕ) (c : DataCell) → slice_get cells k ≡ Some c → IsLawfulCell globals o (at + k) c)
    → IsRowOf (own_names (length globals)) (map memory_cell cells ++ replicate zeros (m.Byte 0)) (map memory_cell cells ++ replicate zeros (m.Byte 0))
cells_self globals o at [] zeros lawful = zeros_self (own_names (length globals)) zeros
cells_self globals o at (Byte b ∷ cells) zeros lawful = (refl, cells_self globals o (suc at) cells zeros (λ k c e. let n : at + suc k ≡ suc at + k = omega arith in subst (λ z. IsLawfulCell globals o z c) n (lawful (suc k) c e)))
cells_self globals o at (AddressPart global plus part ∷ cells) zeros lawful =
    let first = lawful 0 (AddressPart global plus part) refl in
    let lt : global < length globals = reaches_within globals global plus first.2 in
    let named : own_names (length globals) global ≡ Some global = own_name (length globals) global lt in (
      (_, refl, record { object = named; offset = refl }),
      cells_self globals o (suc at) cells zeros (λ k c e. let n : at + suc k ≡ suc at + k = omega arith in subst (λ z. IsLawfulCell globals o z c) n (lawful (suc k) c e)),
    )

module _ (globals : List DataObject) (lawful : AreLawful globals) where
  abbrev m0 : Memory
  m0 = start_memory globals

  abbrev names : Names
  names = own_names (length globals)

  object_lawful : (o : ℕ) (s : IsStatic globals o) → IsLawfulObject globals s.object
  object_lawful o s = all_at (IsLawfulObject globals) globals o s.object lawful.objects s.found

  row_self : (o : ℕ) → is_live m0 o ≡ true → IsRowOf names (object_at m0 o).cells (object_at m0 o).cells
  row_self o live =
      let s = static_of globals o live in
      let x = object_lawful o s in
      subst (λ (z : Object). IsRowOf names z.cells z.cells) (sym (object_is globals o s.object s.found))
      (cells_self globals s.object 0 s.object.cells (s.object.size - length s.object.cells) (λ k c e. let z : k ≡ 0 + k = omega arith in subst (λ n. IsLawfulCell globals s.object n c) z (x.lawful k c e)))

  pub start_self : IsMemoryOf names m0 m0
  start_self = record {
    each = λ o live.
        record {
          name = o;
          named = own_name (length globals) o (let lt = live_within m0 o live in let same = length-map globals start_object in omega (arith, lt, same));
          lives = live;
          writable = refl;
          cells = row_self o live;
        };
    apart = λ o p q lo lp eo ep. (own_is (length globals) o q eo).1 ∙ sym (own_is (length globals) p q ep).1;
    known = λ o q e. let lt = (own_is (length globals) o q e).0 in let same = length-map globals start_object in omega (arith, lt, same);
  }

  pub start_small : (o : ℕ) → is_live m0 o ≡ true → size_in m0 o ≤ MOST_DATA
  start_small o live =
      let s = static_of globals o live in
      let x = object_lawful o s in
      let cells = s.object.cells in
      let size : size_in m0 o ≡ length (map memory_cell cells ++ replicate (s.object.size - length cells) (m.Byte 0)) = ap (λ (z : Object). length z.cells) (object_is globals o s.object s.found) in
      let both = length-append (map memory_cell cells) (replicate (s.object.size - length cells) (m.Byte 0)) in
      let front = length-map cells memory_cell in
      let back = length-replicate (s.object.size - length cells) (m.Byte 0) in
      let fit = x.cells in
      let most = x.size in
      omega (arith, size, both, front, back, fit, most)
