-- Objects of locals begin and end in the C meaning alone.
use Rattle.std.proofs.Common.{◌≡◌, ◌≢◌, ℕ, zero, suc, ◌+◌, ◌<◌, ◌≤◌, List, [], ◌∷◌, take, true, false, cond, Option, Some, None, length, refl, sym, ap, ◌∙◌, arith, inl, inr, eq-eqb}
use Rattle.std.specs.Prelude.{if◌then◌else◌, slice_get}
use Rattle.std.proofs.lemmas.Bool.{cases_eq, cases_lt}
use Rattle.std.proofs.lemmas.List.{length-replicate}
use Rattle.std.proofs.lemmas.List.Sums.{sum_by-cons}
use Rattle.mem_model.specs.Memory.{Memory, Object, object_at, begin_object, end_object}
use Rattle.mem_model.specs.Related.{Names, IsFreeName, with_name}
use Rattle.mem_model.specs.RelatedLaws.{MoreNames}
use Rattle.mem_model.proofs.Objects.{no_object_past, begin_changes, end_changes}
use Rattle.mem_model.proofs.RelatedRows.{values_stay}
use Rattle.mem_model.proofs.RelatedMemory.{first_begins, first_ends}
use Rattle.mem_objects.specs.declared.TheConstants.{MOST_DATA}
use Rattle.c_typed_tree.specs.declared.types.StructDef.{StructDef}
use Rattle.c_typed_tree.specs.declared.units.Local.{Local}
use Rattle.c_typed_tree.specs.View.{type_view}
use Rattle.c_typed_tree.specs.Layout.{size_of}
use Rattle.c_semantics.specs.Runs as c
use Rattle.c_semantics.specs.Objects.{Scope, bind_object}
use Rattle.suifvm_meaning.specs.Behave.{Registers}
use Rattle.lowering_code.specs.Registers.{object_index}
use Rattle.lowering_states.specs.States.{Fits, is_live, size_in}
use Rattle.lowering_states.proofs.States.{ne_eqb}
use Rattle.lowering_states.specs.lowering_object_laws.Laws.{MayBegin, LocalBegins, ObjectsEnd, ScopesAreParts, ObjectsBeginAndEnd}

-- ---- two locals in memory have two objects

one_more : (l : Local) (ls : List Local) (k : ℕ) → object_index (l ∷ ls) (suc k) ≡ cond l.in_memory 1 0 + object_index ls k
one_more l ls k = sum_by-cons (λ (x : Local). cond x.in_memory 1 0) l (take k ls)

object_less : (ls : List Local) (k j : ℕ) (x : Local) → slice_get ls k ≡ Some x → x.in_memory ≡ true → k < j → object_index ls k < object_index ls j
object_less [] k j x e m lt = absurd (cc)
object_less (l ∷ ls) zero zero x e m lt = absurd (omega (arith, lt))
object_less (l ∷ ls) zero (suc j) x e m lt =
    let same : l ≡ x = cc in
    let one : cond l.in_memory (suc zero) zero ≡ suc zero = ap (λ (y : Local). cond y.in_memory (suc zero) zero) same ∙ ap (λ b. cond b (suc zero) zero) m in
    omega (arith, one_more l ls j, one)
object_less (l ∷ ls) (suc k) zero x e m lt = absurd (omega (arith, lt))
object_less (l ∷ ls) (suc k) (suc j) x e m lt = let h = object_less ls k j x e m (omega (arith, lt)) in omega (arith, h, one_more l ls k, one_more l ls j)

pub same_object : (ls : List Local) (k j : ℕ) (x y : Local) → slice_get ls k ≡ Some x → x.in_memory ≡ true → slice_get ls j ≡ Some y → y.in_memory ≡ true → object_index ls k ≡ object_index ls j → k ≡ j
same_object ls k j x y ek mk ej mj same = elim (cases_eq k j) [
  | inl e ↦ e
  | inr ne ↦ let up : (k < j) → ⊥ = (λ lt. let h = object_less ls k j x ek mk lt in omega (arith, h, same)) in let down : (j < k) → ⊥ = (λ lt. let h = object_less ls j k y ej mj lt in omega (arith, h, same)) in absurd (either k j ne up down)
]
  where
    either : (k j : ℕ) → k ≢ j → ((k < j) → ⊥) → ((j < k) → ⊥) → ⊥
    either k j ne up down = elim (cases_lt k j) [
      | inl lt ↦ up lt
      | inr le ↦ down (omega (arith, le, ne))
    ]

-- ---- names and scopes

name_here : (f : Names) (o q : ℕ) → with_name f o q o ≡ Some q
name_here f o q = ap (λ b. if b then Some q else f o) (eq-eqb o o refl)

name_other : (f : Names) (o q p : ℕ) → p ≢ o → with_name f o q p ≡ f p
name_other f o q p ne = ap (λ b. if b then Some q else f p) (ne_eqb p o ne)

scope_here : (scope : Scope) (k o : ℕ) → bind_object scope k o k ≡ Some o
scope_here scope k o = ap (λ b. if b then Some o else scope k) (eq-eqb k k refl)

scope_other : (scope : Scope) (k o j : ℕ) → j ≢ k → bind_object scope k o j ≡ scope j
scope_other scope k o j ne = ap (λ b. if b then Some o else scope j) (ne_eqb j k ne)

no_some : {A : Type 0} (o : Option A) (a : A) → o ≡ None → o ≡ Some a → ⊥
no_some o a none some = cc

-- ---- an object begins

module _ (G : ℕ) (ds : List StructDef) (ls : List Local) (own : ℕ) (f : Names) (scope : Scope) (r : Registers) (l : c.LocalRegisters) (m n : Memory) (input : List ℕ) (k : ℕ) (x : Local) (may : MayBegin ds ls scope k x)
    (fit : Fits G ds ls own f scope r l m n input) where
  abbrev name : ℕ
  name = own + object_index ls k

  abbrev size : ℕ
  size = size_of ds (type_view x.ty)

  abbrev f1 : Names
  f1 = with_name f (length m) name

  abbrev m1 : Memory
  m1 = begin_object m size true

  abbrev scope1 : Scope
  scope1 = bind_object scope k (length m)

  more : MoreNames f f1
  more p q e = let lt = fit.memory.known p q e in let ne : p ≢ length m = (λ same. absurd (omega (arith, lt, same))) in name_other f (length m) name p ne ∙ e

  same_at : (p : ℕ) → p ≢ length m → object_at m1 p ≡ object_at m p
  same_at p ne = (begin_changes m size true).others p ne

  was : (p : ℕ) → is_live m1 p ≡ true → p ≢ length m → is_live m p ≡ true
  was p live ne = ap (λ (y : Object). y.live) (sym (same_at p ne)) ∙ live

  free : IsFreeName f m name
  free p live e = no_some (scope k) p may.none (fit.owned k p x may.found may.inside live e)

  new_size : (p : ℕ) → p ≡ length m → size_in m1 p ≡ size
  new_size p same = ap (size_in m1) same ∙ ap (λ (y : Object). length y.cells) (begin_changes m size true).here ∙ length-replicate size _

  small_in : (p : ℕ) → is_live m1 p ≡ true → size_in m1 p ≤ MOST_DATA
  small_in p live = elim (cases_eq p (length m)) [
    | inl same ↦ let s = new_size p same in let h = may.small in omega (arith, s, h)
    | inr ne ↦ let h = fit.small p (was p live ne) in let s : size_in m1 p ≡ size_in m p = ap (λ (y : Object). length y.cells) (same_at p ne) in omega (arith, s, h)
  ]

  scopes_in : (j p : ℕ) → scope1 j ≡ Some p → f1 p ≡ Some (own + object_index ls j)
  scopes_in j p e = elim (cases_eq j k) [
    | inl same ↦
        let at : Some (length m) ≡ Some p = sym (scope_here scope k (length m)) ∙ ap scope1 (sym same) ∙ e in
        let is : length m ≡ p = cc in
        ap f1 (sym is) ∙ name_here f (length m) name ∙ ap (λ z. Some (own + object_index ls z)) (sym same)
    | inr ne ↦ more p (own + object_index ls j) (fit.scopes j p (sym (scope_other scope k (length m) j ne) ∙ e))
  ]

  owned_in : (j p : ℕ) (y : Local) → slice_get ls j ≡ Some y → y.in_memory ≡ true → is_live m1 p ≡ true → f1 p ≡ Some (own + object_index ls j) → scope1 j ≡ Some p
  owned_in j p y e mem live named = elim (cases_eq p (length m)) [
    | inl same ↦
        let q : Some name ≡ Some (own + object_index ls j) = sym (name_here f (length m) name) ∙ ap f1 (sym same) ∙ named in
        let numbers : own + object_index ls k ≡ own + object_index ls j = cc in
        let is : k ≡ j = same_object ls k j x y may.found may.inside e mem (omega (arith, numbers)) in
        ap scope1 (sym is) ∙ scope_here scope k (length m) ∙ ap Some (sym same)
    | inr ne ↦
        let had : scope j ≡ Some p = fit.owned j p y e mem (was p live ne) (sym (name_other f (length m) name p ne) ∙ named) in
        let other : j ≢ k = (λ same. no_some (scope k) p may.none (ap scope (sym same) ∙ had)) in
        scope_other scope k (length m) j other ∙ had
  ]

  fits_begun : LocalBegins G ds ls own f scope r l m n input k x
  fits_begun = record {
    fits = record {
      locals = λ j lt. values_stay f f1 (l j) (r j) more (fit.locals j lt);
      held = fit.held;
      statics = λ j lt. more j j (fit.statics j lt);
      memory = first_begins f m n name size fit.memory (fit.stands k x may.found may.inside) free;
      small = small_in;
      scopes = scopes_in;
      stands = fit.stands;
      owned = owned_in;
      bytes = fit.bytes;
    };
  }

-- ---- it ends

-- an object that lives when another one has ended
end_live : (m : Memory) (k o : ℕ) → is_live (end_object m k) o ≡ true → (o ≢ k) × (object_at (end_object m k) o ≡ object_at m o)
end_live m k o l = elim (cases_eq o k) [
  | inl e ↦ let bad : false ≡ true = sym (ap (λ (x : Object). x.live) (end_changes m k).here) ∙ ap (is_live (end_object m k)) (sym e) ∙ l in absurd (cc)
  | inr ne ↦ (ne, (end_changes m k).others o ne)
]

objects_end : ObjectsEnd
objects_end G ds ls own f scope r l m n input k o none fit = record {
  locals = fit.locals;
  held = fit.held;
  statics = fit.statics;
  memory = first_ends f m n o fit.memory;
  small = λ p live. let a = end_live m o p live in let h = fit.small p (was p live) in let s : size_in (end_object m o) p ≡ size_in m p = ap (λ (y : Object). length y.cells) a.1 in omega (arith, s, h);
  scopes = λ j p e. let other : j ≢ k = (λ same. no_some (scope k) p none (ap scope (sym same) ∙ e)) in fit.scopes j p (scope_other scope k o j other ∙ e);
  stands = fit.stands;
  owned = λ j p y e mem live named.
      let had : bind_object scope k o j ≡ Some p = fit.owned j p y e mem (was p live) named in
      elim (cases_eq j k) [
        | inl same ↦
            let at : Some o ≡ Some p = sym (scope_here scope k o) ∙ ap (bind_object scope k o) (sym same) ∙ had in
            let is : p ≡ o = cc in
            absurd ((end_live m o p live).0 is)
        | inr ne ↦ sym (scope_other scope k o j ne) ∙ had
      ];
  bytes = fit.bytes;
}
  where
    was : (p : ℕ) → is_live (end_object m o) p ≡ true → is_live m p ≡ true
    was p live = ap (λ (y : Object). y.live) (sym (end_live m o p live).1) ∙ live

-- ---- both

live_within : (m : Memory) (p : ℕ) → is_live m p ≡ true → p < length m
live_within m p live = elim (cases_lt p (length m)) [
  | inl lt ↦ lt
  | inr past ↦ let bad : false ≡ true = sym (ap (λ (y : Object). y.live) (no_object_past m p past)) ∙ live in absurd (cc)
]

scopes_are_parts : ScopesAreParts
scopes_are_parts f g m n m1 n1 name size turns turns1 mem x = record {
  names = λ p q e. let lt = mem.known p q e in let ne : p ≢ length m = (λ same. absurd (omega (arith, lt, same))) in x.names p q (name_other f (length m) name p ne ∙ e);
  lives = λ p. elim (cases_eq p (length m)) [
    | inl same ↦ ap (is_live (end_object m1 (length m))) same ∙ ap (λ (y : Object). y.live) ((end_changes m1 (length m)).here ∙ sym (no_object_past m (length m) (omega arith))) ∙ ap (is_live m) (sym same)
    | inr ne ↦ ap (λ (y : Object). y.live) ((end_changes m1 (length m)).others p ne) ∙ x.lives p ∙ ap (λ (y : Object). y.live) ((begin_changes m size true).others p ne)
  ];
  sizes = λ p live.
      let lt = live_within m p live in
      let ne : p ≢ length m = (λ same. absurd (omega (arith, lt, same))) in
      ap (λ (y : Object). length y.cells) ((end_changes m1 (length m)).others p ne) ∙ x.sizes p (ap (λ (y : Object). y.live) ((begin_changes m size true).others p ne) ∙ live) ∙ ap (λ (y : Object). length y.cells) ((begin_changes m size true).others p ne);
  locals = x.locals;
  turned = x.turned;
}

pub objects_begin_and_end : ObjectsBeginAndEnd
objects_begin_and_end = record { begin = fits_begun; end = objects_end; parts = scopes_are_parts }
