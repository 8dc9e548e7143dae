-- The objects of a call: they begin at its entry, each of the size of its local, and end at its return.
use Rattle.std.proofs.Common.{◌≡◌, ℕ, zero, suc, ◌+◌, ◌<◌, ◌≤◌, List, [], ◌∷◌, take, map, Bool, true, false, cond, Some, None, length, All, refl, sym, ap, ◌∙◌, arith, inl, inr}
use Rattle.std.specs.Prelude.{slice_get, slice_index}
use Rattle.std.proofs.lemmas.Bool.{cases_lt}
use Rattle.std.proofs.lemmas.List.{length-replicate}
use Rattle.std.proofs.lemmas.List.Sums.{sum_by-cons}
use Rattle.std.proofs.lemmas.Option.{slice_get_within, get_or_from_slice_get}
use Rattle.mem_model.specs.declared.value.Value.TheVariants.{Unset}
use Rattle.mem_model.specs.Memory.{Memory, Object, object_at, begin_objects, end_objects}
use Rattle.mem_model.specs.Related.{Names, IsMemoryOf, IsLocal}
use Rattle.mem_model.proofs.Objects.{no_object_past, begins_change, ends_change}
use Rattle.mem_model.proofs.RelatedMemory.{second_begins, second_ends}
use Rattle.mem_objects.specs.declared.TheConstants.{MOST_DATA}
use Rattle.c_typed_tree.specs.declared.types.StructDef.{StructDef}
use Rattle.c_typed_tree.specs.declared.units.Local.{Local}
use Rattle.c_typed_tree.specs.View.{type_view}
use Rattle.c_typed_tree.specs.Layout.{size_of}
use Rattle.c_semantics.specs.Runs as c
use Rattle.c_semantics.specs.Objects.{no_scope}
use Rattle.suifvm_meaning.specs.Behave.{Registers}
use Rattle.lowering_code.specs.Registers.{object_index}
use Rattle.lowering_code.specs.Functions.{objects_of}
use Rattle.lowering_states.specs.States.{Fits, After, is_live, size_in, type_at}
use Rattle.lowering_states.proofs.States.{unset_held}

-- ---- the objects of locals, in order

abbrev pub sizes_of : List StructDef → List Local → List ℕ
sizes_of ds ls = map (λ o. o.size) (objects_of ds ls)

one_more : (l : Local) (ls : List Local) (k : ℕ) → object_index (l ∷ ls) (suc k) ≡ cond l.in_memory 1 0 + object_index ls k
one_more l ls k = sum_by-cons (λ (x : Local). cond x.in_memory 1 0) l (take k ls)

in_one : (l : Local) (ls : List Local) (k : ℕ) → l.in_memory ≡ true → object_index (l ∷ ls) (suc k) ≡ suc (object_index ls k)
in_one l ls k e = let h = one_more l ls k in let one : cond l.in_memory (suc zero) zero ≡ suc zero = ap (λ b. cond b (suc zero) zero) e in omega (arith, h, one)

in_none : (l : Local) (ls : List Local) (k : ℕ) → l.in_memory ≡ false → object_index (l ∷ ls) (suc k) ≡ object_index ls k
in_none l ls k e = let h = one_more l ls k in let none : cond l.in_memory (suc zero) zero ≡ zero = ap (λ b. cond b (suc zero) zero) e in omega (arith, h, none)

sizes_more : (ds : List StructDef) (l : Local) (ls : List Local) (b : Bool) → l.in_memory ≡ b → sizes_of ds (l ∷ ls) ≡ cond b (size_of ds (type_view l.ty) ∷ sizes_of ds ls) (sizes_of ds ls)
sizes_more ds l ls true e = rw e refl
sizes_more ds l ls false e = rw e refl

-- a local in memory has an object of its size
pub object_has_size : (ds : List StructDef) (ls : List Local) (k : ℕ) (x : Local) → slice_get ls k ≡ Some x → x.in_memory ≡ true → slice_get (sizes_of ds ls) (object_index ls k) ≡ Some (size_of ds (type_view x.ty))
object_has_size ds [] k x e m = absurd (cc)
object_has_size ds (l ∷ ls) zero x e m =
    let same : l ≡ x = cc in
    ap (λ z. slice_get z 0) (sizes_more ds l ls true (ap (λ (y : Local). y.in_memory) same ∙ m)) ∙ ap (λ (y : Local). Some (size_of ds (type_view y.ty))) same
object_has_size ds (l ∷ ls) (suc k) x e m = by_place l.in_memory refl (object_has_size ds ls k x e m)
  where
    by_place : (b : Bool) → l.in_memory ≡ b → slice_get (sizes_of ds ls) (object_index ls k) ≡ Some (size_of ds (type_view x.ty)) → slice_get (sizes_of ds (l ∷ ls)) (object_index (l ∷ ls) (suc k)) ≡ Some (size_of ds (type_view x.ty))
    by_place true p h = ap (λ z. slice_get z (object_index (l ∷ ls) (suc k))) (sizes_more ds l ls true p) ∙ ap (slice_get (size_of ds (type_view l.ty) ∷ sizes_of ds ls)) (in_one l ls k p) ∙ h
    by_place false p h = ap (λ z. slice_get z (object_index (l ∷ ls) (suc k))) (sizes_more ds l ls false p) ∙ ap (slice_get (sizes_of ds ls)) (in_none l ls k p) ∙ h

-- each object is that of a local
pub record IsObjectOf (ls : List Local) (number : ℕ) : Type 0 where
  pub local : ℕ
  pub is : Local
  pub found : slice_get ls local ≡ Some is
  pub inside : is.in_memory ≡ true
  pub here : object_index ls local ≡ number

object_of_local : (ds : List StructDef) (ls : List Local) (number : ℕ) → number < length (sizes_of ds ls) → IsObjectOf ls number
object_of_local ds [] number lt = absurd (omega (arith, lt))
object_of_local ds (l ∷ ls) number lt = by_place (λ n h. object_of_local ds ls n h) l.in_memory refl number lt
  where
    further : (j : ℕ) → IsObjectOf ls j → (k : ℕ) → ((i : ℕ) → object_index (l ∷ ls) (suc i) ≡ object_index ls i + k) → (n : ℕ) → n ≡ j + k → IsObjectOf (l ∷ ls) n
    further j o k shift n sum = record { local = suc o.local; is = o.is; found = o.found; inside = o.inside; here = let h = shift o.local in let at = o.here in omega (arith, h, at, sum) }

    by_place : ((j : ℕ) → j < length (sizes_of ds ls) → IsObjectOf ls j) → (b : Bool) → l.in_memory ≡ b → (n : ℕ) → n < length (sizes_of ds (l ∷ ls)) → IsObjectOf (l ∷ ls) n
    by_place rest true p zero h = record { local = zero; is = l; found = refl; inside = p; here = refl }
    by_place rest true p (suc n) h =
        let same : length (sizes_of ds (l ∷ ls)) ≡ suc (length (sizes_of ds ls)) = ap (λ z. length z) (sizes_more ds l ls true p) in
        further n (rest n (omega (arith, h, same))) 1 (λ i. let one = in_one l ls i p in omega (arith, one)) (suc n) (omega arith)
    by_place rest false p n h =
        let same : length (sizes_of ds (l ∷ ls)) ≡ length (sizes_of ds ls) = ap (λ z. length z) (sizes_more ds l ls false p) in
        further n (rest n (omega (arith, h, same))) 0 (λ i. let none = in_none l ls i p in omega (arith, none)) n (omega arith)

-- ---- memories

live_within : (m : Memory) (p : ℕ) → is_live m p ≡ true → p < length m
live_within m p live = elim (cases_lt p (length m)) [
  | inl lt ↦ lt
  | inr past ↦ let bad : false ≡ true = sym (ap (λ (y : Object). y.live) (no_object_past m p past)) ∙ live in absurd (cc)
]

local_same : (m n : Memory) (q size : ℕ) → object_at n q ≡ object_at m q → IsLocal m q size → IsLocal n q size
local_same m n q size e l = record {
  lives = ap (λ (x : Object). x.live) e ∙ l.lives;
  writable = ap (λ (x : Object). x.writable) e ∙ l.writable;
  size_is = ap (λ (x : Object). length x.cells) e ∙ l.size_is;
}

-- the objects of a call stand once it is entered
pub objects_stand : (ds : List StructDef) (ls : List Local) (n : Memory) (k : ℕ) (x : Local) → slice_get ls k ≡ Some x → x.in_memory ≡ true → IsLocal (begin_objects n (sizes_of ds ls)) (length n + object_index ls k) (size_of ds (type_view x.ty))
objects_stand ds ls n k x e m =
    let sizes = sizes_of ds ls in
    let there = object_has_size ds ls k x e m in
    let lt : object_index ls k < length sizes = slice_get_within sizes (object_index ls k) (size_of ds (type_view x.ty)) there in
    let size : slice_index sizes (object_index ls k) ≡ size_of ds (type_view x.ty) = get_or_from_slice_get sizes (object_index ls k) (size_of ds (type_view x.ty)) 0 there in
    let here = (begins_change n sizes).here (object_index ls k) lt in
    record {
      lives = ap (λ (y : Object). y.live) here;
      writable = ap (λ (y : Object). y.writable) here;
      size_is = ap (λ (y : Object). length y.cells) here ∙ length-replicate (slice_index sizes (object_index ls k)) _ ∙ size;
    }

-- states correspond at the entry of a call, where no local has a value yet
pub entered_function : (G : ℕ) (ds : List StructDef) (ls : List Local) (f : Names) (r : Registers) (m n : Memory) (input : List ℕ) → ((k : ℕ) → k < G → f k ≡ Some k) → IsMemoryOf f m n → ((o : ℕ) → is_live m o ≡ true → size_in m o ≤ MOST_DATA) → All (λ b. b < 256) input
    → Fits G ds ls (length n) f no_scope r (λ k. Unset) m (begin_objects n (sizes_of ds ls)) input
entered_function G ds ls f r m n input statics mem small bytes = record {
  locals = λ k lt. tt;
  held = λ k. unset_held (type_at (slice_get ls k));
  statics = statics;
  memory = second_begins f m n (sizes_of ds ls) mem;
  small = small;
  scopes = λ k o e. absurd (cc);
  stands = λ k x e inside. objects_stand ds ls n k x e inside;
  owned = λ k o x e inside live named.
      let had = mem.each o live in
      let names : Some had.name ≡ Some (length n + object_index ls k) = sym had.named ∙ named in
      let name : had.name ≡ length n + object_index ls k = cc in
      let lt = live_within n had.name had.lives in
      absurd (omega (arith, name, lt));
  bytes = bytes;
}

-- and when its objects have ended, as no object of a local is left
pub left_memory : (G : ℕ) (ds : List StructDef) (ls : List Local) (own : ℕ) (g : Names) (r : Registers) (l : c.LocalRegisters) (m n : Memory) (input : List ℕ) → Fits G ds ls own g no_scope r l m n input → IsMemoryOf g m (end_objects n own (length (sizes_of ds ls)))
left_memory G ds ls own g r l m n input fit =
    second_ends g m n own (length (sizes_of ds ls))
    (λ k lt o live named.
    let x = object_of_local ds ls k lt in
    let bad : None ≡ Some o = fit.owned x.local o x.is x.found x.inside live (named ∙ ap (λ z. Some (own + z)) (sym x.here)) in
    absurd (cc)) fit.memory

pub left_after : (sizes : List ℕ) (f g : Names) (m n m1 n1 : Memory) (t t1 : ℕ) → After f m (begin_objects n sizes) t g m1 n1 t1 → After f m n t g m1 (end_objects n1 (length n) (length sizes)) t1
left_after sizes f g m n m1 n1 t t1 x = record {
  names = x.names;
  lives = x.lives;
  sizes = x.sizes;
  locals = λ q size l.
      let lt = live_within n q l.lives in
      local_same n1 (end_objects n1 (length n) (length sizes)) q size ((ends_change n1 (length n) (length sizes)).others q (inl lt))
      (x.locals q size (local_same n (begin_objects n sizes) q size ((begins_change n sizes).others q (inl lt)) l));
  turned = x.turned;
}
