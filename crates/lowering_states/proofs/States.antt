-- The relation of states, as registers are written and parts of runs go by.
use Rattle.std.proofs.Common.{◌≡◌, ◌≢◌, ℕ, ◌+◌, ◌*◌, ◌<◌, ◌≤◌, List, Bool, true, false, Some, length, All, refl, sym, ap, ◌∙◌, subst, arith, inl, inr, eq-eqb}
use Rattle.std.specs.Prelude.{◌==◌, if◌then◌else◌, slice_get}
use Rattle.std.proofs.lemmas.Bool.{eqb-true, cases_eq}
use Rattle.mem_model.specs.declared.value.Value.{Value}
use Rattle.mem_model.specs.declared.value.Value.TheVariants.{Unset}
use Rattle.mem_model.specs.Memory.{Memory}
use Rattle.mem_model.specs.Related.{Names, IsValueOf, IsMemoryOf}
use Rattle.mem_model.specs.RelatedLaws.{MoreNames}
use Rattle.mem_model.proofs.RelatedRows.{values_stay}
use Rattle.mem_objects.specs.declared.TheConstants.{MOST_DATA}
use Rattle.suifvm_ir.specs.declared.types.VmType.{VmType}
use Rattle.suifvm_ir.specs.declared.types.VmType.TheVariants as v
use Rattle.c_typed_tree.specs.declared.types.StructDef.{StructDef}
use Rattle.c_typed_tree.specs.declared.units.Local.{Local}
use Rattle.c_typed_tree.specs.Types.{PlainType, Void, Int, Pointer, Array, Struct}
use Rattle.c_typed_tree.specs.View.{type_view}
use Rattle.c_typed_tree.specs.Layout.{size_of}
use Rattle.c_semantics.specs.Runs.{with_local_value}
use Rattle.c_semantics.specs.Runs as c
use Rattle.c_semantics.specs.Objects.{Scope}
use Rattle.suifvm_meaning.specs.Behave.{Registers, set_register}
use Rattle.lowering_code.specs.Registers.{type_place, temporary, object_index}
use Rattle.lowering_states.specs.States.{IsHeld, IsInRegister, is_live, type_at, Fits, KeepsLower, After}

-- ---- registers

pub ne_eqb : (a b : ℕ) → a ≢ b → (a == b) ≡ false
ne_eqb a b ne = by_test (a == b) refl
  where
    by_test : (t : Bool) → (a == b) ≡ t → t ≡ false
    by_test true e = absurd (ne (eqb-true a b e))
    by_test false e = refl

pub set_same : (r : Registers) (k : ℕ) (v : Value) → set_register k v r k ≡ v
set_same r k v = ap (λ t. if t then v else r k) (eq-eqb k k refl)

pub set_other : (r : Registers) (k j : ℕ) (v : Value) → j ≢ k → set_register k v r j ≡ r j
set_other r k j v ne = ap (λ t. if t then v else r j) (ne_eqb j k ne)

pub place_small : (ty : VmType) → type_place ty ≤ 4
place_small v.S32 = omega arith
place_small v.U32 = omega arith
place_small v.S64 = omega arith
place_small v.U64 = omega arith
place_small v.P64 = omega arith

pub temporary_past : (L d : ℕ) (ty : VmType) → L + 5 * d ≤ temporary L d ty
temporary_past L d ty = omega arith

pub other_depth : (L d e : ℕ) (ty u : VmType) → d < e → temporary L d ty ≢ temporary L e u
other_depth L d e ty u lt same = let a = place_small ty in absurd (omega (arith, a, same, lt))

pub other_type : (L d : ℕ) (ty u : VmType) → type_place ty ≢ type_place u → temporary L d ty ≢ temporary L d u
other_type L d ty u ne same = ne (omega (arith, same))

pub kept_all : {L d : ℕ} {r : Registers} → KeepsLower L d r r
kept_all = record { same = λ k l h. refl }

pub kept_on : {L d e : ℕ} {r s t : Registers} → d ≤ e → KeepsLower L d r s → KeepsLower L e s t → KeepsLower L d r t
kept_on le a b = record { same = λ k l h. b.same k l (omega (arith, le, h)) ∙ a.same k l h }

-- a register of a depth from this one on is written, and one of a local
pub kept_temporary : {L d : ℕ} (e : ℕ) (ty : VmType) (v : Value) {r s : Registers} → d ≤ e → KeepsLower L d r s → KeepsLower L d r (set_register (temporary L e ty) v s)
kept_temporary {L = L} {d = d} e ty v {s = s} le a = record {
  same = λ j l h. let ne : j ≢ temporary L e ty = λ same. absurd (omega (arith, le, h, same)) in set_other s (temporary L e ty) j v ne ∙ a.same j l h;
}

pub kept_local : {L d : ℕ} (k : ℕ) (v : Value) {r s : Registers} → k < L → KeepsLower L d r s → KeepsLower L d r (set_register k v s)
kept_local {L = L} k v {s = s} lt a = record {
  same = λ j l h. let ne : j ≢ k = λ same. absurd (omega (arith, lt, l, same)) in set_other s k j v ne ∙ a.same j l h;
}

-- a register of a lower depth is as before
pub kept_reads : {L e : ℕ} (d : ℕ) (ty : VmType) {r s : Registers} → d < e → KeepsLower L e r s → s (temporary L d ty) ≡ r (temporary L d ty)
kept_reads {L = L} d ty lt a = let p = place_small ty in a.same (temporary L d ty) (omega arith) (omega (arith, p, lt))

-- ---- values

pub is_in : (f : Names) (ty : PlainType) (v w : Value) → IsValueOf f v w → IsInRegister f ty v w
is_in f Void v w h = tt
is_in f (Int b s) v w h = h
is_in f (Pointer t) v w h = h
is_in f (Array t n) v w h = h
is_in f (Struct n) v w h = h

pub is_in_stays : (f g : Names) (ty : PlainType) (v w : Value) → MoreNames f g → IsInRegister f ty v w → IsInRegister g ty v w
is_in_stays f g Void v w m h = tt
is_in_stays f g (Int b s) v w m h = values_stay f g v w m h
is_in_stays f g (Pointer t) v w m h = values_stay f g v w m h
is_in_stays f g (Array t n) v w m h = values_stay f g v w m h
is_in_stays f g (Struct n) v w m h = values_stay f g v w m h

pub is_at : (f : Names) (ty : PlainType) (v w : Value) (r : Registers) (k : ℕ) → IsInRegister f ty v w → IsInRegister f ty v (set_register k w r k)
is_at f ty v w r k h = subst (λ z. IsInRegister f ty v z) (sym (set_same r k w)) h

pub value_at : (f : Names) (v w : Value) (r : Registers) (k : ℕ) → IsValueOf f v w → IsValueOf f v (set_register k w r k)
value_at f v w r k h = subst (λ z. IsValueOf f v z) (sym (set_same r k w)) h

pub unset_held : (ty : PlainType) → IsHeld ty Unset
unset_held Void = tt
unset_held (Int b s) = tt
unset_held (Pointer t) = tt
unset_held (Array t n) = tt
unset_held (Struct n) = tt

-- ---- parts of runs

pub after_same : {f : Names} {m n : Memory} {t : ℕ} → After f m n t f m n t
after_same = record { names = λ o p e. e; lives = λ o. refl; sizes = λ o l. refl; locals = λ q size h. h; turned = omega arith }

pub after_on : {f g h : Names} {m n m1 n1 m2 n2 : Memory} {t t1 t2 : ℕ} → After f m n t g m1 n1 t1 → After g m1 n1 t1 h m2 n2 t2 → After f m n t h m2 n2 t2
after_on a b = record {
  names = λ o p e. b.names o p (a.names o p e);
  lives = λ o. b.lives o ∙ a.lives o;
  sizes = λ o l. b.sizes o (a.lives o ∙ l) ∙ a.sizes o l;
  locals = λ q size h. b.locals q size (a.locals q size h);
  turned = omega (arith, a.turned, b.turned);
}

pub after_turn : {f g : Names} {m n m1 n1 : Memory} {t u t1 : ℕ} → u ≤ t → After f m n u g m1 n1 t1 → After f m n t g m1 n1 t1
after_turn le a = record { names = a.names; lives = a.lives; sizes = a.sizes; locals = a.locals; turned = omega (arith, le, a.turned) }

-- ---- the relation

-- a register of an expression is written
pub fits_temporary : {G : ℕ} {ds : List StructDef} {ls : List Local} {own : ℕ} {f : Names} {scope : Scope} {r : Registers} {l : c.LocalRegisters} {m n : Memory} {input : List ℕ}
    (e : ℕ) (ty : VmType) (w : Value) → Fits G ds ls own f scope r l m n input → Fits G ds ls own f scope (set_register (temporary (length ls) e ty) w r) l m n input
fits_temporary {ls = ls} {f = f} {r = r} {l = l} e ty w a = record {
  locals = λ k lt.
      let ne : k ≢ temporary (length ls) e ty = λ same. absurd (omega (arith, lt, same)) in
      subst (λ z. IsValueOf f (l k) z) (sym (set_other r (temporary (length ls) e ty) k w ne)) (a.locals k lt);
  held = a.held;
  statics = a.statics;
  memory = a.memory;
  small = a.small;
  scopes = a.scopes;
  stands = a.stands;
  owned = a.owned;
  bytes = a.bytes;
}

with_same : (l : c.LocalRegisters) (k : ℕ) (v : Value) → with_local_value l k v k ≡ v
with_same l k v = ap (λ t. if t then v else l k) (eq-eqb k k refl)

with_other : (l : c.LocalRegisters) (k j : ℕ) (v : Value) → j ≢ k → with_local_value l k v j ≡ l j
with_other l k j v ne = ap (λ t. if t then v else l j) (ne_eqb j k ne)

held_with : (ls : List Local) (l : c.LocalRegisters) (k : ℕ) (v : Value) → ((j : ℕ) → IsHeld (type_at (slice_get ls j)) (l j)) → IsHeld (type_at (slice_get ls k)) v
    → (j : ℕ) → IsHeld (type_at (slice_get ls j)) (with_local_value l k v j)
held_with ls l k v a h j = elim (cases_eq j k) [
  | inl e ↦ subst (λ i. IsHeld (type_at (slice_get ls i)) (with_local_value l k v i)) (sym e) (subst (λ z. IsHeld (type_at (slice_get ls k)) z) (sym (with_same l k v)) h)
  | inr ne ↦ subst (λ z. IsHeld (type_at (slice_get ls j)) z) (sym (with_other l k j v ne)) (a j)
]

-- a local is written
pub fits_local : {G : ℕ} {ds : List StructDef} {ls : List Local} {own : ℕ} {f : Names} {scope : Scope} {r : Registers} {l : c.LocalRegisters} {m n : Memory} {input : List ℕ}
    (k : ℕ) (v w : Value) → IsValueOf f v w → IsHeld (type_at (slice_get ls k)) v → Fits G ds ls own f scope r l m n input
    → Fits G ds ls own f scope (set_register k w r) (with_local_value l k v) m n input
fits_local {ls = ls} {f = f} {r = r} {l = l} k v w h held a = record {
  locals = λ j lt. elim (cases_eq j k) [
    | inl e ↦ subst (λ i. IsValueOf f (with_local_value l k v i) (set_register k w r i)) (sym e) (subst (λ z. IsValueOf f z (set_register k w r k)) (sym (with_same l k v)) (value_at f v w r k h))
    | inr ne ↦ subst (λ z. IsValueOf f z (set_register k w r j)) (sym (with_other l k j v ne)) (subst (λ z. IsValueOf f (l j) z) (sym (set_other r k j w ne)) (a.locals j lt))
  ];
  held = held_with ls l k v a.held held;
  statics = a.statics;
  memory = a.memory;
  small = a.small;
  scopes = a.scopes;
  stands = a.stands;
  owned = a.owned;
  bytes = a.bytes;
}

-- a local in a register begins without a value: the code does nothing
pub fits_unset : {G : ℕ} {ds : List StructDef} {ls : List Local} {own : ℕ} {f : Names} {scope : Scope} {r : Registers} {l : c.LocalRegisters} {m n : Memory} {input : List ℕ}
    (k : ℕ) → Fits G ds ls own f scope r l m n input → Fits G ds ls own f scope r (with_local_value l k Unset) m n input
fits_unset {ls = ls} {f = f} {r = r} {l = l} k a = record {
  locals = λ j lt. elim (cases_eq j k) [
    | inl e ↦ subst (λ i. IsValueOf f (with_local_value l k Unset i) (r j)) (sym e) (subst (λ z. IsValueOf f z (r j)) (sym (with_same l k Unset)) tt)
    | inr ne ↦ subst (λ z. IsValueOf f z (r j)) (sym (with_other l k j Unset ne)) (a.locals j lt)
  ];
  held = held_with ls l k Unset a.held (unset_held (type_at (slice_get ls k)));
  statics = a.statics;
  memory = a.memory;
  small = a.small;
  scopes = a.scopes;
  stands = a.stands;
  owned = a.owned;
  bytes = a.bytes;
}

-- another part of the run kept what belongs to the call
pub fits_after : {G : ℕ} {ds : List StructDef} {ls : List Local} {own : ℕ} {f g : Names} {scope : Scope} {r : Registers} {l : c.LocalRegisters} {m n m1 n1 : Memory} {t t1 : ℕ} {input input1 : List ℕ}
    → After f m n t g m1 n1 t1 → IsMemoryOf g m1 n1 → All (λ b. b < 256) input1 → Fits G ds ls own f scope r l m n input → Fits G ds ls own g scope r l m1 n1 input1
fits_after {ds = ds} {ls = ls} {own = own} {f = f} {g = g} {r = r} {l = l} {m = m} {m1 = m1} x mem bytes a = record {
  locals = λ k lt. values_stay f g (l k) (r k) x.names (a.locals k lt);
  held = a.held;
  statics = λ k lt. x.names k k (a.statics k lt);
  memory = mem;
  small = λ o live. let was : is_live m o ≡ true = sym (x.lives o) ∙ live in subst (λ z. z ≤ MOST_DATA) (sym (x.sizes o was)) (a.small o was);
  scopes = λ k o e. x.names o (own + object_index ls k) (a.scopes k o e);
  stands = λ k y e mem. x.locals (own + object_index ls k) (size_of ds (type_view y.ty)) (a.stands k y e mem);
  owned = λ k o y e mem live named.
      let was : is_live m o ≡ true = sym (x.lives o) ∙ live in
      let had = a.memory.each o was in
      let name : Some had.name ≡ Some (own + object_index ls k) = sym (x.names o had.name had.named) ∙ named in
      a.owned k o y e mem was (had.named ∙ name);
  bytes = bytes;
}
