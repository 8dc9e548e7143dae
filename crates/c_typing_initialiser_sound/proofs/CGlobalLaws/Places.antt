-- The objects of static storage, one behind the other.
use Rattle.std.proofs.Common.{◌≡◌, ℕ, zero, suc, ◌+◌, List, [], ◌∷◌, ◌++◌, length, slice_get, Some, None, refl, sym, ap, ◌∙◌, subst, append_assoc, arith}
use Rattle.mem_objects.specs.declared.DataObject.{DataObject}
use Rattle.mem_objects.specs.Layout.{ObjectsLieFrom}
use Rattle.c_typed_tree.specs.declared.types.StructDef.{StructDef}
use Rattle.c_typing_globals.specs.declared.objects.UnitObject.{UnitObject}
use Rattle.c_typing_globals.specs.declared.globals.GlobalsSoFar.{GlobalsSoFar}
use Rattle.c_typing_globals.specs.Globals.{global_after, text_at, with_global, with_objects, with_texts, no_globals, globals}
use Rattle.c_typing_initialiser_sound.specs.c_global_laws.Laws.{HasObject, HasTextObject, AreThere}

-- the end of an object
abbrev pub after : DataObject → ℕ
after o = o.offset + o.size

-- texts from an end on, and objects with texts behind them
abbrev pub laid_texts : (end : ℕ) → List (List ℕ) → List DataObject
laid_texts end [] = []
laid_texts end (text ∷ texts) = text_at end text ∷ laid_texts (after (text_at end text)) texts

abbrev pub laid_objects : List StructDef → (end : ℕ) → List UnitObject → List (List ℕ) → List DataObject
laid_objects ds end [] texts = laid_texts end texts
laid_objects ds end (o ∷ os) texts = global_after ds end o ∷ laid_objects ds (after (global_after ds end o)) os texts

append_none : {A : Type 0} (xs : List A) → xs ++ [] ≡ xs
append_none [] = refl
append_none (x ∷ xs) = ap (λ ys. x ∷ ys) (append_none xs)

texts_laid : (texts : List (List ℕ)) (g : GlobalsSoFar) → (with_texts texts g).globals ≡ g.globals ++ laid_texts g.end texts
texts_laid [] g = sym (append_none g.globals)
texts_laid (text ∷ texts) g =
    let o = text_at g.end text in
    texts_laid texts (with_global o g) ∙ append_assoc g.globals (o ∷ []) (laid_texts (after o) texts)

objects_laid : (ds : List StructDef) (os : List UnitObject) (texts : List (List ℕ)) (g : GlobalsSoFar) → (with_texts texts (with_objects ds os g)).globals ≡ g.globals ++ laid_objects ds g.end os texts
objects_laid ds [] texts g = texts_laid texts g
objects_laid ds (o ∷ os) texts g =
    let x = global_after ds g.end o in
    objects_laid ds os texts (with_global x g) ∙ append_assoc g.globals (x ∷ []) (laid_objects ds (after x) os texts)

pub all_laid : (ds : List StructDef) (os : List UnitObject) (texts : List (List ℕ)) → globals ds os texts ≡ laid_objects ds 0 os texts
all_laid ds os texts = objects_laid ds os texts no_globals

-- ---- where each stands

none_some : {A X : Type 0} {a : A} → None ≡ Some a → X
none_some e = let clash : ⊥ = cc in absurd clash

same : {A : Type 0} {a b : A} → Some a ≡ Some b → a ≡ b
same e = cc

text_there : (texts : List (List ℕ)) (end k : ℕ) (text : List ℕ) → slice_get texts k ≡ Some text → HasTextObject (laid_texts end texts) k text
text_there [] end k text e = none_some e
text_there (t ∷ texts) end zero text e = record { end = end; there = ap (λ x. Some (text_at end x)) (same e) }
text_there (t ∷ texts) end (suc k) text e =
    let rest = text_there texts (after (text_at end t)) k text e in
    record { end = rest.end; there = rest.there }

object_there : (ds : List StructDef) (os : List UnitObject) (texts : List (List ℕ)) (end k : ℕ) (o : UnitObject) → slice_get os k ≡ Some o → HasObject ds (laid_objects ds end os texts) k o
object_there ds [] texts end k o e = none_some e
object_there ds (x ∷ os) texts end zero o e = record { end = end; there = ap (λ y. Some (global_after ds end y)) (same e) }
object_there ds (x ∷ os) texts end (suc k) o e =
    let rest = object_there ds os texts (after (global_after ds end x)) k o e in
    record { end = rest.end; there = rest.there }

string_there : (ds : List StructDef) (os : List UnitObject) (texts : List (List ℕ)) (end k : ℕ) (text : List ℕ) → slice_get texts k ≡ Some text → HasTextObject (laid_objects ds end os texts) (length os + k) text
string_there ds [] texts end k text e = subst (λ n. HasTextObject (laid_texts end texts) n text) (none_more k) (text_there texts end k text e)
  where
    none_more : (k : ℕ) → k ≡ 0 + k
    none_more k = omega arith
string_there ds (x ∷ os) texts end k text e =
    let rest = string_there ds os texts (after (global_after ds end x)) k text e in
    subst (λ n. HasTextObject (laid_objects ds end (x ∷ os) texts) n text) (one_more (length os) k) (record { end = rest.end; there = rest.there })
  where
    one_more : (n k : ℕ) → suc (n + k) ≡ suc n + k
    one_more n k = omega arith

pub all_there : (ds : List StructDef) (os : List UnitObject) (texts : List (List ℕ)) → AreThere ds os texts
all_there ds os texts = record {
  objects = λ k o e. subst (λ all. HasObject ds all k o) (sym (all_laid ds os texts)) (object_there ds os texts 0 k o e);
  strings = λ k text e. subst (λ all. HasTextObject all (length os + k) text) (sym (all_laid ds os texts)) (string_there ds os texts 0 k text e);
}

-- ---- they lie one behind the other

texts_lie : (texts : List (List ℕ)) (end : ℕ) → ObjectsLieFrom end (laid_texts end texts)
texts_lie [] end = tt
texts_lie (text ∷ texts) end = (refl, texts_lie texts (after (text_at end text)))

pub all_lie : (ds : List StructDef) (os : List UnitObject) (texts : List (List ℕ)) (end : ℕ) → ObjectsLieFrom end (laid_objects ds end os texts)
all_lie ds [] texts end = texts_lie texts end
all_lie ds (o ∷ os) texts end = (refl, all_lie ds os texts (after (global_after ds end o)))
