-- Each object of static storage is lawful.
use Rattle.std.proofs.Common.{◌≡◌, ℕ, zero, suc, ◌*◌, ◌^◌, ◌<◌, ◌≤◌, nat_le, arith, Bool, true, false, ◌&&◌, ◌==◌, IsTrue, List, [], ◌∷◌, map, length, slice_get, Option, Some, None, refl, sym, ap, subst, if◌then◌else◌, is_some, eqb-true, leb-true, le_trans}
use Rattle.std.specs.Prelude.{All}
use Rattle.std.proofs.lemmas.List.Elements.{All-nil, All-cons}
use Rattle.bk_arithmetic.specs.declared.integer_type.IntegerType.{IntegerType}
use Rattle.mem_objects.specs.declared.TheConstants.{MOST_DATA}
use Rattle.mem_objects.specs.declared.DataObject.{DataObject}
use Rattle.mem_objects.specs.declared.DataCell.{DataCell}
use Rattle.mem_objects.specs.declared.DataCell.TheVariants.{Byte, AddressPart}
use Rattle.mem_objects.specs.Globals.{IsLawfulCell, IsLawfulObject, AreLawful}
use Rattle.mem_objects.specs.Layout.{ObjectsLieFrom}
use Rattle.c_typed_tree.specs.declared.types.StructDef.{StructDef}
use Rattle.c_typed_tree.specs.Types.{PlainType, Void, Int, Pointer, Array, Struct}
use Rattle.c_typed_tree.specs.Constants.{is_integer}
use Rattle.c_typed_tree.specs.Layout.{is_complete, is_object, size_of, struct_size}
use Rattle.c_typed_tree.specs.Typing.{is_valid_type}
use Rattle.c_typed_tree.specs.View.{type_view}
use Rattle.c_typed_tree.specs.Lawful.{IsStruct, IsLawfulStruct}
use Rattle.c_typing_globals.specs.declared.objects.UnitObject.{UnitObject}
use Rattle.c_typing_globals.specs.Globals.{global_after, text_at, globals}
use Rattle.c_typing_struct_layout.proofs.CLayoutLaws.Truth.{no_true, back, all_at}
use Rattle.mem_model.specs.Bytes.{AreBytes}
use Rattle.c_typing_initialiser_sound.specs.c_initial_value_laws.Cells.{IsCellIn}
use Rattle.c_typing_initialiser_sound.specs.c_global_laws.Laws.{IsLawfulIn, AreLawfulIn, AreNotedTexts}
use Rattle.c_typing_initialiser_sound.proofs.CGlobalLaws.Places.{after, laid_texts, laid_objects, all_laid, all_lie}

-- ---- sizes

struct_small : (ds : List StructDef) → All (IsLawfulStruct ds) ds → (number : ℕ) (o : Option StructDef) → slice_get ds number ≡ o → IsTrue (is_complete o) → struct_size o ≤ MOST_DATA
struct_small ds lawful number None e h = no_true h
struct_small ds lawful number (Some d) e h = by d.complete h (all_at (IsLawfulStruct ds) ds number d lawful e)
  where
    by : (b : Bool) → IsTrue b → IsStruct ds d b → d.size ≤ MOST_DATA
    by true h s = s.size
    by false h s = no_true h

pick : {X : Type 0} (n k : ℕ) (u : IntegerType) (rest : Option IntegerType) → IsTrue (is_some (if n == k then Some u else rest)) → (n ≡ k → X) → (IsTrue (is_some rest) → X) → X
pick {X} n k u rest h f g = of (n == k) refl h
  where
    of : (b : Bool) → n == k ≡ b → IsTrue (is_some (if b then Some u else rest)) → X
    of true e i = f (eqb-true n k e)
    of false e i = g i

small_integer : (n : ℕ) (s : Bool) → IsTrue (is_integer (Int n s)) → n ≤ 8
small_integer n true h = pick n 1 _ _ h (λ e. omega arith) (λ h. pick n 2 _ _ h (λ e. omega arith) (λ h. pick n 4 _ _ h (λ e. omega arith) (λ h. pick n 8 _ _ h (λ e. omega arith) (λ h. no_true h))))
small_integer n false h = pick n 1 _ _ h (λ e. omega arith) (λ h. pick n 2 _ _ h (λ e. omega arith) (λ h. pick n 4 _ _ h (λ e. omega arith) (λ h. pick n 8 _ _ h (λ e. omega arith) (λ h. no_true h))))

pub object_small : (ds : List StructDef) → All (IsLawfulStruct ds) ds → (x : PlainType) → IsTrue (is_valid_type ds x) → IsTrue (is_object ds x) → size_of ds x ≤ MOST_DATA
object_small ds lawful Void h g = no_true g
object_small ds lawful (Int n s) h g = le_trans (small_integer n s h) (leb-true 8 MOST_DATA refl)
object_small ds lawful (Pointer x) h g = leb-true 8 MOST_DATA refl
object_small ds lawful (Array x n) h g = leb-true (size_of ds x * n) MOST_DATA (back (is_object ds x && nat_le 1 n) (nat_le (size_of ds x * n) MOST_DATA) g)
object_small ds lawful (Struct n) h g = struct_small ds lawful n (slice_get ds n) refl g

-- ---- cells

-- cells of an object that may be written
cell_lawful : (all : List DataObject) (o : DataObject) (at : ℕ) (c : DataCell) → o.writable ≡ true → IsCellIn all o.cells at c → IsLawfulCell all o at c
cell_lawful all o at (Byte b) e h = h
cell_lawful all o at (AddressPart global plus part) e h = (e, h.0, h.1)

object_lawful : (ds : List StructDef) (all : List DataObject) (end : ℕ) (o : UnitObject) → All (IsLawfulStruct ds) ds → IsLawfulIn ds all o → IsLawfulObject all (global_after ds end o)
object_lawful ds all end o lawful h = record {
  size = object_small ds lawful (type_view o.ty) h.type h.object;
  cells = h.cells.within;
  lawful = λ at c e. cell_lawful all (global_after ds end o) at c refl (h.cells.lawful at c e);
}

none_some : {A X : Type 0} {a : A} → None ≡ Some a → X
none_some e = let clash : ⊥ = cc in absurd clash

same : {A : Type 0} {a b : A} → Some a ≡ Some b → a ≡ b
same e = cc

mapped_length : (bytes : List ℕ) → length (map Byte bytes) ≡ length bytes
mapped_length [] = refl
mapped_length (b ∷ bytes) = ap suc (mapped_length bytes)

byte_lawful : (all : List DataObject) (o : DataObject) (bytes : List ℕ) (k at : ℕ) (c : DataCell) → AreBytes bytes → slice_get (map Byte bytes) k ≡ Some c → IsLawfulCell all o at c
byte_lawful all o [] k at c h e = none_some e
byte_lawful all o (b ∷ bytes) zero at c h e = subst (IsLawfulCell all o at) (same e) h.0
byte_lawful all o (b ∷ bytes) (suc k) at c h e = byte_lawful all o bytes k at c h.1 e

as_long : (n m most : ℕ) → n ≡ m → n ≤ m
as_long n m most e = omega arith

text_lawful : (all : List DataObject) (end : ℕ) (text : List ℕ) → AreBytes text → length text ≤ MOST_DATA → IsLawfulObject all (text_at end text)
text_lawful all end text bytes small = record {
  size = small;
  cells = as_long (length (map Byte text)) (length text) 0 (mapped_length text);
  lawful = λ at c e. byte_lawful all (text_at end text) text at at c bytes e;
}

-- ---- all of them

texts_lawful : (all : List DataObject) (texts : List (List ℕ)) (end : ℕ) → AreNotedTexts texts → All (IsLawfulObject all) (laid_texts end texts)
texts_lawful all [] end h = All-nil (IsLawfulObject all)
texts_lawful all (text ∷ texts) end h =
    All-cons (IsLawfulObject all) (text_at end text) (laid_texts (after (text_at end text)) texts) (text_lawful all end text h.0.bytes h.0.small) (texts_lawful all texts (after (text_at end text)) h.1)

objects_lawful : (ds : List StructDef) (all : List DataObject) (os : List UnitObject) (texts : List (List ℕ)) (end : ℕ) → All (IsLawfulStruct ds) ds → AreLawfulIn ds all os → AreNotedTexts texts → All (IsLawfulObject all) (laid_objects ds end os texts)
objects_lawful ds all [] texts end lawful h g = texts_lawful all texts end g
objects_lawful ds all (o ∷ os) texts end lawful h g =
    All-cons (IsLawfulObject all) (global_after ds end o) (laid_objects ds (after (global_after ds end o)) os texts) (object_lawful ds all end o lawful h.0) (objects_lawful ds all os texts (after (global_after ds end o)) lawful h.1 g)

pub all_lawful : (ds : List StructDef) (os : List UnitObject) (texts : List (List ℕ)) → All (IsLawfulStruct ds) ds → (let all = globals ds os texts in AreLawfulIn ds all os → AreNotedTexts texts → length all < 2 ^ 32 → AreLawful all)
all_lawful ds os texts lawful h g count = record {
  count = count;
  layout = subst (λ all. ObjectsLieFrom 0 all) (sym (all_laid ds os texts)) (all_lie ds os texts 0);
  objects = subst (λ xs. All (IsLawfulObject (globals ds os texts)) xs) (sym (all_laid ds os texts)) (objects_lawful ds (globals ds os texts) os texts 0 lawful h g);
}
