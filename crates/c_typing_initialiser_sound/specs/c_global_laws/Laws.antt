-- Where objects of static storage stand among all of them, and that they are lawful (C99 6.2.4, 6.4.5).
use Rattle.std.specs.Prelude.{◌≡◌, ℕ, ◌+◌, ◌^◌, ◌<◌, ◌≤◌, IsTrue, List, [], ◌∷◌, All, length, slice_get, Some}
use Rattle.mem_objects.specs.declared.TheConstants.{MOST_DATA}
use Rattle.mem_objects.specs.declared.DataObject.{DataObject}
use Rattle.mem_objects.specs.Globals.{AreLawful}
use Rattle.c_typed_tree.specs.declared.types.StructDef.{StructDef}
use Rattle.c_typed_tree.specs.Layout.{is_object, size_of}
use Rattle.c_typed_tree.specs.Typing.{is_valid_type}
use Rattle.c_typed_tree.specs.View.{type_view}
use Rattle.c_typed_tree.specs.Lawful.{IsLawfulStruct}
use Rattle.c_typing_globals.specs.declared.objects.UnitObject.{UnitObject}
use Rattle.c_typing_globals.specs.Globals.{global_after, text_at, globals}
use Rattle.mem_model.specs.Bytes.{AreBytes}
use Rattle.c_typing_initialiser_sound.specs.c_initial_value_laws.Cells.{AreInitialCells}

-- an object with a name stands at its number, and a text behind all of them, each somewhere
pub record HasObject (structs : List StructDef) (all : List DataObject) (k : ℕ) (o : UnitObject) : Type 0 where
  pub end : ℕ
  pub there : slice_get all k ≡ Some (global_after structs end o)

pub record HasTextObject (all : List DataObject) (k : ℕ) (text : List ℕ) : Type 0 where
  pub end : ℕ
  pub there : slice_get all k ≡ Some (text_at end text)

pub record AreThere (structs : List StructDef) (os : List UnitObject) (texts : List (List ℕ)) : Type 0 where
  pub objects : (k : ℕ) (o : UnitObject) → slice_get os k ≡ Some o → HasObject structs (globals structs os texts) k o
  pub strings : (k : ℕ) (text : List ℕ) → slice_get texts k ≡ Some text →
      HasTextObject (globals structs os texts) (length os + k) text

abbrev pub GlobalsAreThere : Type 0
GlobalsAreThere =
    (structs : List StructDef) (os : List UnitObject) (texts : List (List ℕ)) → AreThere structs os texts

-- an object of a type, whose cells are lawful
pub record IsLawfulIn (structs : List StructDef) (all : List DataObject) (o : UnitObject) : Type 0 where
  pub type : IsTrue (is_valid_type structs (type_view o.ty))
  pub object : IsTrue (is_object structs (type_view o.ty))
  pub cells : AreInitialCells all (size_of structs (type_view o.ty)) o.cells

abbrev pub AreLawfulIn : List StructDef → List DataObject → List UnitObject → Type 0
AreLawfulIn structs all [] = Unit {0}
AreLawfulIn structs all (o ∷ os) = IsLawfulIn structs all o × AreLawfulIn structs all os

-- bytes of a text, its closing zero among them, no more than an object has
pub record IsText (text : List ℕ) : Type 0 where
  pub bytes : AreBytes text
  pub some : 1 ≤ length text
  pub small : length text ≤ MOST_DATA

abbrev pub AreNotedTexts : List (List ℕ) → Type 0
AreNotedTexts [] = Unit {0}
AreNotedTexts (text ∷ texts) = IsText text × AreNotedTexts texts

abbrev pub GlobalsAreLawful : Type 0
GlobalsAreLawful =
    (structs : List StructDef) (os : List UnitObject) (texts : List (List ℕ)) → All (IsLawfulStruct structs) structs →
    (let all = globals structs os texts in
    AreLawfulIn structs all os → AreNotedTexts texts → length all < 2 ^ 32 → AreLawful all)
