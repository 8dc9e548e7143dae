-- A typed unit that is made of what is known behind the last declaration of a unit.
use Rattle.std.specs.Prelude.{◌≡◌, ℕ, IsTrue, List, [], ◌∷◌, All, length, slice_get, Some}
use Rattle.c_tree.specs.declared.declarations.Init.{Init}
use Rattle.c_tree.specs.declared.declarations.TranslationUnit.{TranslationUnit}
use Rattle.c_typed_tree.specs.declared.units.TypedFn.{TypedFn}
use Rattle.c_typed_tree.specs.declared.units.TypedUnit.{TypedUnit}
use Rattle.c_typed_tree.specs.Lawful.{is_identifier}
use Rattle.c_typing_globals.specs.Globals.{globals}
use Rattle.c_typing_struct_bodies.specs.Bodies.{TagScope}
use Rattle.c_typing_declarations.specs.declared.walk.UnitFunction.{UnitFunction}
use Rattle.c_typing_declarations.specs.declared.walk.UnitSoFar.{UnitSoFar}
use Rattle.c_types.specs.c_unit_object_laws.Units.{whole_unit}
use Rattle.c_typing_function_sound.specs.c_typing_height_laws.c_function_name_laws.Laws.{passes}
use Rattle.mem_model.specs.Bytes.{AreBytes}
use Rattle.c_typing_initialiser_sound.specs.c_initialiser_laws.Laws.{HoldsBytes}
use Rattle.c_types.specs.Units.{notes_in}
use Rattle.c_types.specs.c_unit_object_laws.Walks.{IsInitialiserIn}

-- a function was kept with this number
pub record IsKeptAs (fs : List UnitFunction) (k : ℕ) (f : TypedFn) : Type 0 where
  pub place : ℕ
  pub there : slice_get fs place ≡ Some (record { number = k; function = f })

pub record TypedIsMadeOf (s : UnitSoFar × TagScope) (typed : TypedUnit) : Type 0 where
  pub structs : typed.structs ≡ (notes_in s).structs
  pub globals : typed.globals ≡ globals (notes_in s).structs s.0.objects (notes_in s).texts
  pub functions : (k : ℕ) (f : TypedFn) → slice_get typed.functions k ≡ Some f → IsKeptAs s.0.functions k f
  pub count : length typed.functions ≡ s.0.names.functions

-- each text holds bytes
abbrev pub HaveBytes : List (List ℕ) → Type 0
HaveBytes [] = Unit {0}
HaveBytes (text ∷ texts) = AreBytes text × HaveBytes texts

-- what the text of a unit gives besides: names of functions are identifiers, and literals hold bytes
pub record IsSpelled (unit : TranslationUnit) : Type 0 where
  pub names : All (λ e. IsTrue (passes is_identifier e)) unit.externals
  pub initialisers : (x : Init) → IsInitialiserIn x unit.externals → HoldsBytes x
  pub texts : HaveBytes (notes_in (whole_unit unit)).texts
