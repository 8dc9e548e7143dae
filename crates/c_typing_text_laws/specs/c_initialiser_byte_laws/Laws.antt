-- The string literals in initialisers stand for bytes (C99 6.4.5, 6.7.8).
use Rattle.std.specs.Prelude.{ℕ, List, All, Some}
use Rattle.c_tree.specs.declared.declarations.FunctionEnd.TheVariants.{Init}
use Rattle.c_tree.specs.declared.declarations.External.{External}
use Rattle.c_tree.specs.declared.declarations.External.TheVariants.{Object, Function}
use Rattle.c_tree.specs.declared.declarations.TranslationUnit.{TranslationUnit}
use Rattle.c_parser.specs.Reading.{IsRead}
use Rattle.mem_model.specs.Bytes.{AreBytes}
use Rattle.c_typing_initialiser_sound.specs.c_initialiser_laws.Laws.{HoldsBytes}

-- those in the initialiser of a declaration, if it has one
abbrev pub HasBytes : External → Type 0
HasBytes (Object d storage (Some init)) = HoldsBytes init
HasBytes (Function d storage (Init init)) = HoldsBytes init
HasBytes _ = Unit {0}

-- those in all initialisers of a text
abbrev pub InitialisersHoldBytes : Type 0
InitialisersHoldBytes =
    (text : List ℕ) (tree : TranslationUnit) → AreBytes text → IsRead text tree → All HasBytes tree.externals
