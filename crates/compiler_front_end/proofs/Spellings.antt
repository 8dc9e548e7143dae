-- In the tree of a text the names of functions are identifiers, and the literals in initialisers hold bytes.
use Rattle.std.proofs.Common.{ℕ, List, IsTrue, Some, refl, All}
use Rattle.std.proofs.lemmas.List.Elements.{All-head, All-tail, All-weaker}
use Rattle.c_tree.specs.declared.declarations.FunctionEnd.TheVariants as f
use Rattle.c_tree.specs.declared.declarations.External.{External}
use Rattle.c_tree.specs.declared.declarations.External.TheVariants as x
use Rattle.c_tree.specs.declared.declarations.Init.{Init}
use Rattle.c_tree.specs.declared.declarations.TranslationUnit.{TranslationUnit}
use Rattle.c_typed_tree.specs.declared.units.TypedUnit.{TypedUnit}
use Rattle.c_typed_tree.specs.Lawful.{is_identifier, IsLawfulUnit}
use Rattle.c_parser.specs.Reading.{IsRead}
use Rattle.c_typing_text_laws.specs.c_text_bytes.Bytes.{AreBytes}
use Rattle.c_typing_text_laws.specs.c_identifier_laws.Identifiers.{HasIdentifier}
use Rattle.c_typing_text_laws.proofs.CIdentifierLaws.Declarations.{read_names}
use Rattle.c_typing_text_laws.specs.c_initialiser_byte_laws.Laws.{HasBytes}
use Rattle.c_typing_text_laws.proofs.CInitialiserByteLaws.Initialisers.{read_bytes}
use Rattle.c_types.specs.FunctionNames.{passes}
use Rattle.c_types.specs.Initialisers.{HoldsBytes}
use Rattle.c_types.specs.Walks.{IsInitialiserIn, Here, There}
use Rattle.c_types.specs.Spellings.{HasSpellings}

named : (e : External) → HasIdentifier e → IsTrue (passes is_identifier e)
named (x.Typedef d) h = refl
named (x.Object d storage init) h = refl
named (x.Function d storage f.Nothing) h = refl
named (x.Function d storage (f.Init init)) h = refl
named (x.Function d storage (f.Body list)) h = h.letters
named (x.Tags storage ty) h = refl

held : {init : Init} {es : List External} → IsInitialiserIn init es → All HasBytes es → HoldsBytes init
held {init = init} (Here {e = e} {storage = storage} {es = es}) all = All-head HasBytes (x.Object e storage (Some init)) es all
held (There {e = e} {es = es} there) all = held there (All-tail HasBytes e es all)

spelled : (t : List ℕ) (tree : TranslationUnit) → AreBytes t → IsRead t tree → HasSpellings tree
spelled t tree bytes read = record {
  names = All-weaker HasIdentifier (λ e. IsTrue (passes is_identifier e)) named tree.externals (read_names t tree read);
  initialisers = λ init there. held there (read_bytes t tree bytes read);
}

-- so what is lawful where the tree is spelled so is lawful
pub lawful : (t : List ℕ) (tree : TranslationUnit) (typed : TypedUnit) → AreBytes t → IsRead t tree → (HasSpellings tree → IsLawfulUnit typed) → IsLawfulUnit typed
lawful t tree typed bytes read is = is (spelled t tree bytes read)
