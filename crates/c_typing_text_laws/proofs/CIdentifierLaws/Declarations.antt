-- What a text declares at file scope has the name of one of its tokens.
use Rattle.std.proofs.Common.{ℕ, Bool, true, false, List, [], ◌∷◌, ◌++◌, Option, Some, None, IfSome, All}
use Rattle.std.proofs.lemmas.List.Elements.{All-nil, All-cons, All-append}
use Rattle.c_lexer.specs.Pieces.{Lexeme}
use Rattle.c_tree.specs.declared.types.TypeNode.{TypeNode}
use Rattle.c_tree.specs.declared.types.Declaration.{Declaration}
use Rattle.c_tree.specs.declared.declarations.Storage.{Storage}
use Rattle.c_tree.specs.declared.declarations.Init.{Init}
use Rattle.c_tree.specs.declared.declarations.External.{External}
use Rattle.c_tree.specs.declared.declarations.TranslationUnit.{TranslationUnit}
use Rattle.c_parser_grammar.specs.declared.shapes.DeclaredName.{DeclaredName}
use Rattle.c_parser_grammar.specs.declared.shapes.Declarator.{Declarator}
use Rattle.c_parser_grammar.specs.declared.shapes.NameRequirement.{NameRequirement}
use Rattle.c_parser_grammar.specs.Tokens.{TypeNames}
use Rattle.c_parser_grammar.specs.Types.{declaration_of}
use Rattle.c_parser_grammar.specs.Grammar.{IsDeclarator}
use Rattle.c_parser_grammar.specs.Specifiers.{IsDeclared}
use Rattle.c_parser_grammar.specs.Units.{external_of, is_function, IsObject, AreObjects, AreTypedefs, IsExternal, AreExternals}
use Rattle.c_parser.specs.Reading.{IsRead}
use Rattle.c_typing_text_laws.specs.c_identifier_laws.Identifiers.{IsIdentifier, HasIdentifier}
use Rattle.c_typing_text_laws.proofs.CIdentifierLaws.Spellings.{AreSpelled, both, named_spelling, tokens_spelled}

-- ---- declarators

abbrev HasName : Option DeclaredName → Type 0
HasName o = IfSome o (λ u. IsIdentifier u.name)

declarator_name : {s : TypeNames} {naming : NameRequirement} {m : ℕ} {ts : List Lexeme} {d : Declarator} → IsDeclarator s naming m ts d → AreSpelled ts → HasName d.name
declarator_name (IsDeclarator.star t a b d low kind consts rest) h = declarator_name rest (both a b h.1).1
declarator_name (IsDeclarator.own_name t kind takes) h = named_spelling t h.0 kind
declarator_name (IsDeclarator.no_name may) h = tt
declarator_name (IsDeclarator.group l t a r d lk kind rest rk) h = declarator_name rest (both (t ∷ a) (r ∷ []) h.1).0
declarator_name (IsDeclarator.open_array a l r d rest lk rk) h = declarator_name rest (both a (l ∷ r ∷ []) h).0
declarator_name (IsDeclarator.array a l b r d x rest lk length rk) h = declarator_name rest (both a (l ∷ b ++ r ∷ []) h).0
declarator_name (IsDeclarator.function a l b r d xs rest lk params rk) h = declarator_name rest (both a (l ∷ b ++ r ∷ []) h).0

declared_name : {s : TypeNames} {naming : NameRequirement} {ty : TypeNode} {ts : List Lexeme} {d : Declaration} → IsDeclared s naming ty ts d → AreSpelled ts → IsIdentifier d.name
declared_name (IsDeclared.of a u shapes g) h = declarator_name g h

-- ---- declarations

external_name : (takes : Bool) (d : Declaration) (storage : Option Storage) (v : Option Init) → IsIdentifier d.name → HasIdentifier (external_of takes d storage v)
external_name true d storage v h = h
external_name false d storage v h = h

object_name : {s : TypeNames} {storage : Option Storage} {ty : TypeNode} {ts : List Lexeme} {v : External} → IsObject s storage ty ts v → AreSpelled ts → HasIdentifier v
object_name {storage = storage} {ty = ty} (IsObject.plain a u shapes g) h = external_name (is_function shapes) (declaration_of ty u shapes) storage None (declarator_name g h)
object_name {storage = storage} {ty = ty} (IsObject.with_init a t b u shapes v g kind init) h =
    external_name (is_function shapes) (declaration_of ty u shapes) storage (Some v) (declarator_name g (both a (t ∷ b) h).0)

one_name : (e : External) → HasIdentifier e → All HasIdentifier (e ∷ [])
one_name e h = All-cons HasIdentifier e [] h (All-nil HasIdentifier)

object_names : {s : TypeNames} {storage : Option Storage} {ty : TypeNode} {ts : List Lexeme} {vs : List External} → AreObjects s storage ty ts vs → AreSpelled ts → All HasIdentifier vs
object_names (AreObjects.one a v g) h = one_name v (object_name g h)
object_names (AreObjects.more a t b v vs g kind rest) h =
    let r = both a (t ∷ b) h in All-cons HasIdentifier v vs (object_name g r.0) (object_names rest r.1.1)

typedef_names : {s : TypeNames} {ty : TypeNode} {ts : List Lexeme} {vs : List External} {z : TypeNames} → AreTypedefs s ty ts vs z → AreSpelled ts → All HasIdentifier vs
typedef_names (AreTypedefs.one a d g) h = one_name _ (declared_name g h)
typedef_names (AreTypedefs.more a t b d vs z g kind rest) h =
    let r = both a (t ∷ b) h in All-cons HasIdentifier _ vs (declared_name g r.0) (typedef_names rest r.1.1)

external_names : {s : TypeNames} {ts : List Lexeme} {vs : List External} {z : TypeNames} → IsExternal s ts vs z → AreSpelled ts → All HasIdentifier vs
external_names (IsExternal.typedefs t a b r ty vs z kind spec g rk) h = typedef_names g (both b (r ∷ []) (both a (b ++ r ∷ []) h.1).1).0
external_names (IsExternal.tags a b r storage ty st spec rk) h = one_name _ tt
external_names (IsExternal.objects a b c r storage ty vs st spec g rk) h =
    object_names g (both c (r ∷ []) (both b (c ++ r ∷ []) (both a (b ++ (c ++ r ∷ [])) h).1).1).0
external_names (IsExternal.function a b c l e r storage ty d body st spec g lk items rk) h =
    one_name _ (declared_name g
    (both c (l ∷ e ++ r ∷ []) (both b (c ++ (l ∷ e ++ r ∷ [])) (both a (b ++ (c ++ (l ∷ e ++ r ∷ []))) h).1).1).0)

all_names : {s : TypeNames} {ts : List Lexeme} {vs : List External} → AreExternals s ts vs → AreSpelled ts → All HasIdentifier vs
all_names AreExternals.none h = All-nil HasIdentifier
all_names (AreExternals.more a b vs us z g rest) h =
    let r = both a b h in All-append HasIdentifier vs us (external_names g r.0) (all_names rest r.1)

pub read_names : (text : List ℕ) (tree : TranslationUnit) → IsRead text tree → All HasIdentifier tree.externals
read_names text tree h = all_names h.reads.externals (tokens_spelled text h.toks h.are_tokens)
