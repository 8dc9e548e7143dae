-- How units are read.
use Rattle.std.specs.Prelude.{ℕ, zero, suc, if◌then◌else◌, List, [], ◌∷◌, ◌++◌, length, Option, Some, None, Result, Ok, Err}
use Rattle.c_lexer.specs.declared.token.Punct.TheVariants as p
use Rattle.c_lexer.specs.Pieces.{Lexeme, Toks}
use Rattle.c_tree.specs.declared.types.TypeNode.{TypeNode}
use Rattle.c_tree.specs.declared.types.Declaration.{Declaration}
use Rattle.c_tree.specs.declared.declarations.Storage.{Storage}
use Rattle.c_tree.specs.declared.declarations.Storage.TheVariants as g
use Rattle.c_tree.specs.declared.declarations.Init.{Init}
use Rattle.c_tree.specs.declared.declarations.Init as i
use Rattle.c_tree.specs.declared.declarations.FunctionEnd.TheVariants as f
use Rattle.c_tree.specs.declared.declarations.External.{External}
use Rattle.c_tree.specs.declared.declarations.External.TheVariants as x
use Rattle.c_tree.specs.declared.declarations.TranslationUnit.{TranslationUnit}
use Rattle.c_parser_grammar.specs.declared.classes.StorageClass.{StorageClass}
use Rattle.c_parser_grammar.specs.declared.classes.StorageClass.TheVariants as o
use Rattle.c_parser_grammar.specs.declared.shapes.Shape.{Shape}
use Rattle.c_parser_grammar.specs.declared.shapes.DeclaredName.{DeclaredName}
use Rattle.c_parser_grammar.specs.declared.shapes.Declarator.{Declarator}
use Rattle.c_parser_grammar.specs.declared.shapes.NameRequirement.TheVariants as nm
use Rattle.c_parser_grammar.specs.Classes.{storage_class_of}
use Rattle.c_parser_grammar.specs.Levels as levels
use Rattle.c_parser_grammar.specs.Tokens.{TypeNames, token_place, is_mark, kind_at, token_tail}
use Rattle.c_parser_grammar.specs.Types.{declaration_of, without_body}
use Rattle.c_parser_grammar.specs.Units.{is_function, external_of, with_type}
use Rattle.c_parser_grammar.specs.Parser.{ParseOutcome, Parser, and_then, ◌>>=◌, pure, expect}
use Rattle.c_parser_grammar.specs.ParseExpr.{expr, declarator}
use Rattle.c_parser_grammar.specs.ParseSpecifiers.{declaration, braced_list_from, specifier}
use Rattle.c_parser_grammar.specs.ParseStatements.{items_from, stmt}

-- over initialisers that are read a level below
module _ (s : TypeNames) (n : ℕ) (init : Parser Init) where
  unfoldable pub init_list : ℕ → Parser Init
  init_list at ts =
      and_then (braced_list_from init (length ts) [] ts) (λ vs. expect p.RightBrace >>= λ _. pure (i.List at vs))

  unfoldable pub init_value : Parser Init
  init_value ts = and_then (expr s n levels.assignment ts) (λ v. pure (i.Value v))

  abbrev pub init_by : Parser Init
  init_by ts = if is_mark p.LeftBrace (kind_at ts) then init_list (token_place ts) (token_tail ts) else init_value ts

unfoldable pub init : TypeNames → ℕ → Parser Init
init s zero ts = Err ts
init s (suc n) ts = init_by s (suc n) (init s n) ts

-- the declarators of a `typedef`: the names of types grow from one to the next
unfoldable pub typedefs_from : TypeNames → ℕ → ℕ → TypeNode → List External → Parser (List External × TypeNames)
typedefs_from s n zero ty found ts = Err ts
typedefs_from s n (suc j) ty found ts = and_then (declaration s n nm.Required ty ts) (λ d r.
    if is_mark p.Comma (kind_at r) then typedefs_from (with_type s d.name) n j (without_body ty)
    (found ++ x.Typedef d ∷ [])
    (token_tail r)
    else Ok ((found ++ x.Typedef d ∷ [], with_type s d.name), r))

unfoldable pub typedefs : TypeNames → ℕ → Parser (List External × TypeNames)
typedefs s n ts =
    and_then (specifier s n ts) (λ ty r. and_then (typedefs_from s n (length r) ty [] r)
    (λ q. expect p.Semicolon >>= λ _. pure q))

module _ (s : TypeNames) (n : ℕ) (storage : Option Storage) where
  -- behind a declarator
  unfoldable pub object_by : TypeNode → DeclaredName → List Shape → Parser External
  object_by ty u shapes ts =
      if is_mark p.Assign (kind_at ts) then and_then (init s n (token_tail ts))
      (λ v. pure (external_of (is_function shapes) (declaration_of ty u shapes) storage (Some v)))
      else Ok (external_of (is_function shapes) (declaration_of ty u shapes) storage None, ts)

  abbrev pub object_named : TypeNode → Option DeclaredName → List Shape → Parser External
  object_named ty (Some u) shapes ts = object_by ty u shapes ts
  object_named ty None shapes ts = Err ts

  unfoldable pub objects_from : ℕ → TypeNode → List External → Parser (List External)
  objects_from zero ty found ts = Err ts
  objects_from (suc j) ty found ts =
      and_then (declarator s n nm.Required ts) (λ d. object_named ty d.name d.shapes >>= λ v r.
      if is_mark p.Comma (kind_at r) then objects_from j (without_body ty) (found ++ v ∷ []) (token_tail r)
      else Ok (found ++ v ∷ [], r))

  -- behind the first declarator
  unfoldable pub objects_behind : TypeNode → DeclaredName → List Shape → Parser (List External)
  objects_behind ty u shapes ts = and_then (object_by ty u shapes ts) (λ v r.
      if is_mark p.Comma (kind_at r) then objects_from (length (token_tail r)) (without_body ty) (v ∷ []) (token_tail r)
      else Ok (v ∷ [], r))

  -- behind the brace of a body
  unfoldable pub body_behind : Declaration → Parser (List External)
  body_behind d ts =
      and_then (items_from s n (stmt s n) (length ts) [] ts) (λ body. pure (x.Function d storage (f.Body body) ∷ []))

  unfoldable pub objects_named : TypeNode → DeclaredName → List Shape → Parser (List External)
  objects_named ty u shapes ts =
      if is_mark p.LeftBrace (kind_at ts) then body_behind (declaration_of ty u shapes) (token_tail ts)
      else and_then (objects_behind ty u shapes ts) (λ vs. expect p.Semicolon >>= λ _. pure vs)

  abbrev pub objects_by : TypeNode → Declarator → Option DeclaredName → Parser (List External)
  objects_by ty d (Some u) ts = objects_named ty u d.shapes ts
  objects_by ty d None ts = Err ts

  -- behind the type
  unfoldable pub behind_type : TypeNode → Parser (List External)
  behind_type ty ts = if is_mark p.Semicolon (kind_at ts) then Ok (x.Tags storage ty ∷ [], token_tail ts)
      else and_then (declarator s n nm.Required ts) (λ d. objects_by ty d d.name)

  -- behind the storage word
  unfoldable pub behind_storage : Parser (List External × TypeNames)
  behind_storage ts = and_then (specifier s n ts) (λ ty. behind_type ty >>= λ vs. pure (vs, s))

abbrev pub external_at : TypeNames → ℕ → StorageClass → Parser (List External × TypeNames)
external_at s n o.Typedef ts = typedefs s n (token_tail ts)
external_at s n o.Static ts = behind_storage s n (Some g.Static) (token_tail ts)
external_at s n o.Extern ts = behind_storage s n (Some g.Extern) (token_tail ts)
external_at s n o.Other ts = behind_storage s n None ts

unfoldable pub external : TypeNames → ℕ → Parser (List External × TypeNames)
external s n ts = external_at s n (storage_class_of (kind_at ts)) ts

abbrev pub externals_behind : ParseOutcome (List External × TypeNames)
    → (List External × TypeNames → List Lexeme → Result (List External) (List Lexeme))
    → Result (List External) (List Lexeme)
externals_behind (Ok q) f = f q.0 q.1
externals_behind (Err r) f = Err r

unfoldable pub externals_from : ℕ → TypeNames → List External → List Lexeme → Result (List External) (List Lexeme)
externals_from zero s found ts = Ok found
externals_from (suc j) s found [] = Ok found
externals_from (suc j) s found (t ∷ ts) =
    externals_behind (external s (length (t ∷ ts)) (t ∷ ts)) (λ q r. externals_from j q.1 (found ++ q.0) r)

-- The unit that the tokens of a text spell, or the tokens from the refused one on.
abbrev pub unit_of : ℕ → Result (List External) (List Lexeme) → Result TranslationUnit (List Lexeme)
unit_of length (Ok vs) = Ok (record { externals = vs; length = length })
unit_of length (Err r) = Err r

abbrev pub unit : Toks → Result TranslationUnit (List Lexeme)
unit toks = unit_of toks.size (externals_from (length toks.items) [] [] toks.items)
