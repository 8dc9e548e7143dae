-- How specifiers with braces are read.
use Rattle.std.specs.Prelude.{ℕ, zero, suc, if◌then◌else◌, List, [], ◌∷◌, ◌++◌, length, Option, Some, None, Ok, Err}
use Rattle.c_lexer.specs.declared.token.Punct.TheVariants as p
use Rattle.c_tree.specs.declared.types.TypeNode.{TypeNode}
use Rattle.c_tree.specs.declared.types.TypeNode as y
use Rattle.c_tree.specs.declared.types.Declaration.{Declaration}
use Rattle.c_tree.specs.declared.types.Constant.{Constant}
use Rattle.c_parser_grammar.specs.declared.classes.Specifier.{Specifier}
use Rattle.c_parser_grammar.specs.declared.classes.Specifier.TheVariants as c
use Rattle.c_parser_grammar.specs.declared.shapes.Shape.{Shape}
use Rattle.c_parser_grammar.specs.declared.shapes.DeclaredName.{DeclaredName}
use Rattle.c_parser_grammar.specs.declared.shapes.NameRequirement.{NameRequirement}
use Rattle.c_parser_grammar.specs.declared.shapes.NameRequirement.TheVariants as nm
use Rattle.c_parser_grammar.specs.WordSets.{no_words}
use Rattle.c_parser_grammar.specs.Levels as levels
use Rattle.c_parser_grammar.specs.Tokens.{TypeNames, token_place, is_mark, is_name_token, kind_at, spelling_at, token_tail, is_type_at}
use Rattle.c_parser_grammar.specs.Types.{declaration_of, without_body}
use Rattle.c_parser_grammar.specs.Parser.{Parser, and_then, ◌>>=◌, pure, expect, consts}
use Rattle.c_parser_grammar.specs.ParseExpr.{specifier_from, tag_type, expr, declarator}

-- a declarator that has a name
abbrev pub named_by : TypeNode → Option DeclaredName → List Shape → Parser Declaration
named_by ty (Some u) shapes ts = Ok (declaration_of ty u shapes, ts)
named_by ty None shapes ts = Err ts

unfoldable pub declaration : TypeNames → ℕ → NameRequirement → TypeNode → Parser Declaration
declaration s n naming ty ts = and_then (declarator s n naming ts) (λ d. named_by ty d.name d.shapes)

-- elements with commas between, and perhaps one before the brace that closes
unfoldable pub braced_list_from : {A : Type 0} → Parser A → ℕ → List A → Parser (List A)
braced_list_from item zero found ts = Err ts
braced_list_from item (suc j) found ts = and_then (item ts) (λ x r.
    if is_mark p.Comma (kind_at r) then (if is_mark p.RightBrace (kind_at (token_tail r))
    then Ok (found ++ x ∷ [], token_tail r) else braced_list_from item j (found ++ x ∷ []) (token_tail r))
    else Ok (found ++ x ∷ [], r))

module _ (s : TypeNames) (n : ℕ) where
  abbrev pub enumerator_value : ℕ → List ℕ → Parser Constant
  enumerator_value at name ts =
      if is_mark p.Assign (kind_at ts) then and_then (expr s n levels.conditional (token_tail ts))
      (λ x. pure (record { at = at; name = name; value = Some x }))
      else Ok (record { at = at; name = name; value = None }, ts)

  unfoldable pub enumerator : Parser Constant
  enumerator ts =
      if is_name_token (kind_at ts) then (if is_type_at s ts then Err ts
      else enumerator_value (token_place ts) (spelling_at ts)
      (token_tail ts)) else Err ts

  -- the declarators of members
  unfoldable pub declarators_from : ℕ → TypeNode → List Declaration → Parser (List Declaration)
  declarators_from zero ty found ts = Err ts
  declarators_from (suc j) ty found ts = and_then (declaration s n nm.Member ty ts) (λ d r.
      if is_mark p.Comma (kind_at r) then declarators_from j (without_body ty) (found ++ d ∷ []) (token_tail r)
      else Ok (found ++ d ∷ [], r))

  -- over specifiers that are read a level below
  module _ (specifier : Parser TypeNode) where
    unfoldable pub struct_declaration : Parser (List Declaration)
    struct_declaration ts =
        and_then (specifier ts) (λ ty r. and_then (declarators_from (length r) ty [] r)
        (λ ds. expect p.Semicolon >>= λ _. pure ds))

    -- up to the brace that closes
    unfoldable pub struct_declarations_from : ℕ → List Declaration → Parser (List Declaration)
    struct_declarations_from zero found ts = Err ts
    struct_declarations_from (suc j) found ts =
        and_then (struct_declaration ts) (λ ds r. if is_mark p.RightBrace (kind_at r) then Ok (found ++ ds, r)
        else struct_declarations_from j (found ++ ds) r)

    -- behind the brace that opens
    abbrev pub body : Specifier → ℕ → Option (List ℕ) → Parser TypeNode
    body c.Struct at name ts =
        and_then (struct_declarations_from (length ts) [] ts)
        (λ ds. expect p.RightBrace >>= λ _ r. and_then (consts (length r) r) (λ _. pure (y.Struct at name (Some ds))))
    body _ at name ts =
        and_then (braced_list_from enumerator (length ts) [] ts)
        (λ xs. expect p.RightBrace >>= λ _ r. and_then (consts (length r) r) (λ _. pure (y.Enum at name (Some xs))))

    unfoldable pub braces : Specifier → ℕ → Option (List ℕ) → Parser TypeNode
    braces word at name ts = and_then (expect p.LeftBrace ts) (λ _. body word at name)

    -- behind a tag
    abbrev pub behind_tag : Specifier → ℕ → List ℕ → Parser TypeNode
    behind_tag word at name ts =
        if is_mark p.LeftBrace (kind_at ts) then braces word at (Some name) ts else and_then (consts (length ts) ts)
        (λ _. pure (tag_type word at name))

    -- behind `struct` or `enum`
    unfoldable pub tag_or_body : Specifier → ℕ → Parser TypeNode
    tag_or_body word at ts =
        if is_name_token (kind_at ts) then behind_tag word (token_place ts) (spelling_at ts)
        (token_tail ts) else braces word at None ts

unfoldable pub specifier : TypeNames → ℕ → Parser TypeNode
specifier s zero ts = Err ts
specifier s (suc n) ts = specifier_from s (tag_or_body s n (specifier s n)) (length ts) no_words ts
