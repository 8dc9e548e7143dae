-- How expressions, type names and declarators are read.
use Rattle.std.specs.Prelude.{ℕ, zero, suc, if◌then◌else◌, nat_lt, List, [], ◌∷◌, ◌++◌, length, Option, Some, None, Ok, Err}
use Rattle.c_lexer.specs.declared.token.Punct.TheVariants as p
use Rattle.c_tree.specs.declared.expressions.Expr.{Expr}
use Rattle.c_tree.specs.declared.expressions.Expr as e
use Rattle.c_tree.specs.declared.types.BasicType.{BasicType}
use Rattle.c_tree.specs.declared.types.TypeNode.{TypeNode}
use Rattle.c_tree.specs.declared.types.TypeNode as y
use Rattle.c_tree.specs.declared.types.TypeName.{TypeName}
use Rattle.c_tree.specs.declared.types.Parameter.{Parameter}
use Rattle.c_parser_grammar.specs.declared.classes.Infix.{Infix}
use Rattle.c_parser_grammar.specs.declared.classes.Infix.TheVariants as i
use Rattle.c_parser_grammar.specs.declared.classes.Prefix.{Prefix}
use Rattle.c_parser_grammar.specs.declared.classes.Prefix.TheVariants as f
use Rattle.c_parser_grammar.specs.declared.classes.Specifier.{Specifier}
use Rattle.c_parser_grammar.specs.declared.classes.Specifier.TheVariants as c
use Rattle.c_parser_grammar.specs.declared.word_set.WordSet.{WordSet}
use Rattle.c_parser_grammar.specs.declared.shapes.Shape.TheVariants as h
use Rattle.c_parser_grammar.specs.declared.shapes.Declarator.{Declarator}
use Rattle.c_parser_grammar.specs.declared.shapes.NameRequirement.{NameRequirement}
use Rattle.c_parser_grammar.specs.declared.shapes.NameRequirement.TheVariants as nm
use Rattle.c_parser_grammar.specs.declared.shapes.SpecifierStart.{SpecifierStart}
use Rattle.c_parser_grammar.specs.declared.shapes.SpecifierStart.TheVariants as o
use Rattle.c_lexer.specs.Pieces.{Lexeme}
use Rattle.c_parser_grammar.specs.Classes.{infix_of, prefix_of, specifier_of}
use Rattle.c_parser_grammar.specs.Levels.{level_of, binding_level, operand_level, result_level}
use Rattle.c_parser_grammar.specs.WordSets.{no_words, with_word, basic_of}
use Rattle.c_parser_grammar.specs.Levels as levels
use Rattle.c_parser_grammar.specs.Tokens.{TypeNames, token_place, is_mark, is_name_token, is_text, kind_at, spelling_at, token_tail, is_type_at, begins_type}
use Rattle.c_parser_grammar.specs.Types.{takes_name, may_be_nameless, nameless, with_shape, with_shapes, parameter_of, without_void, comma_of}
use Rattle.c_parser_grammar.specs.Parser.{Parser, and_then, ◌>>=◌, pure, expect, consts}

-- ---- specifiers without braces

-- the set with the word that stands here, if a word of a set may stand here
abbrev pub extend : WordSet → Specifier → Option WordSet
extend x c.Const = Some x
extend x (c.Word word) = with_word x word
extend x _ = None

-- the type that the words before spell, or else what stands here
abbrev pub start_of : Option BasicType → Specifier → SpecifierStart
start_of (Some b) kind = o.Basic b
start_of None kind = o.Other kind

abbrev pub word_or_end : Option WordSet → (WordSet → SpecifierStart × List Lexeme) → SpecifierStart × List Lexeme
    → SpecifierStart × List Lexeme
word_or_end (Some x) go stop = go x
word_or_end None go stop = stop

-- the words of a type, and the tokens behind them
unfoldable pub words_from : ℕ → WordSet → List Lexeme → SpecifierStart × List Lexeme
words_from zero x ts = (start_of (basic_of x) c.Nothing, ts)
words_from (suc j) x ts =
    word_or_end (extend x (specifier_of (kind_at ts))) (λ v. words_from j v (token_tail ts))
    (start_of (basic_of x) (specifier_of (kind_at ts)), ts)

-- the name of a type
unfoldable pub named_type : TypeNames → Parser TypeNode
named_type s ts =
    if is_type_at s ts then and_then (consts (length (token_tail ts)) (token_tail ts))
    (λ _. pure (y.Named (spelling_at ts)))
    else Err ts

-- a tag behind its word
abbrev pub tag_type : Specifier → ℕ → List ℕ → TypeNode
tag_type c.Struct at name = y.Struct at (Some name) None
tag_type _ at name = y.Enum at (Some name) None

unfoldable pub tag : Specifier → Parser TypeNode
tag word ts =
    if is_name_token (kind_at ts) then and_then (consts (length (token_tail ts)) (token_tail ts))
    (λ _. pure (tag_type word (token_place ts) (spelling_at ts))) else Err ts

-- The specifier that starts so: `on` reads it behind `struct` or `enum`.
abbrev pub specifier_behind : TypeNames → (Specifier → ℕ → Parser TypeNode) → SpecifierStart → Parser TypeNode
specifier_behind s on (o.Basic b) ts = Ok (y.Basic b, ts)
specifier_behind s on (o.Other c.Struct) ts = on c.Struct (token_place ts) (token_tail ts)
specifier_behind s on (o.Other c.Enum) ts = on c.Enum (token_place ts) (token_tail ts)
specifier_behind s on (o.Other c.Name) ts = named_type s ts
specifier_behind s on (o.Other _) ts = Err ts

-- a specifier whose words so far are these
unfoldable pub specifier_from : TypeNames → (Specifier → ℕ → Parser TypeNode) → ℕ → WordSet → Parser TypeNode
specifier_from s on j x ts = let q = words_from j x ts in specifier_behind s on q.0 q.1

unfoldable pub plain : TypeNames → Parser TypeNode
plain s ts = specifier_from s (λ word at. tag word) (length ts) no_words ts

-- ---- text literals

unfoldable pub texts_from : ℕ → List (List ℕ) → Parser (List (List ℕ))
texts_from zero found ts = Ok (found, ts)
texts_from (suc j) found ts =
    if is_text (kind_at ts) then texts_from j (found ++ spelling_at ts ∷ []) (token_tail ts) else Ok (found, ts)

-- ---- expressions and declarators, over what is read a level below

-- elements with commas between
unfoldable pub list_from : {A : Type 0} → Parser A → ℕ → List A → Parser (List A)
list_from item zero found ts = Err ts
list_from item (suc j) found ts = and_then (item ts) (λ x r.
    if is_mark p.Comma (kind_at r) then list_from item j (found ++ x ∷ []) (token_tail r) else Ok (found ++ x ∷ [], r))

-- the name of a member
unfoldable pub member_name : Parser (List ℕ)
member_name ts = if is_name_token (kind_at ts) then Ok (spelling_at ts, token_tail ts) else Err ts

-- where no name of a declarator stands
abbrev pub no_name : NameRequirement → Parser Declarator
no_name naming ts = if may_be_nameless naming then Ok (nameless, ts) else Err ts

-- at a name, which may be none of its own
abbrev pub core_name : TypeNames → NameRequirement → Parser Declarator
core_name s naming ts =
    if takes_name naming (is_type_at s ts)
    then Ok (record { name = Some (record { at = token_place ts; name = spelling_at ts }); shapes = [] }, token_tail ts)
    else no_name naming ts

module _ (s : TypeNames) (expr : ℕ → Parser Expr) (declarator : NameRequirement → Parser Declarator) where
  -- an expression with its commas
  unfoldable pub whole : Parser Expr
  whole ts = and_then (list_from (expr levels.assignment) (length ts) [] ts) (λ xs. pure (comma_of (token_place ts) xs))

  unfoldable pub type_name : Parser TypeName
  type_name ts =
      and_then (plain s ts) (λ ty. declarator nm.Refused
      >>= λ d. pure (record { at = token_place ts; ty = with_shapes d.shapes ty }))

  unfoldable pub parameter : Parser Parameter
  parameter ts = and_then (plain s ts) (λ ty. declarator nm.Optional >>= λ d. pure (parameter_of (token_place ts) ty d))

  -- behind the bracket, up to the one that closes it
  unfoldable pub arguments_behind : Parser (List Expr)
  arguments_behind ts = if is_mark p.RightParen (kind_at ts) then Ok ([], token_tail ts)
      else and_then (list_from (expr levels.assignment) (length ts) [] ts) (λ xs. expect p.RightParen >>= λ _. pure xs)

  unfoldable pub parameters_behind : Parser (List Parameter)
  parameters_behind ts = if is_mark p.RightParen (kind_at ts) then Ok ([], token_tail ts)
      else and_then (list_from parameter (length ts) [] ts) (λ xs. expect p.RightParen >>= λ _. pure xs)

  -- behind a name that is no type
  unfoldable pub behind_name : ℕ → List ℕ → Parser (Expr × ℕ)
  behind_name at name ts =
      if is_mark p.LeftParen (kind_at ts) then and_then (arguments_behind (token_tail ts))
      (λ xs. pure (e.Call at name xs, levels.primary))
      else Ok ((e.Name at name, levels.primary), ts)

  -- behind a bracket
  unfoldable pub cast_behind : ℕ → Parser (Expr × ℕ)
  cast_behind at ts =
      and_then (type_name ts) (λ ty. expect p.RightParen >>= λ _. expr levels.cast
      >>= λ x. pure (e.Cast at ty x, levels.cast))

  unfoldable pub brackets_behind : Parser (Expr × ℕ)
  brackets_behind ts = and_then (whole ts) (λ x. expect p.RightParen >>= λ _. pure (x, levels.primary))

  -- a cast stands where one is wanted, and not where a unary expression is
  abbrev pub bracket_operand : ℕ → ℕ → Parser (Expr × ℕ)
  bracket_operand least at ts =
      if begins_type s ts then (if nat_lt least levels.unary then cast_behind at ts else Err ts) else brackets_behind ts

  -- behind `sizeof`
  unfoldable pub sizeof_type_name : ℕ → Parser (Expr × ℕ)
  sizeof_type_name at ts =
      and_then (type_name ts) (λ ty. expect p.RightParen >>= λ _. pure (e.SizeOfType at ty, levels.unary))

  unfoldable pub sizeof_unary : ℕ → Parser (Expr × ℕ)
  sizeof_unary at ts = and_then (expr levels.unary ts) (λ x. pure (e.SizeOfValue at x, levels.unary))

  abbrev pub sizeof_behind : ℕ → Parser (Expr × ℕ)
  sizeof_behind at ts =
      if is_mark p.LeftParen (kind_at ts)
      then (if begins_type s (token_tail ts) then sizeof_type_name at (token_tail ts) else sizeof_unary at ts)
      else sizeof_unary at ts

  abbrev pub operand_by : ℕ → Prefix → Parser (Expr × ℕ)
  operand_by least f.Name ts = if is_type_at s ts then Err ts else behind_name (token_place ts) (spelling_at ts)
      (token_tail ts)
  operand_by least f.Number ts = Ok ((e.Number (token_place ts) (spelling_at ts), levels.primary), token_tail ts)
  operand_by least f.Character ts = Ok ((e.Character (token_place ts) (spelling_at ts), levels.primary), token_tail ts)
  operand_by least f.Text ts =
      and_then (texts_from (length ts) [] ts) (λ xs. pure (e.Text (token_place ts) xs, levels.primary))
  operand_by least f.Bracket ts = bracket_operand least (token_place ts) (token_tail ts)
  operand_by least (f.Step op) ts =
      and_then (expr levels.unary (token_tail ts)) (λ x. pure (e.Unary (token_place ts) op x, levels.unary))
  operand_by least (f.Unary op) ts =
      and_then (expr levels.cast (token_tail ts)) (λ x. pure (e.Unary (token_place ts) op x, levels.unary))
  operand_by least f.SizeOf ts = sizeof_behind (token_place ts) (token_tail ts)
  operand_by least f.Nothing ts = Err ts

  -- the front of an expression, and its level, which is no less than the least that is wanted
  unfoldable pub operand : ℕ → Parser (Expr × ℕ)
  operand least ts = operand_by least (prefix_of (kind_at ts)) ts

  -- behind an operator, its left operand and the place of it
  abbrev pub step_by : Infix → ℕ → Expr → Parser Expr
  step_by i.Index at left ts = and_then (whole ts) (λ z. expect p.RightBracket >>= λ _. pure (e.Index at left z))
  step_by i.Field at left ts = and_then (member_name ts) (λ name. pure (e.Field at left name))
  step_by i.Arrow at left ts = and_then (member_name ts) (λ name. pure (e.Arrow at left name))
  step_by (i.Step op) at left ts = Ok (e.Postfix at op left, ts)
  step_by (i.Binary op) at left ts = and_then (expr (suc (level_of op)) ts) (λ z. pure (e.Binary at op left z))
  step_by i.Conditional at left ts =
      and_then (whole ts) (λ v. expect p.Colon >>= λ _. expr levels.conditional
      >>= λ z. pure (e.Conditional at left v z))
  step_by (i.Assign op) at left ts = and_then (expr levels.assignment ts) (λ z. pure (e.Assign at op left z))
  step_by _ at left ts = Err ts

  -- The operators behind an expression of this level, down to the least that is wanted.
  unfoldable pub climb : ℕ → ℕ → ℕ → ℕ → Expr → Parser Expr
  climb at least zero level left ts = Ok (left, ts)
  climb at least (suc j) level left ts = if nat_lt (binding_level (infix_of (kind_at ts))) least then Ok (left, ts)
      else if nat_lt level (operand_level (infix_of (kind_at ts))) then Err ts
      else and_then (step_by (infix_of (kind_at ts)) at left (token_tail ts))
      (climb at least j (result_level (infix_of (kind_at ts))))

  abbrev pub tight : ℕ → Parser Expr
  tight least ts = and_then (operand least ts) (λ q r. climb (token_place ts) least (length r) q.1 q.0 r)

  -- behind `[`
  unfoldable pub length_behind : Declarator → Parser Declarator
  length_behind d ts = if is_mark p.RightBracket (kind_at ts) then Ok (with_shape d (h.Array None), token_tail ts)
      else and_then (expr levels.conditional ts)
      (λ x. expect p.RightBracket >>= λ _. pure (with_shape d (h.Array (Some x))))

  unfoldable pub suffixes : ℕ → Declarator → Parser Declarator
  suffixes zero d ts = Ok (d, ts)
  suffixes (suc j) d ts = if is_mark p.LeftBracket (kind_at ts) then and_then (length_behind d (token_tail ts))
      (suffixes j)
      else if is_mark p.LeftParen (kind_at ts) then and_then (parameters_behind (token_tail ts))
      (λ xs. suffixes j (with_shape d (h.Takes (without_void xs))))
      else Ok (d, ts)

  -- behind a star
  unfoldable pub pointer_declarator : NameRequirement → Parser Declarator
  pointer_declarator naming ts =
      and_then (consts (length ts) ts) (λ _. declarator naming >>= λ d. pure (with_shape d h.Pointer))

  -- behind the bracket and the star of a declarator in brackets
  unfoldable pub group_behind : NameRequirement → Parser Declarator
  group_behind naming ts = and_then (pointer_declarator naming ts) (λ d. expect p.RightParen >>= λ _. pure d)

  -- at a bracket: one of a declarator, or of parameters, which follow a missing name
  abbrev pub core_bracket : NameRequirement → Parser Declarator
  core_bracket naming ts =
      if is_mark p.Star (kind_at (token_tail ts)) then group_behind naming (token_tail (token_tail ts))
      else if may_be_nameless naming then Ok (nameless, ts) else Err (token_tail ts)

  unfoldable pub core : NameRequirement → Parser Declarator
  core naming ts = if is_name_token (kind_at ts) then core_name s naming ts
      else if is_mark p.LeftParen (kind_at ts) then core_bracket naming ts
      else no_name naming ts

  abbrev pub shaped_declarator : NameRequirement → Parser Declarator
  shaped_declarator naming ts = if is_mark p.Star (kind_at ts) then pointer_declarator naming (token_tail ts)
      else and_then (core naming ts) (λ d r. suffixes (length r) d r)

-- The number bounds how deep the functions go: as many as there are tokens are enough.
unfoldable mutual
  pub expr : TypeNames → ℕ → ℕ → Parser Expr
  expr s zero least ts = Err ts
  expr s (suc n) least ts = tight s (expr s n) (declarator s n) least ts

  pub declarator : TypeNames → ℕ → NameRequirement → Parser Declarator
  declarator s zero naming ts = Err ts
  declarator s (suc n) naming ts = shaped_declarator s (expr s n) (declarator s n) naming ts
