-- The grammar of specifiers with braces: structs and enumerations (C99 6.7.2.1 and 6.7.2.2).
use Rattle.std.specs.Prelude.{◌≡◌, ℕ, false, List, [], ◌∷◌, ◌++◌, Option, Some, None}
use Rattle.c_lexer.specs.declared.token.TokenKind.TheVariants as k
use Rattle.c_lexer.specs.declared.token.Keyword.TheVariants as w
use Rattle.c_lexer.specs.declared.token.Punct.TheVariants as p
use Rattle.c_lexer.specs.Pieces.{Lexeme}
use Rattle.c_tree.specs.declared.expressions.Expr.{Expr}
use Rattle.c_tree.specs.declared.types.TypeNode.{TypeNode}
use Rattle.c_tree.specs.declared.types.TypeNode as y
use Rattle.c_tree.specs.declared.types.Declaration.{Declaration}
use Rattle.c_tree.specs.declared.types.Constant.{Constant}
use Rattle.c_parser_grammar.specs.declared.shapes.Shape.{Shape}
use Rattle.c_parser_grammar.specs.declared.shapes.DeclaredName.{DeclaredName}
use Rattle.c_parser_grammar.specs.declared.shapes.NameRequirement.{NameRequirement}
use Rattle.c_parser_grammar.specs.declared.shapes.NameRequirement.TheVariants as nm
use Rattle.c_parser_grammar.specs.Levels as levels
use Rattle.c_parser_grammar.specs.Tokens.{TypeNames, is_type}
use Rattle.c_parser_grammar.specs.Types.{declaration_of, without_body}
use Rattle.c_parser_grammar.specs.Grammar.{AreConsts, IsPlain, IsExpr, IsDeclarator}

-- the tag behind its word, if there is one: its place and name
pub data IsTag (t : Lexeme) : List Lexeme → ℕ → Option (List ℕ) → Type 0 where
  none : IsTag t [] t.at None
  some : (u : Lexeme) → u.kind ≡ k.Name → IsTag t (u ∷ []) u.at (Some u.spelling)

-- a declarator with a name, behind the type
pub data IsDeclared (s : TypeNames) (naming : NameRequirement) (ty : TypeNode) :
    List Lexeme → Declaration → Type 0 where
  of : (a : List Lexeme) (u : DeclaredName) (shapes : List Shape)
      → IsDeclarator s naming 0 a (record { name = Some u; shapes = shapes })
      → IsDeclared s naming ty a (declaration_of ty u shapes)

-- the declarators of members, with commas between: a body of the type stands under the first alone
pub data AreDeclared (s : TypeNames) : TypeNode → List Lexeme → List Declaration → Type 0 where
  one : {ty : TypeNode} (a : List Lexeme) (d : Declaration) → IsDeclared s nm.Member ty a d
      → AreDeclared s ty a (d ∷ [])
  more : {ty : TypeNode} (a : List Lexeme) (t : Lexeme) (b : List Lexeme) (d : Declaration) (ds : List Declaration)
      → IsDeclared s nm.Member ty a d → t.kind ≡ k.Mark p.Comma → AreDeclared s (without_body ty) b ds
      → AreDeclared s ty (a ++ t ∷ b) (d ∷ ds)

-- an enumeration constant
pub data IsConstant (s : TypeNames) : List Lexeme → Constant → Type 0 where
  plain : (t : Lexeme) → t.kind ≡ k.Name → is_type s t ≡ false
      → IsConstant s (t ∷ []) (record { at = t.at; name = t.spelling; value = None })
  with_value : (t u : Lexeme) (a : List Lexeme) (x : Expr) → t.kind ≡ k.Name → is_type s t ≡ false
      → u.kind ≡ k.Mark p.Assign → IsExpr s levels.conditional a x
      → IsConstant s (t ∷ u ∷ a) (record { at = t.at; name = t.spelling; value = Some x })

-- constants with commas between, and perhaps one behind
pub data AreConstants (s : TypeNames) : List Lexeme → List Constant → Type 0 where
  one : (a : List Lexeme) (x : Constant) → IsConstant s a x → AreConstants s a (x ∷ [])
  last : (a : List Lexeme) (t : Lexeme) (x : Constant) → IsConstant s a x → t.kind ≡ k.Mark p.Comma
      → AreConstants s (a ++ t ∷ []) (x ∷ [])
  more : (a : List Lexeme) (t : Lexeme) (b : List Lexeme) (x : Constant) (xs : List Constant) → IsConstant s a x
      → t.kind ≡ k.Mark p.Comma → AreConstants s b xs → AreConstants s (a ++ t ∷ b) (x ∷ xs)

mutual
  pub data IsSpecifier (s : TypeNames) : List Lexeme → TypeNode → Type 0 where
    plain : (a : List Lexeme) (ty : TypeNode) → IsPlain s a ty → IsSpecifier s a ty
    struct : (a : List Lexeme) (t : Lexeme) (b : List Lexeme) (l : Lexeme) (c : List Lexeme) (r : Lexeme)
        (d : List Lexeme) (at : ℕ) (name : Option (List ℕ)) (members : List Declaration)
        → AreConsts a → t.kind ≡ k.Word w.Struct → IsTag t b at name → l.kind ≡ k.Mark p.LeftBrace
        → AreMembers s c members → r.kind ≡ k.Mark p.RightBrace → AreConsts d
        → IsSpecifier s (a ++ (t ∷ b ++ (l ∷ c ++ r ∷ d))) (y.Struct at name (Some members))
    enum : (a : List Lexeme) (t : Lexeme) (b : List Lexeme) (l : Lexeme) (c : List Lexeme) (r : Lexeme)
        (d : List Lexeme) (at : ℕ) (name : Option (List ℕ)) (constants : List Constant)
        → AreConsts a → t.kind ≡ k.Word w.Enum → IsTag t b at name → l.kind ≡ k.Mark p.LeftBrace
        → AreConstants s c constants → r.kind ≡ k.Mark p.RightBrace → AreConsts d
        → IsSpecifier s (a ++ (t ∷ b ++ (l ∷ c ++ r ∷ d))) (y.Enum at name (Some constants))

  -- one line of members or more
  pub data AreMembers (s : TypeNames) : List Lexeme → List Declaration → Type 0 where
    one : (a : List Lexeme) (ds : List Declaration) → IsMember s a ds → AreMembers s a ds
    more : (a b : List Lexeme) (ds es : List Declaration) → IsMember s a ds → AreMembers s b es
        → AreMembers s (a ++ b) (ds ++ es)

  pub data IsMember (s : TypeNames) : List Lexeme → List Declaration → Type 0 where
    member : (a b : List Lexeme) (t : Lexeme) (ty : TypeNode) (ds : List Declaration) → IsSpecifier s a ty
        → AreDeclared s ty b ds → t.kind ≡ k.Mark p.Semicolon → IsMember s (a ++ (b ++ t ∷ [])) ds
