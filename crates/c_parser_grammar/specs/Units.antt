-- The grammar of units: what stands at file scope, with the names of types so far (C99 6.7 and 6.9).
use Rattle.std.specs.Prelude.{◌≡◌, ℕ, Bool, true, false, List, [], ◌∷◌, ◌++◌, Option, Some, None}
use Rattle.c_lexer.specs.declared.token.TokenKind.TheVariants as k
use Rattle.c_lexer.specs.declared.token.Keyword.TheVariants as w
use Rattle.c_lexer.specs.declared.token.Punct.TheVariants as p
use Rattle.c_lexer.specs.Pieces.{Lexeme, Toks}
use Rattle.c_tree.specs.declared.expressions.Expr.{Expr}
use Rattle.c_tree.specs.declared.types.TypeNode.{TypeNode}
use Rattle.c_tree.specs.declared.types.Declaration.{Declaration}
use Rattle.c_tree.specs.declared.statements.Stmt.{Stmt}
use Rattle.c_tree.specs.declared.declarations.Storage.{Storage}
use Rattle.c_tree.specs.declared.declarations.Storage.TheVariants as g
use Rattle.c_tree.specs.declared.declarations.Init.{Init}
use Rattle.c_tree.specs.declared.declarations.Init as i
use Rattle.c_tree.specs.declared.declarations.FunctionEnd.{FunctionEnd}
use Rattle.c_tree.specs.declared.declarations.FunctionEnd.TheVariants as f
use Rattle.c_tree.specs.declared.declarations.External.{External}
use Rattle.c_tree.specs.declared.declarations.External.TheVariants as x
use Rattle.c_tree.specs.declared.declarations.TranslationUnit.{TranslationUnit}
use Rattle.c_parser_grammar.specs.declared.shapes.Shape.{Shape}
use Rattle.c_parser_grammar.specs.declared.shapes.Shape.TheVariants as h
use Rattle.c_parser_grammar.specs.declared.shapes.DeclaredName.{DeclaredName}
use Rattle.c_parser_grammar.specs.declared.shapes.NameRequirement.TheVariants as nm
use Rattle.c_parser_grammar.specs.Levels as levels
use Rattle.c_parser_grammar.specs.Tokens.{TypeNames}
use Rattle.c_parser_grammar.specs.Types.{declaration_of, without_body}
use Rattle.c_parser_grammar.specs.Grammar.{IsExpr, IsDeclarator}
use Rattle.c_parser_grammar.specs.Specifiers.{IsDeclared, IsSpecifier}
use Rattle.c_parser_grammar.specs.Statements.{AreItems}

-- an initialiser (C99 6.7.8)
mutual
  pub data IsInit (s : TypeNames) : List Lexeme → Init → Type 0 where
    value : (a : List Lexeme) (v : Expr) → IsExpr s levels.assignment a v → IsInit s a (i.Value v)
    list : (l : Lexeme) (a : List Lexeme) (r : Lexeme) (vs : List Init) → l.kind ≡ k.Mark p.LeftBrace
        → AreInits s a vs → r.kind ≡ k.Mark p.RightBrace → IsInit s (l ∷ a ++ r ∷ []) (i.List l.at vs)

  -- initialisers with commas between, and perhaps one behind
  pub data AreInits (s : TypeNames) : List Lexeme → List Init → Type 0 where
    one : (a : List Lexeme) (v : Init) → IsInit s a v → AreInits s a (v ∷ [])
    last : (a : List Lexeme) (t : Lexeme) (v : Init) → IsInit s a v → t.kind ≡ k.Mark p.Comma
        → AreInits s (a ++ t ∷ []) (v ∷ [])
    more : (a : List Lexeme) (t : Lexeme) (b : List Lexeme) (v : Init) (vs : List Init) → IsInit s a v
        → t.kind ≡ k.Mark p.Comma → AreInits s b vs → AreInits s (a ++ t ∷ b) (v ∷ vs)

-- the word of the storage, if there is one (C99 6.7.1)
pub data IsStorage : List Lexeme → Option Storage → Type 0 where
  none : IsStorage [] None
  static : (t : Lexeme) → t.kind ≡ k.Word w.Static → IsStorage (t ∷ []) (Some g.Static)
  extern : (t : Lexeme) → t.kind ≡ k.Word w.Extern → IsStorage (t ∷ []) (Some g.Extern)

-- whether a declarator of these shapes is itself one of a function
abbrev pub is_function : List Shape → Bool
is_function (h.Takes xs ∷ shapes) = true
is_function _ = false

abbrev pub end_by : Option Init → FunctionEnd
end_by None = f.Nothing
end_by (Some v) = f.Init v

-- what a declarator at file scope declares: a function or an object
abbrev pub external_of : Bool → Declaration → Option Storage → Option Init → External
external_of true d storage init = x.Function d storage (end_by init)
external_of false d storage init = x.Object d storage init

-- a declarator at file scope, and its initialiser
pub data IsObject (s : TypeNames) (storage : Option Storage) (ty : TypeNode) : List Lexeme → External → Type 0 where
  plain : (a : List Lexeme) (u : DeclaredName) (shapes : List Shape)
      → IsDeclarator s nm.Required 0 a (record { name = Some u; shapes = shapes })
      → IsObject s storage ty a (external_of (is_function shapes) (declaration_of ty u shapes) storage None)
  with_init : (a : List Lexeme) (t : Lexeme) (b : List Lexeme) (u : DeclaredName) (shapes : List Shape) (v : Init)
      → IsDeclarator s nm.Required 0 a (record { name = Some u; shapes = shapes }) → t.kind ≡ k.Mark p.Assign
      → IsInit s b v
      → IsObject s storage ty (a ++ t ∷ b)
      (external_of (is_function shapes) (declaration_of ty u shapes) storage (Some v))

pub data AreObjects (s : TypeNames) (storage : Option Storage) : TypeNode → List Lexeme → List External → Type 0 where
  one : {ty : TypeNode} (a : List Lexeme) (v : External) → IsObject s storage ty a v
      → AreObjects s storage ty a (v ∷ [])
  more : {ty : TypeNode} (a : List Lexeme) (t : Lexeme) (b : List Lexeme) (v : External) (vs : List External)
      → IsObject s storage ty a v → t.kind ≡ k.Mark p.Comma → AreObjects s storage (without_body ty) b vs
      → AreObjects s storage ty (a ++ t ∷ b) (v ∷ vs)

-- the names with one more
abbrev pub with_type : TypeNames → List ℕ → TypeNames
with_type s name = name ∷ s

-- The declarators of a `typedef`, from names to names: each name is one of a type from its declarator on.
pub data AreTypedefs : TypeNames → TypeNode → List Lexeme → List External → TypeNames → Type 0 where
  one : {s : TypeNames} {ty : TypeNode} (a : List Lexeme) (d : Declaration) → IsDeclared s nm.Required ty a d
      → AreTypedefs s ty a (x.Typedef d ∷ []) (with_type s d.name)
  more : {s : TypeNames} {ty : TypeNode} (a : List Lexeme) (t : Lexeme) (b : List Lexeme) (d : Declaration)
      (vs : List External) (z : TypeNames)
      → IsDeclared s nm.Required ty a d → t.kind ≡ k.Mark p.Comma →
      AreTypedefs (with_type s d.name) (without_body ty) b vs z
      → AreTypedefs s ty (a ++ t ∷ b) (x.Typedef d ∷ vs) z

-- one external declaration, from names to names
pub data IsExternal : TypeNames → List Lexeme → List External → TypeNames → Type 0 where
  typedefs : {s : TypeNames} (t : Lexeme) (a b : List Lexeme) (r : Lexeme) (ty : TypeNode) (vs : List External)
      (z : TypeNames)
      → t.kind ≡ k.Word w.Typedef → IsSpecifier s a ty → AreTypedefs s ty b vs z → r.kind ≡ k.Mark p.Semicolon
      → IsExternal s (t ∷ a ++ (b ++ r ∷ [])) vs z
  tags : {s : TypeNames} (a b : List Lexeme) (r : Lexeme) (storage : Option Storage) (ty : TypeNode)
      → IsStorage a storage → IsSpecifier s b ty → r.kind ≡ k.Mark p.Semicolon
      → IsExternal s (a ++ (b ++ r ∷ [])) (x.Tags storage ty ∷ []) s
  objects : {s : TypeNames} (a b c : List Lexeme) (r : Lexeme) (storage : Option Storage) (ty : TypeNode)
      (vs : List External)
      → IsStorage a storage → IsSpecifier s b ty → AreObjects s storage ty c vs → r.kind ≡ k.Mark p.Semicolon
      → IsExternal s (a ++ (b ++ (c ++ r ∷ []))) vs s
  function : {s : TypeNames} (a b c : List Lexeme) (l : Lexeme) (e : List Lexeme) (r : Lexeme)
      (storage : Option Storage) (ty : TypeNode) (d : Declaration) (body : List Stmt)
      → IsStorage a storage → IsSpecifier s b ty → IsDeclared s nm.Required ty c d
      → l.kind ≡ k.Mark p.LeftBrace → AreItems s e body → r.kind ≡ k.Mark p.RightBrace
      → IsExternal s (a ++ (b ++ (c ++ (l ∷ e ++ r ∷ [])))) (x.Function d storage (f.Body body) ∷ []) s

pub data AreExternals : TypeNames → List Lexeme → List External → Type 0 where
  none : {s : TypeNames} → AreExternals s [] []
  more : {s : TypeNames} (a b : List Lexeme) (vs us : List External) (z : TypeNames) → IsExternal s a vs z
      → AreExternals z b us → AreExternals s (a ++ b) (vs ++ us)

-- The tokens spell the unit of a text of this length: no name is one of a type at the start.
pub record Reads (toks : Toks) (unit : TranslationUnit) : Type 0 where
  pub externals : AreExternals [] toks.items unit.externals
  pub length : unit.length ≡ toks.size
