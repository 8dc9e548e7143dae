-- The grammar of statements and of declarations in blocks (C99 6.8).
use Rattle.std.specs.Prelude.{◌≡◌, ℕ, ◌≤◌, List, [], ◌∷◌, ◌++◌, Option, Some, None}
use Rattle.c_lexer.specs.declared.token.TokenKind.TheVariants as k
use Rattle.c_lexer.specs.declared.token.Keyword.TheVariants as w
use Rattle.c_lexer.specs.declared.token.Punct.TheVariants as p
use Rattle.c_lexer.specs.Pieces.{Lexeme}
use Rattle.c_tree.specs.declared.expressions.Expr.{Expr}
use Rattle.c_tree.specs.declared.types.TypeNode.{TypeNode}
use Rattle.c_tree.specs.declared.types.Declaration.{Declaration}
use Rattle.c_tree.specs.declared.statements.Stmt.{Stmt}
use Rattle.c_tree.specs.declared.statements.Stmt as u
use Rattle.c_tree.specs.declared.statements.LocalDeclarator.{LocalDeclarator}
use Rattle.c_tree.specs.declared.statements.Section.{Section}
use Rattle.c_tree.specs.declared.statements.Label.{Label}
use Rattle.c_tree.specs.declared.statements.Label.TheVariants as l
use Rattle.c_tree.specs.declared.statements.ForFirst.{ForFirst}
use Rattle.c_tree.specs.declared.statements.ForFirst.TheVariants as f
use Rattle.c_parser_grammar.specs.declared.shapes.NameRequirement.TheVariants as nm
use Rattle.c_parser_grammar.specs.Levels as levels
use Rattle.c_parser_grammar.specs.Tokens.{TypeNames}
use Rattle.c_parser_grammar.specs.Grammar.{IsPlain, IsExpr, IsWhole}
use Rattle.c_parser_grammar.specs.Specifiers.{IsDeclared}

-- a declarator in a block, and its initialiser
pub data IsLocalDeclarator (s : TypeNames) (ty : TypeNode) : List Lexeme → LocalDeclarator → Type 0 where
  plain : (a : List Lexeme) (d : Declaration) → IsDeclared s nm.Required ty a d
      → IsLocalDeclarator s ty a (record { declaration = d; init = None })
  with_init : (a : List Lexeme) (t : Lexeme) (b : List Lexeme) (d : Declaration) (x : Expr)
      → IsDeclared s nm.Required ty a d → t.kind ≡ k.Mark p.Assign → IsExpr s levels.assignment b x
      → IsLocalDeclarator s ty (a ++ t ∷ b) (record { declaration = d; init = Some x })

pub data AreLocals (s : TypeNames) (ty : TypeNode) : List Lexeme → List LocalDeclarator → Type 0 where
  one : (a : List Lexeme) (x : LocalDeclarator) → IsLocalDeclarator s ty a x → AreLocals s ty a (x ∷ [])
  more : (a : List Lexeme) (t : Lexeme) (b : List Lexeme) (x : LocalDeclarator) (xs : List LocalDeclarator) →
      IsLocalDeclarator s ty a x
      → t.kind ≡ k.Mark p.Comma → AreLocals s ty b xs → AreLocals s ty (a ++ t ∷ b) (x ∷ xs)

-- a line of declarations
pub data IsLine (s : TypeNames) : List Lexeme → List LocalDeclarator → Type 0 where
  line : (a b : List Lexeme) (t : Lexeme) (ty : TypeNode) (xs : List LocalDeclarator) → IsPlain s a ty →
      AreLocals s ty b xs
      → t.kind ≡ k.Mark p.Semicolon → IsLine s (a ++ (b ++ t ∷ [])) xs

-- an expression that may be missing
pub data IsOptional (s : TypeNames) : List Lexeme → Option Expr → Type 0 where
  none : IsOptional s [] None
  some : (a : List Lexeme) (x : Expr) → IsWhole s a x → IsOptional s a (Some x)

-- the first part of `for`, with its semicolon
pub data IsFirst (s : TypeNames) : List Lexeme → ForFirst → Type 0 where
  nothing : (t : Lexeme) → t.kind ≡ k.Mark p.Semicolon → IsFirst s (t ∷ []) f.Nothing
  value : (a : List Lexeme) (t : Lexeme) (x : Expr) → IsWhole s a x → t.kind ≡ k.Mark p.Semicolon
      → IsFirst s (a ++ t ∷ []) (f.Value x)
  locals : (a : List Lexeme) (xs : List LocalDeclarator) → IsLine s a xs → IsFirst s a (f.Locals xs)

pub data IsLabel (s : TypeNames) : List Lexeme → Label → Type 0 where
  «case» : (t : Lexeme) (a : List Lexeme) (r : Lexeme) (x : Expr) → t.kind ≡ k.Word w.Case
      → IsExpr s levels.conditional a x → r.kind ≡ k.Mark p.Colon → IsLabel s (t ∷ a ++ r ∷ []) (l.Case t.at x)
  «default» : (t r : Lexeme) → t.kind ≡ k.Word w.Default → r.kind ≡ k.Mark p.Colon
      → IsLabel s (t ∷ r ∷ []) (l.Default t.at)

abbrev pub locals_of : List LocalDeclarator → List Stmt
locals_of [] = []
locals_of (x ∷ xs) = u.Local x ∷ locals_of xs

-- IsStmt s m ts x: at m = 1 the statement may stand before an `else` that is not its own.
mutual
  pub data IsStmt (s : TypeNames) : ℕ → List Lexeme → Stmt → Type 0 where
    block : {m : ℕ} (l : Lexeme) (a : List Lexeme) (r : Lexeme) (xs : List Stmt) → l.kind ≡ k.Mark p.LeftBrace
        → AreItems s a xs → r.kind ≡ k.Mark p.RightBrace → IsStmt s m (l ∷ a ++ r ∷ []) (u.Block xs)
    empty : {m : ℕ} (t : Lexeme) → t.kind ≡ k.Mark p.Semicolon → IsStmt s m (t ∷ []) u.Empty
    expression : {m : ℕ} (a : List Lexeme) (t : Lexeme) (x : Expr) → IsWhole s a x → t.kind ≡ k.Mark p.Semicolon
        → IsStmt s m (a ++ t ∷ []) (u.Expression x)
    if_only : {m : ℕ} (t l : Lexeme) (a : List Lexeme) (r : Lexeme) (b : List Lexeme) (x : Expr) (v : Stmt) → m ≤ 0
        → t.kind ≡ k.Word w.If → l.kind ≡ k.Mark p.LeftParen → IsWhole s a x → r.kind ≡ k.Mark p.RightParen
        → IsStmt s 0 b v → IsStmt s m (t ∷ l ∷ a ++ r ∷ b) (u.If x v None)
    if_else : {m : ℕ} (t l : Lexeme) (a : List Lexeme) (r : Lexeme) (b : List Lexeme) (o : Lexeme) (c : List Lexeme)
        (x : Expr) (v z : Stmt)
        → t.kind ≡ k.Word w.If → l.kind ≡ k.Mark p.LeftParen → IsWhole s a x → r.kind ≡ k.Mark p.RightParen
        → IsStmt s 1 b v → o.kind ≡ k.Word w.Else → IsStmt s m c z
        → IsStmt s m (t ∷ l ∷ a ++ (r ∷ b ++ o ∷ c)) (u.If x v (Some z))
    while : {m : ℕ} (t l : Lexeme) (a : List Lexeme) (r : Lexeme) (b : List Lexeme) (x : Expr) (v : Stmt)
        → t.kind ≡ k.Word w.While → l.kind ≡ k.Mark p.LeftParen → IsWhole s a x → r.kind ≡ k.Mark p.RightParen
        → IsStmt s m b v → IsStmt s m (t ∷ l ∷ a ++ r ∷ b) (u.While x v)
    do_while : {m : ℕ} (t : Lexeme) (a : List Lexeme) (o l : Lexeme) (b : List Lexeme) (r e : Lexeme) (x : Expr)
        (v : Stmt)
        → t.kind ≡ k.Word w.Do → IsStmt s 0 a v → o.kind ≡ k.Word w.While → l.kind ≡ k.Mark p.LeftParen
        → IsWhole s b x
        → r.kind ≡ k.Mark p.RightParen → e.kind ≡ k.Mark p.Semicolon
        → IsStmt s m (t ∷ a ++ (o ∷ l ∷ b ++ r ∷ e ∷ [])) (u.Do v x)
    for : {m : ℕ} (t l : Lexeme) (a b : List Lexeme) (e : Lexeme) (c : List Lexeme) (r : Lexeme) (d : List Lexeme)
        (x : ForFirst) (y z : Option Expr) (v : Stmt)
        → t.kind ≡ k.Word w.For → l.kind ≡ k.Mark p.LeftParen → IsFirst s a x
        → IsOptional s b y → e.kind ≡ k.Mark p.Semicolon → IsOptional s c z → r.kind ≡ k.Mark p.RightParen
        → IsStmt s m d v → IsStmt s m (t ∷ l ∷ a ++ (b ++ (e ∷ c ++ r ∷ d))) (u.For x y z v)
    switch : {m : ℕ} (t l : Lexeme) (a : List Lexeme) (r o : Lexeme) (b : List Lexeme) (e : Lexeme) (x : Expr)
        (xs : List Section)
        → t.kind ≡ k.Word w.Switch → l.kind ≡ k.Mark p.LeftParen → IsWhole s a x → r.kind ≡ k.Mark p.RightParen
        → o.kind ≡ k.Mark p.LeftBrace → AreSections s b xs → e.kind ≡ k.Mark p.RightBrace
        → IsStmt s m (t ∷ l ∷ a ++ (r ∷ o ∷ b ++ e ∷ [])) (u.Switch x xs)
    break : {m : ℕ} (t r : Lexeme) → t.kind ≡ k.Word w.Break → r.kind ≡ k.Mark p.Semicolon
        → IsStmt s m (t ∷ r ∷ []) (u.Break t.at)
    continue : {m : ℕ} (t r : Lexeme) → t.kind ≡ k.Word w.Continue → r.kind ≡ k.Mark p.Semicolon
        → IsStmt s m (t ∷ r ∷ []) (u.Continue t.at)
    return : {m : ℕ} (t : Lexeme) (a : List Lexeme) (r : Lexeme) (x : Option Expr) → t.kind ≡ k.Word w.Return
        → IsOptional s a x → r.kind ≡ k.Mark p.Semicolon → IsStmt s m (t ∷ a ++ r ∷ []) (u.Return t.at x)

  -- what stands in a block
  pub data AreItems (s : TypeNames) : List Lexeme → List Stmt → Type 0 where
    nothing : AreItems s [] []
    line : (a b : List Lexeme) (xs : List LocalDeclarator) (ys : List Stmt) → IsLine s a xs → AreItems s b ys
        → AreItems s (a ++ b) (locals_of xs ++ ys)
    statement : (a b : List Lexeme) (x : Stmt) (ys : List Stmt) → IsStmt s 0 a x → AreItems s b ys
        → AreItems s (a ++ b) (x ∷ ys)

  -- the labels of a `switch`, with the statements up to the next label
  pub data AreSections (s : TypeNames) : List Lexeme → List Section → Type 0 where
    no_section : AreSections s [] []
    section : (a b c : List Lexeme) (x : Label) (ys : List Stmt) (zs : List Section) → IsLabel s a x → AreStmts s b ys
        → AreSections s c zs
        → AreSections s (a ++ (b ++ c)) (record { label = x; statements = ys } ∷ zs)

  pub data AreStmts (s : TypeNames) : List Lexeme → List Stmt → Type 0 where
    no_statement : AreStmts s [] []
    statements : (a b : List Lexeme) (x : Stmt) (ys : List Stmt) → IsStmt s 0 a x → AreStmts s b ys
        → AreStmts s (a ++ b) (x ∷ ys)
