-- The grammar of expressions and type names, by cases on whole token lists (C99 6.5, 6.7.2 to 6.7.6).
use Rattle.std.specs.Prelude.{◌≡◌, ℕ, suc, ◌≤◌, true, false, List, [], ◌∷◌, ◌++◌, Some, None}
use Rattle.c_lexer.specs.declared.token.TokenKind.TheVariants as k
use Rattle.c_lexer.specs.declared.token.Keyword.TheVariants as w
use Rattle.c_lexer.specs.declared.token.Punct.TheVariants as p
use Rattle.c_lexer.specs.Pieces.{Lexeme}
use Rattle.c_tree.specs.declared.expressions.Expr.{Expr}
use Rattle.c_tree.specs.declared.expressions.Expr as e
use Rattle.c_tree.specs.declared.expressions.UnaryOp.{UnaryOp}
use Rattle.c_tree.specs.declared.expressions.StepOp.{StepOp}
use Rattle.c_tree.specs.declared.expressions.BinaryOp.{BinaryOp}
use Rattle.c_tree.specs.declared.expressions.AssignOp.{AssignOp}
use Rattle.c_tree.specs.declared.types.BasicType.{BasicType}
use Rattle.c_tree.specs.declared.types.TypeNode.{TypeNode}
use Rattle.c_tree.specs.declared.types.TypeNode as y
use Rattle.c_tree.specs.declared.types.TypeName.{TypeName}
use Rattle.c_tree.specs.declared.types.Parameter.{Parameter}
use Rattle.c_parser_grammar.specs.declared.classes.TypeWord.{TypeWord}
use Rattle.c_parser_grammar.specs.declared.classes.Infix.TheVariants as i
use Rattle.c_parser_grammar.specs.declared.classes.Prefix.TheVariants as f
use Rattle.c_parser_grammar.specs.declared.classes.Specifier.TheVariants as c
use Rattle.c_parser_grammar.specs.declared.word_set.WordSet.{WordSet}
use Rattle.c_parser_grammar.specs.declared.shapes.Shape.TheVariants as h
use Rattle.c_parser_grammar.specs.declared.shapes.Declarator.{Declarator}
use Rattle.c_parser_grammar.specs.declared.shapes.NameRequirement.{NameRequirement}
use Rattle.c_parser_grammar.specs.declared.shapes.NameRequirement.TheVariants as nm
use Rattle.c_parser_grammar.specs.Classes.{infix_of, prefix_of, specifier_of}
use Rattle.c_parser_grammar.specs.Levels.{level_of}
use Rattle.c_parser_grammar.specs.WordSets.{no_words, with_word, basic_of}
use Rattle.c_parser_grammar.specs.Levels as levels
use Rattle.c_parser_grammar.specs.Tokens.{TypeNames, is_type, token_place}
use Rattle.c_parser_grammar.specs.Types.{takes_name, may_be_nameless, nameless, with_shape, with_shapes, parameter_of, without_void, comma_of}

-- any number of `const`
pub data AreConsts : List Lexeme → Type 0 where
  none : AreConsts []
  more : (t : Lexeme) (a : List Lexeme) → t.kind ≡ k.Word w.Const → AreConsts a → AreConsts (t ∷ a)

-- words of a basic type, with `const` anywhere: they make the second set of the first
pub data AreTypeWords : WordSet → List Lexeme → WordSet → Type 0 where
  none : {x : WordSet} → AreTypeWords x [] x
  const : {x : WordSet} (t : Lexeme) (a : List Lexeme) (z : WordSet) → t.kind ≡ k.Word w.Const → AreTypeWords x a z
      → AreTypeWords x (t ∷ a) z
  more : {x : WordSet} (t : Lexeme) (word : TypeWord) (a : List Lexeme) (v z : WordSet)
      → specifier_of t.kind ≡ c.Word word → with_word x word ≡ Some v → AreTypeWords v a z → AreTypeWords x (t ∷ a) z

-- a specifier without braces
pub data IsPlain (s : TypeNames) : List Lexeme → TypeNode → Type 0 where
  words : (a : List Lexeme) (x : WordSet) (b : BasicType) → AreTypeWords no_words a x → basic_of x ≡ Some b
      → IsPlain s a (y.Basic b)
  type_name : (a : List Lexeme) (t : Lexeme) (b : List Lexeme) → AreConsts a → t.kind ≡ k.Name → is_type s t ≡ true
      → AreConsts b → IsPlain s (a ++ t ∷ b) (y.Named t.spelling)
  struct : (a : List Lexeme) (t n : Lexeme) (b : List Lexeme) → AreConsts a → t.kind ≡ k.Word w.Struct
      → n.kind ≡ k.Name → AreConsts b → IsPlain s (a ++ t ∷ n ∷ b) (y.Struct n.at (Some n.spelling) None)
  enum : (a : List Lexeme) (t n : Lexeme) (b : List Lexeme) → AreConsts a → t.kind ≡ k.Word w.Enum → n.kind ≡ k.Name
      → AreConsts b → IsPlain s (a ++ t ∷ n ∷ b) (y.Enum n.at (Some n.spelling) None)

-- one text literal or more
pub data AreTexts : List Lexeme → List (List ℕ) → Type 0 where
  one : (t : Lexeme) → t.kind ≡ k.Text → AreTexts (t ∷ []) (t.spelling ∷ [])
  more : (t : Lexeme) (a : List Lexeme) (xs : List (List ℕ)) → t.kind ≡ k.Text → AreTexts a xs
      → AreTexts (t ∷ a) (t.spelling ∷ xs)

mutual
  -- IsExpr s m ts x: the tokens spell the expression, which may stand where one of level m may.
  pub data IsExpr (s : TypeNames) : ℕ → List Lexeme → Expr → Type 0 where
    name : {m : ℕ} (t : Lexeme) → m ≤ levels.primary → t.kind ≡ k.Name → is_type s t ≡ false
        → IsExpr s m (t ∷ []) (e.Name t.at t.spelling)
    number : {m : ℕ} (t : Lexeme) → m ≤ levels.primary → t.kind ≡ k.Number
        → IsExpr s m (t ∷ []) (e.Number t.at t.spelling)
    character : {m : ℕ} (t : Lexeme) → m ≤ levels.primary → t.kind ≡ k.Char
        → IsExpr s m (t ∷ []) (e.Character t.at t.spelling)
    texts : {m : ℕ} (a : List Lexeme) (xs : List (List ℕ)) → m ≤ levels.primary → AreTexts a xs
        → IsExpr s m a (e.Text (token_place a) xs)
    brackets : {m : ℕ} (l : Lexeme) (a : List Lexeme) (r : Lexeme) (x : Expr) → m ≤ levels.primary
        → l.kind ≡ k.Mark p.LeftParen → IsWhole s a x → r.kind ≡ k.Mark p.RightParen → IsExpr s m (l ∷ a ++ r ∷ []) x
    call : {m : ℕ} (t l : Lexeme) (a : List Lexeme) (r : Lexeme) (xs : List Expr) → m ≤ levels.primary
        → t.kind ≡ k.Name → is_type s t ≡ false
        → l.kind ≡ k.Mark p.LeftParen → AreArguments s a xs → r.kind ≡ k.Mark p.RightParen
        → IsExpr s m (t ∷ l ∷ a ++ r ∷ []) (e.Call t.at t.spelling xs)
    index : {m : ℕ} (a : List Lexeme) (l : Lexeme) (b : List Lexeme) (r : Lexeme) (x z : Expr) → m ≤ levels.postfix
        → IsExpr s levels.postfix a x → l.kind ≡ k.Mark p.LeftBracket → IsWhole s b z → r.kind ≡ k.Mark p.RightBracket
        → IsExpr s m (a ++ (l ∷ b ++ r ∷ [])) (e.Index (token_place a) x z)
    field : {m : ℕ} (a : List Lexeme) (t n : Lexeme) (x : Expr) → m ≤ levels.postfix → IsExpr s levels.postfix a x
        → t.kind ≡ k.Mark p.Dot → n.kind ≡ k.Name → IsExpr s m (a ++ t ∷ n ∷ []) (e.Field (token_place a) x n.spelling)
    arrow : {m : ℕ} (a : List Lexeme) (t n : Lexeme) (x : Expr) → m ≤ levels.postfix → IsExpr s levels.postfix a x
        → t.kind ≡ k.Mark p.Arrow → n.kind ≡ k.Name → IsExpr s m (a ++ t ∷ n ∷ [])
        (e.Arrow (token_place a) x n.spelling)
    postfix : {m : ℕ} (a : List Lexeme) (t : Lexeme) (op : StepOp) (x : Expr) → m ≤ levels.postfix
        → IsExpr s levels.postfix a x → infix_of t.kind ≡ i.Step op
        → IsExpr s m (a ++ t ∷ []) (e.Postfix (token_place a) op x)
    prefix_step : {m : ℕ} (t : Lexeme) (a : List Lexeme) (op : UnaryOp) (x : Expr) → m ≤ levels.unary
        → prefix_of t.kind ≡ f.Step op → IsExpr s levels.unary a x → IsExpr s m (t ∷ a) (e.Unary t.at op x)
    unary : {m : ℕ} (t : Lexeme) (a : List Lexeme) (op : UnaryOp) (x : Expr) → m ≤ levels.unary
        → prefix_of t.kind ≡ f.Unary op → IsExpr s levels.cast a x → IsExpr s m (t ∷ a) (e.Unary t.at op x)
    size_of : {m : ℕ} (t : Lexeme) (a : List Lexeme) (x : Expr) → m ≤ levels.unary → t.kind ≡ k.Word w.Sizeof
        → IsExpr s levels.unary a x → IsExpr s m (t ∷ a) (e.SizeOfValue t.at x)
    size_of_type : {m : ℕ} (t l : Lexeme) (a : List Lexeme) (r : Lexeme) (ty : TypeName) → m ≤ levels.unary
        → t.kind ≡ k.Word w.Sizeof
        → l.kind ≡ k.Mark p.LeftParen → IsTypeName s a ty → r.kind ≡ k.Mark p.RightParen
        → IsExpr s m (t ∷ l ∷ a ++ r ∷ []) (e.SizeOfType t.at ty)
    cast : {m : ℕ} (l : Lexeme) (a : List Lexeme) (r : Lexeme) (b : List Lexeme) (ty : TypeName) (x : Expr)
        → m ≤ levels.cast
        → l.kind ≡ k.Mark p.LeftParen → IsTypeName s a ty → r.kind ≡ k.Mark p.RightParen → IsExpr s levels.cast b x
        → IsExpr s m (l ∷ a ++ r ∷ b) (e.Cast l.at ty x)
    binary : {m : ℕ} (a : List Lexeme) (t : Lexeme) (b : List Lexeme) (op : BinaryOp) (x z : Expr) → m ≤ level_of op
        → infix_of t.kind ≡ i.Binary op
        → IsExpr s (level_of op) a x → IsExpr s (suc (level_of op)) b z
        → IsExpr s m (a ++ t ∷ b) (e.Binary (token_place a) op x z)
    conditional : {m : ℕ} (a : List Lexeme) (t : Lexeme) (b : List Lexeme) (r : Lexeme) (d : List Lexeme) (x v z : Expr)
        → m ≤ levels.conditional
        → IsExpr s levels.logical_or a x → t.kind ≡ k.Mark p.Question → IsWhole s b v → r.kind ≡ k.Mark p.Colon
        → IsExpr s levels.conditional d z → IsExpr s m (a ++ (t ∷ b ++ r ∷ d)) (e.Conditional (token_place a) x v z)
    assignment : {m : ℕ} (a : List Lexeme) (t : Lexeme) (b : List Lexeme) (op : AssignOp) (x z : Expr)
        → m ≤ levels.assignment
        → IsExpr s levels.unary a x → infix_of t.kind ≡ i.Assign op → IsExpr s levels.assignment b z
        → IsExpr s m (a ++ t ∷ b) (e.Assign (token_place a) op x z)

  -- an expression with its commas
  pub data IsWhole (s : TypeNames) : List Lexeme → Expr → Type 0 where
    commas : (a : List Lexeme) (xs : List Expr) → AreAssignments s a xs → IsWhole s a (comma_of (token_place a) xs)

  -- assignments with commas between, one or more
  pub data AreAssignments (s : TypeNames) : List Lexeme → List Expr → Type 0 where
    one : (a : List Lexeme) (x : Expr) → IsExpr s levels.assignment a x → AreAssignments s a (x ∷ [])
    more : (a : List Lexeme) (t : Lexeme) (b : List Lexeme) (x : Expr) (xs : List Expr)
        → IsExpr s levels.assignment a x → t.kind ≡ k.Mark p.Comma → AreAssignments s b xs
        → AreAssignments s (a ++ t ∷ b) (x ∷ xs)

  pub data AreArguments (s : TypeNames) : List Lexeme → List Expr → Type 0 where
    none : AreArguments s [] []
    some : (a : List Lexeme) (xs : List Expr) → AreAssignments s a xs → AreArguments s a xs

  pub data IsTypeName (s : TypeNames) : List Lexeme → TypeName → Type 0 where
    type_name : (a b : List Lexeme) (ty : TypeNode) (d : Declarator) → IsPlain s a ty
        → IsDeclarator s nm.Refused 0 b d
        → IsTypeName s (a ++ b) (record { at = token_place a; ty = with_shapes d.shapes ty })

  -- IsDeclarator s naming m ts d: at m = 1 the declarator begins with no star
  pub data IsDeclarator (s : TypeNames) : NameRequirement → ℕ → List Lexeme → Declarator → Type 0 where
    star : {naming : NameRequirement} {m : ℕ} (t : Lexeme) (a b : List Lexeme) (d : Declarator) → m ≤ 0
        → t.kind ≡ k.Mark p.Star → AreConsts a → IsDeclarator s naming 0 b d
        → IsDeclarator s naming m (t ∷ a ++ b) (with_shape d h.Pointer)
    own_name : {naming : NameRequirement} {m : ℕ} (t : Lexeme) → t.kind ≡ k.Name
        → takes_name naming (is_type s t) ≡ true → IsDeclarator s naming m (t ∷ [])
        (record { name = Some (record { at = t.at; name = t.spelling }); shapes = [] })
    no_name : {naming : NameRequirement} {m : ℕ} → may_be_nameless naming ≡ true → IsDeclarator s naming m [] nameless
    group : {naming : NameRequirement} {m : ℕ} (l t : Lexeme) (a : List Lexeme) (r : Lexeme) (d : Declarator)
        → l.kind ≡ k.Mark p.LeftParen → t.kind ≡ k.Mark p.Star → IsDeclarator s naming 0 (t ∷ a) d
        → r.kind ≡ k.Mark p.RightParen
        → IsDeclarator s naming m (l ∷ t ∷ a ++ r ∷ []) d
    open_array : {naming : NameRequirement} {m : ℕ} (a : List Lexeme) (l r : Lexeme) (d : Declarator)
        → IsDeclarator s naming 1 a d → l.kind ≡ k.Mark p.LeftBracket → r.kind ≡ k.Mark p.RightBracket
        → IsDeclarator s naming m (a ++ l ∷ r ∷ []) (with_shape d (h.Array None))
    array : {naming : NameRequirement} {m : ℕ} (a : List Lexeme) (l : Lexeme) (b : List Lexeme) (r : Lexeme)
        (d : Declarator) (x : Expr)
        → IsDeclarator s naming 1 a d → l.kind ≡ k.Mark p.LeftBracket → IsExpr s levels.conditional b x
        → r.kind ≡ k.Mark p.RightBracket
        → IsDeclarator s naming m (a ++ (l ∷ b ++ r ∷ [])) (with_shape d (h.Array (Some x)))
    function : {naming : NameRequirement} {m : ℕ} (a : List Lexeme) (l : Lexeme) (b : List Lexeme) (r : Lexeme)
        (d : Declarator) (xs : List Parameter)
        → IsDeclarator s naming 1 a d → l.kind ≡ k.Mark p.LeftParen → AreParameters s b xs
        → r.kind ≡ k.Mark p.RightParen
        → IsDeclarator s naming m (a ++ (l ∷ b ++ r ∷ [])) (with_shape d (h.Takes (without_void xs)))

  pub data AreParameters (s : TypeNames) : List Lexeme → List Parameter → Type 0 where
    no_parameter : AreParameters s [] []
    parameters : (a : List Lexeme) (xs : List Parameter) → AreSomeParameters s a xs → AreParameters s a xs

  pub data AreSomeParameters (s : TypeNames) : List Lexeme → List Parameter → Type 0 where
    one_parameter : (a : List Lexeme) (x : Parameter) → IsParameter s a x → AreSomeParameters s a (x ∷ [])
    more_parameters : (a : List Lexeme) (t : Lexeme) (b : List Lexeme) (x : Parameter) (xs : List Parameter)
        → IsParameter s a x → t.kind ≡ k.Mark p.Comma → AreSomeParameters s b xs
        → AreSomeParameters s (a ++ t ∷ b) (x ∷ xs)

  pub data IsParameter (s : TypeNames) : List Lexeme → Parameter → Type 0 where
    parameter : (a b : List Lexeme) (ty : TypeNode) (d : Declarator) → IsPlain s a ty
        → IsDeclarator s nm.Optional 0 b d → IsParameter s (a ++ b) (parameter_of (token_place a) ty d)
