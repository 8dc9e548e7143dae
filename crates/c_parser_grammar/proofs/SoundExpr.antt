-- Expressions, declarators and type names that are read are in the grammar.
use Rattle.std.proofs.Common.{◌≡◌, ℕ, zero, suc, ◌≤◌, Bool, true, false, cond, ltb, List, [], ◌∷◌, ◌++◌, length, Some, None, Ok, Err, refl, sym, ap, ◌∙◌, subst, append_assoc, append-nil, arith}
use Rattle.c_lexer.specs.declared.token.TokenKind.{TokenKind}
use Rattle.c_lexer.specs.declared.token.TokenKind.TheVariants as k
use Rattle.c_lexer.specs.declared.token.Keyword.TheVariants as w
use Rattle.c_lexer.specs.declared.token.Punct.TheVariants as p
use Rattle.c_lexer.specs.Pieces.{Lexeme}
use Rattle.c_tree.specs.declared.expressions.Expr.{Expr}
use Rattle.c_tree.specs.declared.expressions.Expr as e
use Rattle.c_tree.specs.declared.expressions.UnaryOp.{UnaryOp}
use Rattle.c_tree.specs.declared.expressions.BinaryOp.{BinaryOp}
use Rattle.c_parser_grammar.specs.declared.classes.Infix.{Infix}
use Rattle.c_parser_grammar.specs.declared.classes.Infix.TheVariants as i
use Rattle.c_parser_grammar.specs.declared.classes.Prefix.TheVariants as f
use Rattle.c_parser_grammar.specs.declared.shapes.Shape.TheVariants as sh
use Rattle.c_parser_grammar.specs.declared.shapes.Declarator.{Declarator}
use Rattle.c_parser_grammar.specs.declared.shapes.NameRequirement.{NameRequirement}
use Rattle.c_parser_grammar.specs.declared.shapes.NameRequirement.TheVariants as nm
use Rattle.c_parser_grammar.specs.Classes.{infix_of, prefix_of}
use Rattle.c_parser_grammar.specs.Levels.{level_of, binding_level, operand_level, result_level}
use Rattle.c_parser_grammar.specs.Tokens.{TypeNames, is_type, token_place, is_mark, is_name_token, is_text, begins_type}
use Rattle.c_parser_grammar.specs.Types.{takes_name, may_be_nameless, nameless, with_shape, with_shapes, parameter_of, without_void, comma_of}
use Rattle.c_parser_grammar.specs.Grammar.{AreConsts, IsPlain, AreTexts, IsExpr, IsWhole, AreAssignments, AreArguments, IsTypeName, IsDeclarator, AreParameters, AreSomeParameters, IsParameter}
use Rattle.c_parser_grammar.specs.Parser.{Parser, and_then, pure, consts}
use Rattle.c_parser_grammar.specs.ParseExpr.{plain, texts_from, list_from, whole, type_name, parameter, arguments_behind, parameters_behind, behind_name, cast_behind, brackets_behind, bracket_operand, sizeof_type_name, sizeof_unary, sizeof_behind, operand_by, operand, member_name, step_by, climb, tight, length_behind, suffixes, group_behind, core_bracket, core, pointer_declarator, shaped_declarator, expr, declarator}
use Rattle.std.specs.Prelude.{◌≢◌}
use Rattle.std.proofs.lemmas.Bool.{ltb-true, ltb-false}
use Rattle.c_parser_grammar.proofs.Outcomes.{no_true, mark_is, name_is, text_is}
use Rattle.c_parser_grammar.proofs.Facts.{levels}
use Rattle.c_parser_grammar.proofs.Reach.{place-append}
use Rattle.c_parser_grammar.proofs.First.{first, first_listed}
use Rattle.c_parser_grammar.proofs.ReadPlain.{plain_begins}
use Rattle.c_parser_grammar.proofs.Says.{Instance, Viable, Says, lexeme_of, ok_says, err_says, refused_says, bind_says, bind_says_at, if_says, token_says, done_says, expect_says, consts_says, list_says, weaker}
use Rattle.c_parser_grammar.proofs.Instances.{number, some_number, whole_number, some_declarator}
use Rattle.c_parser_grammar.proofs.SoundPlain.{plain_says}

-- the levels that are asked for
pub record IsWantedLevel (m : ℕ) : Type 0 where
  pub two : 2 ≤ m
  pub cap : m ≤ 17
  pub three : m ≢ 3
  pub five : m ≢ 5

abbrev pub SoundE : TypeNames → (ℕ → Parser Expr) → Type 0
SoundE s rec = (m : ℕ) (ts : List Lexeme) → IsWantedLevel m → Says (rec m ts) ts (λ a x. IsExpr s m a x)

abbrev pub SoundD : TypeNames → (NameRequirement → Parser Declarator) → Type 0
SoundD s dec = (naming : NameRequirement) (ts : List Lexeme) → Says (dec naming ts) ts (λ a d. IsDeclarator s naming 0 a d)

pub two_wanted : IsWantedLevel 2
two_wanted = record { two = omega arith; cap = omega arith; three = omega arith; five = omega arith }

pub four_wanted : IsWantedLevel 4
four_wanted = record { two = omega arith; cap = omega arith; three = omega arith; five = omega arith }

sixteen_wanted : IsWantedLevel 16
sixteen_wanted = record { two = omega arith; cap = omega arith; three = omega arith; five = omega arith }

seventeen_wanted : IsWantedLevel 17
seventeen_wanted = record { two = omega arith; cap = omega arith; three = omega arith; five = omega arith }

above_wanted : (op : BinaryOp) → IsWantedLevel (suc (level_of op))
above_wanted op = let l = levels op in record { two = omega arith; cap = omega arith; three = omega arith; five = omega arith }

-- an operand of the level that comes with it
pub record IsOperand (s : TypeNames) (least : ℕ) (a : List Lexeme) (q : Expr × ℕ) : Type 0 where
  pub wanted : least ≤ q.1
  pub is : IsExpr s q.1 a q.0

-- ---- infix tokens

is_index : Infix → Bool
is_index i.Index = true
is_index _ = false

is_field : Infix → Bool
is_field i.Field = true
is_field _ = false

is_arrow : Infix → Bool
is_arrow i.Arrow = true
is_arrow _ = false

is_choose : Infix → Bool
is_choose i.Conditional = true
is_choose _ = false

index_is : (kind : TokenKind) → infix_of kind ≡ i.Index → kind ≡ k.Mark p.LeftBracket
unfolding is_index
index_is (k.Mark p.LeftBracket) e = refl
index_is (k.Mark _) e = no_true (ap is_index e)
index_is _ e = no_true (ap is_index e)

field_is : (kind : TokenKind) → infix_of kind ≡ i.Field → kind ≡ k.Mark p.Dot
unfolding is_field
field_is (k.Mark p.Dot) e = refl
field_is (k.Mark _) e = no_true (ap is_field e)
field_is _ e = no_true (ap is_field e)

arrow_is : (kind : TokenKind) → infix_of kind ≡ i.Arrow → kind ≡ k.Mark p.Arrow
unfolding is_arrow
arrow_is (k.Mark p.Arrow) e = refl
arrow_is (k.Mark _) e = no_true (ap is_arrow e)
arrow_is _ e = no_true (ap is_arrow e)

choose_is : (kind : TokenKind) → infix_of kind ≡ i.Conditional → kind ≡ k.Mark p.Question
unfolding is_choose
choose_is (k.Mark p.Question) e = refl
choose_is (k.Mark _) e = no_true (ap is_choose e)
choose_is _ e = no_true (ap is_choose e)

makes_above : (class : Infix) (least : ℕ) → IsWantedLevel least → least ≤ binding_level class → least ≤ result_level class
makes_above i.Comma least w le = le
makes_above (i.Assign op) least w le = let a = w.three in omega arith
makes_above i.Conditional least w le = let a = w.five in omega arith
makes_above (i.Binary op) least w le = le
makes_above i.Index least w le = le
makes_above i.Field least w le = le
makes_above i.Arrow least w le = le
makes_above (i.Step op) least w le = le
makes_above i.Tight least w le = le
makes_above i.Nothing least w le = le

-- ---- texts

data MaybeTexts (s : TypeNames) : List Lexeme → List (List ℕ) → Type 0 where
  none : MaybeTexts s [] []
  some : (a : List Lexeme) (xs : List (List ℕ)) → AreTexts a xs → MaybeTexts s a xs

more_texts : (s : TypeNames) (t : Lexeme) {a : List Lexeme} {xs : List (List ℕ)} → t.kind ≡ k.Text → MaybeTexts s a xs → AreTexts (t ∷ a) (t.spelling ∷ xs)
more_texts s t kind MaybeTexts.none = AreTexts.one t kind
more_texts s t kind (MaybeTexts.some a xs h) = AreTexts.more t a xs kind h

abbrev TextsFound : TypeNames → List (List ℕ) → List Lexeme → List (List ℕ) → Type 0
TextsFound s found a ys = (xs : List (List ℕ)) × (ys ≡ found ++ xs) × MaybeTexts s a xs

module _ (s : TypeNames) where
  no_texts : (found : List (List ℕ)) (ts : List Lexeme) → Says (Ok (found, ts)) ts (TextsFound s found)
  no_texts found ts = ok_says found ts (TextsFound s found) ([], sym (append-nil found), MaybeTexts.none)

  texts_says : (j : ℕ) (found : List (List ℕ)) (ts : List Lexeme) → Says (texts_from j found ts) ts (TextsFound s found)
  unfolding texts_from
  texts_says zero found ts = no_texts found ts
  texts_says (suc j) found [] = no_texts found []
  texts_says (suc j) found (t ∷ r) = if_says (is_text t.kind) (texts_from j (found ++ t.spelling ∷ []) r) (Ok (found, t ∷ r)) (t ∷ r) _
      (λ yes. token_says (texts_from j (found ++ t.spelling ∷ []) r) t r _ (weaker (texts_from j (found ++ t.spelling ∷ []) r) r _ _
      (λ a ys q. (t.spelling ∷ q.0, q.1 ∙ append_assoc found (t.spelling ∷ []) q.0, MaybeTexts.some (t ∷ a) (t.spelling ∷ q.0) (more_texts s t (text_is t.kind yes) q.2))) (texts_says j (found ++ t.spelling ∷ []) r)))
      (λ other. no_texts found (t ∷ r))

  pub weaken : {m : ℕ} {a : List Lexeme} {x : Expr} → IsExpr s m a x → (j : ℕ) → j ≤ m → IsExpr s j a x
  weaken (IsExpr.name t low kind listed) j le = IsExpr.name t (omega arith) kind listed
  weaken (IsExpr.number t low kind) j le = IsExpr.number t (omega arith) kind
  weaken (IsExpr.character t low kind) j le = IsExpr.character t (omega arith) kind
  weaken (IsExpr.texts a xs low h) j le = IsExpr.texts a xs (omega arith) h
  weaken (IsExpr.brackets l a r x low lk h rk) j le = IsExpr.brackets l a r x (omega arith) lk h rk
  weaken (IsExpr.call t l a r xs low kind listed lk h rk) j le = IsExpr.call t l a r xs (omega arith) kind listed lk h rk
  weaken (IsExpr.index a l b r x z low h lk g rk) j le = IsExpr.index a l b r x z (omega arith) h lk g rk
  weaken (IsExpr.field a t n x low h tk nk) j le = IsExpr.field a t n x (omega arith) h tk nk
  weaken (IsExpr.arrow a t n x low h tk nk) j le = IsExpr.arrow a t n x (omega arith) h tk nk
  weaken (IsExpr.postfix a t op x low h kind) j le = IsExpr.postfix a t op x (omega arith) h kind
  weaken (IsExpr.prefix_step t a op x low kind h) j le = IsExpr.prefix_step t a op x (omega arith) kind h
  weaken (IsExpr.unary t a op x low kind h) j le = IsExpr.unary t a op x (omega arith) kind h
  weaken (IsExpr.size_of t a x low kind h) j le = IsExpr.size_of t a x (omega arith) kind h
  weaken (IsExpr.size_of_type t l a r ty low kind lk h rk) j le = IsExpr.size_of_type t l a r ty (omega arith) kind lk h rk
  weaken (IsExpr.cast l a r b ty x low lk h rk g) j le = IsExpr.cast l a r b ty x (omega arith) lk h rk g
  weaken (IsExpr.binary a t b op x z low kind h g) j le = IsExpr.binary a t b op x z (omega arith) kind h g
  weaken (IsExpr.conditional a t b r c x v z low h tk g rk o) j le = IsExpr.conditional a t b r c x v z (omega arith) h tk g rk o
  weaken (IsExpr.assignment a t b op x z low h kind g) j le = IsExpr.assignment a t b op x z (omega arith) h kind g

  level_cap : {m : ℕ} {a : List Lexeme} {x : Expr} → IsExpr s m a x → m ≤ 19
  level_cap (IsExpr.name t low kind listed) = low
  level_cap (IsExpr.number t low kind) = low
  level_cap (IsExpr.character t low kind) = low
  level_cap (IsExpr.texts a xs low h) = low
  level_cap (IsExpr.brackets l a r x low lk h rk) = low
  level_cap (IsExpr.call t l a r xs low kind listed lk h rk) = low
  level_cap (IsExpr.index a l b r x z low h lk g rk) = omega arith
  level_cap (IsExpr.field a t n x low h tk nk) = omega arith
  level_cap (IsExpr.arrow a t n x low h tk nk) = omega arith
  level_cap (IsExpr.postfix a t op x low h kind) = omega arith
  level_cap (IsExpr.prefix_step t a op x low kind h) = omega arith
  level_cap (IsExpr.unary t a op x low kind h) = omega arith
  level_cap (IsExpr.size_of t a x low kind h) = omega arith
  level_cap (IsExpr.size_of_type t l a r ty low kind lk h rk) = omega arith
  level_cap (IsExpr.cast l a r b ty x low lk h rk g) = omega arith
  level_cap (IsExpr.binary a t b op x z low kind h g) = let l = levels op in omega arith
  level_cap (IsExpr.conditional a t b r c x v z low h tk g rk o) = omega arith
  level_cap (IsExpr.assignment a t b op x z low h kind g) = omega arith

  loosen : {naming : NameRequirement} {m : ℕ} {a : List Lexeme} {d : Declarator} → IsDeclarator s naming m a d → IsDeclarator s naming 0 a d
  loosen (IsDeclarator.star t a b d low kind c h) = IsDeclarator.star t a b d (omega arith) kind c h
  loosen (IsDeclarator.own_name t kind takes) = IsDeclarator.own_name t kind takes
  loosen (IsDeclarator.no_name may) = IsDeclarator.no_name may
  loosen (IsDeclarator.group l t a r d lk tk h rk) = IsDeclarator.group l t a r d lk tk h rk
  loosen (IsDeclarator.open_array a l r d h lk rk) = IsDeclarator.open_array a l r d h lk rk
  loosen (IsDeclarator.array a l b r d x h lk g rk) = IsDeclarator.array a l b r d x h lk g rk
  loosen (IsDeclarator.function a l b r d xs h lk g rk) = IsDeclarator.function a l b r d xs h lk g rk

  module _ (rec : ℕ → Parser Expr) (dec : NameRequirement → Parser Declarator) (sound : SoundE s rec) (sound_d : SoundD s dec) where
    list_of : (j : ℕ) (ts : List Lexeme) → Says (list_from (rec 2) j [] ts) ts (λ a xs. AreAssignments s a xs)
    list_of j ts = weaker (list_from (rec 2) j [] ts) ts _ _ (λ a ys q. subst (λ z. AreAssignments s a z) (sym q.1) q.2)
        (list_says (rec 2) (λ a x. IsExpr s 2 a x) (λ a xs. AreAssignments s a xs) (λ ts. sound 2 ts two_wanted) (λ a x h. AreAssignments.one a x h) (λ a t b x xs h kind g. AreAssignments.more a t b x xs h kind g) j [] ts)

    pub whole_says : (ts : List Lexeme) → Says (whole s rec dec ts) ts (λ a x. IsWhole s a x)
    unfolding whole
    whole_says ts = bind_says_at (list_from (rec 2) (length ts) [] ts) _ ts (λ a xs. AreAssignments s a xs) _ (list_of (length ts) ts) (λ a xs r e h.
        done_says (comma_of (token_place ts) xs) a r (λ a x. IsWhole s a x) (subst (λ at. IsWhole s a (comma_of at xs)) (sym (ap token_place e ∙ place-append a r (first_listed s h).0)) (IsWhole.commas a xs h)))
        (λ a xs h. ([], comma_of (token_place a) xs, subst (λ c. IsWhole s c (comma_of (token_place a) xs)) (sym (append-nil a)) (IsWhole.commas a xs h)))

    arguments_says : (ts : List Lexeme) → Says (arguments_behind s rec dec ts) ts (λ a xs. (b : List Lexeme) × (r : Lexeme) × (a ≡ b ++ r ∷ []) × AreArguments s b xs × (r.kind ≡ k.Mark p.RightParen))
    unfolding arguments_behind
    arguments_says [] = bind_says (list_from (rec 2) 0 [] []) _ [] (λ a xs. AreAssignments s a xs) _ (list_of 0 []) (λ a xs u h. expect_says p.RightParen _ u _ (λ r v kind. ok_says xs v _ (a, r, refl, AreArguments.some a xs h, kind)))
    arguments_says (t ∷ ts) = if_says (is_mark p.RightParen t.kind) (Ok ([], ts)) _ (t ∷ ts) _
        (λ yes. token_says (Ok ([], ts)) t ts _ (ok_says [] ts _ ([], t, refl, AreArguments.none, mark_is p.RightParen t.kind yes)))
        (λ other. bind_says (list_from (rec 2) (length (t ∷ ts)) [] (t ∷ ts)) _ (t ∷ ts) (λ a xs. AreAssignments s a xs) _ (list_of (length (t ∷ ts)) (t ∷ ts)) (λ a xs u h. expect_says p.RightParen _ u _ (λ r v kind. ok_says xs v _ (a, r, refl, AreArguments.some a xs h, kind))))

    type_says : (ts : List Lexeme) → Says (type_name s rec dec ts) ts (λ a ty. IsTypeName s a ty)
    unfolding type_name
    type_says ts = bind_says_at (plain s ts) _ ts (λ a ty. IsPlain s a ty) _ (plain_says s ts) (λ a ty r e h.
        bind_says (dec nm.Refused r) _ r (λ b d. IsDeclarator s nm.Refused 0 b d) _ (sound_d nm.Refused r) (λ b d u g.
        done_says (record { at = token_place ts; ty = with_shapes d.shapes ty }) b u (λ c z. IsTypeName s (a ++ c) z) (subst (λ at. IsTypeName s (a ++ b) (record { at = at; ty = with_shapes d.shapes ty })) (sym (ap token_place e ∙ place-append a r (plain_begins s h).0)) (IsTypeName.type_name a b ty d h g))))
        (λ a ty h. ([], record { at = token_place a; ty = ty }, IsTypeName.type_name a [] ty nameless h (IsDeclarator.no_name refl)))

    parameter_says : (ts : List Lexeme) → Says (parameter s rec dec ts) ts (λ a x. IsParameter s a x)
    unfolding parameter
    parameter_says ts = bind_says_at (plain s ts) _ ts (λ a ty. IsPlain s a ty) _ (plain_says s ts) (λ a ty r e h.
        bind_says (dec nm.Optional r) _ r (λ b d. IsDeclarator s nm.Optional 0 b d) _ (sound_d nm.Optional r) (λ b d u g.
        done_says (parameter_of (token_place ts) ty d) b u (λ c z. IsParameter s (a ++ c) z) (subst (λ at. IsParameter s (a ++ b) (parameter_of at ty d)) (sym (ap token_place e ∙ place-append a r (plain_begins s h).0)) (IsParameter.parameter a b ty d h g))))
        (λ a ty h. ([], parameter_of (token_place a) ty nameless, IsParameter.parameter a [] ty nameless h (IsDeclarator.no_name refl)))

    parameters_of : (j : ℕ) (ts : List Lexeme) → Says (list_from (parameter s rec dec) j [] ts) ts (λ a xs. AreSomeParameters s a xs)
    parameters_of j ts = weaker (list_from (parameter s rec dec) j [] ts) ts _ _ (λ a ys q. subst (λ z. AreSomeParameters s a z) (sym q.1) q.2)
        (list_says (parameter s rec dec) (λ a x. IsParameter s a x) (λ a xs. AreSomeParameters s a xs) parameter_says (λ a x h. AreSomeParameters.one_parameter a x h) (λ a t b x xs h kind g. AreSomeParameters.more_parameters a t b x xs h kind g) j [] ts)

    parameters_says : (ts : List Lexeme) → Says (parameters_behind s rec dec ts) ts (λ a xs. (b : List Lexeme) × (r : Lexeme) × (a ≡ b ++ r ∷ []) × AreParameters s b xs × (r.kind ≡ k.Mark p.RightParen))
    unfolding parameters_behind
    parameters_says [] = bind_says (list_from (parameter s rec dec) 0 [] []) _ [] (λ a xs. AreSomeParameters s a xs) _ (parameters_of 0 []) (λ a xs u h. expect_says p.RightParen _ u _ (λ r v kind. ok_says xs v _ (a, r, refl, AreParameters.parameters a xs h, kind)))
    parameters_says (t ∷ ts) = if_says (is_mark p.RightParen t.kind) (Ok ([], ts)) _ (t ∷ ts) _
        (λ yes. token_says (Ok ([], ts)) t ts _ (ok_says [] ts _ ([], t, refl, AreParameters.no_parameter, mark_is p.RightParen t.kind yes)))
        (λ other. bind_says (list_from (parameter s rec dec) (length (t ∷ ts)) [] (t ∷ ts)) _ (t ∷ ts) (λ a xs. AreSomeParameters s a xs) _ (parameters_of (length (t ∷ ts)) (t ∷ ts)) (λ a xs u h. expect_says p.RightParen _ u _ (λ r v kind. ok_says xs v _ (a, r, refl, AreParameters.parameters a xs h, kind))))

    -- ---- operands

    lone_name : (least : ℕ) (t : Lexeme) (ts : List Lexeme) → least ≤ 17 → t.kind ≡ k.Name → is_type s t ≡ false → Says (Ok ((e.Name t.at t.spelling, 19), ts)) ts (λ b q. IsOperand s least (t ∷ b) q)
    lone_name least t ts cap kind listed = ok_says (e.Name t.at t.spelling, 19) ts _ (record { wanted = omega arith; is = IsExpr.name t (omega arith) kind listed })

    by_name_says : (least : ℕ) (t : Lexeme) (ts : List Lexeme) → least ≤ 17 → t.kind ≡ k.Name → is_type s t ≡ false → Says (behind_name s rec dec t.at t.spelling ts) ts (λ b q. IsOperand s least (t ∷ b) q)
    unfolding behind_name
    by_name_says least t [] cap kind listed = lone_name least t [] cap kind listed
    by_name_says least t (l ∷ ts) cap kind listed = if_says (is_mark p.LeftParen l.kind) _ _ (l ∷ ts) _
        (λ yes. token_says _ l ts _ (bind_says (arguments_behind s rec dec ts) _ ts _ _ (arguments_says ts) (λ a xs u q.
        let P : List Lexeme → Type 0 = λ a. Says (Ok ((e.Call t.at t.spelling xs, 19), u)) u (λ c z. IsOperand s least (t ∷ l ∷ (a ++ c)) z) in
        subst P (sym q.2) (done_says (e.Call t.at t.spelling xs, 19) (q.0 ++ q.1 ∷ []) u (λ c z. IsOperand s least (t ∷ l ∷ c) z) (record { wanted = omega arith; is = IsExpr.call {m = 19} t l q.0 q.1 xs (omega arith) kind listed (mark_is p.LeftParen l.kind yes) q.3 q.4 })))))
        (λ other. lone_name least t (l ∷ ts) cap kind listed)

    cast_says : (least : ℕ) (l : Lexeme) (ts : List Lexeme) → least ≤ 16 → l.kind ≡ k.Mark p.LeftParen → Says (cast_behind s rec dec l.at ts) ts (λ b q. IsOperand s least (l ∷ b) q)
    unfolding cast_behind
    cast_says least l ts cap lk = bind_says (type_name s rec dec ts) _ ts (λ a ty. IsTypeName s a ty) _ (type_says ts) (λ a ty u h. expect_says p.RightParen _ u _ (λ r v rk.
        bind_says (rec 16 v) _ v (λ b x. IsExpr s 16 b x) _ (sound 16 v sixteen_wanted) (λ b x w' g.
        done_says (e.Cast l.at ty x, 16) b w' (λ c z. IsOperand s least (l ∷ (a ++ (r ∷ c))) z) (record { wanted = omega arith; is = IsExpr.cast {m = 16} l a r b ty x (omega arith) lk h rk g }))))

    brackets_says : (least : ℕ) (l : Lexeme) (ts : List Lexeme) → least ≤ 17 → l.kind ≡ k.Mark p.LeftParen → Says (brackets_behind s rec dec ts) ts (λ b q. IsOperand s least (l ∷ b) q)
    unfolding brackets_behind
    brackets_says least l ts cap lk = bind_says (whole s rec dec ts) _ ts (λ a x. IsWhole s a x) _ (whole_says ts) (λ a x u h. expect_says p.RightParen _ u _ (λ r v rk.
        ok_says (x, 19) v _ (record { wanted = omega arith; is = IsExpr.brackets {m = 19} l a r x (omega arith) lk h rk })))

    some_brackets : (least : ℕ) (l : Lexeme) → least ≤ 17 → l.kind ≡ k.Mark p.LeftParen → Instance (λ b q. IsOperand s least (l ∷ b) q)
    some_brackets least l cap lk = (
      number ∷ lexeme_of (k.Mark p.RightParen) ∷ [],
      (e.Number 0 [], 19),
      record {
        wanted = omega arith;
        is = IsExpr.brackets {m = 19} l (number ∷ []) (lexeme_of (k.Mark p.RightParen)) (e.Number 0 []) (omega arith) lk (whole_number s) refl;
      },
    )

    bracket_operand_says : (least : ℕ) (l : Lexeme) (ts : List Lexeme) → least ≤ 17 → l.kind ≡ k.Mark p.LeftParen → Says (bracket_operand s rec dec least l.at ts) ts (λ b q. IsOperand s least (l ∷ b) q)
    bracket_operand_says least l ts cap lk = if_says (begins_type s ts) _ _ ts _
        (λ yes. if_says (ltb least 17) (cast_behind s rec dec l.at ts) (Err ts) ts _ (λ low. let h = ltb-true least 17 low in cast_says least l ts (omega arith) lk) (λ high. refused_says ts _ (some_brackets least l cap lk)))
        (λ other. brackets_says least l ts cap lk)

    size_value_says : (least : ℕ) (t : Lexeme) (ts : List Lexeme) → least ≤ 17 → t.kind ≡ k.Word w.Sizeof → Says (sizeof_unary s rec dec t.at ts) ts (λ b q. IsOperand s least (t ∷ b) q)
    unfolding sizeof_unary
    size_value_says least t ts cap kind = bind_says (rec 17 ts) _ ts (λ a x. IsExpr s 17 a x) _ (sound 17 ts seventeen_wanted) (λ a x u h.
        done_says (e.SizeOfValue t.at x, 17) a u (λ c z. IsOperand s least (t ∷ c) z) (record { wanted = omega arith; is = IsExpr.size_of {m = 17} t a x (omega arith) kind h }))

    size_type_says : (least : ℕ) (t l : Lexeme) (ts : List Lexeme) → least ≤ 17 → t.kind ≡ k.Word w.Sizeof → l.kind ≡ k.Mark p.LeftParen → Says (sizeof_type_name s rec dec t.at ts) ts (λ b q. IsOperand s least (t ∷ l ∷ b) q)
    unfolding sizeof_type_name
    size_type_says least t l ts cap kind lk = bind_says (type_name s rec dec ts) _ ts (λ a ty. IsTypeName s a ty) _ (type_says ts) (λ a ty u h. expect_says p.RightParen _ u _ (λ r v rk.
        ok_says (e.SizeOfType t.at ty, 17) v _ (record { wanted = omega arith; is = IsExpr.size_of_type {m = 17} t l a r ty (omega arith) kind lk h rk })))

    size_says : (least : ℕ) (t : Lexeme) (ts : List Lexeme) → least ≤ 17 → t.kind ≡ k.Word w.Sizeof → Says (sizeof_behind s rec dec t.at ts) ts (λ b q. IsOperand s least (t ∷ b) q)
    size_says least t [] cap kind = size_value_says least t [] cap kind
    size_says least t (l ∷ ts) cap kind = if_says (is_mark p.LeftParen l.kind) _ _ (l ∷ ts) _
        (λ yes. if_says (begins_type s ts) _ _ (l ∷ ts) _ (λ type. token_says _ l ts _ (size_type_says least t l ts cap kind (mark_is p.LeftParen l.kind yes))) (λ value. size_value_says least t (l ∷ ts) cap kind))
        (λ other. size_value_says least t (l ∷ ts) cap kind)

    step_prefix_says : (least : ℕ) (t : Lexeme) (ts : List Lexeme) (op : UnaryOp) → least ≤ 17 → prefix_of t.kind ≡ f.Step op → Says (operand_by s rec dec least (f.Step op) (t ∷ ts)) (t ∷ ts) (IsOperand s least)
    step_prefix_says least t ts op cap kind = token_says _ t ts _ (bind_says (rec 17 ts) _ ts (λ a x. IsExpr s 17 a x) _ (sound 17 ts seventeen_wanted) (λ a x u h.
        done_says (e.Unary t.at op x, 17) a u (λ c z. IsOperand s least (t ∷ c) z) (record { wanted = omega arith; is = IsExpr.prefix_step {m = 17} t a op x (omega arith) kind h })))

    unary_says : (least : ℕ) (t : Lexeme) (ts : List Lexeme) (op : UnaryOp) → least ≤ 17 → prefix_of t.kind ≡ f.Unary op → Says (operand_by s rec dec least (f.Unary op) (t ∷ ts)) (t ∷ ts) (IsOperand s least)
    unary_says least t ts op cap kind = token_says _ t ts _ (bind_says (rec 16 ts) _ ts (λ a x. IsExpr s 16 a x) _ (sound 16 ts sixteen_wanted) (λ a x u h.
        done_says (e.Unary t.at op x, 17) a u (λ c z. IsOperand s least (t ∷ c) z) (record { wanted = omega arith; is = IsExpr.unary {m = 17} t a op x (omega arith) kind h })))

    texts_operand : (least : ℕ) (t : Lexeme) (ts : List Lexeme) → least ≤ 17 → t.kind ≡ k.Text → Says (operand_by s rec dec least f.Text (t ∷ ts)) (t ∷ ts) (IsOperand s least)
    unfolding texts_from
    texts_operand least t ts cap kind = bind_says (texts_from (suc (length ts)) [] (t ∷ ts)) _ (t ∷ ts) (λ a xs. (b : List Lexeme) × (a ≡ t ∷ b) × AreTexts (t ∷ b) xs) _
        (if_says (is_text t.kind) (texts_from (length ts) (t.spelling ∷ []) ts) (Ok ([], t ∷ ts)) (t ∷ ts) _
        (λ yes. token_says _ t ts _ (weaker _ ts _ _ (λ a ys q. (a, refl, subst (λ z. AreTexts (t ∷ a) z) (sym q.1) (more_texts s t kind q.2))) (texts_says (length ts) (t.spelling ∷ []) ts)))
        (λ other. no_true (sym other ∙ ap is_text kind)))
        (λ a xs u q. let P : List Lexeme → Type 0 = λ a. Says (Ok ((e.Text t.at xs, 19), u)) u (λ c z. IsOperand s least (a ++ c) z) in
        subst P (sym q.1) (done_says (e.Text t.at xs, 19) (t ∷ q.0) u (IsOperand s least) (record { wanted = omega arith; is = IsExpr.texts {m = 19} (t ∷ q.0) xs (omega arith) q.2 })))

    some_operand : (least : ℕ) → least ≤ 17 → Instance (IsOperand s least)
    some_operand least cap = (number ∷ [], (e.Number 0 [], 19), record { wanted = omega arith; is = some_number s 19 (omega arith) })

    operand_says : (kind : TokenKind) (least : ℕ) (t : Lexeme) (ts : List Lexeme) → least ≤ 17 → t.kind ≡ kind → Says (operand_by s rec dec least (prefix_of kind) (t ∷ ts)) (t ∷ ts) (IsOperand s least)
    operand_says k.Name least t ts cap kind = if_says (is_type s t) (Err (t ∷ ts)) _ (t ∷ ts) _ (λ yes. refused_says (t ∷ ts) _ (some_operand least cap)) (λ other. token_says _ t ts _ (by_name_says least t ts cap kind other))
    operand_says k.Number least t ts cap kind = token_says (Ok ((e.Number t.at t.spelling, 19), ts)) t ts _ (ok_says (e.Number t.at t.spelling, 19) ts _ (record { wanted = omega arith; is = IsExpr.number {m = 19} t (omega arith) kind }))
    operand_says k.Char least t ts cap kind = token_says (Ok ((e.Character t.at t.spelling, 19), ts)) t ts _ (ok_says (e.Character t.at t.spelling, 19) ts _ (record { wanted = omega arith; is = IsExpr.character {m = 19} t (omega arith) kind }))
    operand_says k.Text least t ts cap kind = texts_operand least t ts cap kind
    operand_says (k.Word w.Sizeof) least t ts cap kind = token_says _ t ts _ (size_says least t ts cap kind)
    operand_says (k.Word _) least t ts cap kind = refused_says (t ∷ ts) _ (some_operand least cap)
    operand_says (k.Mark p.LeftParen) least t ts cap kind = token_says _ t ts _ (bracket_operand_says least t ts cap kind)
    operand_says (k.Mark p.Increment) least t ts cap kind = step_prefix_says least t ts _ cap (ap prefix_of kind)
    operand_says (k.Mark p.Decrement) least t ts cap kind = step_prefix_says least t ts _ cap (ap prefix_of kind)
    operand_says (k.Mark p.Ampersand) least t ts cap kind = unary_says least t ts _ cap (ap prefix_of kind)
    operand_says (k.Mark p.Star) least t ts cap kind = unary_says least t ts _ cap (ap prefix_of kind)
    operand_says (k.Mark p.Plus) least t ts cap kind = unary_says least t ts _ cap (ap prefix_of kind)
    operand_says (k.Mark p.Minus) least t ts cap kind = unary_says least t ts _ cap (ap prefix_of kind)
    operand_says (k.Mark p.Tilde) least t ts cap kind = unary_says least t ts _ cap (ap prefix_of kind)
    operand_says (k.Mark p.Exclamation) least t ts cap kind = unary_says least t ts _ cap (ap prefix_of kind)
    operand_says (k.Mark _) least t ts cap kind = refused_says (t ∷ ts) _ (some_operand least cap)
    operand_says k.End least t ts cap kind = refused_says (t ∷ ts) _ (some_operand least cap)

    -- ---- the loop over operators

    member_says : (make : List ℕ → Expr) (ts : List Lexeme) (T : List Lexeme → Expr → Type 0) → ((n : Lexeme) → n.kind ≡ k.Name → T (n ∷ []) (make n.spelling)) → Says (and_then (member_name ts) (λ name. pure (make name))) ts T
    unfolding member_name
    member_says make [] T h = refused_says [] T (lexeme_of k.Name ∷ [], make [], h (lexeme_of k.Name) refl)
    member_says make (n ∷ r) T h = bind_says (member_name (n ∷ r)) _ (n ∷ r) (λ a name. T a (make name)) T
        (if_says (is_name_token n.kind) _ _ (n ∷ r) _ (λ yes. token_says _ n r _ (ok_says n.spelling r _ (h n (name_is n.kind yes)))) (λ other. refused_says (n ∷ r) _ (lexeme_of k.Name ∷ [], [], h (lexeme_of k.Name) refl))) (λ a name u g. done_says (make name) a u T g)

    step_says : (class : Infix) (t : Lexeme) (level : ℕ) (done : List Lexeme) (x : Expr) (ts : List Lexeme) → infix_of t.kind ≡ class → 2 ≤ binding_level class → operand_level class ≤ level → IsExpr s level done x
        → Says (step_by s rec dec class (token_place done) x ts) ts (λ b z. IsExpr s (result_level class) (done ++ t ∷ b) z)
    step_says i.Index t level done x ts kind two le h = bind_says (whole s rec dec ts) _ ts (λ a z. IsWhole s a z) _ (whole_says ts) (λ a z u g. expect_says p.RightBracket _ u _ (λ r v rk.
        ok_says (e.Index (token_place done) x z) v _ (IsExpr.index {m = 18} done t a r x z (omega arith) (weaken h 18 le) (index_is t.kind kind) g rk)))
    step_says i.Field t level done x ts kind two le h = member_says (e.Field (token_place done) x) ts _ (λ n nk. IsExpr.field {m = 18} done t n x (omega arith) (weaken h 18 le) (field_is t.kind kind) nk)
    step_says i.Arrow t level done x ts kind two le h = member_says (e.Arrow (token_place done) x) ts _ (λ n nk. IsExpr.arrow {m = 18} done t n x (omega arith) (weaken h 18 le) (arrow_is t.kind kind) nk)
    step_says (i.Step op) t level done x ts kind two le h = ok_says (e.Postfix (token_place done) op x) ts _ (IsExpr.postfix {m = 18} done t op x (omega arith) (weaken h 18 le) kind)
    step_says (i.Binary op) t level done x ts kind two le h = bind_says (rec (suc (level_of op)) ts) _ ts (λ b z. IsExpr s (suc (level_of op)) b z) _ (sound (suc (level_of op)) ts (above_wanted op)) (λ b z u g.
        done_says (e.Binary (token_place done) op x z) b u (λ c y. IsExpr s (level_of op) (done ++ t ∷ c) y) (IsExpr.binary {m = level_of op} done t b op x z (omega arith) kind (weaken h (level_of op) le) g))
    step_says i.Conditional t level done x ts kind two le h = bind_says (whole s rec dec ts) _ ts (λ a z. IsWhole s a z) _ (whole_says ts) (λ b v u g. expect_says p.Colon _ u _ (λ r u' rk.
        bind_says (rec 4 u') _ u' (λ c z. IsExpr s 4 c z) _ (sound 4 u' four_wanted) (λ c z w' o.
        done_says (e.Conditional (token_place done) x v z) c w' (λ c y. IsExpr s 4 (done ++ t ∷ (b ++ (r ∷ c))) y) (IsExpr.conditional {m = 4} done t b r c x v z (omega arith) (weaken h 6 le) (choose_is t.kind kind) g rk o))))
    step_says (i.Assign op) t level done x ts kind two le h = bind_says (rec 2 ts) _ ts (λ b z. IsExpr s 2 b z) _ (sound 2 ts two_wanted) (λ b z u g.
        done_says (e.Assign (token_place done) op x z) b u (λ c y. IsExpr s 2 (done ++ t ∷ c) y) (IsExpr.assignment {m = 2} done t b op x z (omega arith) (weaken h 17 le) kind g))
    step_says i.Comma t level done x ts kind two le h = absurd (let cap = level_cap h in omega arith)
    step_says i.Tight t level done x ts kind two le h = absurd (let cap = level_cap h in omega arith)
    step_says i.Nothing t level done x ts kind two le h = absurd (let cap = level_cap h in omega arith)

    climb_says : (least j level : ℕ) (x : Expr) (done ts : List Lexeme) → IsWantedLevel least → least ≤ level → IsExpr s level done x → Says (climb s rec dec (token_place done) least j level x ts) ts (λ a z. IsExpr s least (done ++ a) z)
    unfolding climb
    climb_says least zero level x done ts w' low h = done_says x done ts (λ a z. IsExpr s least a z) (weaken h least low)
    climb_says least (suc j) level x done [] w' low h = if_says (ltb 0 least) _ _ [] _ (λ yes. done_says x done [] (λ a z. IsExpr s least a z) (weaken h least low))
        (λ other. absurd (let le = ltb-false 0 least other in let two = w'.two in omega arith))
    climb_says least (suc j) level x done (t ∷ ts) w' low h = if_says (ltb (binding_level (infix_of t.kind)) least) _ _ (t ∷ ts) _ (λ yes. done_says x done (t ∷ ts) (λ a z. IsExpr s least a z) (weaken h least low))
        (λ other. if_says (ltb level (operand_level (infix_of t.kind))) (Err (t ∷ ts)) _ (t ∷ ts) _ (λ tight. refused_says (t ∷ ts) _ ([], x, subst (λ c. IsExpr s least c x) (sym (append-nil done)) (weaken h least low))) (λ loose.
        token_says _ t ts _ (bind_says (step_by s rec dec (infix_of t.kind) (token_place done) x ts) _ ts (λ b z. IsExpr s (result_level (infix_of t.kind)) (done ++ t ∷ b) z) _
        (step_says (infix_of t.kind) t level done x ts refl (let two = w'.two in let above = ltb-false (binding_level (infix_of t.kind)) least other in omega arith) (ltb-false level (operand_level (infix_of t.kind)) loose) h) (λ b z r g.
        let above = makes_above (infix_of t.kind) least w' (ltb-false (binding_level (infix_of t.kind)) least other) in
        let o = climb_says least j (result_level (infix_of t.kind)) z (done ++ t ∷ b) r w' above g in
        let P : ℕ → Type 0 = λ at. Says (climb s rec dec at least j (result_level (infix_of t.kind)) z r) r (λ a z. IsExpr s least (done ++ t ∷ (b ++ a)) z) in
        subst P (place-append done (t ∷ b) (first s h).0) (weaker _ r _ _ (λ a z q. subst (λ c. IsExpr s least c z) (append_assoc done (t ∷ b) a) q) o)))))

    tight_says : (m : ℕ) (ts : List Lexeme) → IsWantedLevel m → Says (tight s rec dec m ts) ts (λ a x. IsExpr s m a x)
    unfolding operand
    tight_says m [] w' = let c = w'.cap in refused_says [] _ (number ∷ [], e.Number 0 [], some_number s m (omega arith))
    tight_says m (t ∷ ts) w' = bind_says_at (operand_by s rec dec m (prefix_of t.kind) (t ∷ ts)) _ (t ∷ ts) (IsOperand s m) _ (operand_says t.kind m t ts w'.cap refl) (λ a q r e h.
        let P : ℕ → Type 0 = λ at. Says (climb s rec dec at m (length r) q.1 q.0 r) r (λ b z. IsExpr s m (a ++ b) z) in
        subst P (sym (ap token_place e ∙ place-append a r (first s h.is).0)) (climb_says m (length r) q.1 q.0 a r w' h.wanted h.is))
        (λ a q h. ([], q.0, subst (λ c. IsExpr s m c q.0) (sym (append-nil a)) (weaken h.is m h.wanted)))

    -- ---- declarators

    length_says : (naming : NameRequirement) (l : Lexeme) (done : List Lexeme) (d : Declarator) (ts : List Lexeme) → l.kind ≡ k.Mark p.LeftBracket → IsDeclarator s naming 1 done d → Says (length_behind s rec dec d ts) ts (λ b z. IsDeclarator s naming 1 (done ++ l ∷ b) z)
    unfolding length_behind
    length_says naming l done d [] lk h = bind_says (rec 4 []) _ [] (λ a x. IsExpr s 4 a x) _ (sound 4 [] four_wanted) (λ a x u g. expect_says p.RightBracket _ u _ (λ r v rk.
        ok_says (with_shape d (sh.Array (Some x))) v _ (IsDeclarator.array done l a r d x h lk g rk)))
    length_says naming l done d (t ∷ ts) lk h = if_says (is_mark p.RightBracket t.kind) _ _ (t ∷ ts) _
        (λ yes. token_says _ t ts _ (ok_says (with_shape d (sh.Array None)) ts _ (IsDeclarator.open_array done l t d h lk (mark_is p.RightBracket t.kind yes))))
        (λ other. bind_says (rec 4 (t ∷ ts)) _ (t ∷ ts) (λ a x. IsExpr s 4 a x) _ (sound 4 (t ∷ ts) four_wanted) (λ a x u g. expect_says p.RightBracket _ u _ (λ r v rk.
        ok_says (with_shape d (sh.Array (Some x))) v _ (IsDeclarator.array done l a r d x h lk g rk))))

    suffixes_says : (naming : NameRequirement) (j : ℕ) (done : List Lexeme) (d : Declarator) (ts : List Lexeme) → IsDeclarator s naming 1 done d → Says (suffixes s rec dec j d ts) ts (λ b z. IsDeclarator s naming 1 (done ++ b) z)
    unfolding suffixes
    suffixes_says naming zero done d ts h = done_says d done ts (λ a z. IsDeclarator s naming 1 a z) h
    suffixes_says naming (suc j) done d [] h = done_says d done [] (λ a z. IsDeclarator s naming 1 a z) h
    suffixes_says naming (suc j) done d (t ∷ ts) h = if_says (is_mark p.LeftBracket t.kind) _ _ (t ∷ ts) _
        (λ yes. token_says _ t ts _ (bind_says (length_behind s rec dec d ts) _ ts (λ b z. IsDeclarator s naming 1 (done ++ t ∷ b) z) _ (length_says naming t done d ts (mark_is p.LeftBracket t.kind yes) h) (λ b z r g.
        weaker _ r _ _ (λ a v q. subst (λ c. IsDeclarator s naming 1 c v) (append_assoc done (t ∷ b) a) q) (suffixes_says naming j (done ++ t ∷ b) z r g))))
        (λ other. if_says (is_mark p.LeftParen t.kind) _ _ (t ∷ ts) _
        (λ yes. token_says _ t ts _ (bind_says (parameters_behind s rec dec ts) _ ts _ _ (parameters_says ts) (λ a xs u q.
        let P : List Lexeme → Type 0 = λ a. Says (suffixes s rec dec j (with_shape d (sh.Takes (without_void xs))) u) u (λ c z. IsDeclarator s naming 1 (done ++ t ∷ (a ++ c)) z) in
        subst P (sym q.2) (weaker _ u _ _ (λ c v o. subst (λ c. IsDeclarator s naming 1 c v) (append_assoc done (t ∷ q.0 ++ q.1 ∷ []) c) o) (suffixes_says naming j (done ++ (t ∷ q.0 ++ q.1 ∷ [])) (with_shape d (sh.Takes (without_void xs))) u (IsDeclarator.function done t q.0 q.1 d xs h (mark_is p.LeftParen t.kind yes) q.3 q.4))))))
        (λ none. done_says d done (t ∷ ts) (λ a z. IsDeclarator s naming 1 a z) h))

    pointer_says : (naming : NameRequirement) (t : Lexeme) (ts : List Lexeme) → t.kind ≡ k.Mark p.Star → Says (pointer_declarator s rec dec naming ts) ts (λ b d. IsDeclarator s naming 0 (t ∷ b) d)
    unfolding pointer_declarator
    pointer_says naming t ts kind = bind_says (consts (length ts) ts) _ ts (λ a q. AreConsts a) _ (consts_says (length ts) ts) (λ a q r c.
        bind_says (dec naming r) _ r (λ b d. IsDeclarator s naming 0 b d) _ (sound_d naming r) (λ b d u h.
        done_says (with_shape d sh.Pointer) b u (λ c z. IsDeclarator s naming 0 (t ∷ (a ++ c)) z) (IsDeclarator.star t a b d (omega arith) kind c h)))

    group_says : (naming : NameRequirement) (l t : Lexeme) (ts : List Lexeme) → l.kind ≡ k.Mark p.LeftParen → t.kind ≡ k.Mark p.Star → Says (group_behind s rec dec naming ts) ts (λ b d. IsDeclarator s naming 1 (l ∷ t ∷ b) d)
    unfolding group_behind
    group_says naming l t ts lk tk = bind_says (pointer_declarator s rec dec naming ts) _ ts (λ a d. IsDeclarator s naming 0 (t ∷ a) d) _ (pointer_says naming t ts tk) (λ a d u h. expect_says p.RightParen _ u _ (λ r v rk.
        ok_says d v _ (IsDeclarator.group l t a r d lk tk h rk)))

    nameless_says : (naming : NameRequirement) (r ts : List Lexeme) → Viable r ts (λ a d. IsDeclarator s naming 1 a d) → Says (cond (may_be_nameless naming) (Ok (nameless, ts)) (Err r)) ts (λ a d. IsDeclarator s naming 1 a d)
    nameless_says naming r ts v = if_says (may_be_nameless naming) (Ok (nameless, ts)) (Err r) ts _ (λ may. ok_says nameless ts _ (IsDeclarator.no_name may)) (λ not. err_says r ts _ v)

    name_wanted : (naming : NameRequirement) (ts : List Lexeme) → Viable ts ts (λ a d. IsDeclarator s naming 1 a d)
    name_wanted naming ts = let v = some_declarator s naming 1 in ([], refl, v.0, v.1, v.2)

    star_wanted : (naming : NameRequirement) (l : Lexeme) (ts : List Lexeme) → l.kind ≡ k.Mark p.LeftParen → Viable ts (l ∷ ts) (λ a d. IsDeclarator s naming 1 a d)
    star_wanted naming l ts lk =
        let v = some_declarator s naming 0 in
        let star = lexeme_of (k.Mark p.Star) in
        let close = lexeme_of (k.Mark p.RightParen) in
        (l ∷ [], refl, star ∷ v.0 ++ close ∷ [], with_shape v.1 sh.Pointer, IsDeclarator.group l star v.0 close (with_shape v.1 sh.Pointer) lk refl (IsDeclarator.star star [] v.0 v.1 (omega arith) refl AreConsts.none v.2) refl)

    bracket_says : (naming : NameRequirement) (l : Lexeme) (ts : List Lexeme) → l.kind ≡ k.Mark p.LeftParen → Says (core_bracket s rec dec naming (l ∷ ts)) (l ∷ ts) (λ a d. IsDeclarator s naming 1 a d)
    bracket_says naming l [] lk = nameless_says naming [] (l ∷ []) (star_wanted naming l [] lk)
    bracket_says naming l (t ∷ ts) lk = if_says (is_mark p.Star t.kind) _ _ (l ∷ t ∷ ts) _
        (λ yes. token_says _ l (t ∷ ts) _ (token_says _ t ts _ (group_says naming l t ts lk (mark_is p.Star t.kind yes))))
        (λ other. nameless_says naming (t ∷ ts) (l ∷ t ∷ ts) (star_wanted naming l (t ∷ ts) lk))

    core_says : (naming : NameRequirement) (ts : List Lexeme) → Says (core s rec dec naming ts) ts (λ a d. IsDeclarator s naming 1 a d)
    unfolding core
    core_says naming [] = nameless_says naming [] [] (name_wanted naming [])
    core_says naming (t ∷ ts) = if_says (is_name_token t.kind) _ _ (t ∷ ts) _
        (λ yes. if_says (takes_name naming (is_type s t)) _ _ (t ∷ ts) _
        (λ takes. token_says _ t ts _ (ok_says (record { name = Some (record { at = t.at; name = t.spelling }); shapes = [] }) ts _ (IsDeclarator.own_name t (name_is t.kind yes) takes)))
        (λ other. nameless_says naming (t ∷ ts) (t ∷ ts) (name_wanted naming (t ∷ ts))))
        (λ other. if_says (is_mark p.LeftParen t.kind) _ _ (t ∷ ts) _ (λ yes. bracket_says naming t ts (mark_is p.LeftParen t.kind yes)) (λ none. nameless_says naming (t ∷ ts) (t ∷ ts) (name_wanted naming (t ∷ ts))))

    core_suffixes : (naming : NameRequirement) (ts : List Lexeme) → Says (and_then (core s rec dec naming ts) (λ d r. suffixes s rec dec (length r) d r)) ts (λ a d. IsDeclarator s naming 0 a d)
    core_suffixes naming ts = bind_says (core s rec dec naming ts) _ ts (λ a d. IsDeclarator s naming 1 a d) _ (core_says naming ts) (λ a d r h. weaker _ r _ _ (λ b z q. loosen q) (suffixes_says naming (length r) a d r h))

    shaping_says : (naming : NameRequirement) (ts : List Lexeme) → Says (shaped_declarator s rec dec naming ts) ts (λ a d. IsDeclarator s naming 0 a d)
    shaping_says naming [] = core_suffixes naming []
    shaping_says naming (t ∷ ts) = if_says (is_mark p.Star t.kind) _ _ (t ∷ ts) _ (λ yes. token_says _ t ts _ (pointer_says naming t ts (mark_is p.Star t.kind yes))) (λ other. core_suffixes naming (t ∷ ts))

mutual
  unfolding expr

  pub sound_expr : (s : TypeNames) (n : ℕ) → SoundE s (expr s n)
  sound_expr s zero m ts w' = let c = w'.cap in refused_says ts _ (number ∷ [], e.Number 0 [], some_number s m (omega arith))
  sound_expr s (suc n) m ts w' = tight_says s (expr s n) (declarator s n) (sound_expr s n) (sound_declarator s n) m ts w'

  pub sound_declarator : (s : TypeNames) (n : ℕ) → SoundD s (declarator s n)
  sound_declarator s zero naming ts = refused_says ts _ (some_declarator s naming 0)
  sound_declarator s (suc n) naming ts = shaping_says s (expr s n) (declarator s n) (sound_expr s n) (sound_declarator s n) naming ts
