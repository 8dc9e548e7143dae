-- The texts in initialisers are spelled by bytes of the text.
use Rattle.std.proofs.Common.{ℕ, zero, suc, Bool, true, false, List, [], ◌∷◌, ◌++◌, take, drop, Option, Some, None, IfSome, sym, subst, All}
use Rattle.std.proofs.lemmas.List.Elements.{All-nil, All-cons, All-append}
use Rattle.c_lexer.specs.Pieces.{Lexeme, Pieces}
use Rattle.c_tree.specs.declared.expressions.Expr as e
use Rattle.c_tree.specs.declared.types.TypeNode.{TypeNode}
use Rattle.c_tree.specs.declared.types.Declaration.{Declaration}
use Rattle.c_tree.specs.declared.declarations.Storage.{Storage}
use Rattle.c_tree.specs.declared.declarations.Init as i
use Rattle.c_tree.specs.declared.declarations.Init.TheBlock as j
use Rattle.c_tree.specs.declared.declarations.External.{External}
use Rattle.c_tree.specs.declared.declarations.TranslationUnit.{TranslationUnit}
use Rattle.c_parser_grammar.specs.Tokens.{TypeNames, token_place}
use Rattle.c_parser_grammar.specs.Types.{declaration_of, comma_of}
use Rattle.c_parser_grammar.specs.Grammar.{AreTexts, IsExpr, IsWhole, AreAssignments}
use Rattle.c_parser_grammar.specs.Units.{external_of, is_function, IsInit, AreInits, IsObject, AreObjects, AreTypedefs, IsExternal, AreExternals}
use Rattle.c_parser.specs.Reading.{IsRead}
use Rattle.c_typing_judgements.specs.Texts.{spelling_bytes}
use Rattle.c_typing_initialisers.specs.Values.{text_in}
use Rattle.mem_model.specs.Bytes.{AreBytes}
use Rattle.c_typing_initialiser_sound.specs.c_initialiser_laws.Laws.{HoldsBytes, HoldBytes}
use Rattle.c_typing_text_laws.specs.c_initialiser_byte_laws.Laws.{HasBytes}
use Rattle.c_typing_text_laws.proofs.CLiteralByteLaws.Literals.{texts_bytes}

-- ---- tokens

bytes_take : (n : ℕ) (s : List ℕ) → AreBytes s → AreBytes (take n s)
bytes_take zero s h = tt
bytes_take (suc n) [] h = tt
bytes_take (suc n) (b ∷ s) h = (h.0, bytes_take n s h.1)

bytes_drop : (n : ℕ) (s : List ℕ) → AreBytes s → AreBytes (drop n s)
bytes_drop zero s h = h
bytes_drop (suc n) [] h = tt
bytes_drop (suc n) (b ∷ s) h = bytes_drop n s h.1

-- each token is spelled by bytes
abbrev AreSpelled : List Lexeme → Type 0
AreSpelled [] = Unit {0}
AreSpelled (t ∷ ts) = AreBytes t.spelling × AreSpelled ts

both : (a b : List Lexeme) → AreSpelled (a ++ b) → AreSpelled a × AreSpelled b
both [] b h = (tt, h)
both (t ∷ a) b h = let r = both a b h.1 in ((h.0, r.0), r.1)

pieces_spelled : (text : List ℕ) {at to : ℕ} {ts : List Lexeme} → AreBytes text → Pieces text at ts to → AreSpelled ts
pieces_spelled text h Pieces.none = tt
pieces_spelled text h (Pieces.blank n ts cut rest) = pieces_spelled text h rest
pieces_spelled text h (Pieces.token {at = at} n kind ts cut rest) = (bytes_take n (drop at text) (bytes_drop at text h), pieces_spelled text h rest)

-- ---- expressions

texts_spelled : {a : List Lexeme} {xs : List (List ℕ)} → AreTexts a xs → AreSpelled a → All AreBytes xs
texts_spelled (AreTexts.one t kind) h = All-cons AreBytes t.spelling [] h.0 (All-nil AreBytes)
texts_spelled (AreTexts.more t a xs kind rest) h = All-cons AreBytes t.spelling xs h.0 (texts_spelled rest h.1)

-- an expression that is a text
abbrev HasText : e.Expr → Type 0
HasText v = IfSome (text_in v) (λ text. AreBytes (spelling_bytes text.1))

comma_text : (at : ℕ) (v w : e.Expr) (vs : List e.Expr) → HasText (comma_of at (v ∷ w ∷ vs))
unfolding text_in
comma_text at v w vs = tt

mutual
  unfolding text_in

  expr_text : {s : TypeNames} {m : ℕ} {a : List Lexeme} {v : e.Expr} → IsExpr s m a v → AreSpelled a → HasText v
  expr_text (IsExpr.name t low kind listed) h = tt
  expr_text (IsExpr.number t low kind) h = tt
  expr_text (IsExpr.character t low kind) h = tt
  expr_text (IsExpr.texts a xs low g) h = texts_bytes xs (texts_spelled g h)
  expr_text (IsExpr.brackets l a r v low lk g rk) h = whole_text g (both a (r ∷ []) h.1).0
  expr_text (IsExpr.call t l a r xs low kind listed lk g rk) h = tt
  expr_text (IsExpr.index a l b r v z low g lk k rk) h = tt
  expr_text (IsExpr.field a t u v low g tk uk) h = tt
  expr_text (IsExpr.arrow a t u v low g tk uk) h = tt
  expr_text (IsExpr.postfix a t op v low g kind) h = tt
  expr_text (IsExpr.prefix_step t a op v low kind g) h = tt
  expr_text (IsExpr.unary t a op v low kind g) h = tt
  expr_text (IsExpr.size_of t a v low kind g) h = tt
  expr_text (IsExpr.size_of_type t l a r ty low kind lk g rk) h = tt
  expr_text (IsExpr.cast l a r b ty v low lk g rk k) h = tt
  expr_text (IsExpr.binary a t b op v z low kind g k) h = tt
  expr_text (IsExpr.conditional a t b r d u v z low g tk k rk o) h = tt
  expr_text (IsExpr.assignment a t b op v z low g kind k) h = tt

  whole_text : {s : TypeNames} {a : List Lexeme} {v : e.Expr} → IsWhole s a v → AreSpelled a → HasText v
  whole_text (IsWhole.commas a vs g) h = list_text (token_place a) g h

  list_text : {s : TypeNames} {a : List Lexeme} {vs : List e.Expr} (at : ℕ) → AreAssignments s a vs → AreSpelled a → HasText (comma_of at vs)
  list_text at (AreAssignments.one a v g) h = expr_text g h
  list_text at (AreAssignments.more a t b v vs g kind rest) h = more_text at v vs rest

  more_text : {s : TypeNames} {b : List Lexeme} (at : ℕ) (v : e.Expr) (vs : List e.Expr) → AreAssignments s b vs → HasText (comma_of at (v ∷ vs))
  more_text at v vs (AreAssignments.one b w g) = comma_text at v w []
  more_text at v vs (AreAssignments.more b t d w ws g kind rest) = comma_text at v w ws

-- ---- initialisers

abbrev AllHold : List i.Init → Type 0
AllHold [] = Unit {0}
AllHold (v ∷ vs) = HoldsBytes v × AllHold vs

row_holds : {n : _} (xs : i.Row_of-Init n) → AllHold (i.items-the_row-Init n xs) → HoldBytes xs
unfolding HoldsBytes
row_holds i.end_of-Init h = tt
row_holds (i.more_of-Init v xs) h = (h.0, row_holds xs h.1)

list_holds : (at : ℕ) (vs : List i.Init) → AllHold vs → HoldsBytes (i.List at vs)
unfolding HoldsBytes
list_holds at vs h = row_holds (j.hidden-the_row-Init-0 vs) (subst AllHold (sym (j.items_hidden-the_row-Init-0 vs)) h)

mutual
  unfolding HoldsBytes

  init_holds : {s : TypeNames} {a : List Lexeme} {v : i.Init} → IsInit s a v → AreSpelled a → HoldsBytes v
  init_holds (IsInit.value a v g) h = expr_text g h
  init_holds (IsInit.list l a r vs lk g rk) h = list_holds l.at vs (inits_hold g (both a (r ∷ []) h.1).0)

  inits_hold : {s : TypeNames} {a : List Lexeme} {vs : List i.Init} → AreInits s a vs → AreSpelled a → AllHold vs
  inits_hold (AreInits.one a v g) h = (init_holds g h, tt)
  inits_hold (AreInits.last a t v g kind) h = (init_holds g (both a (t ∷ []) h).0, tt)
  inits_hold (AreInits.more a t b v vs g kind rest) h =
      let r = both a (t ∷ b) h in (init_holds g r.0, inits_hold rest r.1.1)

-- ---- declarations

plain_holds : (takes : Bool) (d : Declaration) (storage : Option Storage) → HasBytes (external_of takes d storage None)
plain_holds true d storage = tt
plain_holds false d storage = tt

init_bytes : (takes : Bool) (d : Declaration) (storage : Option Storage) (v : i.Init) → HoldsBytes v → HasBytes (external_of takes d storage (Some v))
init_bytes true d storage v h = h
init_bytes false d storage v h = h

object_holds : {s : TypeNames} {storage : Option Storage} {ty : TypeNode} {a : List Lexeme} {v : External} → IsObject s storage ty a v → AreSpelled a → HasBytes v
object_holds {storage = storage} {ty = ty} (IsObject.plain a u shapes g) h = plain_holds (is_function shapes) (declaration_of ty u shapes) storage
object_holds {storage = storage} {ty = ty} (IsObject.with_init a t b u shapes v g kind init) h =
    init_bytes (is_function shapes) (declaration_of ty u shapes) storage v (init_holds init (both a (t ∷ b) h).1.1)

one_holds : (x : External) → HasBytes x → All HasBytes (x ∷ [])
one_holds x h = All-cons HasBytes x [] h (All-nil HasBytes)

objects_hold : {s : TypeNames} {storage : Option Storage} {ty : TypeNode} {a : List Lexeme} {vs : List External} → AreObjects s storage ty a vs → AreSpelled a → All HasBytes vs
objects_hold (AreObjects.one a v g) h = one_holds v (object_holds g h)
objects_hold (AreObjects.more a t b v vs g kind rest) h =
    let r = both a (t ∷ b) h in All-cons HasBytes v vs (object_holds g r.0) (objects_hold rest r.1.1)

typedefs_hold : {s : TypeNames} {ty : TypeNode} {a : List Lexeme} {vs : List External} {z : TypeNames} → AreTypedefs s ty a vs z → All HasBytes vs
typedefs_hold (AreTypedefs.one a d g) = one_holds _ tt
typedefs_hold (AreTypedefs.more a t b d vs z g kind rest) = All-cons HasBytes _ vs tt (typedefs_hold rest)

external_holds : {s : TypeNames} {ts : List Lexeme} {vs : List External} {z : TypeNames} → IsExternal s ts vs z → AreSpelled ts → All HasBytes vs
external_holds (IsExternal.typedefs t a b r ty vs z kind spec g rk) h = typedefs_hold g
external_holds (IsExternal.tags a b r storage ty st spec rk) h = one_holds _ tt
external_holds (IsExternal.objects a b c r storage ty vs st spec g rk) h =
    objects_hold g (both c (r ∷ []) (both b (c ++ r ∷ []) (both a (b ++ (c ++ r ∷ [])) h).1).1).0
external_holds (IsExternal.function a b c l o r storage ty d body st spec g lk items rk) h = one_holds _ tt

all_hold : {s : TypeNames} {ts : List Lexeme} {vs : List External} → AreExternals s ts vs → AreSpelled ts → All HasBytes vs
all_hold AreExternals.none h = All-nil HasBytes
all_hold (AreExternals.more a b vs us z g rest) h =
    let r = both a b h in All-append HasBytes vs us (external_holds g r.0) (all_hold rest r.1)

pub read_bytes : (text : List ℕ) (tree : TranslationUnit) → AreBytes text → IsRead text tree → All HasBytes tree.externals
read_bytes text tree bytes h = all_hold h.reads.externals (pieces_spelled text bytes h.are_tokens.pieces)
