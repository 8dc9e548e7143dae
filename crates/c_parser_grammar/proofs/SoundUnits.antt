-- Units that are read are in the grammar, and so a token list has at most one reading.
use Rattle.std.proofs.Common.{◌≡◌, ℕ, zero, suc, ◌≤◌, false, not, cond, List, [], ◌∷◌, ◌++◌, length, Option, Some, None, Result, Ok, Err, refl, sym, ap, ◌∙◌, subst, append_assoc, append-nil, length-append, arith}
use Rattle.c_lexer.specs.declared.token.TokenKind.{TokenKind}
use Rattle.c_lexer.specs.declared.token.TokenKind.TheVariants as k
use Rattle.c_lexer.specs.declared.token.Keyword.TheVariants as w
use Rattle.c_lexer.specs.declared.token.Punct.TheVariants as p
use Rattle.c_lexer.specs.Pieces.{Lexeme, Toks}
use Rattle.c_tree.specs.declared.expressions.Expr as e
use Rattle.c_tree.specs.declared.types.TypeNode.{TypeNode}
use Rattle.c_tree.specs.declared.types.Declaration.{Declaration}
use Rattle.c_tree.specs.declared.statements.Stmt.{Stmt}
use Rattle.c_tree.specs.declared.declarations.Storage.{Storage}
use Rattle.c_tree.specs.declared.declarations.Storage.TheVariants as g
use Rattle.c_tree.specs.declared.declarations.Init.{Init}
use Rattle.c_tree.specs.declared.declarations.Init as i
use Rattle.c_tree.specs.declared.declarations.FunctionEnd.TheVariants as f
use Rattle.c_tree.specs.declared.declarations.External.{External}
use Rattle.c_tree.specs.declared.declarations.External.TheVariants as x
use Rattle.c_tree.specs.declared.declarations.TranslationUnit.{TranslationUnit}
use Rattle.c_parser_grammar.specs.declared.shapes.Shape.{Shape}
use Rattle.c_parser_grammar.specs.declared.shapes.DeclaredName.{DeclaredName}
use Rattle.c_parser_grammar.specs.declared.shapes.Declarator.{Declarator}
use Rattle.c_parser_grammar.specs.declared.shapes.NameRequirement.TheVariants as nm
use Rattle.c_parser_grammar.specs.Classes.{storage_class_of}
use Rattle.c_parser_grammar.specs.Tokens.{TypeNames, is_mark, kind_at, token_tail}
use Rattle.c_parser_grammar.specs.Types.{declaration_of, without_body}
use Rattle.c_parser_grammar.specs.Grammar.{IsExpr, IsDeclarator}
use Rattle.c_parser_grammar.specs.Specifiers.{IsDeclared, IsSpecifier}
use Rattle.c_parser_grammar.specs.Statements.{AreItems}
use Rattle.c_parser_grammar.specs.Units.{IsInit, AreInits, IsStorage, end_by, is_function, external_of, IsObject, AreObjects, with_type, AreTypedefs, IsExternal, AreExternals}
use Rattle.c_parser_grammar.specs.Parser.{ParseOutcome, IsSuffix, Parser, and_then, ◌>>=◌, pure, expect}
use Rattle.c_parser_grammar.specs.ParseExpr.{expr, declarator}
use Rattle.c_parser_grammar.specs.ParseSpecifiers.{declaration, braced_list_from, specifier}
use Rattle.c_parser_grammar.specs.ParseStatements.{items_from, stmt}
use Rattle.c_parser_grammar.specs.ParseUnits.{init_list, init_value, init, typedefs_from, typedefs, object_by, object_named, objects_from, objects_behind, body_behind, objects_named, objects_by, behind_type, behind_storage, external_at, external, externals_behind, externals_from, unit_of, unit}
use Rattle.c_parser_grammar.specs.Units as units
use Rattle.c_parser_grammar.proofs.Outcomes.{no_true, mark_is}
use Rattle.c_parser_grammar.proofs.Says.{Viable, Says, some_of, ok_says, refused_says, bind_says, if_says, token_says, done_says, expect_says, after_says, weaker}
use Rattle.c_parser_grammar.proofs.Instances.{number, some_number, a_name, a_name_is, no_type_name, nameless_may}
use Rattle.c_parser_grammar.proofs.SoundExpr.{two_wanted, sound_expr, sound_declarator}
use Rattle.c_parser_grammar.proofs.SoundSpecifiers.{declaration_says, braced_list_says, sound_specifier}
use Rattle.c_parser_grammar.proofs.SoundStmt.{items_says, sound_stmt}
use Rattle.c_parser_grammar.proofs.ReadUnits.{complete, external_some}

-- ---- initialisers

init_value_says : (s : TypeNames) (n : ℕ) (rec : Parser Init) (ts : List Lexeme) → Says (init_value s n rec ts) ts (λ a v. IsInit s a v)
unfolding init_value
init_value_says s n rec ts = bind_says (expr s n 2 ts) _ ts (λ a v. IsExpr s 2 a v) _ (sound_expr s n 2 ts two_wanted) (λ a v r h. done_says (i.Value v) a r (λ a v. IsInit s a v) (IsInit.value a v h))

init_list_says : (s : TypeNames) (n : ℕ) (rec : Parser Init) (l : Lexeme) (ts : List Lexeme) → ((ts : List Lexeme) → Says (rec ts) ts (λ a v. IsInit s a v)) → l.kind ≡ k.Mark p.LeftBrace → Says (init_list s n rec l.at ts) ts (λ a v. IsInit s (l ∷ a) v)
unfolding init_list
init_list_says s n rec l ts h lk = bind_says (braced_list_from rec (length ts) [] ts) _ ts _ _ (braced_list_says rec (λ a v. IsInit s a v) (λ a vs. AreInits s a vs) h (λ a v g. AreInits.one a v g) (λ a t v g kind. AreInits.last a t v g kind) (λ a t b v vs g kind o. AreInits.more a t b v vs g kind o) (length ts) [] ts) (λ a vs r q.
    expect_says p.RightBrace _ r _ (λ r' u rk. ok_says (i.List l.at vs) u _ (subst (λ z. IsInit s (l ∷ (a ++ r' ∷ [])) (i.List l.at z)) (sym q.1) (IsInit.list l a r' q.0 lk q.2 rk))))

sound_init : (s : TypeNames) (n : ℕ) (ts : List Lexeme) → Says (init s n ts) ts (λ a v. IsInit s a v)
unfolding init
sound_init s zero ts = refused_says ts _ (number ∷ [], i.Value (e.Number 0 []), IsInit.value (number ∷ []) (e.Number 0 []) (some_number s 2 (omega arith)))
sound_init s (suc n) [] = init_value_says s (suc n) (init s n) []
sound_init s (suc n) (l ∷ ts) = if_says (is_mark p.LeftBrace l.kind) _ _ (l ∷ ts) _ (λ yes. token_says _ l ts _ (init_list_says s (suc n) (init s n) l ts (sound_init s n) (mark_is p.LeftBrace l.kind yes))) (λ other. init_value_says s (suc n) (init s n) (l ∷ ts))

-- ---- typedefs

abbrev Typedefs : TypeNames → TypeNode → List External → List Lexeme → List External × TypeNames → Type 0
Typedefs s ty found a q = (vs : List External) × (q.0 ≡ found ++ vs) × AreTypedefs s ty a vs q.1

typedef_after : (s : TypeNames) (ty : TypeNode) (found : List External) (a r : List Lexeme) (d : Declaration) (go : Parser (List External × TypeNames)) → IsDeclared s nm.Required ty a d
    → ((ts : List Lexeme) → Says (go ts) ts (Typedefs (with_type s d.name) (without_body ty) (found ++ x.Typedef d ∷ [])))
    → Says (cond (is_mark p.Comma (kind_at r)) (go (token_tail r)) (Ok ((found ++ x.Typedef d ∷ [], with_type s d.name), r))) r (λ b q. Typedefs s ty found (a ++ b) q)
typedef_after s ty found a [] d go h g = done_says (found ++ x.Typedef d ∷ [], with_type s d.name) a [] (Typedefs s ty found) (x.Typedef d ∷ [], refl, AreTypedefs.one a d h)
typedef_after s ty found a (t ∷ r) d go h g = if_says (is_mark p.Comma t.kind) (go r) (Ok ((found ++ x.Typedef d ∷ [], with_type s d.name), t ∷ r)) (t ∷ r) _
    (λ yes. token_says (go r) t r _ (weaker (go r) r _ _ (λ b q o. (x.Typedef d ∷ o.0, o.1 ∙ append_assoc found (x.Typedef d ∷ []) o.0, AreTypedefs.more a t b d o.0 q.1 h (mark_is p.Comma t.kind yes) o.2)) (g r)))
    (λ other. done_says (found ++ x.Typedef d ∷ [], with_type s d.name) a (t ∷ r) (Typedefs s ty found) (x.Typedef d ∷ [], refl, AreTypedefs.one a d h))

typedefs_says : (n j : ℕ) (s : TypeNames) (ty : TypeNode) (found : List External) (ts : List Lexeme) → Says (typedefs_from s n j ty found ts) ts (Typedefs s ty found)
unfolding typedefs_from
typedefs_says n zero s ty found ts =
    let q = some_of (declaration s n nm.Required ty []) [] (λ a d. IsDeclared s nm.Required ty a d) (declaration_says s n nm.Required ty [] refl) in
    refused_says ts _ (q.0, (found ++ x.Typedef q.1 ∷ [], with_type s q.1.name), (x.Typedef q.1 ∷ [], refl, AreTypedefs.one q.0 q.1 q.2))
typedefs_says n (suc j) s ty found ts = bind_says (declaration s n nm.Required ty ts) _ ts (λ a d. IsDeclared s nm.Required ty a d) _ (declaration_says s n nm.Required ty ts refl) (λ a d r h.
    typedef_after s ty found a r d (typedefs_from (with_type s d.name) n j (without_body ty) (found ++ x.Typedef d ∷ [])) h (λ ts. typedefs_says n j (with_type s d.name) (without_body ty) (found ++ x.Typedef d ∷ []) ts))

-- ---- objects

-- what stands behind a type
data IsBehind (s : TypeNames) (storage : Option Storage) (ty : TypeNode) : List Lexeme → List External → Type 0 where
  tags : (r : Lexeme) → r.kind ≡ k.Mark p.Semicolon → IsBehind s storage ty (r ∷ []) (x.Tags storage ty ∷ [])
  objects : (c : List Lexeme) (r : Lexeme) (vs : List External) → AreObjects s storage ty c vs → r.kind ≡ k.Mark p.Semicolon → IsBehind s storage ty (c ++ r ∷ []) vs
  function : (c : List Lexeme) (l : Lexeme) (e : List Lexeme) (r : Lexeme) (d : Declaration) (body : List Stmt) → IsDeclared s nm.Required ty c d → l.kind ≡ k.Mark p.LeftBrace → AreItems s e body → r.kind ≡ k.Mark p.RightBrace
      → IsBehind s storage ty (c ++ (l ∷ e ++ r ∷ [])) (x.Function d storage (f.Body body) ∷ [])

module _ (s : TypeNames) (n : ℕ) (storage : Option Storage) where
  object_says : (ty : TypeNode) (u : DeclaredName) (shapes : List Shape) (a r : List Lexeme) → IsDeclarator s nm.Required 0 a (record { name = Some u; shapes = shapes }) → Says (object_by s n storage ty u shapes r) r (λ b v. IsObject s storage ty (a ++ b) v)
  unfolding object_by
  object_says ty u shapes a [] h = done_says (external_of (is_function shapes) (declaration_of ty u shapes) storage None) a [] (λ a v. IsObject s storage ty a v) (IsObject.plain a u shapes h)
  object_says ty u shapes a (t ∷ r) h = if_says (is_mark p.Assign t.kind) _ _ (t ∷ r) _
      (λ yes. token_says _ t r _ (bind_says (init s n r) _ r (λ b v. IsInit s b v) _ (sound_init s n r) (λ b v z g.
      done_says (external_of (is_function shapes) (declaration_of ty u shapes) storage (Some v)) b z (λ b w'. IsObject s storage ty (a ++ t ∷ b) w') (IsObject.with_init a t b u shapes v h (mark_is p.Assign t.kind yes) g))))
      (λ other. done_says (external_of (is_function shapes) (declaration_of ty u shapes) storage None) a (t ∷ r) (λ a v. IsObject s storage ty a v) (IsObject.plain a u shapes h))

  by_name_says : (ty : TypeNode) (o' : Option DeclaredName) (shapes : List Shape) (a r : List Lexeme) → IsDeclarator s nm.Required 0 a (record { name = o'; shapes = shapes }) → Says (object_named s n storage ty o' shapes r) r (λ b v. IsObject s storage ty (a ++ b) v)
  by_name_says ty (Some u) shapes a r h = object_says ty u shapes a r h
  by_name_says ty None shapes a r h = no_true (nameless_may s h refl)

  objects_says : (j : ℕ) (ty : TypeNode) (found : List External) (ts : List Lexeme) → Says (objects_from s n storage j ty found ts) ts (λ a zs. (vs : List External) × (zs ≡ found ++ vs) × AreObjects s storage ty a vs)
  unfolding objects_from
  objects_says zero ty found ts =
      let u : DeclaredName = record { at = (a_name s).at; name = (a_name s).spelling } in
      let v : External = external_of false (declaration_of ty u []) storage None in
      refused_says ts _ (a_name s ∷ [], found ++ v ∷ [], (v ∷ [], refl, AreObjects.one (a_name s ∷ []) v (IsObject.plain (a_name s ∷ []) u [] (IsDeclarator.own_name (a_name s) (a_name_is s) (ap not (no_type_name s))))))
  objects_says (suc j) ty found ts = bind_says (declarator s n nm.Required ts) _ ts (λ a d. IsDeclarator s nm.Required 0 a d) _ (sound_declarator s n nm.Required ts) (λ a d r h.
      bind_says (object_named s n storage ty d.name d.shapes r) _ r (λ b v. IsObject s storage ty (a ++ b) v) _ (by_name_says ty d.name d.shapes a r h) (λ b v z g.
      weaker _ z _ _ (λ c zs q. subst (λ y. (vs : List External) × (zs ≡ found ++ vs) × AreObjects s storage ty y vs) (append_assoc a b c) q)
      (after_says (λ a vs. AreObjects s storage ty a vs) (objects_from s n storage j (without_body ty) (found ++ v ∷ [])) found v (a ++ b) z (AreObjects.one (a ++ b) v g) (λ t u kind.
      weaker (objects_from s n storage j (without_body ty) (found ++ v ∷ []) u) u _ _ (λ c zs q. (q.0, q.1, AreObjects.more (a ++ b) t c v q.0 g kind q.2)) (objects_says j (without_body ty) (found ++ v ∷ []) u)))))

  objects_behind_says : (ty : TypeNode) (u : DeclaredName) (shapes : List Shape) (a r : List Lexeme) → IsDeclarator s nm.Required 0 a (record { name = Some u; shapes = shapes }) → Says (objects_behind s n storage ty u shapes r) r (λ b vs. AreObjects s storage ty (a ++ b) vs)
  unfolding objects_behind
  objects_behind_says ty u shapes a r h = bind_says (object_by s n storage ty u shapes r) _ r (λ b v. IsObject s storage ty (a ++ b) v) _ (object_says ty u shapes a r h) (λ b v z g.
      weaker _ z _ _ (λ c zs q. subst (λ y. AreObjects s storage ty y zs) (append_assoc a b c) (subst (λ y. AreObjects s storage ty ((a ++ b) ++ c) y) (sym q.1) q.2))
      (after_says (λ a vs. AreObjects s storage ty a vs) (λ y. objects_from s n storage (length y) (without_body ty) (v ∷ []) y) [] v (a ++ b) z (AreObjects.one (a ++ b) v g) (λ t y kind.
      weaker (objects_from s n storage (length y) (without_body ty) (v ∷ []) y) y _ _ (λ c zs q. (q.0, q.1, AreObjects.more (a ++ b) t c v q.0 g kind q.2)) (objects_says (length y) (without_body ty) (v ∷ []) y))))

  body_says : (ty : TypeNode) (d : Declaration) (a : List Lexeme) (l : Lexeme) (r : List Lexeme) → IsDeclared s nm.Required ty a d → l.kind ≡ k.Mark p.LeftBrace → Says (body_behind s n storage d r) r (λ b vs. IsBehind s storage ty (a ++ (l ∷ b)) vs)
  unfolding body_behind
  body_says ty d a l r h lk = bind_says (items_from s n (stmt s n) (length r) [] r) _ r _ _ (items_says s n (stmt s n) (sound_stmt s n) (length r) [] r) (λ b body z q.
      let c = q.2 in
      done_says (x.Function d storage (f.Body body) ∷ []) b z (λ b vs. IsBehind s storage ty (a ++ (l ∷ b)) vs) (subst (λ y. IsBehind s storage ty (a ++ (l ∷ b)) (x.Function d storage (f.Body y) ∷ [])) (sym q.1)
      (subst (λ y. IsBehind s storage ty (a ++ (l ∷ y)) (x.Function d storage (f.Body q.0) ∷ [])) (sym c.all_is) (IsBehind.function a l c.inner c.close d q.0 h lk c.are c.close_is))))

  rest_says : (ty : TypeNode) (u : DeclaredName) (shapes : List Shape) (a r : List Lexeme) → IsDeclarator s nm.Required 0 a (record { name = Some u; shapes = shapes }) → Says (and_then (objects_behind s n storage ty u shapes r) (λ vs. expect p.Semicolon >>= λ _. pure vs)) r (λ b vs. IsBehind s storage ty (a ++ b) vs)
  rest_says ty u shapes a r h = bind_says (objects_behind s n storage ty u shapes r) _ r (λ b vs. AreObjects s storage ty (a ++ b) vs) _ (objects_behind_says ty u shapes a r h) (λ b vs z g. expect_says p.Semicolon _ z _ (λ t y kind.
      ok_says vs y _ (subst (λ c. IsBehind s storage ty c vs) (append_assoc a b (t ∷ [])) (IsBehind.objects (a ++ b) t vs g kind))))

  first_says : (ty : TypeNode) (d : Declarator) (o' : Option DeclaredName) (a r : List Lexeme) → IsDeclarator s nm.Required 0 a (record { name = o'; shapes = d.shapes }) → Says (objects_by s n storage ty d o' r) r (λ b vs. IsBehind s storage ty (a ++ b) vs)
  unfolding objects_named
  first_says ty d (Some u) a [] h = rest_says ty u d.shapes a [] h
  first_says ty d (Some u) a (l ∷ r) h = if_says (is_mark p.LeftBrace l.kind) _ _ (l ∷ r) _
      (λ yes. token_says _ l r _ (body_says ty (declaration_of ty u d.shapes) a l r (IsDeclared.of a u d.shapes h) (mark_is p.LeftBrace l.kind yes)))
      (λ other. rest_says ty u d.shapes a (l ∷ r) h)
  first_says ty d None a r h = no_true (nameless_may s h refl)

  declarators_says : (ty : TypeNode) (ts : List Lexeme) → Says (and_then (declarator s n nm.Required ts) (λ d. objects_by s n storage ty d d.name)) ts (λ a vs. IsBehind s storage ty a vs)
  declarators_says ty ts = bind_says (declarator s n nm.Required ts) _ ts (λ a d. IsDeclarator s nm.Required 0 a d) _ (sound_declarator s n nm.Required ts) (λ a d r h. first_says ty d d.name a r h)

  behind_says : (ty : TypeNode) (ts : List Lexeme) → Says (behind_type s n storage ty ts) ts (λ a vs. IsBehind s storage ty a vs)
  unfolding behind_type
  behind_says ty [] = declarators_says ty []
  behind_says ty (t ∷ r) = if_says (is_mark p.Semicolon t.kind) (Ok (x.Tags storage ty ∷ [], r)) _ (t ∷ r) _ (λ yes. token_says (Ok (x.Tags storage ty ∷ [], r)) t r _ (ok_says (x.Tags storage ty ∷ []) r _ (IsBehind.tags t (mark_is p.Semicolon t.kind yes)))) (λ other. declarators_says ty (t ∷ r))

  external_behind : {ty : TypeNode} {a b c : List Lexeme} {vs : List External} → IsStorage a storage → IsSpecifier s b ty → IsBehind s storage ty c vs → IsExternal s (a ++ (b ++ c)) vs s
  external_behind {ty} {a} {b} h g (IsBehind.tags r kind) = IsExternal.tags a b r storage ty h g kind
  external_behind {ty} {a} {b} h g (IsBehind.objects c r vs o' kind) = IsExternal.objects a b c r storage ty vs h g o' kind
  external_behind {ty} {a} {b} h g (IsBehind.function c l e r d body o' lk q rk) = IsExternal.function a b c l e r storage ty d body h g o' lk q rk

  behind_storage_says : (a ts : List Lexeme) → IsStorage a storage → Says (behind_storage s n storage ts) ts (λ b q. IsExternal s (a ++ b) q.0 q.1)
  unfolding behind_storage
  behind_storage_says a ts h = bind_says (specifier s n ts) _ ts (λ b ty. IsSpecifier s b ty) _ (sound_specifier s n ts) (λ b ty r g. bind_says (behind_type s n storage ty r) _ r (λ c vs. IsBehind s storage ty c vs) _ (behind_says ty r) (λ c vs z o'.
      done_says (vs, s) c z (λ c q. IsExternal s (a ++ (b ++ c)) q.0 q.1) (external_behind h g o')))

-- ---- external declarations

typedefs_line : (s : TypeNames) (n : ℕ) (t : Lexeme) (ts : List Lexeme) → t.kind ≡ k.Word w.Typedef → Says (typedefs s n ts) ts (λ b q. IsExternal s (t ∷ b) q.0 q.1)
unfolding typedefs
typedefs_line s n t ts kind = bind_says (specifier s n ts) _ ts (λ a ty. IsSpecifier s a ty) _ (sound_specifier s n ts) (λ a ty r h. bind_says (typedefs_from s n (length r) ty [] r) _ r (Typedefs s ty []) _ (typedefs_says n (length r) s ty [] r) (λ b q z g. expect_says p.Semicolon _ z _ (λ e u ek.
    ok_says q u _ (subst (λ y. IsExternal s (t ∷ (a ++ (b ++ e ∷ []))) y q.1) (sym g.1) (IsExternal.typedefs t a b e ty g.0 q.1 kind h g.2 ek)))))

by_says : (s : TypeNames) (n : ℕ) (kind : TokenKind) (t : Lexeme) (ts : List Lexeme) → t.kind ≡ kind → Says (external_at s n (storage_class_of kind) (t ∷ ts)) (t ∷ ts) (λ a q. IsExternal s a q.0 q.1)
by_says s n (k.Word w.Typedef) t ts kind = token_says _ t ts _ (typedefs_line s n t ts kind)
by_says s n (k.Word w.Static) t ts kind = token_says _ t ts _ (behind_storage_says s n (Some g.Static) (t ∷ []) ts (IsStorage.static t kind))
by_says s n (k.Word w.Extern) t ts kind = token_says _ t ts _ (behind_storage_says s n (Some g.Extern) (t ∷ []) ts (IsStorage.extern t kind))
by_says s n (k.Word _) t ts kind = behind_storage_says s n None [] (t ∷ ts) IsStorage.none
by_says s n _ t ts kind = behind_storage_says s n None [] (t ∷ ts) IsStorage.none

pub external_says : (s : TypeNames) (n : ℕ) (t : Lexeme) (ts : List Lexeme) → Says (external s n (t ∷ ts)) (t ∷ ts) (λ a q. IsExternal s a q.0 q.1)
unfolding external
external_says s n t ts = by_says s n t.kind t ts refl

split : (o' : ParseOutcome (List External × TypeNames)) (go : List External × TypeNames → List Lexeme → Result (List External) (List Lexeme)) (ys : List External) → externals_behind o' go ≡ Ok ys → (q : (List External × TypeNames) × List Lexeme) × (o' ≡ Ok q) × (go q.0 q.1 ≡ Ok ys)
split (Ok q) go ys e = (q, refl, e)
split (Err r) go ys e = cc

same_list : {xs ys : List External} → ◌≡◌ {A = Result (List External) (List Lexeme)} (Ok xs) (Ok ys) → xs ≡ ys
same_list e = cc

externals_sound : (j : ℕ) (s : TypeNames) (found ys : List External) (ts : List Lexeme) → length ts ≤ j → externals_from j s found ts ≡ Ok ys → (vs : List External) × (ys ≡ found ++ vs) × AreExternals s ts vs
unfolding externals_from
externals_sound zero s found ys [] le e = ([], sym (same_list e) ∙ sym (append-nil found), AreExternals.none)
externals_sound zero s found ys (t ∷ ts) le e = absurd (omega arith)
externals_sound (suc j) s found ys [] le e = ([], sym (same_list e) ∙ sym (append-nil found), AreExternals.none)
externals_sound (suc j) s found ys (t ∷ ts) le e =
    let q = split (external s (length (t ∷ ts)) (t ∷ ts)) (λ q r. externals_from j q.1 (found ++ q.0) r) ys e in
    let h = (external_says s (length (t ∷ ts)) t ts).by q.0 q.1 in
    let some = external_some h.2 in
    let sizes = ap length h.1 ∙ length-append h.0 q.0.1 in
    let o' = externals_sound j q.0.0.1 (found ++ q.0.0.0) ys q.0.1 (omega arith) q.2 in
    (q.0.0.0 ++ o'.0, o'.1 ∙ append_assoc found q.0.0.0 o'.0, subst (λ z. AreExternals s z (q.0.0.0 ++ o'.0)) (sym h.1) (AreExternals.more h.0 q.0.1 q.0.0.0 o'.0 q.0.0.1 h.2 o'.2))

same_rest : {A : Type 0} {z r : List Lexeme} → ◌≡◌ {A = Result A (List Lexeme)} (Err z) (Err r) → z ≡ r
same_rest e = cc

-- the same of a refusal: what goes before can be completed
abbrev Begins : TypeNames → List Lexeme → List Lexeme → Type 0
Begins s r ts = Viable r ts (λ a vs. AreExternals s a vs)

pub stops_split : (o' : ParseOutcome (List External × TypeNames)) (go : List External × TypeNames → List Lexeme → Result (List External) (List Lexeme)) (r : List Lexeme) (Z : Type 0) → (o' ≡ Err r → Z)
    → ((q : (List External × TypeNames) × List Lexeme) → o' ≡ Ok q → go q.0 q.1 ≡ Err r → Z) → externals_behind o' go ≡ Err r → Z
stops_split (Ok q) go r Z f g e = g q refl e
stops_split (Err z) go r Z f g e = f (ap (λ z. Err z) (same_rest e))

pub externals_begin : (j : ℕ) (s : TypeNames) (found : List External) (ts r : List Lexeme) → externals_from j s found ts ≡ Err r → Begins s r ts
unfolding externals_from
externals_begin zero s found ts r e = cc
externals_begin (suc j) s found [] r e = cc
externals_begin (suc j) s found (t ∷ ts) r e =
    let says = external_says s (length (t ∷ ts)) t ts in
    stops_split (external s (length (t ∷ ts)) (t ∷ ts)) (λ q r. externals_from j q.1 (found ++ q.0) r) r (Begins s r (t ∷ ts))
    (λ is.
    let u = says.stops r is in
    (u.0, u.1, u.2, u.3.0 ++ [], subst (λ a. AreExternals s a (u.3.0 ++ [])) (append-nil (u.0 ++ u.2)) (AreExternals.more (u.0 ++ u.2) [] u.3.0 [] u.3.1 u.4 AreExternals.none)))
    (λ q is more.
    let u = says.by q is in
    let v = externals_begin j q.0.1 (found ++ q.0.0) q.1 r more in (
      u.0 ++ v.0,
      u.1 ∙ ap (λ z. u.0 ++ z) v.1 ∙ sym (append_assoc u.0 v.0 r),
      v.2,
      q.0.0 ++ v.3,
      subst (λ a. AreExternals s a (q.0.0 ++ v.3)) (sym (append_assoc u.0 v.0 v.2)) (AreExternals.more u.0 (v.0 ++ v.2) q.0.0 v.3 q.0.1 u.2 v.4),
    )) e

pub unit_stops : (size : ℕ) (o' : Result (List External) (List Lexeme)) (r : List Lexeme) → unit_of size o' ≡ Err r → o' ≡ Err r
unit_stops size (Ok vs) r e = cc
unit_stops size (Err z) r e = ap (λ z. Err z) (same_rest e)

-- What stands before the refused token begins a list with a reading, of a text of any length.
pub refused_begins : (toks : Toks) (r : List Lexeme) (size : ℕ) → unit toks ≡ Err r → Viable r toks.items (λ a tree. units.Reads (record { items = a; size = size }) tree)
refused_begins toks r size e =
    let v = externals_begin (length toks.items) [] [] toks.items r (unit_stops toks.size (externals_from (length toks.items) [] [] toks.items) r e) in
    (v.0, v.1, v.2, record { externals = v.3; length = size }, record { externals = v.4; length = refl })

-- The tokens from the refused one on are the last of them.
pub refused_end : (toks : Toks) (r : List Lexeme) → unit toks ≡ Err r → IsSuffix r toks.items
refused_end toks r e = let v = refused_begins toks r 0 e in (v.0, v.1)

same_tree : {t u : TranslationUnit} → ◌≡◌ {A = Result TranslationUnit (List Lexeme)} (Ok t) (Ok u) → t ≡ u
same_tree e = cc

unit_sound : (toks : Toks) (tree : TranslationUnit) (o' : Result (List External) (List Lexeme)) → externals_from (length toks.items) [] [] toks.items ≡ o' → unit_of toks.size o' ≡ Ok tree → units.Reads toks tree
unit_sound toks tree (Ok vs) e g =
    let h = externals_sound (length toks.items) [] [] vs toks.items (omega arith) e in
    let made : units.Reads toks (record { externals = vs; length = toks.size }) = record { externals = subst (λ z. AreExternals [] toks.items z) (sym h.1) h.2; length = refl } in
    subst (λ z. units.Reads toks z) (same_tree g) made
unit_sound toks tree (Err r) e g = cc

-- The unit that is read is that of the tokens.
pub sound : (toks : Toks) (tree : TranslationUnit) → unit toks ≡ Ok tree → units.Reads toks tree
sound toks tree e = unit_sound toks tree (externals_from (length toks.items) [] [] toks.items) refl e

-- A token list has at most one reading.
pub one_reading : (toks : Toks) (t u : TranslationUnit) → units.Reads toks t → units.Reads toks u → t ≡ u
one_reading toks t u h g = same_tree (sym (complete toks t h) ∙ complete toks u g)
